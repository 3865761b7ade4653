use Rattle.foreign_scan.proofs.AgreeLaws.{scan_is_not_refused, causes_agree, found_agree}
use Rattle.foreign_scan.proofs.agreeing.scans_agree.Goals as goal

pub returns-clause-not_both : goal.returns-clause-not_both
returns-clause-not_both c = scan_is_not_refused

pub returns-clause-causes : goal.returns-clause-causes
returns-clause-causes c = causes_agree

pub returns-clause-found : goal.returns-clause-found
returns-clause-found c = found_agree
