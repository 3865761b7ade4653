use Rattle.scale_sites.proofs.FirstMarks.{marks_store_first}
use Rattle.scale_sites.proofs.FormLaws.{formed_counts, formed_no_longer, formed_stores_first}
use Rattle.scale_sites.proofs.form_laws.Goals as goal

pub returns-clause-first : goal.returns-clause-first
returns-clause-first c = marks_store_first

pub returns-clause-formed_first : goal.returns-clause-formed_first
returns-clause-formed_first c = formed_stores_first

pub returns-clause-formed_few : goal.returns-clause-formed_few
returns-clause-formed_few c = formed_no_longer

pub returns-clause-formed_counts : goal.returns-clause-formed_counts
returns-clause-formed_counts c = formed_counts
