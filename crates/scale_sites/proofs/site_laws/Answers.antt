use Rattle.scale_sites.proofs.Costing.{extra-splits}
use Rattle.scale_sites.proofs.OneExit.{switches-one}
use Rattle.scale_sites.proofs.site_laws.Goals as goal

pub returns-clause-splits : goal.returns-clause-splits
returns-clause-splits c = λ costs ms h. extra-splits costs ms h

pub returns-clause-once : goal.returns-clause-once
returns-clause-once c = λ g l extent counted prog acc loops distinct e branch slack min_gain i lt. switches-one g l extent prog acc counted loops e branch slack min_gain i lt distinct
