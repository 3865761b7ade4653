use Rattle.std.proofs.Common.{◌∙◌, sym}
use Rattle.walk_checks.proofs.rows.is_unheld.Goals as goal

pub returns-in-None : goal.returns-in-None
returns-in-None c so = sym c.holder_at.ensures ∙ c.in-None.is
