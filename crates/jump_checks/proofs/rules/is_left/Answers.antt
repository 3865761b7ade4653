use Rattle.std.proofs.Common.{Some, ap, refl, sym, ◌∙◌}
use Rattle.jump_laws.specs.Reads.IsReadOver.{kept}
use Rattle.jump_checks.proofs.rules.is_left.Goals as goal

pub returns : goal.returns
returns c so = kept (sym c.in-Some.ensures ∙ ap Some (c.if-not-is_same_read.ensures refl)) (sym c.keeps.ensures ∙ so)
