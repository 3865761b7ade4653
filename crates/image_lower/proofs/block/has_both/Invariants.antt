use Rattle.std.proofs.Common.{◌≡◌, ◌-◌, drop}
use Rattle.std.specs.Prelude.{◌&&◌}
use Rattle.std.specs.List.{list_any}
use Rattle.scale_base.specs.Image.{is_in}
use Rattle.image_lower.proofs.block.has_both.Given as goal

abbrev pub invariant-loop-range : goal.invariant-loop-range
invariant-loop-range l = list_any (λ r. is_in (l.at - 4) r && is_in l.at r) (drop l.range-index l.text) ≡ list_any (λ r. is_in (l.at - 4) r && is_in l.at r) l.text
