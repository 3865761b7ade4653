use Rattle.std.proofs.Common.{◌≡◌, map, take}
use Rattle.scale_sites.specs.Forms.{plain_form, tallied_by}
use Rattle.scale_sites.proofs.forms.plain_forms.Given as goal

abbrev pub invariant-loop-mark : goal.invariant-loop-mark
invariant-loop-mark l = l.forms.items ≡ map (plain_form l.lowest (tallied_by l.tallied)) (take l.mark-index l.marks)
