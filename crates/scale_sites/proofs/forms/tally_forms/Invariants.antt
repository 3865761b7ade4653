use Rattle.std.proofs.Common.{◌≡◌, ◌∷◌, take}
use Rattle.std.specs.List.{flat_map}
use Rattle.scale_base.specs.declared.fragments.Mark.TheVariants.{Tally}
use Rattle.scale_sites.specs.Forms.{behind_tally}
use Rattle.scale_sites.proofs.forms.tally_forms.Given as goal

abbrev pub invariant-loop-mark : goal.invariant-loop-mark
invariant-loop-mark l = l.forms.items ≡ Tally l.tally ∷ flat_map (behind_tally l.tally) (take l.mark-index l.marks)
