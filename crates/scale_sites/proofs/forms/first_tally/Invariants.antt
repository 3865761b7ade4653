use Rattle.std.proofs.Common.{◌≡◌, drop}
use Rattle.scale_sites.specs.Forms.{first_tally, tallied_by}
use Rattle.scale_sites.proofs.forms.first_tally.Given as goal

abbrev pub invariant-loop-mark : goal.invariant-loop-mark
invariant-loop-mark l = first_tally (tallied_by l.tallied) (drop l.mark-index l.marks) ≡ first_tally (tallied_by l.tallied) l.marks
