use Rattle.std.proofs.Common.{ℕ, ◌≤◌, ◌<◌, get_or}
use Rattle.foreign_scan.specs.declared.fragment.ForeignFragment.{ForeignFragment}
use Rattle.foreign_scan.specs.Form.{ChoosesNone}
use Rattle.foreign_scan.proofs.run_out.first_chooses.Given as goal

abbrev pub invariant-loop-k : goal.invariant-loop-k
invariant-loop-k l = (j : ℕ) (d : ForeignFragment) → 1 ≤ j → j < l.k → ChoosesNone (get_or l.fragments j d)
