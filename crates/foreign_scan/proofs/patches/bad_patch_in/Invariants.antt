use Rattle.std.proofs.Common.{◌≡◌, ℕ, ◌≤◌, ◌<◌, false}
use Rattle.foreign_scan.specs.Least.{is_bad_word}
use Rattle.foreign_scan.proofs.patches.bad_patch_in.Given as goal

abbrev pub invariant-loop-at : goal.invariant-loop-at
invariant-loop-at l = (a : ℕ) → l.fn.range.from ≤ a → a < l.at → is_bad_word l.original l.foreign l.nodes a ≡ false
