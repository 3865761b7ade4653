use Rattle.std.proofs.Common.{◌≡◌, ℕ, ◌≤◌, ◌<◌, false}
use Rattle.foreign_scan.specs.Least.{is_odd_byte}
use Rattle.foreign_scan.proofs.bytes.odd_from.Given as goal

abbrev pub invariant-loop-at : goal.invariant-loop-at
invariant-loop-at l = (a : ℕ) → l.from ≤ a → a < l.at → is_odd_byte l.original l.foreign a ≡ false
