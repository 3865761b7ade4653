use Rattle.std.proofs.Common.{◌≡◌, ℕ, length}
use Rattle.jump_proofs.specs.Shown.{AreShownBy}
use Rattle.jump_proofs.proofs.proving.shown_of.Given as goal

abbrev pub invariant-loop-k : goal.invariant-loop-k
invariant-loop-k l = (length l.flags.items ≡ l.k) × AreShownBy l.original l.claim l.notes l.flags.items
