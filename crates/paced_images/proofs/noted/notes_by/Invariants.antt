use Rattle.std.proofs.Common.{◌≡◌, take}
use Rattle.paced_images.specs.Wanted.{notes_by}
use Rattle.paced_images.proofs.noted.notes_by.Given as goal

abbrev pub invariant-loop-k : goal.invariant-loop-k
invariant-loop-k l = l.given ≡ notes_by l.counted l.tallied (take l.k l.notes)
