use Rattle.std.specs.Prelude.{◌≡◌, false}
use Rattle.std.specs.List.{All}
use Rattle.loop_drafts.specs.Trusting.{AreNoneTrusted}
use Rattle.loop_drafts.specs.Bounds.{IsOpen, NeedNotTurn}
use Rattle.loop_drafts.proofs.bounds.open_all.Given as goal

abbrev pub invariant-loop-k : goal.invariant-loop-k
invariant-loop-k l = All IsOpen l.bounds.notes.items × All NeedNotTurn l.bounds.notes.items × (l.bounds.returns ≡ false) × AreNoneTrusted l.bounds.trust
