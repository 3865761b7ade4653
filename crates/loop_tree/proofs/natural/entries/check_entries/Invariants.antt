use Rattle.std.proofs.Common.{◌≡◌, ◌≤◌, ◌-◌, length}
use Rattle.loop_tree.specs.Passes.{AreEnteredBelow}
use Rattle.loop_tree.proofs.natural.entries.check_entries.Given as goal

abbrev pub invariant-loop-first : goal.invariant-loop-first
invariant-loop-first l = record {
  same : l.search ≡ l.fn.search;
  within : l.first ≤ length l.notes;
  entered : AreEnteredBelow l.graph l.notes l.first l.depths.items;
}

abbrev pub decreases-loop-first : goal.decreases-loop-first
decreases-loop-first l = length l.notes - l.first
