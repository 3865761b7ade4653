use Rattle.std.proofs.Common.{◌-◌, ◌≤◌, false, length}
use Rattle.code_graph.specs.Flow.{IsReturnPass, Waits}
use Rattle.code_graph.proofs.reach.returning.find_returning.Given as goal

abbrev pub invariant-loop-done : goal.invariant-loop-done
invariant-loop-done l = record {
  pass : IsReturnPass l.steps l.found.flags.items l.found.queue.items;
  reached : l.done ≤ length l.found.queue.items;
  waits : Waits l.steps l.found.flags.items l.found.queue.items l.done (λ x. false);
}

abbrev pub decreases-loop-done : goal.decreases-loop-done
decreases-loop-done l = length l.steps - l.done
