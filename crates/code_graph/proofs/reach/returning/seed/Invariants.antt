use Rattle.std.specs.Prelude.{nat_le}
use Rattle.code_graph.specs.Flow.{IsReturnPass, Waits}
use Rattle.code_graph.proofs.reach.returning.seed.Given as goal

abbrev pub invariant-loop-s : goal.invariant-loop-s
invariant-loop-s l = record {
  pass : IsReturnPass l.steps l.found.flags.items l.found.queue.items;
  waits : Waits l.steps l.found.flags.items l.found.queue.items 0 (λ x. nat_le l.s x);
}
