use Rattle.std.proofs.Common.{arith}
use Rattle.std.specs.Prelude.{nat_le}
use Rattle.code_graph.proofs.ChainLaws.{waits_seed}
use Rattle.code_graph.proofs.reach.returning.seed.Goals as goal

pub loop-s-preserved : goal.loop-s-preserved
loop-s-preserved c = record {
  pass = c.in_ok-visit.ensures.pass;
  waits = waits_seed c.args.steps.now c.visit.new.found.flags.items c.visit.new.found.queue.items 0 c.loop-s.s
      (c.in_ok-visit.ensures.waits 0 (λ x. nat_le c.loop-s.s x) (omega arith) c.loop-s.invariant.waits);
}
