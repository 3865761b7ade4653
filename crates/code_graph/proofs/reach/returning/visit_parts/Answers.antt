use Rattle.std.proofs.Common.{◌-◌, arith}
use Rattle.code_graph.specs.Flow.{but_keyed}
use Rattle.code_graph.proofs.ChainLaws.{parts_of, parts_none}
use Rattle.code_graph.proofs.reach.returning.visit_parts.Goals as goal

pub returns-in_ok-visit-clause-waits : goal.returns-in_ok-visit-clause-waits
returns-in_ok-visit-clause-waits c done left room waits =
    let front = c.in_ok-visit_sources.ensures.front.0 in
    parts_of c.args.steps.now c.visit.new.found.flags.items c.visit.new.found.queue.items done c.args.k (c.args.k - 1) left (omega arith)
    (c.in_ok-visit.ensures.waits done (but_keyed c.args.steps.now c.args.k left) (omega arith) (c.in_ok-visit_sources.ensures.waits done left room waits))

pub returns-else-k-gt0-clause-waits : goal.returns-else-k-gt0-clause-waits
returns-else-k-gt0-clause-waits c done left room waits =
    parts_none c.args.steps.now c.visit_sources.new.found.flags.items c.visit_sources.new.found.queue.items done c.args.k left (omega arith)
    (c.in_ok-visit_sources.ensures.waits done left room waits)
