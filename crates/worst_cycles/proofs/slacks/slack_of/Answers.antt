use Rattle.std.proofs.Common.{◌∙◌}
use Rattle.worst_cycles.specs.Worst.{by_edge}
use Rattle.worst_cycles.proofs.SlackLaws.{slack_there}
use Rattle.worst_cycles.proofs.slacks.slack_of.Goals as goal

pub returns-in-Some : goal.returns-in-Some
returns-in-Some c = λ n s. c.slack_over.ensures n s ∙ slack_there c.args.visited.now.planned.graph.now c.args.visited.now.planned.tree.now (by_edge c.args.visited.now.planned.weights.now) n c.args.e c.in-Some.to (c.target.ensures.some c.in-Some.to c.in-Some.is) (c.target.ensures.within c.in-Some.to c.in-Some.is)
