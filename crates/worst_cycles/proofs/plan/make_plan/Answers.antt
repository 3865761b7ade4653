use Rattle.std.proofs.Common.{◌<◌, sym, subst}
use Rattle.graph_algorithms.specs.Arcs.{number_in_place}
use Rattle.worst_cycles.proofs.BodyLaws.{header_number}
use Rattle.worst_cycles.proofs.plan.make_plan.Goals as goal

pub headed_loops-requires : goal.headed_loops-requires
headed_loops-requires c =
    record { within = λ k kl. subst (λ n. number_in_place c.args.tree.now.headers k < n) (sym c.node_count-count.ensures.count) (header_number c.args.graph.now c.args.tree.now c.requires.tree.0 c.requires.tree.1 k kl) }
