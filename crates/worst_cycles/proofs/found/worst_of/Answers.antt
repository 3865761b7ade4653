use Rattle.std.proofs.Common.{◌<◌, length, sym, subst, arith}
use Rattle.std.proofs.lemmas.Option.{slice_get_within}
use Rattle.graph_algorithms.specs.Arcs.{number_in_place}
use Rattle.flow_graph.specs.FlowGraph.{graph}
use Rattle.worst_cycles.proofs.found.worst_of.Goals as goal

pub bounds-visits-k : goal.bounds-visits-k
bounds-visits-k c =
    let kl : c.loop-k.k-index < length c.args.graph.now.code.functions = omega arith in
    let low : number_in_place c.args.entries.now c.loop-k.k-index < length c.args.graph.now.code.nodes = slice_get_within c.args.graph.now.code.nodes (number_in_place c.args.entries.now c.loop-k.k-index) ((graph c.args.graph.now).entry c.loop-k.k-index) (c.requires.entries.each c.loop-k.k-index kl) in
    subst (λ n. number_in_place c.args.entries.now c.loop-k.k-index < n) (sym c.requires.visits.size) low

pub offset_bounds-visits-k : goal.offset_bounds-visits-k
offset_bounds-visits-k c =
    let kl : c.loop-k.k-index < length c.args.graph.now.code.functions = omega arith in
    let low : number_in_place c.args.entries.now c.loop-k.k-index < length c.args.graph.now.code.nodes = slice_get_within c.args.graph.now.code.nodes (number_in_place c.args.entries.now c.loop-k.k-index) ((graph c.args.graph.now).entry c.loop-k.k-index) (c.requires.entries.each c.loop-k.k-index kl) in
    let size = c.requires.visits.size in
    omega arith
