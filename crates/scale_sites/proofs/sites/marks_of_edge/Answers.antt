use Rattle.std.proofs.Common.{◌≡◌, ◌<◌, ◌≤◌, List, length, sym, ap, ◌∙◌, subst}
use Rattle.std.proofs.lemmas.Option.{slice_get_within, slice_get-get_or, get_or_from_slice_get}
use Rattle.flow_graph.specs.FlowGraph.{graph}
use Rattle.loop_forest.specs.Noted.{node_address}
use Rattle.loop_forest.specs.Tree.{loops}
use Rattle.scale_base.specs.declared.fragments.Mark.{Mark}
use Rattle.scale_sites.specs.Marks.{numbered, marks_at}
use Rattle.scale_sites.proofs.SiteLaws.{marks_same, marks_few}
use Rattle.scale_sites.proofs.sites.marks_of_edge.Goals as goal

pub returns-clause-marks : goal.returns-clause-marks
returns-clause-marks c =
    let v = c.args.marking.now.graph.now in
    let t = c.args.marking.now.tree.now in
    let from : node_address v c.source.result ≡ (graph v).source c.args.e = get_or_from_slice_get v.code.nodes c.source.result _ 0 c.source.ensures.node in
    let within : c.source.result < length v.code.nodes = slice_get_within v.code.nodes c.source.result _ c.source.ensures.node in
    c.in_ok-marks.ensures
    ∙ marks_same v t c.requires.marking.tree.0 c.requires.marking.flow c.requires.marking.tree.1 c.source.result c.target.result within c.target.ensures.within ((graph v).target c.args.e) c.target.ensures.none
    (λ m is. c.target.ensures.some m is ∙ slice_get-get_or v.code.nodes m 0 (c.target.ensures.within m is)) c.args.marking.now.counted.now c.args.may c.args.slack c.args.marking.now.min_gain c.requires.marking.below
    ∙ ap (λ u. marks_at (loops v t) c.args.marking.now.counted.now c.args.may c.args.slack c.args.marking.now.min_gain u ((graph v).target c.args.e)) from

pub returns-clause-few : goal.returns-clause-few
returns-clause-few c =
    subst (λ (ms : List Mark). length ms ≤ 1600) (sym c.in_ok-marks.ensures) (marks_few (numbered c.args.marking.now.tree.now) c.args.marking.now.counted.now c.args.may c.args.slack c.args.marking.now.min_gain c.source.result c.target.result c.requires.marking.counters)
