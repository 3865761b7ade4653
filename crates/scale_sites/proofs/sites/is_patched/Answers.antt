use Rattle.std.proofs.Common.{◌≡◌, ◌<◌, ◌≤◌, ◌==◌, map, length, Vec, Global, sym, ap, ◌∙◌, arith, ⊎_elim}
use Rattle.std.proofs.lemmas.Bool.{cases_lt}
use Rattle.std.proofs.lemmas.Option.{get_or_from_slice_get}
use Rattle.flow_graph.specs.FlowGraph.{graph}
use Rattle.loop_forest.specs.Noted.{node_address}
use Rattle.scale_base.specs.declared.fragments.Mark.{Mark}
use Rattle.scale_sites.specs.Weights.{some_mark}
use Rattle.scale_sites.specs.Sites.{marks_in}
use Rattle.scale_sites.proofs.SiteLaws.{marks_seen, some_of, none_of, patched, not_patched}
use Rattle.scale_sites.proofs.sites.is_patched.Goals as goal

pub returns-then-not-is_empty : goal.returns-then-not-is_empty
returns-then-not-is_empty c =
    let within = c.edges_of-first.ensures.within in
    let low : c.edges_of-first.result.0 ≤ c.loop-d.d = omega arith in
    let lt : c.loop-d.d < length c.args.graph.now.code.edges = omega arith in
    let size = c.requires.size in
    let dl : c.loop-d.d < length c.args.marks.now = omega arith in
    let node : node_address c.args.graph.now c.source.result ≡ (graph c.args.graph.now).source c.args.e = get_or_from_slice_get c.args.graph.now.code.nodes c.source.result _ 0 c.source.ensures.node in
    let from : (graph c.args.graph.now).source c.loop-d.d ≡ (graph c.args.graph.now).source c.args.e = (c.edges_of-first.ensures.edges c.loop-d.d lt).1 (low, c.loop-d-test.true) ∙ node in
    let seen : marks_in (map (λ (m : Vec Mark Global). m.items) c.args.marks.now) c.loop-d.d ≡ c.index-marks-d.result.items = marks_seen c.args.marks.now c.loop-d.d c.index-marks-d.result dl c.index-marks-d.is in
    sym (patched (graph c.args.graph.now) (marks_in (map (λ (m : Vec Mark Global). m.items) c.args.marks.now)) ((graph c.args.graph.now).source c.args.e) c.loop-d.d lt from
    (ap some_mark seen ∙ some_of c.index-marks-d.result.items c.is_empty.result (c.is_empty.ensures ∙ ap (λ n. n == 0) c.index-marks-d.result.ok.0) c.if-not-is_empty.true))

pub loop-d-preserved : goal.loop-d-preserved
loop-d-preserved c = λ d low high.
    let within = c.edges_of-first.ensures.within in
    let size = c.requires.size in
    let dl : c.loop-d.d < length c.args.marks.now = omega arith in
    let seen : marks_in (map (λ (m : Vec Mark Global). m.items) c.args.marks.now) c.loop-d.d ≡ c.index-marks-d.result.items = marks_seen c.args.marks.now c.loop-d.d c.index-marks-d.result dl c.index-marks-d.is in
    ⊎_elim
    (λ (before : d < c.loop-d.d). c.loop-d.invariant d low before)
    (λ (last : c.loop-d.d ≤ d).
    let same : d ≡ c.loop-d.d = omega arith in
    ap (λ x. some_mark (marks_in (map (λ (m : Vec Mark Global). m.items) c.args.marks.now) x)) same ∙ ap some_mark seen ∙ none_of c.index-marks-d.result.items c.is_empty.result (c.is_empty.ensures ∙ ap (λ n. n == 0) c.index-marks-d.result.ok.0) c.if-not-is_empty.false)
    (cases_lt d c.loop-d.d)

pub returns : goal.returns
returns c =
    let within = c.edges_of-first.ensures.within in
    let node : node_address c.args.graph.now c.source.result ≡ (graph c.args.graph.now).source c.args.e = get_or_from_slice_get c.args.graph.now.code.nodes c.source.result _ 0 c.source.ensures.node in
    sym (not_patched (graph c.args.graph.now) (marks_in (map (λ (m : Vec Mark Global). m.items) c.args.marks.now)) ((graph c.args.graph.now).source c.args.e)
    (λ d lt from.
    let range = (c.edges_of-first.ensures.edges d lt).0 (from ∙ sym node) in
    let high = range.1 in
    c.loop-d.invariant d range.0 (omega arith)))
