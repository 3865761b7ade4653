use Rattle.std.proofs.Common.{rules, ◌≡◌, ◌≢◌, ◌+◌, ◌<◌, length, arith, Some, None, slice_index_or, sym, subst}
use Rattle.std.specs.Prelude.{slice_get}
use Rattle.std.proofs.lemmas.Option.{slice_get-get_or}
use Rattle.graph_algorithms.specs.Bodies.{IsLeastPair}
use Rattle.graph_algorithms.specs.BodySearch.{IsLeastUnmarked}
use Rattle.graph_algorithms.proofs.BodyLaws.{flag_within}
use Rattle.graph_algorithms.proofs.EntryLaws.{IsSideBelow, side_header, side_none, side_next, side_end}
use Rattle.graph_algorithms.proofs.bodies.entries.least_side.Goals as goal
use Rattle.graph_algorithms.proofs.bodies.entries.least_side.Goals.{then-node-header+in-Some, else-node-header, else-node-header-via-else-node-header, else-node-header-via-then-node-header+in-None-1}

pub least_unmarked-requires-clause-node : goal.least_unmarked-requires-clause-node
least_unmarked-requires-clause-node c =
    let index = c.loop-node.node-index in
    let lt : c.loop-node.node-index < length c.args.body.now = search rules in
    let within = flag_within c.args.found.now (slice_index_or c.args.body.now index 0) (c.requires.marked.flagged index _ (slice_get-get_or c.args.body.now index 0 lt)) in
    let size = c.requires.size in
    omega arith

pub loop-node-preserved : goal.loop-node-preserved
loop-node-preserved c =
    let sources = c.args.edges.now.sources in
    let targets = c.args.edges.now.targets in
    let found = c.args.found.now in
    let header = c.args.header in
    let body = c.args.body.now in
    let index = c.loop-node.node-index in
    let lt : c.loop-node.node-index < length c.args.body.now = search rules in
    let node = slice_index_or c.args.body.now c.loop-node.node-index 0 in
    let at : slice_get c.args.body.now c.loop-node.node-index ≡ Some (slice_index_or c.args.body.now c.loop-node.node-index 0) = slice_get-get_or body index 0 lt in
    elim c.if-node-header.branch [
      | then-node-header+in-Some w ↦
          (let ne : slice_index_or c.args.body.now c.loop-node.node-index 0 ≢ c.args.header = search rules in
          subst (λ o. IsLeastPair (IsSideBelow c.args.edges.now.sources c.args.edges.now.targets c.args.found.now c.args.header c.args.body.now (c.loop-node.node-index + 1)) o) (sym w.least-is)
          (side_next sources targets found header body index node w.in-Some.from c.loop-node.least w.lesser_pair.result at ne w.in-Some.ensures w.lesser_pair.ensures c.loop-node.invariant))
      | else-node-header w ↦
          subst (λ o. IsLeastPair (IsSideBelow c.args.edges.now.sources c.args.edges.now.targets c.args.found.now c.args.header c.args.body.now (c.loop-node.node-index + 1)) o) (sym w.least-is)
          (elim w.else-node-header.branch [
            | else-node-header-via-else-node-header x ↦
                (let e : slice_index_or c.args.body.now c.loop-node.node-index 0 ≡ c.args.header = search rules in
                side_header sources targets found header body index node c.loop-node.least at e c.loop-node.invariant)
            | else-node-header-via-then-node-header+in-None-1 x ↦
                (let none : x.least_unmarked.result ≡ None = search rules in
                side_none sources targets found header body index node c.loop-node.least at
                (subst (λ o. IsLeastUnmarked c.args.edges.now.sources c.args.edges.now.targets c.args.found.now (slice_index_or c.args.body.now c.loop-node.node-index 0) o) none x.least_unmarked.ensures) c.loop-node.invariant)
          ])
    ]

pub returns : goal.returns
returns c = side_end c.args.edges.now.sources c.args.edges.now.targets c.args.found.now c.args.header c.args.body.now c.loop-node.node-index c.loop-node.least (search rules) c.requires.marked c.loop-node.invariant
