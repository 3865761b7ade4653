use Rattle.std.proofs.Common.{rules, arith, ◌≡◌, ◌<◌, true, false, sym, subst}
use Rattle.graph_algorithms.specs.BodySearch.{is_marked_at}
use Rattle.graph_algorithms.proofs.EdgeLaws.{place, place_less}
use Rattle.graph_algorithms.proofs.EntryLaws.{IsPassedBy, IsOver, by_next, by_end, edge_of, IsTurn, turn_taken, turn_passed, least_end}
use Rattle.graph_algorithms.proofs.bodies.entries.least_unmarked.Goals as goal
use Rattle.graph_algorithms.proofs.bodies.entries.least_unmarked.Goals.{then-not-found-source, else-not-found-source}

pub source-source-requires : goal.source-source-requires
source-source-requires c = (c.loop-next.invariant.edge c.in-Some.edge c.in-Some.is).0

pub before-next-requires : goal.before-next-requires
before-next-requires c = (c.loop-next.invariant.edge c.in-Some.edge c.in-Some.is).0

pub loop-next-smaller : goal.loop-next-smaller
loop-next-smaller c =
    let key = (c.loop-next.invariant.edge c.in-Some.edge c.in-Some.is).1 in
    subst (λ o. place c.before-next.result < place o) (sym c.in-Some.is)
    (place_less c.before-next.result c.in-Some.edge (λ r e. ((c.before-next.ensures c.args.node key).place r e).0))

pub loop-next-preserved : goal.loop-next-preserved
loop-next-preserved c =
    let sources = c.args.edges.now.sources in
    let targets = c.args.edges.now.targets in
    let found = c.args.found.now in
    let node = c.args.node in
    let source = c.source-source.result in
    let within = (c.loop-next.invariant.edge c.in-Some.edge c.in-Some.is).0 in
    let key = (c.loop-next.invariant.edge c.in-Some.edge c.in-Some.is).1 in
    let before = c.before-next.ensures node key in
    let turn : IsTurn c.args.edges.now.sources c.args.edges.now.targets c.args.found.now c.args.node c.source-source.result c.loop-next.least c.if-not-found-source.least =
    elim c.if-not-found-source.branch [
      | then-not-found-source w ↦
          (let free : is_marked_at c.args.found.now c.source-source.result ≡ false = search rules in
          turn_taken sources targets found node source c.loop-next.least c.if-not-found-source.least w.lesser.result w.least-is free
          (edge_of sources targets node c.in-Some.edge source key c.source-source.ensures.source) w.lesser.ensures c.loop-next.invariant.source)
      | else-not-found-source w ↦
          (let marked : is_marked_at c.args.found.now c.source-source.result ≡ true = search rules in
          turn_passed sources targets found node source c.loop-next.least c.if-not-found-source.least w.least-is marked c.loop-next.invariant.source)
    ] in
    record {
      edge = λ e is. let b = before.place e is in let lt = b.0 in (omega arith, b.1);
      source = turn.unmarked;
      passed = by_next sources targets node (IsOver found c.loop-next.least) (IsOver found c.if-not-found-source.least) c.in-Some.edge source c.before-next.result turn.onward c.source-source.ensures.source turn.here before
          (subst (λ o. IsPassedBy c.args.edges.now.sources c.args.edges.now.targets c.args.node (IsOver c.args.found.now c.loop-next.least) o) c.in-Some.is c.loop-next.invariant.passed);
    }

pub returns : goal.returns
returns c = least_end c.args.edges.now.sources c.args.edges.now.targets c.args.found.now c.args.node c.loop-next.least c.loop-next.invariant.source
    (by_end c.args.edges.now.sources c.args.edges.now.targets c.args.node (IsOver c.args.found.now c.loop-next.least) c.loop-next.next c.in_default.is c.loop-next.invariant.passed)
