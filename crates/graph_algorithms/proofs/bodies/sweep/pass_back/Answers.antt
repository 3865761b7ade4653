use Rattle.std.proofs.Common.{arith, ℕ, ◌≡◌, ◌<◌, sym, subst}
use Rattle.graph_algorithms.specs.Bodies.{HasEdge}
use Rattle.graph_algorithms.specs.Groups.{IsFlagged, IsPassedOn, IsPassedBack}
use Rattle.graph_algorithms.proofs.EdgeLaws.{place, place_less}
use Rattle.graph_algorithms.proofs.EntryLaws.{IsPassedBy, by_next, by_end, edge_of}
use Rattle.graph_algorithms.proofs.SweepLaws.{gains_then}
use Rattle.graph_algorithms.proofs.bodies.sweep.pass_back.Goals as goal

pub source-requires : goal.source-requires
source-requires c = (c.loop-next.invariant.edge c.in-Some.edge c.in-Some.is).0

pub before-next-requires : goal.before-next-requires
before-next-requires c = (c.loop-next.invariant.edge c.in-Some.edge c.in-Some.is).0

pub loop-next-smaller : goal.loop-next-smaller
loop-next-smaller c =
    let key = (c.loop-next.invariant.edge c.in-Some.edge c.in-Some.is).1 in
    subst (λ o. place c.before-next.result < place o) (sym c.in-Some.is)
    (place_less c.before-next.result c.in-Some.edge (λ r e. ((c.before-next.ensures c.args.passed.node key).place r e).0))

pub loop-next-preserved : goal.loop-next-preserved
loop-next-preserved c =
    let edges = c.args.edges.now in
    let sources = c.args.edges.now.sources in
    let targets = c.args.edges.now.targets in
    let inside = c.args.inside.now in
    let node = c.args.passed.node in
    let bits = c.args.passed.bits in
    let edge = c.in-Some.edge in
    let source = c.source.result in
    let within = (c.loop-next.invariant.edge c.in-Some.edge c.in-Some.is).0 in
    let key = (c.loop-next.invariant.edge c.in-Some.edge c.in-Some.is).1 in
    let before = c.before-next.ensures node key in
    let here : HasEdge c.args.edges.now.sources c.args.edges.now.targets c.source.result c.args.passed.node = edge_of sources targets node edge source key c.source.ensures.source in
    record {
      gains = gains_then (IsPassedBack edges inside bits node) (λ v i. (v ≡ c.source.result) × IsPassedOn c.args.inside.now c.args.passed.bits v i) c.args.found.now c.loop-next.found c.add_bits.new.found c.args.pending.now c.loop-next.pending c.add_bits.new.pending
          (λ v i new. (subst (λ x. HasEdge c.args.edges.now.sources c.args.edges.now.targets x c.args.passed.node) (sym new.0) here, new.1)) c.loop-next.invariant.gains c.add_bits.ensures.gains;
      edge = λ e is. let b = before.place e is in let lt = b.0 in (omega arith, b.1);
      passed = by_next sources targets node (λ v. (i : ℕ) → IsPassedOn c.args.inside.now c.args.passed.bits v i → IsFlagged c.loop-next.found v i) (λ v. (i : ℕ) → IsPassedOn c.args.inside.now c.args.passed.bits v i → IsFlagged c.add_bits.new.found v i) edge source c.before-next.result
          (λ v was i on. c.add_bits.ensures.gains.kept v i (was i on)) c.source.ensures.source c.add_bits.ensures.all before
          (subst (λ o. IsPassedBy c.args.edges.now.sources c.args.edges.now.targets c.args.passed.node (λ v. (i : ℕ) → IsPassedOn c.args.inside.now c.args.passed.bits v i → IsFlagged c.loop-next.found v i) o) c.in-Some.is c.loop-next.invariant.passed);
    }

pub returns-clause-all : goal.returns-clause-all
returns-clause-all c v i back =
    by_end c.args.edges.now.sources c.args.edges.now.targets c.args.passed.node (λ v. (i : ℕ) → IsPassedOn c.args.inside.now c.args.passed.bits v i → IsFlagged c.loop-next.found v i) c.loop-next.next c.in_default.is c.loop-next.invariant.passed v back.0 i back.1
