use Rattle.std.proofs.Common.{rules, arith, ◌≡◌, ◌<◌, true, false, sym, subst}
use Rattle.std.proofs.lemmas.Bool.{both_ways}
use Rattle.graph_algorithms.specs.Bodies.{in_node_ranges}
use Rattle.graph_algorithms.proofs.EdgeLaws.{place, place_less}
use Rattle.graph_algorithms.proofs.EntryLaws.{IsPassedBy, by_next, by_end, edge_of}
use Rattle.graph_algorithms.proofs.bodies.entries.has_back_edge.Goals as goal

pub source-requires : goal.source-requires
source-requires c = (c.loop-next.invariant.edge c.in-Some.edge c.in-Some.is).0

pub returns-then-is_in_extent : goal.returns-then-is_in_extent
returns-then-is_in_extent c =
    let inside : in_node_ranges c.args.extent.now c.source.result ≡ true = search rules in
    let edge = edge_of c.args.edges.now.sources c.args.edges.now.targets c.args.header c.in-Some.edge c.source.result
    (c.loop-next.invariant.edge c.in-Some.edge c.in-Some.is).1 c.source.ensures.source in
    (λ t. (c.source.result, edge, inside), λ has. search rules)

pub before-next-requires : goal.before-next-requires
before-next-requires c = (c.loop-next.invariant.edge c.in-Some.edge c.in-Some.is).0

pub loop-next-smaller : goal.loop-next-smaller
loop-next-smaller c =
    let key = (c.loop-next.invariant.edge c.in-Some.edge c.in-Some.is).1 in
    subst (λ o. place c.before-next.result < place o) (sym c.in-Some.is)
    (place_less c.before-next.result c.in-Some.edge (λ r e. ((c.before-next.ensures c.args.header key).place r e).0))

pub loop-next-preserved : goal.loop-next-preserved
loop-next-preserved c =
    let sources = c.args.edges.now.sources in
    let targets = c.args.edges.now.targets in
    let header = c.args.header in
    let within = (c.loop-next.invariant.edge c.in-Some.edge c.in-Some.is).0 in
    let before = c.before-next.ensures header (c.loop-next.invariant.edge c.in-Some.edge c.in-Some.is).1 in
    let outside : in_node_ranges c.args.extent.now c.source.result ≡ false = search rules in
    record {
      edge = λ e is. let b = before.place e is in let lt = b.0 in (omega arith, b.1);
      passed = by_next sources targets header (λ v. in_node_ranges c.args.extent.now v ≡ true → ⊥) (λ v. in_node_ranges c.args.extent.now v ≡ true → ⊥) c.in-Some.edge c.source.result c.before-next.result (λ v p. p) c.source.ensures.source
          (λ inside. both_ways (in_node_ranges c.args.extent.now c.source.result) outside inside) before
          (subst (λ o. IsPassedBy c.args.edges.now.sources c.args.edges.now.targets c.args.header (λ v. in_node_ranges c.args.extent.now v ≡ true → ⊥) o) c.in-Some.is c.loop-next.invariant.passed);
    }

pub returns : goal.returns
returns c = (
  λ bad. absurd (let b : ⊥ = cc in b),
  λ has. absurd (by_end c.args.edges.now.sources c.args.edges.now.targets c.args.header (λ v. in_node_ranges c.args.extent.now v ≡ true → ⊥) c.loop-next.next c.in_default.is c.loop-next.invariant.passed has.0 has.1 has.2),
)
