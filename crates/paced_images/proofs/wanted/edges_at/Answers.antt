use Rattle.std.proofs.Common.{◌≡◌, ◌<◌, ◌≤◌, subst, arith}
use Rattle.std.specs.Prelude.{◌↔◌, slice_get, slice_index}
use Rattle.std.proofs.lemmas.Option.{get_or_from_slice_get, slice_get_within}
use Rattle.cost_theory.specs.Reached.{edge_at}
use Rattle.paced_images.proofs.wanted.edges_at.Goals as goal

pub edges_of-requires : goal.edges_of-requires
edges_of-requires c = slice_get_within c.args.graph.now.code.nodes c.in-Some.k c.args.at ((c.find.ensures c.in-Some.k).0 c.in-Some.is)

pub returns-in-Some-clause-edges : goal.returns-in-Some-clause-edges
returns-in-Some-clause-edges c = λ e lt.
    let node : slice_index c.args.graph.now.code.nodes c.in-Some.k ≡ c.args.at = get_or_from_slice_get c.args.graph.now.code.nodes c.in-Some.k c.args.at 0 ((c.find.ensures c.in-Some.k).0 c.in-Some.is) in
    subst (λ a. (edge_at (slice_get c.args.graph.now.code.edges e) ≡ a) ↔ ((c.edges_of.result.0 ≤ e) × (e < c.edges_of.result.1))) node (c.edges_of.ensures.edges e lt)

pub returns-in-None-clause-edges : goal.returns-in-None-clause-edges
returns-in-None-clause-edges c = λ e lt. (
  λ at.
      let k = (c.node_count-nodes.ensures.graph.nodes c.args.at).1 (e, lt, at) in
      let found = (c.find.ensures k.0).1 k.1 in
      let none = c.in-None.is in
      let bad : ⊥ = cc in absurd bad,
  λ r. let low = r.1 in absurd (omega (arith, low)),
)
