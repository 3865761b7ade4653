-- Facts of a graph that is given by lists.
use Rattle.std.proofs.Common.{◌≡◌, ℕ, ◌+◌, ◌<◌, ◌≤◌, List, length, get_or, Option, Some, refl, sym, ap, ◌∙◌, subst, arith}
use Rattle.std.specs.Prelude.{slice_get}
use Rattle.std.proofs.lemmas.Option.{slice_get_within, slice_get-get_or, slice_get-map}
use Rattle.std.proofs.lemmas.List.{length-map}
use Rattle.cost_theory.specs.declared.flow.Flow.{Flow}
use Rattle.cost_theory.specs.Accepted.{IsNode}
use Rattle.cost_theory.specs.Reached.{edge_at, edge_callee, callee_of, owner_of}
use Rattle.cost_theory.proofs.Laws.{callee_word}
use Rattle.flow_graph.specs.FlowGraph.{FlowGraph, graph, word_beside, IsFlowGraph}
use Rattle.flow_graph.specs.Stored.{IsStoredGraph}
use Rattle.flow_graph.proofs.Beside.{Once, ascending_once, some_is, word_beside-get, number_beside-get}

pub once_nodes : (v : FlowGraph) → IsFlowGraph v → Once v.code.nodes
once_nodes v is = ascending_once v.code.nodes is.ascending

module _ (v : FlowGraph) (callees : List (Option ℕ)) (firsts sources : List ℕ) (targets : List (Option ℕ)) (is : IsStoredGraph v callees firsts sources targets) where
  -- the word of the node at which an edge starts
  pub stored_word : (k a : ℕ) (w : Flow) → slice_get v.code.nodes k ≡ Some a → slice_get v.kinds k ≡ Some w → w ≡ word_beside v.code.nodes v.kinds a
  stored_word k a w at beside = sym (word_beside-get v.code.nodes v.kinds k a w (once_nodes v is.flow) at beside)

  pub stored_callee : (e k : ℕ) (c : Option ℕ) → e < length v.code.edges → slice_get v.code.nodes k ≡ Some (edge_at (slice_get v.code.edges e)) → slice_get callees k ≡ Some c →
      c ≡ edge_callee (word_beside v.code.nodes v.kinds) v.code.functions (slice_get v.code.edges e)
  stored_callee e k c lt at beside =
      let kl : k < length v.kinds = (let h = slice_get_within v.code.nodes k _ at in let s = is.kinds in omega arith) in
      let w : Flow = get_or v.kinds k (word_beside v.code.nodes v.kinds 0) in
      let kind : slice_get v.kinds k ≡ Some w = slice_get-get_or v.kinds k (word_beside v.code.nodes v.kinds 0) kl in
      let called : Some c ≡ Some (callee_of v.code.functions w) = sym beside ∙ ap (λ xs. slice_get xs k) is.callees_are ∙ slice_get-map (callee_of v.code.functions) v.kinds k ∙ rw kind refl in
      some_is c (callee_of v.code.functions w) called ∙ ap (callee_of v.code.functions) (stored_word k (edge_at (slice_get v.code.edges e)) w at kind) ∙
      sym (callee_word (word_beside v.code.nodes v.kinds) v.code.functions v.code.edges e lt)

  pub stored_owner : (k a o : ℕ) → slice_get v.code.nodes k ≡ Some a → slice_get v.code.owners k ≡ Some o → o ≡ owner_of v.code a
  stored_owner k a o at beside = sym (number_beside-get v.code.nodes v.code.owners k a o (once_nodes v is.flow) at beside)

  pub owner_within : (k a : ℕ) → slice_get v.code.nodes k ≡ Some a → owner_of v.code a < length v.code.functions
  owner_within k a at =
      let node : IsNode (graph v) a = (is.flow.nodes a).0 (k, at) in
      subst (λ u. owner_of v.code u < length v.code.functions) node.2 (is.flow.program.owner_function node.0 node.1)

  -- the edges of a node are those between its first and the next one's
  module _ (k p q : ℕ) (kl : k < length v.code.nodes) (first : p ≡ get_or firsts k 0) (next : q ≡ get_or firsts (k + 1) 0) where
    -- the edge e lies among those of a node j
    among : (e j : ℕ) → j < length v.code.nodes → get_or firsts j 0 ≤ e → e < get_or firsts (j + 1) 0 → edge_at (slice_get v.code.edges e) ≡ get_or v.code.nodes k 0 → (p ≤ e) × (e < q)
    among e j jl low high at =
        let one : j ≡ k = once_nodes v is.flow j k (get_or v.code.nodes k 0) (slice_get-get_or v.code.nodes j 0 jl ∙ ap Some (sym (is.firsts_are.own j e jl low high) ∙ at)) (slice_get-get_or v.code.nodes k 0 kl) in
        let lower : p ≡ get_or firsts j 0 = first ∙ ap (λ i. get_or firsts i 0) (sym one) in
        let upper : q ≡ get_or firsts (j + 1) 0 = next ∙ ap (λ i. get_or firsts (i + 1) 0) (sym one) in
        (omega arith, omega arith)

    pub edge_between : (e : ℕ) → e < length v.code.edges → edge_at (slice_get v.code.edges e) ≡ get_or v.code.nodes k 0 → (p ≤ e) × (e < q)
    edge_between e lt at = let w = is.firsts_are.whole e lt in among e w.0 w.1 w.2 w.3 at

    pub between_edge : (e : ℕ) → (p ≤ e) × (e < q) → edge_at (slice_get v.code.edges e) ≡ get_or v.code.nodes k 0
    between_edge e here = let low = here.0 in let high = here.1 in is.firsts_are.own k e kl (omega arith) (omega arith)

    pub between_within : (p < q) × (q ≤ length v.code.edges)
    between_within =
        let node : IsNode (graph v) (get_or v.code.nodes k 0) = (is.flow.nodes (get_or v.code.nodes k 0)).0 (k, slice_get-get_or v.code.nodes k 0 kl) in
        let here = edge_between node.0 node.1 node.2 in
        let low = here.0 in
        let high = here.1 in
        let most : get_or firsts (k + 1) 0 ≤ get_or firsts (length v.code.nodes) 0 = is.firsts_are.rising (k + 1) (length v.code.nodes) (omega arith) (omega arith) in
        let last : get_or firsts (length v.code.nodes) 0 ≡ length v.code.edges = is.firsts_are.last in
        (omega arith, omega arith)

  pub callees_size : length callees ≡ length v.code.nodes
  callees_size = ap length is.callees_are ∙ length-map v.kinds (callee_of v.code.functions) ∙ is.kinds
