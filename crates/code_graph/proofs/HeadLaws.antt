-- Which nodes begin a block: those that are joined to no node before them.
use Rattle.std.proofs.Common.{◌≡◌, ℕ, ◌+◌, ◌<◌, ◌≤◌, Bool, true, false, List, [], ◌∷◌, length, get_or, Option, Some, None, refl, sym, ap, ◌∙◌, subst, arith, ◌⊎◌, inl, inr, ⊎_elim}
use Rattle.std.specs.Prelude.{slice_get}
use Rattle.std.proofs.lemmas.Bool.{cases_eq}
use Rattle.std.proofs.lemmas.Option.{slice_get_within, slice_get-get_or, get_or_from_slice_get}
use Rattle.scale_base.specs.declared.edges.Edge.{Edge}
use Rattle.scale_base.specs.declared.edges.EdgeKind.{EdgeKind}
use Rattle.scale_base.specs.declared.edges.EdgeKind.TheVariants.{Taken, Untaken, Jump, Next, CallNext, End}
use Rattle.cost_theory.specs.Graph.{Graph, IsWalk, end_of}
use Rattle.cost_theory.specs.Accepted.{IsNode}
use Rattle.cost_theory.specs.Reached.{edge_at, edge_to, number_or_0, place_after}
use Rattle.cost_theory.proofs.Laws.{some_get}
use Rattle.flow_graph.specs.FlowGraph.{FlowGraph, graph, IsFlowGraph}
use Rattle.flow_graph.specs.Stored.{AreFirsts}
use Rattle.flow_graph.specs.Blocks.{IsJoined}
use Rattle.code_graph.specs.Assembling.{AreEnds, AreHeads, IsOnlyNext, IsEntryNode, LeadsApart}
use Rattle.flow_graph.proofs.Laws.{Once, some_is, ascending_once, less_same_more, number_beside-get}

-- what is so of a graph's lists
pub record AreGraphLists (v : FlowGraph) (firsts sources : List ℕ) (targets : List (Option ℕ)) : Type 0 where
  pub flow : IsFlowGraph v
  pub owners : length v.code.owners ≡ length v.code.nodes
  pub firsts_are : AreFirsts (length v.code.nodes) v.code.nodes v.code.edges firsts
  pub ends : AreEnds (length v.code.edges) v.code.nodes v.code.edges sources targets
  pub next : (e : ℕ) (x : Edge) → slice_get v.code.edges e ≡ Some x → x.kind ≡ Next → x.to ≡ x.at + 4
  pub spaced : (i j a b : ℕ) → i < j → slice_get v.code.nodes i ≡ Some a → slice_get v.code.nodes j ≡ Some b → a + 4 ≤ b

-- a walk of edges that ends at a node ends by an edge to it
last_edge : (g : Graph) (es : List ℕ) (e u : ℕ) → IsWalk g (g.target e) es → e < g.edges → end_of g (g.target e) es ≡ Some u → (d : ℕ) × (d < g.edges) × (g.target d ≡ Some u)
last_edge g [] e u walk lt at = (e, lt, at)
last_edge g (d ∷ es) e u walk lt at = last_edge g es d u walk.2 walk.0 at

entered_by : (g : Graph) (es : List ℕ) (a u : ℕ) → IsWalk g (Some a) es → end_of g (Some a) es ≡ Some u → (a ≡ u → ⊥) → (d : ℕ) × (d < g.edges) × (g.target d ≡ Some u)
entered_by g [] a u walk at apart = absurd (apart (some_is a u at))
entered_by g (e ∷ es) a u walk at apart = last_edge g es e u walk.2 walk.0 at

is_next : (k : EdgeKind) → (k ≡ Next) ⊎ (k ≡ Next → ⊥)
is_next Next = inl refl
is_next Taken = inr (λ e. let bad : ⊥ = cc in bad)
is_next Untaken = inr (λ e. let bad : ⊥ = cc in bad)
is_next Jump = inr (λ e. let bad : ⊥ = cc in bad)
is_next CallNext = inr (λ e. let bad : ⊥ = cc in bad)
is_next End = inr (λ e. let bad : ⊥ = cc in bad)

pub only_next : (edges : List Edge) (firsts : List ℕ) (s e : ℕ) (x : Edge) → slice_get edges e ≡ Some x → IsOnlyNext edges firsts s e ⊎ (IsOnlyNext edges firsts s e → ⊥)
only_next edges firsts s e x at = ⊎_elim
    (λ (kind : x.kind ≡ Next). ⊎_elim
    (λ (first : get_or firsts s 0 ≡ e). ⊎_elim
    (λ (next : get_or firsts (s + 1) 0 ≡ e + 1). inl (record { edge = x; here = at; kind = kind; first = first; next = next }))
    (λ (no : get_or firsts (s + 1) 0 ≡ e + 1 → ⊥). inr (λ is. no is.next))
    (cases_eq (get_or firsts (s + 1) 0) (e + 1)))
    (λ (no : get_or firsts s 0 ≡ e → ⊥). inr (λ is. no is.first))
    (cases_eq (get_or firsts s 0) e))
    (λ (no : x.kind ≡ Next → ⊥). inr (λ is. no (ap (λ y. y.kind) (some_is x is.edge (sym at ∙ is.here)) ∙ is.kind)))
    (is_next x.kind)

next_leads : (x : Edge) → x.kind ≡ Next → edge_to (Some x) ≡ Some x.to
next_leads x kind = ap (λ k. place_after k x.to) kind

is_up : (flags : List Bool) (k : ℕ) → (slice_get flags k ≡ Some true) ⊎ (slice_get flags k ≡ Some true → ⊥)
is_up flags k = go (slice_get flags k)
  where
    go : (o : Option Bool) → (o ≡ Some true) ⊎ (o ≡ Some true → ⊥)
    go None = inr (λ e. let bad : ⊥ = cc in bad)
    go (Some true) = inl refl
    go (Some false) = inr (λ e. let bad : ⊥ = cc in bad)

pub is_head : (heads : List Bool) (k : ℕ) → (slice_get heads k ≡ Some true) ⊎ (slice_get heads k ≡ Some true → ⊥)
is_head heads k = is_up heads k

-- the node before one that begins no block
pub record IsFollowed (v : FlowGraph) (j b : ℕ) : Type 0 where
  pub i : ℕ
  pub a : ℕ
  pub before : i + 1 ≡ j
  pub at : slice_get v.code.nodes i ≡ Some a
  pub behind : b ≡ a + 4
  pub joined : IsJoined v a
  pub owner : (graph v).owner b ≡ (graph v).owner a
  pub no_entry : (f : ℕ) → f < (graph v).functions → (graph v).entry f ≡ b → ⊥

module _ (v : FlowGraph) (firsts sources : List ℕ) (targets : List (Option ℕ)) (are : AreGraphLists v firsts sources targets) where
  once : Once v.code.nodes
  once = ascending_once v.code.nodes are.flow.ascending

  -- ---- entries
  owner_is : (k a : ℕ) → slice_get v.code.nodes k ≡ Some a → (graph v).owner a ≡ get_or v.code.owners k 0
  owner_is k a at = number_beside-get v.code.nodes v.code.owners k a (get_or v.code.owners k 0) once at
      (slice_get-get_or v.code.owners k 0 (let lt = slice_get_within v.code.nodes k a at in let s = are.owners in omega arith))

  owner_within : (k a : ℕ) → slice_get v.code.nodes k ≡ Some a → (graph v).owner a < length v.code.functions
  owner_within k a at =
      let node : IsNode (graph v) a = (are.flow.nodes a).0 (k, at) in
      subst (λ u. (graph v).owner u < length v.code.functions) node.2 (are.flow.program.owner_function node.0 node.1)

  entry_is : (f : ℕ) → f < length v.code.functions → (graph v).entry f ≡ get_or v.code.functions f 0
  entry_is f lt = ap number_or_0 (slice_get-get_or v.code.functions f 0 lt)

  -- the entry of a node's function
  node_entry : (k a : ℕ) → slice_get v.code.nodes k ≡ Some a → (graph v).entry ((graph v).owner a) ≡ get_or v.code.functions (get_or v.code.owners k 0) 0
  node_entry k a at = entry_is ((graph v).owner a) (owner_within k a at) ∙ ap (λ o. get_or v.code.functions o 0) (owner_is k a at)

  entry_node : (k a f : ℕ) → slice_get v.code.nodes k ≡ Some a → f < (graph v).functions → (graph v).entry f ≡ a → IsEntryNode v.code.nodes v.code.owners v.code.functions k
  entry_node k a f at lt is =
      let own : (graph v).owner a ≡ f = ap (graph v).owner (sym is) ∙ are.flow.program.entry_owner f lt in
      get_or_from_slice_get v.code.nodes k a 0 at ∙ sym is ∙ ap (graph v).entry (sym own) ∙ node_entry k a at

  node_is_entry : (k a : ℕ) → slice_get v.code.nodes k ≡ Some a → IsEntryNode v.code.nodes v.code.owners v.code.functions k → (graph v).entry ((graph v).owner a) ≡ a
  node_is_entry k a at is = node_entry k a at ∙ sym is ∙ get_or_from_slice_get v.code.nodes k a 0 at

  -- ---- the only edge of a node
  source_at : (e : ℕ) (x : Edge) → slice_get v.code.edges e ≡ Some x → slice_get v.code.nodes (get_or sources e 0) ≡ Some x.at
  source_at e x at =
      let lt = slice_get_within v.code.edges e x at in
      let size = are.ends.sources_size in
      are.ends.source e (get_or sources e 0) (slice_get-get_or sources e 0 (omega arith)) ∙ ap (λ o. Some (edge_at o)) at

  -- among the edges of the node where edge e starts
  among : (d e : ℕ) (x : Edge) → slice_get v.code.edges e ≡ Some x → d < length v.code.edges → edge_at (slice_get v.code.edges d) ≡ x.at → (get_or firsts (get_or sources e 0) 0 ≤ d) × (d < get_or firsts (get_or sources e 0 + 1) 0)
  among d e x at lt same =
      let w = are.firsts_are.whole d lt in
      let stands : slice_get v.code.nodes w.0 ≡ Some x.at = slice_get-get_or v.code.nodes w.0 0 w.1 ∙ ap Some (sym (are.firsts_are.own w.0 d w.1 w.2 w.3) ∙ same) in
      let one : w.0 ≡ get_or sources e 0 = once w.0 (get_or sources e 0) x.at stands (source_at e x at) in
      (subst (λ k. get_or firsts k 0 ≤ d) one w.2, subst (λ k. d < get_or firsts (k + 1) 0) one w.3)

  sole : (d e : ℕ) (x : Edge) → slice_get v.code.edges e ≡ Some x → IsOnlyNext v.code.edges firsts (get_or sources e 0) e → d < length v.code.edges → edge_at (slice_get v.code.edges d) ≡ x.at → d ≡ e
  sole d e x at only lt same =
      let here = among d e x at lt same in
      let low = here.0 in
      let high = here.1 in
      let first = only.first in
      let next = only.next in
      omega arith

  is_sole : (e : ℕ) (x : Edge) → slice_get v.code.edges e ≡ Some x → x.kind ≡ Next → ((d : ℕ) → d < length v.code.edges → edge_at (slice_get v.code.edges d) ≡ x.at → d ≡ e) → IsOnlyNext v.code.edges firsts (get_or sources e 0) e
  is_sole e x at kind alone =
      let here = among e e x at (slice_get_within v.code.edges e x at) (ap edge_at at) in
      let kl = slice_get_within v.code.nodes (get_or sources e 0) x.at (source_at e x at) in
      let stands : get_or v.code.nodes (get_or sources e 0) 0 ≡ x.at = get_or_from_slice_get v.code.nodes (get_or sources e 0) x.at 0 (source_at e x at) in
      let most : get_or firsts (get_or sources e 0 + 1) 0 ≤ length v.code.edges = subst (λ n. get_or firsts (get_or sources e 0 + 1) 0 ≤ n) are.firsts_are.last (are.firsts_are.rising (get_or sources e 0 + 1) (length v.code.nodes) (omega arith) (omega arith)) in
      let each = λ (d : ℕ) (low : get_or firsts (get_or sources e 0) 0 ≤ d) (high : d < get_or firsts (get_or sources e 0 + 1) 0).
      alone d (omega (arith, high, most)) (are.firsts_are.own (get_or sources e 0) d kl low high ∙ stands) in
      let low : get_or firsts (get_or sources e 0) 0 ≤ e = here.0 in
      let high : e < get_or firsts (get_or sources e 0 + 1) 0 = here.1 in
      record {
        edge = x;
        here = at;
        kind = kind;
        first = each (get_or firsts (get_or sources e 0) 0) (omega arith) (omega arith);
        next = ⊎_elim
            (λ (more : e + 1 < get_or firsts (get_or sources e 0 + 1) 0). let bad : e + 1 ≡ e = each (e + 1) (omega arith) more in let no : ⊥ = omega arith in absurd no)
            (λ (r : (e + 1 ≡ get_or firsts (get_or sources e 0 + 1) 0) ⊎ (get_or firsts (get_or sources e 0 + 1) 0 < e + 1)). ⊎_elim
            (λ (same : e + 1 ≡ get_or firsts (get_or sources e 0 + 1) 0). sym same)
            (λ (less : get_or firsts (get_or sources e 0 + 1) 0 < e + 1). let no : ⊥ = omega arith in absurd no) r)
            (less_same_more (e + 1) (get_or firsts (get_or sources e 0 + 1) 0));
      }

  -- ---- the edges into a node
  led : (e j b : ℕ) → e < length v.code.edges → slice_get v.code.nodes j ≡ Some b → edge_to (slice_get v.code.edges e) ≡ Some b → slice_get targets e ≡ Some (Some j)
  led e j b lt at to =
      let o = some_get targets e (let size = are.ends.targets_size in omega arith) in
      go o.0 o.1
    where
      go : (o : Option ℕ) → slice_get targets e ≡ Some o → slice_get targets e ≡ Some (Some j)
      go None is = let none = are.ends.end e is in let bad : ⊥ = cc in absurd bad
      go (Some i) is = is ∙ ap (λ k. Some (Some k)) (once i j b (sym (are.ends.target e i is).0 ∙ to) at)

  module _ (heads : List Bool) (heads_are : AreHeads (length v.code.edges) v.code.nodes v.code.owners v.code.functions v.code.edges firsts sources targets heads) where
    -- an edge into a node that begins no block
    only_into : (j b e : ℕ) → slice_get v.code.nodes j ≡ Some b → (slice_get heads j ≡ Some true → ⊥) → e < length v.code.edges → edge_to (slice_get v.code.edges e) ≡ Some b → IsOnlyNext v.code.edges firsts (get_or sources e 0) e
    only_into j b e at down lt to =
        let x = some_get v.code.edges e lt in
        ⊎_elim (λ (is : IsOnlyNext v.code.edges firsts (get_or sources e 0) e). is)
        (λ (no : IsOnlyNext v.code.edges firsts (get_or sources e 0) e → ⊥). absurd (down (heads_are.apart e j lt (led e j b lt at to, no))))
        (only_next v.code.edges firsts (get_or sources e 0) e x.0 x.1)

    -- and where it starts
    comes_from : (b e : ℕ) (x : Edge) → IsOnlyNext v.code.edges firsts (get_or sources e 0) e → slice_get v.code.edges e ≡ Some x → edge_to (slice_get v.code.edges e) ≡ Some b → (x.kind ≡ Next) × (x.to ≡ b) × (b ≡ x.at + 4)
    comes_from b e x only at to =
        let kind : x.kind ≡ Next = ap (λ y. y.kind) (some_is x only.edge (sym at ∙ only.here)) ∙ only.kind in
        let same : x.to ≡ b = some_is x.to b (sym (ap edge_to at ∙ next_leads x kind) ∙ to) in
        (kind, same, sym same ∙ are.next e x at kind)

    no_entry : (j b : ℕ) → slice_get v.code.nodes j ≡ Some b → (slice_get heads j ≡ Some true → ⊥) → (f : ℕ) → f < (graph v).functions → (graph v).entry f ≡ b → ⊥
    no_entry j b at down f lt is = down (heads_are.entry j (slice_get_within v.code.nodes j b at) (entry_node j b f at lt is))

    -- some edge leads there
    entered : (j b : ℕ) → slice_get v.code.nodes j ≡ Some b → (slice_get heads j ≡ Some true → ⊥) → (e : ℕ) × (e < length v.code.edges) × (edge_to (slice_get v.code.edges e) ≡ Some b)
    entered j b at down =
        let node : IsNode (graph v) b = (are.flow.nodes b).0 (j, at) in
        let f : ℕ = (graph v).owner ((graph v).source node.0) in
        let walk = are.flow.program.reached node.0 node.1 in
        entered_by (graph v) walk.0 ((graph v).entry f) b walk.1 (walk.2 ∙ ap Some node.2)
        (no_entry j b at down f (are.flow.program.owner_function node.0 node.1))

    -- the place of the node before
    place_before : (i j a b : ℕ) → slice_get v.code.nodes i ≡ Some a → slice_get v.code.nodes j ≡ Some b → b ≡ a + 4 → i + 1 ≡ j
    place_before i j a b at_i at_j is = ⊎_elim
        (λ (lt : i + 1 < j).
        let m = some_get v.code.nodes (i + 1) (let l = slice_get_within v.code.nodes j b at_j in omega arith) in
        let one : a + 4 ≤ m.0 = are.spaced i (i + 1) a m.0 (omega arith) at_i m.1 in
        let two : m.0 + 4 ≤ b = are.spaced (i + 1) j m.0 b lt m.1 at_j in
        let bad : ⊥ = omega arith in absurd bad)
        (λ (r : (i + 1 ≡ j) ⊎ (j < i + 1)). ⊎_elim (λ (e : i + 1 ≡ j). e)
        (λ (gt : j < i + 1). ⊎_elim
        (λ (less : j < i). let up : b + 4 ≤ a = are.spaced j i b a less at_j at_i in let bad : ⊥ = omega arith in absurd bad)
        (λ (q : (j ≡ i) ⊎ (i < j)). ⊎_elim
        (λ (e : j ≡ i). let same : b ≡ a = some_is b a (sym at_j ∙ ap (slice_get v.code.nodes) e ∙ at_i) in let bad : ⊥ = omega arith in absurd bad)
        (λ (more : i < j). let bad : ⊥ = omega arith in absurd bad) q)
        (less_same_more j i)) r)
        (less_same_more (i + 1) j)

    pub followed : (j b : ℕ) → slice_get v.code.nodes j ≡ Some b → (slice_get heads j ≡ Some true → ⊥) → IsFollowed v j b
    followed j b at down =
        let w = entered j b at down in
        let e : ℕ = w.0 in
        let x = some_get v.code.edges w.0 w.1 in
        let only = only_into j b w.0 at down w.1 w.2 in
        let from = comes_from b w.0 x.0 only x.1 w.2 in
        record {
          i = get_or sources w.0 0;
          a = x.0.at;
          before = place_before (get_or sources w.0 0) j x.0.at b (source_at w.0 x.0 x.1) at from.2;
          at = source_at w.0 x.0 x.1;
          behind = from.2;
          joined = record {
            edge = w.0;
            next = x.1 ∙ ap Some (edge_is x.0 from.0 (from.1 ∙ from.2));
            only_from = λ d lt same. sole d w.0 x.0 x.1 only lt same;
            only_into = λ d lt to.
                (let d_to : edge_to (slice_get v.code.edges d) ≡ Some b = to ∙ ap Some (sym from.2) in
                let y = some_get v.code.edges d lt in
                let d_from = comes_from b d y.0 (only_into j b d at down lt d_to) y.1 d_to in
                let same : y.0.at ≡ x.0.at = (let one = d_from.2 in let two = from.2 in omega arith) in
                sole d w.0 x.0 x.1 only lt (ap edge_at y.1 ∙ same));
          };
          owner = (are.flow.program.stays w.0 b w.1 w.2).1 ∙ ap (λ o. (graph v).owner (edge_at o)) x.1;
          no_entry = no_entry j b at down;
        }
      where
        edge_is : (x : Edge) → x.kind ≡ Next → x.to ≡ x.at + 4 → x ≡ record { at = x.at; kind = Next; to = x.at + 4 }
        edge_is x kind to = ap (λ k. record { at = x.at; kind = k; to = x.to }) kind ∙ ap (λ t. record { at = x.at; kind = Next; to = t }) to

    -- a node that is joined to the one before and is no entry begins no block
    pub unjoined : (j b a : ℕ) → slice_get v.code.nodes j ≡ Some b → b ≡ a + 4 → IsJoined v a → ((f : ℕ) → f < (graph v).functions → (graph v).entry f ≡ b → ⊥) → slice_get heads j ≡ Some true → ⊥
    unjoined j b a at behind joined none up = ⊎_elim
        (λ (is : IsEntryNode v.code.nodes v.code.owners v.code.functions j). none ((graph v).owner b) (owner_within j b at) (node_is_entry j b at is))
        (λ (is : (e : ℕ) × (e < length v.code.edges) × LeadsApart v.code.edges firsts sources targets e j). apart is.0 is.1 is.2.0 is.2.1)
        (heads_are.only j up)
      where
        apart : (e : ℕ) → e < length v.code.edges → slice_get targets e ≡ Some (Some j) → (IsOnlyNext v.code.edges firsts (get_or sources e 0) e → ⊥) → ⊥
        apart e lt target none_only =
            let to : edge_to (slice_get v.code.edges e) ≡ Some (a + 4) = (are.ends.target e j target).0 ∙ at ∙ ap Some behind in
            let same : e ≡ joined.edge = joined.only_into e lt to in
            let here : slice_get v.code.edges e ≡ Some (record { at = a; kind = Next; to = a + 4 }) = ap (slice_get v.code.edges) same ∙ joined.next in
            none_only (is_sole e (record { at = a; kind = Next; to = a + 4 }) here refl (λ d dl from. joined.only_from d dl from ∙ sym same))
