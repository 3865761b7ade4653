-- How the bodies of loops are entered, and in how many of them a node is.
use Rattle.std.proofs.Common.{◌≡◌, ◌≢◌, ℕ, zero, suc, ◌<◌, ◌≤◌, false, List, length, get_or, replicate, refl, sym, ap, ◌∙◌, subst, arith, Option, Some, None, ◌⊎◌, inl, inr, ⊎_elim}
use Rattle.std.specs.Prelude.{slice_get, slice_index}
use Rattle.std.proofs.lemmas.Bool.{cases_eq}
use Rattle.std.proofs.lemmas.Option.{slice_get-get_or, slice_get_within, get_or_from_slice_get}
use Rattle.std.proofs.lemmas.List.{length-replicate}
use Rattle.cost_theory.specs.Accepted.{IsNode}
use Rattle.cost_theory.proofs.Laws.{ones-le}
use Rattle.flow_graph.specs.FlowGraph.{FlowGraph, graph, IsFlowGraph}
use Rattle.graph_algorithms.specs.Edges.{EdgeView}
use Rattle.graph_algorithms.specs.Bodies.{IsIn, AreNodes, IsSideEdge, IsLeastPair, IsLesserPair}
use Rattle.graph_algorithms.proofs.Laws.{least_same, least_more}
use Rattle.loop_file.specs.declared.notes.LoopNote.{LoopNote}
use Rattle.loop_tree.specs.Passes.{AreGraphEdges, AreOwned, IsFunctionEntry, IsSidePair, IsNumberedBody, IsBodyNodeOf, AreDepths}
use Rattle.loop_forest.proofs.Laws.{one_number}
use Rattle.loop_tree.proofs.WalkLaws.{some_same, has_edge, edge_within, edge_from, edge_to}

-- ---- side entries by numbers
module _ (v : FlowGraph) (edges : EdgeView) (header : ℕ) (body : List ℕ) (least : Option (ℕ × ℕ)) where
  -- no entry is a body node apart from the header
  pub pair_same : ((i : ℕ) → IsIn body i → i ≢ header → IsFunctionEntry v i → ⊥) → IsLeastPair (IsSideEdge edges.sources edges.targets header body) least → IsLeastPair (IsSidePair v edges header body) least
  pair_same none = least_same (IsSideEdge edges.sources edges.targets header body) (IsSidePair v edges header body) least
      (λ a b s. inl s)
      (λ a b p. ⊎_elim (λ s. s) (λ (e : (a ≡ b) × IsIn body b × (b ≢ header) × IsFunctionEntry v b). absurd (none b e.1 e.2 e.3)) p)

  -- one entry is
  pub pair_more : (entry : ℕ) (r : ℕ × ℕ) → IsIn body entry → entry ≢ header → IsFunctionEntry v entry → ((i : ℕ) → IsIn body i → IsFunctionEntry v i → i ≡ entry) → IsLesserPair least (entry, entry) r →
      IsLeastPair (IsSideEdge edges.sources edges.targets header body) least → IsLeastPair (IsSidePair v edges header body) (Some r)
  pair_more entry r here ne is one lesser = least_more (IsSideEdge edges.sources edges.targets header body) (IsSidePair v edges header body) least (entry, entry) r
      (λ a b s. inl s)
      (inr (refl, here, ne, is))
      (λ a b p. ⊎_elim (λ s. inl s)
      (λ (e : (a ≡ b) × IsIn body b × (b ≢ header) × IsFunctionEntry v b). let same : b ≡ entry = one b e.1 e.3 in let also = e.0 in inr (inr ((let q : entry ≡ a = omega arith in q), (let q : entry ≤ b = omega arith in q))))
      p) lesser

-- the same pair, with equal edges and nodes
pub pair_found : (v : FlowGraph) (edges search : EdgeView) (header : ℕ) (seen body : List ℕ) (o : Option (ℕ × ℕ)) → edges ≡ search → seen ≡ body → IsLeastPair (IsSidePair v edges header seen) o → IsLeastPair (IsSidePair v search header body) o
pair_found v edges search header seen body o e s least = subst (λ x. IsLeastPair (IsSidePair v x header body) o) e (subst (λ b. IsLeastPair (IsSidePair v edges header b) o) s least)

pub pair_within : (v : FlowGraph) (edges : EdgeView) → AreGraphEdges v edges → (header : ℕ) (body : List ℕ) → AreNodes (length v.code.nodes) body → (a b : ℕ) → IsSidePair v edges header body a b → (a < length v.code.nodes) × (b < length v.code.nodes)
pair_within v edges is header body are a b p = ⊎_elim
    (λ (s : IsSideEdge edges.sources edges.targets header body a b).
    (slice_get_within v.code.nodes a ((graph v).source s.0.0) (is.ends.source s.0.0 a s.0.1), are.within s.1.0 b s.1.1))
    (λ (e : (a ≡ b) × IsIn body b × (b ≢ header) × IsFunctionEntry v b).
    let lt = are.within e.1.0 b e.1.1 in let same = e.0 in ((let q : a < length v.code.nodes = omega arith in q), lt))
    p

-- the entry of a node's function
pub entry_here : (v : FlowGraph) → IsFlowGraph v → (node entry : ℕ) → node < length v.code.nodes → slice_get v.code.nodes entry ≡ Some ((graph v).entry ((graph v).owner (slice_index v.code.nodes node))) → IsFunctionEntry v entry
entry_here v is node entry lt at =
    let e = (is.nodes (slice_index v.code.nodes node)).0 (node, slice_get-get_or v.code.nodes node 0 lt) in
    ((graph v).owner (slice_index v.code.nodes node), subst (λ x. (graph v).owner x < (graph v).functions) e.2 (is.program.owner_function e.0 e.1), at)

-- the entry of the header's function is the only one in its body
pub one_entry : (v : FlowGraph) → IsFlowGraph v → (header entry : ℕ) (body : List ℕ) → AreOwned v header body → slice_get v.code.nodes entry ≡ Some ((graph v).entry ((graph v).owner (slice_index v.code.nodes header))) →
    (i : ℕ) → IsIn body i → IsFunctionEntry v i → i ≡ entry
one_entry v is header entry body owned at i here e =
    let owner : (graph v).owner ((graph v).entry e.0) ≡ (graph v).owner (slice_index v.code.nodes header) = owned i ((graph v).entry e.0) here e.2 in
    let f : e.0 ≡ (graph v).owner (slice_index v.code.nodes header) = sym (is.program.entry_owner e.0 e.1) ∙ owner in
    one_number v is i entry ((graph v).entry e.0) e.2 (at ∙ ap (λ x. Some ((graph v).entry x)) (sym f))

-- ---- side entries by addresses
pub body_owned : (v : FlowGraph) (note : LoopNote) (header : ℕ) (body : List ℕ) → slice_get v.code.nodes header ≡ Some note.header → IsNumberedBody v note body → AreOwned v header body
body_owned v note header body at_header is i a here at =
    ((is.exact i a at).0 here).0 ∙ ap (graph v).owner (sym (get_or_from_slice_get v.code.nodes header note.header 0 at_header))

-- the same of a note
abbrev pub IsAside : FlowGraph → LoopNote → ℕ → ℕ → Type 0
IsAside v note from to = IsBodyNodeOf v note to × (to ≢ note.header) ×
    (((e : ℕ) × (e < (graph v).edges) × ((graph v).source e ≡ from) × ((graph v).target e ≡ Some to) × (IsBodyNodeOf v note from → ⊥)) ⊎
    ((from ≡ to) × ((f : ℕ) × (f < (graph v).functions) × ((graph v).entry f ≡ to))))

module _ (v : FlowGraph) (edges : EdgeView) (is : AreGraphEdges v edges) (note : LoopNote) (header : ℕ) (body : List ℕ) (at_header : slice_get v.code.nodes header ≡ Some note.header) (numbers : IsNumberedBody v note body) where
  flow : IsFlowGraph v
  flow = is.graph.flow

  apart : (i a : ℕ) → slice_get v.code.nodes i ≡ Some a → i ≢ header → a ≢ note.header
  apart i a at ne e = ne (one_number v flow i header a at (at_header ∙ ap Some (sym e)))

  also_apart : (i a : ℕ) → slice_get v.code.nodes i ≡ Some a → a ≢ note.header → i ≢ header
  also_apart i a at ne e = ne (some_same a note.header (slice_get v.code.nodes header) (ap (slice_get v.code.nodes) (sym e) ∙ at) at_header)

  pub aside_of : (i j a b : ℕ) → slice_get v.code.nodes i ≡ Some a → slice_get v.code.nodes j ≡ Some b → IsSidePair v edges header body i j → IsAside v note a b
  aside_of i j a b at_i at_j p = ⊎_elim
      (λ (s : IsSideEdge edges.sources edges.targets header body i j).
      let edge = s.0 in (
        (numbers.exact j b at_j).0 s.1,
        apart j b at_j s.2,
        inl (edge.0, edge_within v edges is edge.0 i edge.1, edge_from v edges is edge.0 i a edge.1 at_i, edge_to v edges is edge.0 j b edge.2 at_j, λ h. s.3 ((numbers.exact i a at_i).1 h)),
      ))
      (λ (e : (i ≡ j) × IsIn body j × (j ≢ header) × IsFunctionEntry v j).
      let same : a ≡ b = some_same a b (slice_get v.code.nodes j) (ap (slice_get v.code.nodes) (sym e.0) ∙ at_i) at_j in
      let f = e.3 in
      ((numbers.exact j b at_j).0 e.1, apart j b at_j e.2, inr (same, (f.0, f.1, some_same ((graph v).entry f.0) b (slice_get v.code.nodes j) f.2 at_j))))
      p

  -- both nodes of a side entry have numbers
  pub record AreNumbers (from to : ℕ) : Type 0 where
    pub i : ℕ
    pub j : ℕ
    pub at_i : slice_get v.code.nodes i ≡ Some from
    pub at_j : slice_get v.code.nodes j ≡ Some to
    pub pair : IsSidePair v edges header body i j

  number : (a : ℕ) → IsNode (graph v) a → (k : ℕ) × (slice_get v.code.nodes k ≡ Some a)
  number a node = (flow.nodes a).1 node

  pub pair_of : (from to : ℕ) → IsAside v note from to → AreNumbers from to
  pair_of from to h = ⊎_elim
      (λ (s : (e : ℕ) × (e < (graph v).edges) × ((graph v).source e ≡ from) × ((graph v).target e ≡ Some to) × (IsBodyNodeOf v note from → ⊥)).
      let i = number from (s.0, s.1, s.2) in
      let j = number to (flow.program.stays s.0 to s.1 s.3).0 in
      record {
        i = i.0;
        j = j.0;
        at_i = i.1;
        at_j = j.1;
        pair = inl (has_edge v edges is s.0 i.0 j.0 from to s.1 s.2 s.3 i.1 j.1, (numbers.exact j.0 to j.1).1 h.0, also_apart j.0 to j.1 h.1, λ here. s.4 ((numbers.exact i.0 from i.1).0 here));
      })
      (λ (s : (from ≡ to) × ((f : ℕ) × (f < (graph v).functions) × ((graph v).entry f ≡ to))).
      let f = s.1 in
      let j = number to (subst (IsNode (graph v)) f.2 (flow.program.entry_node f.0 f.1)) in
      record {
        i = j.0;
        j = j.0;
        at_i = j.1 ∙ ap Some (sym s.0);
        at_j = j.1;
        pair = inr (refl, (numbers.exact j.0 to j.1).1 h.0, also_apart j.0 to j.1 h.1, (f.0, f.1, j.1 ∙ ap Some (sym f.2)));
      })
      h.2

  -- none, or the least by numbers, which is the least by addresses
  pub none_aside : IsLeastPair (IsSidePair v edges header body) None → (a b : ℕ) → IsAside v note a b → ⊥
  none_aside none a b h = let p = pair_of a b h in none p.i p.j p.pair

  rising : (i k a c : ℕ) → slice_get v.code.nodes i ≡ Some a → slice_get v.code.nodes k ≡ Some c → i ≤ k → a ≤ c
  rising i k a c at_i at_k le = ⊎_elim
      (λ (e : i ≡ k). let same : a ≡ c = some_same a c (slice_get v.code.nodes k) (ap (slice_get v.code.nodes) (sym e) ∙ at_i) at_k in (let r : a ≤ c = omega arith in r))
      (λ (ne : i ≡ k → ⊥). let d : i ≢ k = ne in let lt : a < c = flow.ascending i k a c (omega arith) at_i at_k in (let r : a ≤ c = omega arith in r))
      (cases_eq i k)

  pub least_aside : (p : ℕ × ℕ) (a b : ℕ) → IsLeastPair (IsSidePair v edges header body) (Some p) → slice_get v.code.nodes p.0 ≡ Some a → slice_get v.code.nodes p.1 ≡ Some b →
      IsAside v note a b × ((c d : ℕ) → IsAside v note c d → (a < c) ⊎ ((a ≡ c) × (b ≤ d)))
  least_aside p a b least at_a at_b = (
    aside_of p.0 p.1 a b at_a at_b least.0,
    λ c d h.
        let q = pair_of c d h in
        ⊎_elim
        (λ (lt : p.0 < q.i). inl (flow.ascending p.0 q.i a c lt at_a q.at_i))
        (λ (s : (p.0 ≡ q.i) × (p.1 ≤ q.j)).
        let same : a ≡ c = some_same a c (slice_get v.code.nodes q.i) (ap (slice_get v.code.nodes) (sym s.0) ∙ at_a) q.at_i in
        inr (same, rising p.1 q.j b d at_b q.at_j s.1))
        (least.1 q.i q.j q.pair),
  )

-- ---- depths
pub depths_start : (v : FlowGraph) (notes : List LoopNote) (count : ℕ) (depths : List ℕ) → count ≡ length v.code.nodes → depths ≡ replicate {A = ℕ} count 0 → AreDepths v notes 0 depths
depths_start v notes count depths size e = record {
  size = ap length e ∙ (length-replicate count 0 ∙ size);
  inside = λ k at. false;
  bodies = λ k at lt. let bad : ⊥ = omega arith in absurd bad;
  counted = λ i at g. ap (λ xs. slice_index xs i) e ∙ zeros count i;
}
  where
    zeros : (n i : ℕ) → get_or (replicate {A = ℕ} n 0) i 0 ≡ 0
    zeros zero i = refl
    zeros (suc n) zero = refl
    zeros (suc n) (suc i) = zeros n i

-- a node is in no more bodies than there are
pub depth_small : (v : FlowGraph) (notes : List LoopNote) (n : ℕ) (depths : List ℕ) → AreDepths v notes n depths → (i : ℕ) → i < length depths → slice_index depths i ≤ n
depth_small v notes n depths was i lt =
    let at : slice_get v.code.nodes i ≡ Some (get_or v.code.nodes i 0) = slice_get-get_or v.code.nodes i 0 (let s = was.size in omega arith) in
    let e = was.counted i (get_or v.code.nodes i 0) at in
    let le = ones-le n (λ k. was.inside k (get_or v.code.nodes i 0)) in
    omega arith
