-- What can be counted of the loops of notes can be with other bounds, and over another graph of the program.
use Rattle.std.proofs.Common.{◌≡◌, ℕ, ◌<◌, ◌≤◌, ◌&&◌, Bool, true, false, List, [], Option, Some, None, length, map, nat_eq, slice_get, slice_index, refl, sym, ap, ◌∙◌, subst, arith, ◌⊎◌, inl, inr}
use Rattle.std.proofs.Math.ListN.{get_or-map}
use Rattle.std.proofs.lemmas.List.{length-map}
use Rattle.scale_base.specs.declared.edges.Edge.{Edge}
use Rattle.scale_base.specs.declared.refusal.Refusal.{Refusal}
use Rattle.cost_theory.specs.Graph.{Graph, Loops, is_header, goes_back, is_back}
use Rattle.cost_theory.specs.Accepted.{IsInBody}
use Rattle.flow_graph.specs.FlowGraph.{FlowGraph, graph}
use Rattle.loop_file.specs.declared.notes.LoopNote.{LoopNote}
use Rattle.loop_file.specs.Kept.{noted_loops, in_extent, note_at}
use Rattle.loop_forest.specs.Noted.{node_address}
use Rattle.loop_forest.specs.Tree.{LoopView, loops, IsTreeOf}
use Rattle.scale_sites.specs.Counters.{counted_loops, set_from, edge_goes_on, IsUncountable, AreRefused}
use Rattle.answer_laws.specs.Renumbered.{IsRenumberedGraph, IsRenumbered}
use Rattle.answer_laws.proofs.Laws.{graphs_renumbered}
use Rattle.loop_drafts.specs.Shapes.{HaveOneShape}
use Rattle.loop_drafts.specs.Countable.{CountsAreFree}
use Rattle.loop_drafts.proofs.SameShape.{one_size, one_header, one_extent}

-- ---- a body is the same over a graph that is numbered anew

-- a graph with the edges of another
abbrev with_edges : Graph → Graph → Graph
with_edges g h = record h { edges = g.edges; source = g.source; target = g.target; returns = g.returns; exits = g.exits }

with_same : (g g' : Graph) → IsRenumberedGraph g g' → with_edges g g' ≡ g'
with_same g g' r =
    ap {B = Graph} (λ (x : ℕ). record g' { edges = x; source = g.source; target = g.target; returns = g.returns; exits = g.exits }) r.edges ∙
    ap {B = Graph} (λ (x : ℕ → ℕ). record g' { source = x; target = g.target; returns = g.returns; exits = g.exits }) r.source ∙
    ap {B = Graph} (λ (x : ℕ → Option ℕ). record g' { target = x; returns = g.returns; exits = g.exits }) r.target ∙
    ap {B = Graph} (λ (x : ℕ → Bool). record g' { returns = x; exits = g.exits }) r.returns ∙
    ap {B = Graph} (λ (x : ℕ → Bool). record g' { exits = x }) r.exits

body_there : (g g' : Graph) → IsRenumberedGraph g g' → (header : ℕ) (extent : ℕ → Bool) (at : ℕ) → IsInBody g header extent at → IsInBody g' header extent at
body_there g g' r header extent at b =
    let there : IsInBody (with_edges g g') header extent at = (r.again.owner at ∙ ap r.back b.0 ∙ sym (r.again.owner header), b.1, b.2) in
    subst (λ x. IsInBody x header extent at) (with_same g g' r) there

both : (a b : Bool) → (a && b) ≡ true → (a ≡ true) × (b ≡ true)
both true b e = (refl, e)
both false b e = let bad : ⊥ = cc in absurd bad

-- ---- trees of notes

heads_size : (v : FlowGraph) (notes : List LoopNote) (t : LoopView) → IsTreeOf v notes t → length t.headers ≡ length notes
heads_size v notes t is = sym (length-map t.headers (node_address v)) ∙ ap length is.headers ∙ length-map notes (λ note. note.header)

head_at : (v : FlowGraph) (notes : List LoopNote) (t : LoopView) → IsTreeOf v notes t → (k : ℕ) → (loops v t).header k ≡ (note_at notes k).header
head_at v notes t is k =
    let none : LoopNote = record { header = 0; ranges = []; bound = 0; counted = false; at_least = 0 } in
    ap (λ (hs : List ℕ). slice_index hs k) is.headers ∙ get_or-map (λ note. note.header) notes k none

module _ (v v' : FlowGraph) (notes notes' : List LoopNote) (t t' : LoopView) (same : IsRenumbered v' v) (shapes : HaveOneShape notes notes')
    (counts : map (λ note. note.counted) notes ≡ map (λ note. note.counted) notes') (is : IsTreeOf v notes t) (is' : IsTreeOf v' notes' t') where
  size : length t'.headers ≡ length t.headers
  size = heads_size v' notes' t' is' ∙ one_size v notes notes' shapes ∙ sym (heads_size v notes t is)

  head_same : (k : ℕ) → (loops v' t').header k ≡ (loops v t).header k
  head_same k = head_at v' notes' t' is' k ∙ one_header v notes notes' shapes k ∙ sym (head_at v notes t is k)

  number_there : (k : ℕ) → k < length t'.headers → k < (loops v t).loops
  number_there k kl = subst (λ (n : ℕ). k < n) (size ∙ sym (length-map t.headers (node_address v))) kl

  number_here : (k : ℕ) → k < length t'.headers → k < (loops v' t').loops
  number_here k kl = subst (λ (n : ℕ). k < n) (sym (length-map t'.headers (node_address v'))) kl

  inside_there : (k at : ℕ) → k < length t'.headers → (loops v' t').inside k at ≡ true → (loops v t).inside k at ≡ true
  inside_there k at kl i =
      let b : IsInBody (graph v') ((loops v' t').header k) (in_extent (note_at notes' k)) at = (is'.tree.accepted.bodies k at (number_here k kl)).0 i in
      let c : IsInBody (graph v') ((loops v t).header k) (in_extent (note_at notes k)) at =
      subst (λ (extent : ℕ → Bool). IsInBody (graph v') ((loops v t).header k) extent at) (one_extent v notes notes' shapes k)
      (subst (λ (h : ℕ). IsInBody (graph v') h (in_extent (note_at notes' k)) at) (head_same k) b) in
      (is.tree.accepted.bodies k at (number_there k kl)).1 (body_there (graph v') (graph v) same.graphs ((loops v t).header k) (in_extent (note_at notes k)) at c)

  head_there : (k : ℕ) (p : Option ℕ) → is_header (loops v' t') k p ≡ true → is_header (loops v t) k p ≡ true
  head_there k None e = e
  head_there k (Some n) e = subst (λ (h : ℕ). nat_eq n h ≡ true) (head_same k) e

  goes_there : (k u : ℕ) (p : Option ℕ) → k < length t'.headers → goes_back (loops v' t') k u p ≡ true → goes_back (loops v t) k u p ≡ true
  goes_there k u p kl e =
      let q = both ((loops v' t').inside k u) (is_header (loops v' t') k p) e in
      let a : (loops v t).inside k u ≡ true = inside_there k u kl q.0 in
      let b : is_header (loops v t) k p ≡ true = head_there k p q.1 in
      ap (λ (x : Bool). x && is_header (loops v t) k p) a ∙ b

  back_there : (k e : ℕ) → k < length t'.headers → is_back (graph v') (loops v' t') k e ≡ true → is_back (graph v) (loops v t) k e ≡ true
  back_there k e kl back =
      subst (λ (target : ℕ → Option ℕ). goes_back (loops v t) k ((graph v).source e) (target e) ≡ true) same.graphs.target
      (subst (λ (source : ℕ → ℕ). goes_back (loops v t) k (source e) ((graph v').target e) ≡ true) same.graphs.source (goes_there k ((graph v').source e) ((graph v').target e) kl back))

  counted_same : t'.counted ≡ t.counted
  counted_same = is'.counted ∙ sym counts ∙ sym is.counted

  pub uncountable_there : (k e : ℕ) → IsUncountable v' t' k e → IsUncountable v t k e
  uncountable_there k e u = record {
    edge = subst (λ (es : List Edge). e < length es) same.edges u.edge;
    within = subst (λ (n : ℕ). k < n) size u.within;
    back = back_there k e u.within u.back;
    counted = sym (ap (λ (cs : List Bool). slice_get cs k) counted_same) ∙ u.counted;
    on = sym (ap (λ (es : List Edge). edge_goes_on (slice_get es e)) same.edges) ∙ u.on;
  }

  pub as_many : length (counted_loops t') ≡ length (counted_loops t)
  as_many = ap (λ (cs : List Bool). length (set_from 0 cs)) counted_same

pub counts_free : CountsAreFree
counts_free t v v' notes notes' tree' refusal is is' shapes counts (tree, tree_is, countable) tree_is' refused = by refused
  where
    same : IsRenumbered v' v
    same = graphs_renumbered t v' v is' is

    by : AreRefused v' tree' refusal → ⊥
    by (inl (k, e, first, r)) = countable.patched k e (uncountable_there v v' notes notes' tree tree' same shapes counts tree_is tree_is' k e first.is)
    by (inr (none, many, r)) =
        let size : length (counted_loops tree') ≡ length (counted_loops tree) = as_many v v' notes notes' tree tree' same shapes counts tree_is tree_is' in
        let few : length (counted_loops tree) ≤ 509 = countable.few in
        omega (arith, size, few, many)
