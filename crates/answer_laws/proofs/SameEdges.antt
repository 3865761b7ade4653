-- A graph that is numbered anew, by the edges of the first: what doesn't go by numbers of functions is then the same by computation.
use Rattle.std.proofs.Common.{◌≡◌, ℕ, ◌<◌, Bool, false, List, Option, Some, sym, ap, ◌∙◌, subst, ⊎_elim, inl, inr}
use Rattle.cost_theory.specs.Graph.{Graph, Loops}
use Rattle.scale_base.specs.declared.edges.Edge.{Edge}
use Rattle.cost_theory.specs.declared.flow.Flow.{Flow}
use Rattle.scale_base.specs.declared.stepping.Class.{Class}
use Rattle.cost_theory.specs.Accepted.{IsInBody, IsSideEntry, AreEntered, AreAccepted}
use Rattle.flow_graph.specs.FlowGraph.{FlowGraph, graph}
use Rattle.answer_laws.specs.Renumbered.{IsRenumberedGraph, IsRenumbered}

-- a graph with the edges of another
abbrev pub with_edges : Graph → Graph → Graph
with_edges g h = record h { edges = g.edges; source = g.source; target = g.target; returns = g.returns; exits = g.exits }

with_same : (g g' : Graph) → IsRenumberedGraph g g' → with_edges g g' ≡ g'
with_same g g' r =
    ap {B = Graph} (λ (x : ℕ). record g' { edges = x; source = g.source; target = g.target; returns = g.returns; exits = g.exits }) r.edges ∙
    ap {B = Graph} (λ (x : ℕ → ℕ). record g' { source = x; target = g.target; returns = g.returns; exits = g.exits }) r.source ∙
    ap {B = Graph} (λ (x : ℕ → Option ℕ). record g' { target = x; returns = g.returns; exits = g.exits }) r.target ∙
    ap {B = Graph} (λ (x : ℕ → Bool). record g' { returns = x; exits = g.exits }) r.returns ∙
    ap {B = Graph} (λ (x : ℕ → Bool). record g' { exits = x }) r.exits

-- so it is enough to show what is so of each such graph
pub by_edges : (g g' : Graph) (P : Graph → Type 0) → ((h : Graph) → IsRenumberedGraph g (with_edges g h) → P (with_edges g h)) → IsRenumberedGraph g g' → P g'
by_edges g g' P all r = let e = with_same g g' r in subst P e (all g' (subst (IsRenumberedGraph g) (sym e) r))

-- lists with the nodes and edges of others
abbrev pub with_lists : FlowGraph → FlowGraph → FlowGraph
with_lists v x = record x { code = record x.code { nodes = v.code.nodes; edges = v.code.edges }; kinds = v.kinds; classes = v.classes }

lists_same : (v v' : FlowGraph) → IsRenumbered v v' → with_lists v v' ≡ v'
lists_same v v' r =
    ap {B = FlowGraph} (λ (x : List ℕ). record v' { code = record v'.code { nodes = x; edges = v.code.edges }; kinds = v.kinds; classes = v.classes }) r.nodes ∙
    ap {B = FlowGraph} (λ (x : List Edge). record v' { code = record v'.code { edges = x }; kinds = v.kinds; classes = v.classes }) r.edges ∙
    ap {B = FlowGraph} (λ (x : List Flow). record v' { kinds = x; classes = v.classes }) r.kinds ∙
    ap {B = FlowGraph} (λ (x : List (Option Class)). record v' { classes = x }) r.classes

pub by_lists : (v v' : FlowGraph) (P : FlowGraph → Type 0) → ((x : FlowGraph) → IsRenumberedGraph (graph v) (graph (with_lists v x)) → P (with_lists v x)) → IsRenumbered v v' → P v'
by_lists v v' P all r = let e = lists_same v v' r in subst P e (all v' (subst (λ y. IsRenumberedGraph (graph v) (graph y)) (sym e) r.graphs))

-- ---- bodies and entries, there and back

module _ (g h : Graph) (r : IsRenumberedGraph g (with_edges g h)) where
  pub body_from : (header : ℕ) (extent : ℕ → Bool) (at : ℕ) → IsInBody (with_edges g h) header extent at → IsInBody g header extent at
  body_from header extent at b = (r.numbered.owner at ∙ ap r.number b.0 ∙ sym (r.numbered.owner header), b.1, b.2)

  pub body_to : (header : ℕ) (extent : ℕ → Bool) (at : ℕ) → IsInBody g header extent at → IsInBody (with_edges g h) header extent at
  body_to header extent at b = (r.again.owner at ∙ ap r.back b.0 ∙ sym (r.again.owner header), b.1, b.2)

  pub entry_from : (to : ℕ) → (f : ℕ) × (f < h.functions) × (h.entry f ≡ to) → (f : ℕ) × (f < g.functions) × (g.entry f ≡ to)
  entry_from to f = (r.number f.0, r.numbered.within f.0 f.1, r.numbered.entry f.0 f.1 ∙ f.2)

  pub entry_to : (to : ℕ) → (f : ℕ) × (f < g.functions) × (g.entry f ≡ to) → (f : ℕ) × (f < h.functions) × (h.entry f ≡ to)
  entry_to to f = (r.back f.0, r.again.within f.0 f.1, r.again.entry f.0 f.1 ∙ f.2)

  side_to : (l : Loops) (k from to : ℕ) → IsSideEntry g l k from to → IsSideEntry (with_edges g h) l k from to
  side_to l k from to s = (
    s.0,
    s.1,
    ⊎_elim
        (λ (edge : (e : ℕ) × (e < g.edges) × (g.source e ≡ from) × (g.target e ≡ Some to) × (l.inside k from ≡ false)). inl edge)
        (λ (entry : (from ≡ to) × ((f : ℕ) × (f < g.functions) × (g.entry f ≡ to))). inr (entry.0, entry_to to entry.1)) s.2,
  )

  pub entered_from : (l : Loops) (extent : ℕ → ℕ → Bool) → AreEntered (with_edges g h) l extent → AreEntered g l extent
  entered_from l extent a = record {
    bodies = λ k at kl. (λ i. body_from (l.header k) (extent k) at ((a.bodies k at kl).0 i), λ b. (a.bodies k at kl).1 (body_to (l.header k) (extent k) at b));
    header_reached = a.header_reached;
    distinct = a.distinct;
    back_edge = a.back_edge;
    no_side = λ k from to kl s. a.no_side k from to kl (side_to l k from to s);
  }

  pub accepted_from : (l : Loops) (extent : ℕ → ℕ → Bool) → AreAccepted (with_edges g h) l extent → AreAccepted g l extent
  accepted_from l extent a = record {
    bodies = λ k at kl. (λ i. body_from (l.header k) (extent k) at ((a.bodies k at kl).0 i), λ b. (a.bodies k at kl).1 (body_to (l.header k) (extent k) at b));
    header_reached = a.header_reached;
    distinct = a.distinct;
    back_edge = a.back_edge;
    no_side = λ k from to kl s. a.no_side k from to kl (side_to l k from to s);
    no_crossing = a.no_crossing;
    not_deep = a.not_deep;
    no_cycle = a.no_cycle;
  }
