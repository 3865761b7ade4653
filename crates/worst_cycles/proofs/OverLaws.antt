-- What an edge costs, and the greatest cost of a plain path over the edges of a node.
use Rattle.std.proofs.Common.{◌≡◌, ◌≢◌, ℕ, ◌+◌, ◌<◌, ◌≤◌, ◌↔◌, ◌⊎◌, inl, inr, List, length, Some, None, slice_get, sym, ap, ◌∙◌, subst, arith, ⊎_elim}
use Rattle.std.proofs.lemmas.Bool.{cases_lt}
use Rattle.std.proofs.lemmas.Option.{same_Some, none-some}
use Rattle.cost_theory.specs.Graph.{Graph, Loops, IsPlain}
use Rattle.cost_theory.specs.Worst.{Numbers, cost, all_of}
use Rattle.flow_graph.specs.FlowGraph.{FlowGraph, graph}
use Rattle.loop_forest.specs.Noted.{node_address}
use Rattle.loop_forest.specs.Tree.{LoopView, loops}
use Rattle.cycle_laws.specs.Passes.{plain_at, IsPlainOver}
use Rattle.worst_cycles.specs.declared.plan.Plan.{Plan}
use Rattle.worst_cycles.specs.declared.visits.Visit.{Visit}
use Rattle.worst_cycles.specs.Solved.{AreSolved, charge}
use Rattle.worst_cycles.specs.Visits.{visit_at, IsTurnsAt, IsVisit, IsEdgeKnown, IsBehind, over, IsPlainCostOver, AreSolvedBy}
use Rattle.worst_cycles.proofs.BodyLaws.{node_here}

-- a plain edge to a node is charged its cost with all turns at the node
pub charge_turns : {g : Graph} {l : Loops} {w : ℕ → ℕ} {n : Numbers} (e at x : ℕ) → AreSolved g l w n → e < g.edges → IsPlain g l e → g.target e ≡ Some at → IsTurnsAt l n at x → charge g l w n e ≡ cost g n w e + x
charge_turns {g = g} {l = l} {w = w} {n = n} e at x s lt plain to turns = ⊎_elim
    (λ (some : (k : ℕ) × (k < l.loops) × (l.header k ≡ at) × (x ≡ all_of l n k)).
    let into : charge g l w n e ≡ cost g n w e + all_of l n some.0 = s.into e some.0 lt some.1 (to ∙ ap Some (sym some.2)) (plain some.0 some.1) in
    let is : x ≡ all_of l n some.0 = some.3 in
    let r : charge g l w n e ≡ cost g n w e + x = omega arith in r)
    (λ (none : ((k : ℕ) → k < l.loops → l.header k ≢ at) × (x ≡ 0)).
    let on : charge g l w n e ≡ cost g n w e = s.on e lt (λ k kl to_k. none.0 k kl (same_Some (l.header k) at (sym to_k ∙ to))) in
    let is : x ≡ 0 = none.1 in
    let r : charge g l w n e ≡ cost g n w e + x = omega arith in r)
    turns

-- what a plain edge costs with what is behind it
pub over_plain : {v : FlowGraph} {t : LoopView} {w : ℕ → ℕ} {plan : Plan} {visits : List Visit} {n : Numbers} {e : ℕ} (c x : ℕ) → AreSolvedBy v t w n → e < length v.code.edges → IsEdgeKnown v t plan visits n e → IsPlain (graph v) (loops v t) e →
    c ≡ cost (graph v) n w e → IsBehind v visits e x → c + x ≡ over v t w n e
over_plain {v = v} {t = t} {w = w} {plan = plan} {visits = visits} {n = n} {e = e} c x s lt known plain costs behind = ⊎_elim
    (λ (some : (k : ℕ) × ((graph v).target e ≡ slice_get v.code.nodes k) × (k < length v.code.nodes) × (x ≡ (visit_at visits k).turns + (visit_at visits k).plain)).
    let to : (graph v).target e ≡ Some (node_address v some.0) = some.1 ∙ node_here v some.0 some.2 in
    let visit : IsVisit (loops v t) n (node_address v some.0) (visit_at visits some.0) = known.led some.0 (node_address v some.0) (node_here v some.0 some.2) to plain in
    let charged : charge (graph v) (loops v t) w n e ≡ cost (graph v) n w e + (visit_at visits some.0).turns = charge_turns e (node_address v some.0) (visit_at visits some.0).turns s lt plain to visit.turns in
    let path : plain_at n ((graph v).target e) ≡ n.plain (node_address v some.0) = ap (plain_at n) to in
    let here : (visit_at visits some.0).plain ≡ n.plain (node_address v some.0) = visit.plain in
    let is : x ≡ (visit_at visits some.0).turns + (visit_at visits some.0).plain = some.3 in
    let r : c + x ≡ charge (graph v) (loops v t) w n e + plain_at n ((graph v).target e) = omega arith in r)
    (λ (none : ((graph v).target e ≡ None) × (x ≡ 0)).
    let charged : charge (graph v) (loops v t) w n e ≡ cost (graph v) n w e = s.on e lt (λ k kl to_k. none-some ((loops v t).header k) (sym none.0 ∙ to_k)) in
    let path : plain_at n ((graph v).target e) ≡ 0 = ap (plain_at n) none.0 in
    let is : x ≡ 0 = none.1 in
    let r : c + x ≡ charge (graph v) (loops v t) w n e + plain_at n ((graph v).target e) = omega arith in r)
    behind

-- the greatest cost over the plain edges of a range, and 0 where there is none
pub record IsPlainMost (v : FlowGraph) (t : LoopView) (w : ℕ → ℕ) (n : Numbers) (first end most : ℕ) : Type 0 where
  pub above : (d : ℕ) → first ≤ d → d < end → IsPlain (graph v) (loops v t) d → over v t w n d ≤ most
  pub reached : (most ≡ 0) ⊎ ((d : ℕ) × (first ≤ d) × (d < end) × IsPlain (graph v) (loops v t) d × (most ≡ over v t w n d))

pub plain_raised : {v : FlowGraph} {t : LoopView} {w : ℕ → ℕ} {n : Numbers} {first e most : ℕ} (x : ℕ) → first ≤ e → IsPlainMost v t w n first e most → IsPlainCostOver v t w n e x → most < x → IsPlainMost v t w n first (e + 1) x
plain_raised {v = v} {t = t} {w = w} {n = n} {first = first} {e = e} {most = most} x from is this more = ⊎_elim
    (λ (plain : IsPlain (graph v) (loops v t) e × (x ≡ over v t w n e)). record {
      above = λ d low high p. ⊎_elim
          (λ (before : d < e). let h : over v t w n d ≤ most = is.above d low before p in let r : over v t w n d ≤ x = omega arith in r)
          (λ (last : e ≤ d). let same : d ≡ e = omega arith in let q : over v t w n d ≡ over v t w n e = ap (over v t w n) same in let u : x ≡ over v t w n e = plain.1 in let r : over v t w n d ≤ x = omega arith in r)
          (cases_lt d e);
      reached = inr (e, from, (let r : e < e + 1 = omega arith in r), plain.0, plain.1);
    })
    (λ (back : (IsPlain (graph v) (loops v t) e → ⊥) × (x ≡ 0)). let zero_is : x ≡ 0 = back.1 in let bad : ⊥ = omega arith in absurd bad)
    this

pub plain_kept : {v : FlowGraph} {t : LoopView} {w : ℕ → ℕ} {n : Numbers} {first e most : ℕ} (x : ℕ) → IsPlainMost v t w n first e most → IsPlainCostOver v t w n e x → x ≤ most → IsPlainMost v t w n first (e + 1) most
plain_kept {v = v} {t = t} {w = w} {n = n} {first = first} {e = e} {most = most} x is this less = record {
  above = λ d low high p. ⊎_elim
      (λ (before : d < e). is.above d low before p)
      (λ (last : e ≤ d).
      let same : d ≡ e = omega arith in
      let q : over v t w n d ≡ over v t w n e = ap (over v t w n) same in
      ⊎_elim
      (λ (plain : IsPlain (graph v) (loops v t) e × (x ≡ over v t w n e)). let u : x ≡ over v t w n e = plain.1 in let r : over v t w n d ≤ most = omega arith in r)
      (λ (back : (IsPlain (graph v) (loops v t) e → ⊥) × (x ≡ 0)). absurd (back.0 (subst (IsPlain (graph v) (loops v t)) same p)))
      this)
      (cases_lt d e);
  reached = ⊎_elim
      (λ (none : most ≡ 0). inl none)
      (λ (some : (d : ℕ) × (first ≤ d) × (d < e) × IsPlain (graph v) (loops v t) d × (most ≡ over v t w n d)). let high = some.2 in inr (some.0, some.1, (let r : some.0 < e + 1 = omega arith in r), some.3, some.4))
      is.reached;
}

-- over all edges of a node it is the greatest cost of a plain path from there
pub plain_found : {v : FlowGraph} {t : LoopView} {w : ℕ → ℕ} {n : Numbers} {first end most : ℕ} (at : ℕ) → IsPlainMost v t w n first end most →
    ((e : ℕ) → e < length v.code.edges → ((graph v).source e ≡ at) ↔ ((first ≤ e) × (e < end))) → end ≤ length v.code.edges → IsPlainOver (graph v) (loops v t) w n at → most ≡ n.plain at
plain_found {v = v} {t = t} {w = w} {n = n} {first = first} {end = end} {most = most} at is edges within over_is =
    let low : most ≤ n.plain at = ⊎_elim
    (λ (none : most ≡ 0). let r : most ≤ n.plain at = omega arith in r)
    (λ (some : (d : ℕ) × (first ≤ d) × (d < end) × IsPlain (graph v) (loops v t) d × (most ≡ over v t w n d)).
    let high : some.0 < end = some.2 in
    let lt : some.0 < length v.code.edges = omega arith in
    let h : over v t w n some.0 ≤ n.plain at = over_is.most some.0 lt ((edges some.0 lt).1 (some.1, some.2)) some.3 in
    let e : most ≡ over v t w n some.0 = some.4 in
    let r : most ≤ n.plain at = omega arith in r)
    is.reached in
    let high : n.plain at ≤ most = ⊎_elim
    (λ (none : n.plain at ≡ 0). let r : n.plain at ≤ most = omega arith in r)
    (λ (some : (e : ℕ) × (e < (graph v).edges) × ((graph v).source e ≡ at) × IsPlain (graph v) (loops v t) e × (n.plain at ≡ over v t w n e)).
    let range = (edges some.0 some.1).0 some.2 in
    let h : over v t w n some.0 ≤ most = is.above some.0 range.0 range.1 some.3 in
    let e : n.plain at ≡ over v t w n some.0 = some.4 in
    let r : n.plain at ≤ most = omega arith in r)
    over_is.attained in
    omega arith
