-- The rests of an iteration over the edges of a node.
use Rattle.std.proofs.Common.{◌≡◌, ◌≢◌, ℕ, ◌+◌, ◌<◌, ◌≤◌, ◌↔◌, inl, inr, Bool, true, false, List, length, Option, Some, None, slice_get, refl, sym, ap, ◌∙◌, subst, arith, ⊎_elim}
use Rattle.std.proofs.lemmas.Bool.{cases_lt}
use Rattle.std.proofs.lemmas.Option.{same_Some, none-some}
use Rattle.graph_algorithms.specs.Arcs.{number_in_place}
use Rattle.cost_theory.specs.Graph.{IsPlain, is_back}
use Rattle.cost_theory.specs.Worst.{Numbers, cost}
use Rattle.flow_graph.specs.FlowGraph.{FlowGraph, graph}
use Rattle.loop_forest.specs.Noted.{node_address}
use Rattle.loop_forest.specs.Tree.{LoopView, loops, IsLoopTree}
use Rattle.cycle_laws.specs.Passes.{IsRestOver, IsClosingOver}
use Rattle.worst_cycles.specs.declared.plan.Plan.{Plan}
use Rattle.worst_cycles.specs.declared.rests.Rests.{Rests}
use Rattle.worst_cycles.specs.declared.visits.Visit.{Visit}
use Rattle.worst_cycles.specs.Solved.{charge}
use Rattle.worst_cycles.specs.Visits.{visit_at, IsVisit, IsEdgeKnown, AreSolvedBy}
use Rattle.worst_cycles.specs.Rests.{IsRestOf, IsAdded, IsRestPast, held, closing_at, IsRestKnown, IsRestFor, IsGreaterOf}
use Rattle.worst_cycles.proofs.BodyLaws.{node_here, back_by}
use Rattle.worst_cycles.proofs.OverLaws.{charge_turns}

held_some : (b : Bool) (o : Option ℕ) (m : ℕ) → held b o ≡ Some m → (b ≡ true) × (o ≡ Some m)
held_some true o m e = (refl, e)
held_some false o m e = absurd (none-some m e)

held_is : (b : Bool) (o : Option ℕ) (m : ℕ) → b ≡ true → o ≡ Some m → held b o ≡ Some m
held_is b o m inside some = ap (λ c. held c o) inside ∙ some

-- over a back edge of the loop the rest is the edge's cost,
pub back_rest : {v : FlowGraph} {t : LoopView} {extent : ℕ → ℕ → Bool} {w : ℕ → ℕ} {n : Numbers} (e k c : ℕ) → IsLoopTree v extent t → AreSolvedBy v t w n → e < length v.code.edges → slice_get t.backs e ≡ Some (Some k) →
    c ≡ cost (graph v) n w e → IsRestFor v t w n k e (Some c)
back_rest {v = v} {t = t} {extent = extent} {w = w} {n = n} e k c tree s lt here costs b =
    let back = back_by v t extent tree e k here in
    let charged : charge (graph v) (loops v t) w n e ≡ cost (graph v) n w e = s.back e k lt back.0 back.1 in (
      λ some. let same : c ≡ b = same_Some c b some in inl (back.1, (let r : b ≡ charge (graph v) (loops v t) w n e = omega arith in r)),
      λ rest. ⊎_elim
          (λ (is : (is_back (graph v) (loops v t) k e ≡ true) × (b ≡ charge (graph v) (loops v t) w n e)). let e : b ≡ charge (graph v) (loops v t) w n e = is.1 in ap Some (let r : c ≡ b = omega arith in r))
          (λ (plain : IsPlain (graph v) (loops v t) e × ((u : ℕ) × (more : ℕ) × ((graph v).target e ≡ Some u) × ((loops v t).inside k u ≡ true) × (n.closing k u ≡ Some more) × (b ≡ charge (graph v) (loops v t) w n e + more))). absurd (back.2 plain.0))
          rest,
    )

-- over one of another loop there is none,
pub other_rest : {v : FlowGraph} {t : LoopView} {extent : ℕ → ℕ → Bool} (w : ℕ → ℕ) (n : Numbers) (e j k : ℕ) → IsLoopTree v extent t → e < length v.code.edges → slice_get t.backs e ≡ Some (Some j) → k < length t.headers → j ≢ k →
    IsRestFor v t w n k e None
other_rest {v = v} {t = t} {extent = extent} w n e j k tree lt here kl other b =
    let back = back_by v t extent tree e j here in (
      λ some. absurd (none-some b some),
      λ rest. ⊎_elim
          (λ (is : (is_back (graph v) (loops v t) k e ≡ true) × (b ≡ charge (graph v) (loops v t) w n e)).
          let also : slice_get t.backs e ≡ Some (Some k) = (tree.backs e k).1 (lt, kl, is.0) in
          absurd (other (same_Some j k (same_Some (Some j) (Some k) (sym here ∙ also)))))
          (λ (plain : IsPlain (graph v) (loops v t) e × ((u : ℕ) × (more : ℕ) × ((graph v).target e ≡ Some u) × ((loops v t).inside k u ≡ true) × (n.closing k u ≡ Some more) × (b ≡ charge (graph v) (loops v t) w n e + more))). absurd (back.2 plain.0))
          rest,
    )

-- a plain edge has a rest only through its end
through : (v : FlowGraph) (t : LoopView) (w : ℕ → ℕ) (n : Numbers) (e k b at : ℕ) → k < (loops v t).loops → IsPlain (graph v) (loops v t) e → (graph v).target e ≡ Some at → IsRestOver (graph v) (loops v t) w n k e b →
    (more : ℕ) × (closing_at (loops v t) n k at ≡ Some more) × (b ≡ charge (graph v) (loops v t) w n e + more)
through v t w n e k b at kl plain to rest = ⊎_elim
    (λ (is : (is_back (graph v) (loops v t) k e ≡ true) × (b ≡ charge (graph v) (loops v t) w n e)). let yes_is : is_back (graph v) (loops v t) k e ≡ true = is.0 in let not : is_back (graph v) (loops v t) k e ≡ false = plain k kl in let bad : ⊥ = cc in absurd bad)
    (λ (past : IsPlain (graph v) (loops v t) e × ((u : ℕ) × (more : ℕ) × ((graph v).target e ≡ Some u) × ((loops v t).inside k u ≡ true) × (n.closing k u ≡ Some more) × (b ≡ charge (graph v) (loops v t) w n e + more))).
    let same : past.1.0 ≡ at = same_Some past.1.0 at (sym past.1.2 ∙ to) in
    let inside : (loops v t).inside k at ≡ true = subst (λ u. (loops v t).inside k u ≡ true) same past.1.3 in
    let closes : n.closing k at ≡ Some past.1.1 = subst (λ u. n.closing k u ≡ Some past.1.1) same past.1.4 in
    (past.1.1, held_is ((loops v t).inside k at) (n.closing k at) past.1.1 inside closes, past.1.5))
    rest

-- and over a plain edge it is that of its end, with the edge's charge.
pub plain_rest : {v : FlowGraph} {t : LoopView} {w : ℕ → ℕ} {plan : Plan} {visits : List Visit} {n : Numbers} {e : ℕ} (rests : Rests) (k : ℕ) (o : Option ℕ) → AreSolvedBy v t w n → e < length v.code.edges → k < (loops v t).loops → IsPlain (graph v) (loops v t) e →
    IsEdgeKnown v t plan visits n e → IsRestKnown v t plan rests n k e → IsRestPast v plan w visits rests e o → IsRestFor v t w n k e o
plain_rest {v = v} {t = t} {w = w} {plan = plan} {visits = visits} {n = n} {e = e} rests k o s lt kl plain known rest_known past = ⊎_elim
    (λ (some : (u : ℕ) × (r : Option ℕ) × ((graph v).target e ≡ slice_get v.code.nodes u) × (u < length v.code.nodes) × IsRestOf rests (number_in_place plan.places.items u) r × IsAdded v plan w visits e u r o).
    let here = node_here v some.0 some.3 in
    let to : (graph v).target e ≡ Some (node_address v some.0) = some.2 ∙ here in
    let visit : IsVisit (loops v t) n (node_address v some.0) (visit_at visits some.0) = known.led some.0 (node_address v some.0) here to plain in
    let rest : some.1 ≡ closing_at (loops v t) n k (node_address v some.0) = rest_known some.0 (node_address v some.0) some.1 here to plain some.4 in
    let charged : charge (graph v) (loops v t) w n e ≡ cost (graph v) n w e + (visit_at visits some.0).turns = charge_turns e (node_address v some.0) (visit_at visits some.0).turns s lt plain to visit.turns in
    go some.0 some.1 to charged rest some.5)
    (λ (none : ((graph v).target e ≡ None) × (o ≡ None)). λ b. (
      λ (some : o ≡ Some b). absurd (none-some b (sym none.1 ∙ some)),
      λ (rest : IsRestOver (graph v) (loops v t) w n k e b). ⊎_elim
          (λ (is : (is_back (graph v) (loops v t) k e ≡ true) × (b ≡ charge (graph v) (loops v t) w n e)). let yes_is : is_back (graph v) (loops v t) k e ≡ true = is.0 in let not : is_back (graph v) (loops v t) k e ≡ false = plain k kl in let bad : ⊥ = cc in absurd bad)
          (λ (p : IsPlain (graph v) (loops v t) e × ((u : ℕ) × (more : ℕ) × ((graph v).target e ≡ Some u) × ((loops v t).inside k u ≡ true) × (n.closing k u ≡ Some more) × (b ≡ charge (graph v) (loops v t) w n e + more))). absurd (none-some p.1.0 (sym none.0 ∙ p.1.2)))
          rest,
    ))
    past
  where
    go : (u : ℕ) (r : Option ℕ) → (graph v).target e ≡ Some (node_address v u) → charge (graph v) (loops v t) w n e ≡ cost (graph v) n w e + (visit_at visits u).turns → r ≡ closing_at (loops v t) n k (node_address v u) →
        IsAdded v plan w visits e u r o → IsRestFor v t w n k e o
    go u None to charged rest added b = (
      λ some. absurd (none-some b (sym added ∙ some)),
      λ over. let through_is = through v t w n e k b (node_address v u) kl plain to over in absurd (none-some through_is.0 (rest ∙ through_is.1)),
    )
    go u (Some m) to charged rest added b =
        let inside = held_some ((loops v t).inside k (node_address v u)) (n.closing k (node_address v u)) m (sym rest) in
        let costs : added.0 ≡ cost (graph v) n w e = added.2 n known.called in (
          λ some.
              let same : added.0 + (visit_at visits u).turns + m ≡ b = same_Some (added.0 + (visit_at visits u).turns + m) b (sym added.1 ∙ some) in
              inr (plain, (node_address v u, m, to, inside.0, inside.1, (let r : b ≡ charge (graph v) (loops v t) w n e + m = omega arith in r))),
          λ over.
              let through_is = through v t w n e k b (node_address v u) kl plain to over in
              let same : m ≡ through_is.0 = same_Some m through_is.0 (rest ∙ through_is.1) in
              let is : b ≡ charge (graph v) (loops v t) w n e + through_is.0 = through_is.2 in
              added.1 ∙ ap Some (let r : added.0 + (visit_at visits u).turns + m ≡ b = omega arith in r),
        )

-- ---- the greatest over a range of edges

pub record IsRestMost (v : FlowGraph) (t : LoopView) (w : ℕ → ℕ) (n : Numbers) (k first end : ℕ) (most : Option ℕ) : Type 0 where
  pub above : (d b : ℕ) → first ≤ d → d < end → IsRestOver (graph v) (loops v t) w n k d b → (m : ℕ) × (most ≡ Some m) × (b ≤ m)
  pub reached : (m : ℕ) → most ≡ Some m → (d : ℕ) × (first ≤ d) × (d < end) × IsRestOver (graph v) (loops v t) w n k d m

pub rest_more : {v : FlowGraph} {t : LoopView} {w : ℕ → ℕ} {n : Numbers} {k first e : ℕ} {one : Option ℕ} (other most : Option ℕ) → first ≤ e → IsRestMost v t w n k first e one → IsRestFor v t w n k e other → IsGreaterOf one other most →
    IsRestMost v t w n k first (e + 1) most
rest_more {v = v} {t = t} {w = w} {n = n} {k = k} {first = first} {e = e} {one = one} other most from is this greater = record {
  above = λ d b low high rest. ⊎_elim
      (λ (before : d < e).
      let old = is.above d b low before rest in
      let new = greater.above old.0 (inl old.1) in
      let le = old.2 in let more = new.2 in
      let r : (m : ℕ) × (most ≡ Some m) × (b ≤ m) = (new.0, new.1, (let h : b ≤ new.0 = omega arith in h)) in r)
      (λ (last : e ≤ d).
      let same : d ≡ e = omega arith in
      greater.above b (inr ((this b).1 (subst (λ x. IsRestOver (graph v) (loops v t) w n k x b) same rest))))
      (cases_lt d e);
  reached = λ m some. ⊎_elim
      (λ (old : most ≡ one). let h = is.reached m (sym old ∙ some) in let high = h.2 in
      let r : (d : ℕ) × (first ≤ d) × (d < e + 1) × IsRestOver (graph v) (loops v t) w n k d m = (h.0, h.1, (let l : h.0 < e + 1 = omega arith in l), h.3) in r)
      (λ (new : most ≡ other). (e, from, (let l : e < e + 1 = omega arith in l), (this m).0 (sym new ∙ some)))
      greater.either;
}

-- over all edges of a node of the body it is the rest from there
pub rest_found : {v : FlowGraph} {t : LoopView} {w : ℕ → ℕ} {n : Numbers} {k first end : ℕ} {most : Option ℕ} (at : ℕ) → IsRestMost v t w n k first end most →
    ((e : ℕ) → e < length v.code.edges → ((graph v).source e ≡ at) ↔ ((first ≤ e) × (e < end))) → end ≤ length v.code.edges → IsClosingOver (graph v) (loops v t) w n k at → most ≡ n.closing k at
rest_found {v = v} {t = t} {w = w} {n = n} {k = k} {first = first} {end = end} {most = most} at is edges within closing = go most refl (n.closing k at) refl
  where
    in_range : (e : ℕ) → e < length v.code.edges → (graph v).source e ≡ at → (first ≤ e) × (e < end)
    in_range e lt from = (edges e lt).0 from

    low : (d : ℕ) → d < end → d < length v.code.edges
    low d high = omega arith

    go : (o : Option ℕ) → most ≡ o → (c : Option ℕ) → n.closing k at ≡ c → most ≡ n.closing k at
    go None has None closes = has ∙ sym closes
    go None has (Some m) closes =
        let e = closing.attained m closes in
        let range = in_range e.0 e.1 e.2 in
        let a = is.above e.0 m range.0 range.1 e.3 in
        absurd (none-some a.0 (sym has ∙ a.1))
    go (Some m) has None closes =
        let d = is.reached m has in
        let lt = low d.0 d.2 in
        absurd (closing.absent closes d.0 m lt ((edges d.0 lt).1 (d.1, d.2)) d.3)
    go (Some m) has (Some c) closes =
        let d = is.reached m has in
        let lt = low d.0 d.2 in
        let less : m ≤ c = closing.most c closes d.0 m lt ((edges d.0 lt).1 (d.1, d.2)) d.3 in
        let e = closing.attained c closes in
        let range = in_range e.0 e.1 e.2 in
        let a = is.above e.0 c range.0 range.1 e.3 in
        let same : a.0 ≡ m = same_Some a.0 m (sym a.1 ∙ has) in
        let more : c ≤ a.0 = a.2 in
        let one : m ≡ c = omega arith in
        has ∙ ap Some one ∙ sym closes
