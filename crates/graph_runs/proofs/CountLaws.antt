-- Counts by extents, as a run is watched, are the graph's counts by bodies.
use Rattle.std.proofs.Common.{◌≡◌, ℕ, ◌+◌, ◌<◌, Bool, true, cond, List, [], ◌∷◌, nat_eq, refl, sym, ap, ◌∙◌, subst, Option, Some, None, IsSome, ⊎_elim, eqb-true}
use Rattle.std.proofs.lemmas.Bool.{cases_Bool, cond-true, cond-false}
use Rattle.scale_base.specs.declared.stepping.Class.{Class}
use Rattle.scale_base.specs.declared.stepping.Move.{Move}
use Rattle.cost_theory.specs.Graph.{Graph, Loops, count_step, next_edge}
use Rattle.cost_theory.specs.Accepted.{IsProgram, AreAccepted}
use Rattle.cost_theory.specs.Steps as steps
use Rattle.cost_theory.specs.Steps.Transition.{Along as OverAlong, Call as OverCall, Return as OverReturn, Exit as OverExit}
use Rattle.cost_theory.specs.Reached.{Code, graph_of}
use Rattle.cost_theory.proofs.Laws.{extent-body, accepted_entered, next-is}
use Rattle.code_text.specs.Text.{Text, kind_at}
use Rattle.graph_runs.specs.KeptRuns.{AreSameBelow}
use Rattle.graph_runs.proofs.StepTransitions.{place, IsTransitionOf, IsTransitionKind, source_by}
use Rattle.graph_runs.specs.KeptSteps.{by_extents}

module _ (g : Graph) (l : Loops) (extent : ℕ → ℕ → Bool) (prog : IsProgram g) (acc : AreAccepted g l extent) (one other : ℕ → ℕ) (same : AreSameBelow l.loops one other) where
  -- over an edge
  edge_counts : (e v : ℕ) → e < g.edges → g.target e ≡ Some v → AreSameBelow l.loops (count_step l (Some (g.source e)) (Some v) one) (count_step (by_extents l extent) (Some (g.source e)) (Some v) other)
  edge_counts e v lt to k kl = ⊎_elim
      (λ (h : nat_eq v (l.header k) ≡ true).
      let body : extent k (g.source e) ≡ l.inside k (g.source e) = extent-body g l extent prog (accepted_entered acc) e k v lt kl to (eqb-true v (l.header k) h) in
      cond-true (nat_eq v (l.header k)) _ _ h ∙ (ap (λ b. cond b (one k + 1) 0) (sym body) ∙ (ap (λ c. cond (extent k (g.source e)) (c + 1) 0) (same k kl) ∙ sym (cond-true (nat_eq v (l.header k)) _ _ h))))
      (λ h. cond-false (nat_eq v (l.header k)) _ _ h ∙ (same k kl ∙ sym (cond-false (nat_eq v (l.header k)) _ _ h))) (cases_Bool (nat_eq v (l.header k)))

  call_counts : (v : ℕ) → AreSameBelow l.loops (count_step l None (Some v) one) (count_step (by_extents l extent) None (Some v) other)
  call_counts v k kl = ap (λ c. cond (nat_eq v (l.header k)) 0 c) (same k kl)

module _ (t : Text) (code : Code) (l : Loops) (extent : ℕ → ℕ → Bool) (prog : IsProgram (graph_of (kind_at t) code)) (acc : AreAccepted (graph_of (kind_at t) code) l extent) (one other : ℕ → ℕ) (same : AreSameBelow l.loops one other) where
  -- over a transition
  pub move_counts : (pc next : ℕ) (calls calls_after : List ℕ) (class : Class) (moved : Move) (m : steps.Transition) → IsTransitionOf t code pc calls class m (Some next) calls_after → IsTransitionKind m moved →
      AreSameBelow l.loops (steps.after (graph_of (kind_at t) code) l (place pc calls one) m).counts (count_step (by_extents l extent) (source_by moved pc calls) (Some next) other)
  move_counts pc next calls calls_after class moved (OverAlong e) is kind k kl =
      let g : Graph = graph_of (kind_at t) code in
      let a : count_step l (Some (g.source e)) (g.target e) one k ≡ count_step l (Some (g.source e)) (Some next) one k = ap (λ o. count_step l (Some (g.source e)) o one k) (is.leads l one) in
      let b : count_step l (Some (g.source e)) (Some next) one k ≡ count_step (by_extents l extent) (Some (g.source e)) (Some next) other k = edge_counts g l extent prog acc one other same e next is.edge (is.leads l one) k kl in
      a ∙ (b ∙ (ap (λ u. count_step (by_extents l extent) (Some u) (Some next) other k) is.from ∙ ap (λ m. count_step (by_extents l extent) (source_by m pc calls) (Some next) other k) (sym kind)))
  move_counts pc next calls calls_after class moved (OverCall e f) is kind k kl =
      let g : Graph = graph_of (kind_at t) code in
      let a : count_step l None (Some (g.entry f)) one k ≡ count_step l None (Some next) one k = ap (λ o. count_step l None o one k) (is.leads l one) in
      a ∙ (call_counts g l extent prog acc one other same next k kl ∙ ap (λ m. count_step (by_extents l extent) (source_by m pc calls) (Some next) other k) (sym kind))
  move_counts pc next [] calls_after class moved (OverReturn e) is kind k kl = absurd ((is.move one).1)
  move_counts pc next (u ∷ us) calls_after class moved (OverReturn e) is kind k kl = by_edge (next_edge (graph_of (kind_at t) code) u) refl
    where
      by_edge : (o : Option ℕ) → next_edge (graph_of (kind_at t) code) u ≡ o → (steps.go_back (graph_of (kind_at t) code) l u (next_edge (graph_of (kind_at t) code) u) us one).counts k ≡ count_step (by_extents l extent) (source_by moved pc (u ∷ us)) (Some next) other k
      by_edge None e = let q : IsSome (next_edge (graph_of (kind_at t) code) u) = (is.move one).1 in let z : IsSome {T = ℕ} None = subst (λ o. IsSome o) e q in let bad : ⊥ = cc in absurd bad
      by_edge (Some d) e =
          let g : Graph = graph_of (kind_at t) code in
          let p = next-is g u d e in
          let to : g.target d ≡ Some next = sym (ap (λ o. (steps.go_back g l u o us one).node) e) ∙ is.leads l one in
          ap (λ o. (steps.go_back g l u o us one).counts k) e
          ∙ (ap (λ o. count_step l (Some u) o one k) to
          ∙ (ap (λ v. count_step l (Some v) (Some next) one k) (sym p.1)
          ∙ (edge_counts g l extent prog acc one other same d next p.0 to k kl
          ∙ (ap (λ v. count_step (by_extents l extent) (Some v) (Some next) other k) p.1 ∙ ap (λ m. count_step (by_extents l extent) (source_by m pc (u ∷ us)) (Some next) other k) (sym kind)))))
  move_counts pc next calls calls_after class moved (OverExit e) is kind k kl = absurd kind
