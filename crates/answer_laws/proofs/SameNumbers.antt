-- The numbers of a program over a graph are those over the graph that is numbered anew.
use Rattle.std.proofs.Common.{◌≡◌, ℕ, ◌+◌, ◌-◌, ◌*◌, ◌<◌, ◌≤◌, Bool, Option, Some, None, is_some, option_map, refl, sym, ap, ◌∙◌, subst, ⊎_elim, ◌⊎◌, inl, inr}
use Rattle.std.proofs.Math.Path.{fun_ext}
use Rattle.cost_theory.specs.Graph.{Graph, Loops, total, sum_below, only, is_round, enters, is_back}
use Rattle.cost_theory.specs.Worst.{IsGreatest, IsGreatestIfAny, at_some, Numbers, cost, all_of, charged, IsLeft, AreLoopNumbers, IsBoundedWalk, left_at, turn_back, slack, IsReturningCall, turns_round, context_of, IsContext, rest, AreNumbers}
use Rattle.cost_theory.specs.Accepted.{IsProgram, AreAccepted}
use Rattle.cost_theory.specs.Laws.{AreSameNumbers}
use Rattle.cost_theory.proofs.Laws.{sum-same}
use Rattle.worst_cycles.specs.Worst.{slack_at, rest_at}
use Rattle.answer_laws.specs.Renumbered.{IsRenumberedGraph}
use Rattle.answer_laws.proofs.SameEdges.{with_edges}

-- the greatest of the same things
greatest_as : {A : Type 0} (P P' : A → Type 0) (value value' : A → ℕ) (o : Option ℕ) → ((a : A) → P a → P' a × (value a ≡ value' a)) → ((a : A) → P' a → P a) → IsGreatestIfAny P value o → IsGreatestIfAny P' value' o
greatest_as P P' value value' None there back none = λ a is. none a (back a is)
greatest_as P P' value value' (Some m) there back best = record {
  reached = (let a = best.reached.0 in let s = there a best.reached.1 in (a, s.0, sym s.1 ∙ best.reached.2));
  most = λ a is. let p = back a is in subst (λ x. x ≤ m) (there a p).1 (best.most a p);
}

-- a table that is read through another
through : (back : ℕ → ℕ) (table : ℕ → ℕ) (o : Option ℕ) → at_some (option_map back o) table ≡ at_some o (λ f. table (back f))
through back table None = refl
through back table (Some f) = refl

-- the numbers of functions under other numbers
abbrev pub renamed : (ℕ → ℕ) → Numbers → Numbers
renamed back n = record n { worst = λ f. n.worst (back f); context = λ f. n.context (back f) }

module _ (g h : Graph) (r : IsRenumberedGraph g (with_edges g h)) (l : Loops) (w : ℕ → ℕ) (n : Numbers) where
  pub cost_is : (e : ℕ) → cost (with_edges g h) n w e ≡ cost g (renamed r.back n) w e
  cost_is e = ap (λ x. w e + x) (ap (λ o. at_some o n.worst) (r.again.callee e) ∙ through r.back n.worst (g.callee e))

  pub costs_are : cost (with_edges g h) n w ≡ cost g (renamed r.back n) w
  costs_are = fun_ext cost_is

  left_is : (v : ℕ) → IsLeft l n v → IsLeft l (renamed r.back n) v
  left_is v x = record { over_plain = x.over_plain; over_closing = x.over_closing; attained = x.attained }

  loops_are : (c : ℕ → ℕ) → AreLoopNumbers (with_edges g h) l c n → AreLoopNumbers g l c (renamed r.back n)
  loops_are c x = record { iteration = x.iteration; plain = x.plain; closing = x.closing; left = λ v. left_is v (x.left v) }

  -- a call of a function comes back in both graphs
  call_there : (f e : ℕ) → f < g.functions → IsReturningCall (with_edges g h) (r.back f) e → IsReturningCall g f e
  call_there f e fl x = record { edge = x.edge; calls = r.numbered.callee e ∙ ap (option_map r.number) x.calls ∙ ap Some (r.there f fl); returns = x.returns }

  call_here : (f e : ℕ) → IsReturningCall g f e → IsReturningCall (with_edges g h) (r.back f) e
  call_here f e x = record { edge = x.edge; calls = r.again.callee e ∙ ap (option_map r.back) x.calls; returns = x.returns }

  context_is : (e : ℕ) → context_of (with_edges g h) l w n e ≡ context_of g l w (renamed r.back n) e
  context_is e =
      ap (λ c. n.left (g.source e) - c + turns_round l n (Some (g.source e)) + n.context (h.owner (g.source e))) (cost_is e) ∙
      ap (λ f. n.left (g.source e) - cost g (renamed r.back n) w e + turns_round l n (Some (g.source e)) + n.context f) (r.again.owner (g.source e))

  contexts_are : (f : ℕ) → f < g.functions → IsContext (with_edges g h) l w n (r.back f) → IsContext g l w (renamed r.back n) f
  contexts_are f fl (inl first) = inl (sym (r.there f fl) ∙ ap r.number first.0 ∙ r.numbered.first, first.1)
  contexts_are f fl (inr other) = inr (
    λ e. other.0 (ap r.back e ∙ r.again.first),
    (
      other.1.0,
      greatest_as (IsReturningCall (with_edges g h) (r.back f)) (IsReturningCall g f) (context_of (with_edges g h) l w n) (context_of g l w (renamed r.back n)) other.1.0
          (λ e x. (call_there f e fl x, context_is e)) (λ e x. call_here f e x) other.1.1,
      other.1.2,
    ),
  )

  pub numbers_from : AreNumbers (with_edges g h) l w n → AreNumbers g l w (renamed r.back n)
  numbers_from x = record {
    worst = λ f fl. subst (λ c. IsGreatest (IsBoundedWalk g l (g.entry f)) (total c) (n.worst (r.back f))) costs_are
        (subst (λ at. IsGreatest (IsBoundedWalk g l at) (total (cost (with_edges g h) n w)) (n.worst (r.back f))) (r.again.entry f fl) (x.worst (r.back f) (r.again.within f fl)));
    loops = subst (λ c. AreLoopNumbers g l c (renamed r.back n)) costs_are (loops_are (cost (with_edges g h) n w) x.loops);
    context = λ f fl. contexts_are f fl (x.context (r.back f) (r.again.within f fl));
  }

  pub slack_from : (e : ℕ) → slack_at g l w (renamed r.back n) e ≡ slack_at (with_edges g h) l w n e
  slack_from e = ap (λ (c : ℕ → ℕ). only (is_some (g.target e)) (slack g l n c e)) (sym costs_are)

  pub rest_from : (e : ℕ) → rest_at g l (renamed r.back n) e ≡ rest_at (with_edges g h) l n e
  rest_from e = ap (λ f. only (is_some (g.target e)) (left_at n (g.target e) + turns_round l n (g.target e) + n.context f)) (sym (r.again.owner (g.source e)))

-- ---- what two records that hold the same give an edge

module _ (g : Graph) (l : Loops) (extent : ℕ → ℕ → Bool) (prog : IsProgram g) (acc : AreAccepted g l extent) (w : ℕ → ℕ) (n n' : Numbers) (same : AreSameNumbers g l n n') where
  cost_same : (e : ℕ) → e < g.edges → cost g n w e ≡ cost g n' w e
  cost_same e lt = ap (λ x. w e + x) (go (g.callee e) refl)
    where
      go : (o : Option ℕ) → g.callee e ≡ o → at_some o n.worst ≡ at_some o n'.worst
      go None is = refl
      go (Some f) is = same.worst f (prog.callee_function e f lt is)

  place_same : (p : Option ℕ) → left_at n p ≡ left_at n' p
  place_same None = refl
  place_same (Some v) = same.left v

  round_same : (p : Option ℕ) → turns_round l n p ≡ turns_round l n' p
  round_same p = sum-same l.loops (λ k. only (is_round l k p) (all_of l n k)) (λ k. only (is_round l k p) (all_of l n' k)) (λ k kl. ap (λ x. only (is_round l k p) (l.bound k * x)) (same.iteration k kl))

  slack_same : (e : ℕ) → e < g.edges → slack g l n (cost g n w) e ≡ slack g l n' (cost g n' w) e
  slack_same e lt =
      let a : turn_back g l n e ≡ turn_back g l n' e = sum-same l.loops (λ k. only (is_back g l k e) (n.iteration k)) (λ k. only (is_back g l k e) (n'.iteration k)) (λ k kl. ap (only (is_back g l k e)) (same.iteration k kl)) in
      let b : sum_below l.loops (λ k. only (enters l k (g.source e) (g.target e)) (all_of l n k)) ≡ sum_below l.loops (λ k. only (enters l k (g.source e) (g.target e)) (all_of l n' k)) =
      sum-same l.loops (λ k. only (enters l k (g.source e) (g.target e)) (all_of l n k)) (λ k. only (enters l k (g.source e) (g.target e)) (all_of l n' k))
      (λ k kl. ap (λ x. only (enters l k (g.source e) (g.target e)) (l.bound k * x)) (same.iteration k kl)) in
      ap (λ x. x + turn_back g l n e - (charged g l n (cost g n w) e + left_at n (g.target e))) (same.left (g.source e)) ∙
      ap (λ x. n'.left (g.source e) + x - (charged g l n (cost g n w) e + left_at n (g.target e))) a ∙
      ap (λ x. n'.left (g.source e) + turn_back g l n' e - (x + sum_below l.loops (λ k. only (enters l k (g.source e) (g.target e)) (all_of l n k)) + left_at n (g.target e))) (cost_same e lt) ∙
      ap (λ x. n'.left (g.source e) + turn_back g l n' e - (cost g n' w e + x + left_at n (g.target e))) b ∙
      ap (λ x. n'.left (g.source e) + turn_back g l n' e - (charged g l n' (cost g n' w) e + x)) (place_same (g.target e))

  rest_same : (e : ℕ) → e < g.edges → rest g l n e ≡ rest g l n' e
  rest_same e lt =
      ap (λ x. x + turns_round l n (g.target e) + n.context (g.owner (g.source e))) (place_same (g.target e)) ∙
      ap (λ x. left_at n' (g.target e) + x + n.context (g.owner (g.source e))) (round_same (g.target e)) ∙
      ap (λ x. left_at n' (g.target e) + turns_round l n' (g.target e) + x) (same.context (g.owner (g.source e)) (prog.owner_function e lt))

  -- also of what is no edge, where it leads nowhere
  module _ (end : (e : ℕ) → (e < g.edges) ⊎ (g.target e ≡ None)) where
    pub slack_is : (e : ℕ) → slack_at g l w n e ≡ slack_at g l w n' e
    slack_is e = ⊎_elim
        (λ (lt : e < g.edges). ap (only (is_some (g.target e))) (slack_same e lt))
        (λ (none : g.target e ≡ None). ap (λ o. only (is_some o) (slack g l n (cost g n w) e)) none ∙ sym (ap (λ o. only (is_some o) (slack g l n' (cost g n' w) e)) none))
        (end e)

    pub rest_is : (e : ℕ) → rest_at g l n e ≡ rest_at g l n' e
    rest_is e = ⊎_elim
        (λ (lt : e < g.edges). ap (only (is_some (g.target e))) (rest_same e lt))
        (λ (none : g.target e ≡ None). ap (λ o. only (is_some o) (rest g l n e)) none ∙ sym (ap (λ o. only (is_some o) (rest g l n' e)) none))
        (end e)
