-- The context exists, from the callers downwards, and so do all numbers of an accepted program.
use Rattle.std.proofs.Common.{◌≡◌, ◌≢◌, ℕ, zero, suc, ◌+◌, ◌-◌, ◌<◌, ◌≤◌, Bool, true, false, cond, ◌&&◌, ◌⊎◌, inl, inr, nat_eq, ltb, Option, Some, None, is_some, unwrap_or, refl, sym, ap, ◌∙◌, subst, arith, eqb-true, eq-eqb, ne_eqb, ⊎_elim, ltb-false, le-ltb}
use native.Mathlib.Decide.{ℕ_discrete}
use Rattle.cost_theory.specs.Graph.{Graph, Loops}
use Rattle.cost_theory.specs.Worst.{Numbers, IsGreatestIfAny, cost, AreLoopNumbers, AreNumbers, AreWorst, turns_round, IsReturningCall, context_of, IsContext}
use Rattle.cost_theory.specs.Accepted.{IsCall, IsProgram, AreAccepted, IsPlainOrder, IsCallOrder}
use Rattle.cost_theory.proofs.Basics.{below_suc, and_left, and_right, and_both, some_value}
use Rattle.cost_theory.proofs.Greatest.{greater, where_true, greatest_or, greatest_as}
use Rattle.cost_theory.proofs.Lefts.{left_same}
use Rattle.cost_theory.proofs.Worsts.{worst_numbers}

-- the greatest value of the numbers below n that pass a test
pub best_test : (n : ℕ) (p : ℕ → Bool) (value : ℕ → ℕ) → (o : Option ℕ) × IsGreatestIfAny (λ e. (e < n) × (p e ≡ true)) value o
best_test zero p value = (None, λ e h. let lt : e < 0 = h.0 in let bad : ⊥ = omega arith in bad)
best_test (suc n) p value = go (best_test n p value)
  where
    here : (b : Bool) → p n ≡ b → IsGreatestIfAny (λ e. (e ≡ n) × (p e ≡ true)) value (where_true b (Some (value n)))
    here true is = record { reached = (n, (refl, is), refl); most = λ e h. (let q : value e ≡ value n = ap value h.0 in let r : value e ≤ value n = omega arith in r) }
    here false is = λ e h. let t : p e ≡ false = ap p h.0 ∙ is in let u : p e ≡ true = h.1 in let bad : ⊥ = cc in bad

    go : (o : Option ℕ) × IsGreatestIfAny (λ e. (e < n) × (p e ≡ true)) value o → (o : Option ℕ) × IsGreatestIfAny (λ e. (e < suc n) × (p e ≡ true)) value o
    go ih = (
      greater ih.0 (where_true (p n) (Some (value n))),
      greatest_as (λ e. ((e < n) × (p e ≡ true)) ⊎ ((e ≡ n) × (p e ≡ true))) (λ e. (e < suc n) × (p e ≡ true)) value (greater ih.0 (where_true (p n) (Some (value n))))
          (λ e h. ⊎_elim (λ a. (let lt : e < n = a.0 in let r : e < suc n = omega arith in r, a.1)) (λ b. (let q : e ≡ n = b.0 in let r : e < suc n = omega arith in r, b.1)) h)
          (λ e h. ⊎_elim (λ lt. inl (lt, h.1)) (λ q. inr (q, h.1)) (below_suc e n h.0))
          (greatest_or (λ e. (e < n) × (p e ≡ true)) (λ e. (e ≡ n) × (p e ≡ true)) value ih.0 (where_true (p n) (Some (value n))) ih.1 (here (p n) refl)),
    )

abbrev pub is_number : ℕ → Option ℕ → Bool
is_number f None = false
is_number f (Some h) = nat_eq h f

pub number-some : (f : ℕ) (o : Option ℕ) → is_number f o ≡ true → o ≡ Some f
number-some f None h = let bad : ⊥ = cc in absurd bad
number-some f (Some x) h = ap Some (eqb-true x f h)

module _ (g : Graph) (l : Loops) (w : ℕ → ℕ) where
  returning_test : ℕ → ℕ → Bool
  returning_test f e = is_number f (g.callee e) && is_some (g.target e)

  pub best_call : (f : ℕ) (value : ℕ → ℕ) → (o : Option ℕ) × IsGreatestIfAny (IsReturningCall g f) value o
  unfolding returning_test
  best_call f value = go (best_test g.edges (λ e. is_number f (g.callee e) && is_some (g.target e)) value)
    where
      go : (o : Option ℕ) × IsGreatestIfAny (λ e. (e < g.edges) × ((is_number f (g.callee e) && is_some (g.target e)) ≡ true)) value o → (o : Option ℕ) × IsGreatestIfAny (IsReturningCall g f) value o
      go b = (
        b.0,
        greatest_as (λ e. (e < g.edges) × ((is_number f (g.callee e) && is_some (g.target e)) ≡ true)) (IsReturningCall g f) value b.0
            (λ e h. record {
              edge = h.0;
              calls = number-some f (g.callee e) (and_left (is_number f (g.callee e)) (is_some (g.target e)) h.1);
              returns = some_value (g.target e) (and_right (is_number f (g.callee e)) (is_some (g.target e)) h.1);
            })
            (λ e h. (h.edge, and_both (is_number f (g.callee e)) (is_some (g.target e)) (subst (λ o. is_number f o ≡ true) (sym h.calls) (eq-eqb f f refl)) (subst (λ o. is_some o ≡ true) (sym h.returns.1) refl))) b.1,
      )

  -- the context of a function speaks of those of its callers
  pub context_same : (n : Numbers) (k k' : ℕ → ℕ) (f : ℕ) → k f ≡ k' f → ((u : ℕ) → IsCall g u f → k (g.owner u) ≡ k' (g.owner u)) →
      IsContext g l w (record n { context = k }) f → IsContext g l w (record n { context = k' }) f
  context_same n k k' f here callers is = ⊎_elim (λ (a : (f ≡ 0) × (k f ≡ 0)). inl (a.0, sym here ∙ a.1))
      (λ (b : (f ≢ 0) × ((o : Option ℕ) × IsGreatestIfAny (IsReturningCall g f) (context_of g l w (record n { context = k })) o × (k f ≡ unwrap_or o 0))).
      inr (b.0, (b.1.0, moved b.1.0 b.1.1, sym here ∙ b.1.2))) is
    where
      same : (e : ℕ) → IsReturningCall g f e → context_of g l w (record n { context = k }) e ≡ context_of g l w (record n { context = k' }) e
      same e r = ap (λ x. n.left (g.source e) - cost g n w e + turns_round l n (Some (g.source e)) + x) (callers (g.source e) (e, r.edge, refl, r.calls))

      moved : (o : Option ℕ) → IsGreatestIfAny (IsReturningCall g f) (context_of g l w (record n { context = k })) o → IsGreatestIfAny (IsReturningCall g f) (context_of g l w (record n { context = k' })) o
      moved None h = h
      moved (Some m) h = record {
        reached = (h.reached.0, h.reached.1, sym (same h.reached.0 h.reached.1) ∙ h.reached.2);
        most = λ e r. subst (λ y. y ≤ m) (same e r) (h.most e r);
      }

  module _ (prog : IsProgram g) (order : ℕ → ℕ) (calls : IsCallOrder g order) (n : Numbers) where
    abbrev pub IsContextAbove : ℕ → (ℕ → ℕ) → Type 0
    IsContextAbove m k = (f : ℕ) → f < g.functions → g.functions ≤ order f + m → IsContext g l w (record n { context = k }) f

    pub context_above : (m : ℕ) → (k : ℕ → ℕ) × IsContextAbove m k
    context_above zero = (λ f. 0, λ f fl high. absurd (let lt : order f < g.functions = calls.below f fl in let bad : ⊥ = omega arith in bad))
    context_above (suc m) = next (context_above m)
      where
        next : (k : ℕ → ℕ) × ((f : ℕ) → f < g.functions → g.functions ≤ order f + m → IsContext g l w (record n { context = k }) f) →
            (k : ℕ → ℕ) × ((f : ℕ) → f < g.functions → g.functions ≤ order f + suc m → IsContext g l w (record n { context = k }) f)
        next before = (new, good)
          where
            value : ℕ → ℕ
            value f = cond (nat_eq f 0) 0 (unwrap_or (best_call f (context_of g l w (record n { context = before.0 }))).0 0)

            new : ℕ → ℕ
            new f = cond (ltb (order f + m) g.functions) (value f) (before.0 f)

            old_is : (f : ℕ) → g.functions ≤ order f + m → before.0 f ≡ new f
            old_is f high = sym (ap (λ b. cond b (value f) (before.0 f)) (le-ltb (order f + m) g.functions high))

            good : (f : ℕ) → f < g.functions → g.functions ≤ order f + suc m → IsContext g l w (record n { context = new }) f
            good f fl high = pick (ltb (order f + m) g.functions) refl
              where
                callers : (u : ℕ) → IsCall g u f → before.0 (g.owner u) ≡ new (g.owner u)
                callers u call = old_is (g.owner u) (let r : order f < order (g.owner u) = calls.falls u f call in omega arith)

                fresh : Dec (f ≡ 0) → (k : ℕ → ℕ) → k f ≡ value f → ((u : ℕ) → IsCall g u f → before.0 (g.owner u) ≡ k (g.owner u)) → IsContext g l w (record n { context = k }) f
                fresh (yes e) k is up = inl (e, is ∙ ap (λ b. cond b 0 (unwrap_or (best_call f (context_of g l w (record n { context = before.0 }))).0 0)) (eq-eqb f 0 e))
                fresh (no ne) k is up = context_same n (λ h. cond (nat_eq h f) (k f) (before.0 h)) k f (ap (λ b. cond b (k f) (before.0 f)) (eq-eqb f f refl))
                    (λ u call. ap (λ b. cond b (k f) (before.0 (g.owner u))) (ne_eqb (g.owner u) f (apart u call)) ∙ up u call)
                    (inr (ne, (best.0, moved best.0 best.1, ap (λ b. cond b (k f) (before.0 f)) (eq-eqb f f refl) ∙ is ∙ ap (λ b. cond b 0 (unwrap_or best.0 0)) (ne_eqb f 0 ne))))
                  where
                    best : (o : Option ℕ) × IsGreatestIfAny (IsReturningCall g f) (context_of g l w (record n { context = before.0 })) o
                    best = best_call f (context_of g l w (record n { context = before.0 }))

                    apart : (u : ℕ) → IsCall g u f → g.owner u ≡ f → ⊥
                    apart u call e = let r : order f < order (g.owner u) = calls.falls u f call in let q : order (g.owner u) ≡ order f = ap order e in let bad : ⊥ = omega arith in bad

                    same : (e : ℕ) → IsReturningCall g f e → context_of g l w (record n { context = before.0 }) e ≡ context_of g l w (record n { context = λ h. cond (nat_eq h f) (k f) (before.0 h) }) e
                    same e r = ap (λ x. n.left (g.source e) - cost g n w e + turns_round l n (Some (g.source e)) + x)
                        (sym (ap (λ b. cond b (k f) (before.0 (g.owner (g.source e)))) (ne_eqb (g.owner (g.source e)) f (apart (g.source e) (e, r.edge, refl, r.calls)))))

                    moved : (o : Option ℕ) → IsGreatestIfAny (IsReturningCall g f) (context_of g l w (record n { context = before.0 })) o →
                        IsGreatestIfAny (IsReturningCall g f) (context_of g l w (record n { context = λ h. cond (nat_eq h f) (k f) (before.0 h) })) o
                    moved None h = h
                    moved (Some m) h = record {
                      reached = (h.reached.0, h.reached.1, sym (same h.reached.0 h.reached.1) ∙ h.reached.2);
                      most = λ e r. subst (λ y. y ≤ m) (same e r) (h.most e r);
                    }

                pick : (b : Bool) → ltb (order f + m) g.functions ≡ b → IsContext g l w (record n { context = new }) f
                pick true is = fresh (ℕ_discrete f 0) new (ap (λ b. cond b (value f) (before.0 f)) is) callers
                pick false is = context_same n before.0 new f (sym (ap (λ b. cond b (value f) (before.0 f)) is)) callers
                    (before.1 f fl (ltb-false (order f + m) g.functions is))

-- all numbers of an accepted program, under any weights
pub numbers_exist : (g : Graph) (l : Loops) (extent : ℕ → ℕ → Bool) (w : ℕ → ℕ) (prog : IsProgram g) (acc : AreAccepted g l extent)
    (count : ℕ) (place : ℕ → ℕ) → IsPlainOrder g l count place → (order : ℕ → ℕ) → IsCallOrder g order → (n : Numbers) × AreNumbers g l w n
numbers_exist g l extent w prog acc count place plainly order calls = go (worst_numbers g l extent prog acc count place plainly order calls w (λ f. 0))
  where
    go : (n : Numbers) × AreLoopNumbers g l (cost g n w) n × AreWorst g l w n × (n.context ≡ (λ f. 0)) → (n : Numbers) × AreNumbers g l w n
    go found = (
      record found.0 { context = k.0 },
      record {
        worst = found.2;
        loops = record {
          iteration = found.1.iteration;
          plain = found.1.plain;
          closing = found.1.closing;
          left = λ v. left_same l found.0 (record found.0 { context = k.0 }) v refl refl (λ k. refl) (λ k. refl) (λ k kl r ne. refl) (found.1.left v);
        };
        context = λ f fl. k.1 f fl (omega arith);
      },
    )
      where
        k : (k : ℕ → ℕ) × ((f : ℕ) → f < g.functions → g.functions ≤ order f + g.functions → IsContext g l w (record found.0 { context = k }) f)
        k = context_above g l w prog order calls found.0 g.functions
