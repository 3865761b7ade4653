-- Accepted loops have their numbers.
use Rattle.std.proofs.Common.{◌≡◌, ℕ, zero, suc, ◌-◌, ◌<◌, Bool, true, false, not, ◌&&◌, ◌||◌, ◌⊎◌, inl, inr, List, [], ◌∷◌, Option, Some, None, refl, ap, ◌∙◌, arith, ⊎_elim, le_refl}
use Rattle.cost_theory.specs.Graph.{Graph, Loops, total, is_round, is_back, any_below, IsPlain, IsPlainPath, IsClosing}
use Rattle.cost_theory.specs.Worst.{IsGreatest, IsGreatestIfAny}
use Rattle.cost_theory.specs.Accepted.{IsProgram, IsPlainOrder}
use Rattle.cost_theory.proofs.Basics.{and_left, and_right, and_both, not_true}
use Rattle.cost_theory.specs.LeastTurns.{IsRun}
use Rattle.cost_theory.proofs.Greatest.{best_run, best_run-is, greatest_as}

-- the tests of an edge
abbrev pub plain_test : Graph → Loops → ℕ → Bool
plain_test g l e = not (any_below l.loops (λ k. is_back g l k e))

abbrev pub within_test : Graph → Loops → ℕ → ℕ → Bool
within_test g l k e = plain_test g l e && is_round l k (g.target e)

pub any-none : (n : ℕ) (p : ℕ → Bool) → any_below n p ≡ false → (k : ℕ) → k < n → p k ≡ false
any-none zero p h k lt = let bad : ⊥ = omega arith in absurd bad
any-none (suc n) p h k lt = ⊎_elim (λ below. any-none n p (left (any_below n p) (p n) h) k below) (λ e. ap p e ∙ right (any_below n p) (p n) h) (cases k n lt)
  where
    cases : (k n : ℕ) → k < suc n → (k < n) ⊎ (k ≡ n)
    cases k n h = grind arith

    left : (a b : Bool) → (a || b) ≡ false → a ≡ false
    left a b h = grind arith

    right : (a b : Bool) → (a || b) ≡ false → b ≡ false
    right a b h = grind arith

pub none-any : (n : ℕ) (p : ℕ → Bool) → ((k : ℕ) → k < n → p k ≡ false) → any_below n p ≡ false
none-any zero p h = refl
none-any (suc n) p h = both (any_below n p) (p n) (none-any n p (λ k lt. h k (omega arith))) (h n (omega arith))
  where
    both : (a b : Bool) → a ≡ false → b ≡ false → (a || b) ≡ false
    both a b p q = grind arith

pub test-plain : (g : Graph) (l : Loops) (e : ℕ) → plain_test g l e ≡ true → IsPlain g l e
test-plain g l e h = any-none l.loops (λ k. is_back g l k e) (not_true (any_below l.loops (λ k. is_back g l k e)) h)

pub plain-test : (g : Graph) (l : Loops) (e : ℕ) → IsPlain g l e → plain_test g l e ≡ true
plain-test g l e plain = ap not (none-any l.loops (λ k. is_back g l k e) plain)

module _ (g : Graph) (l : Loops) where
  pub run_plain : (es : List ℕ) (p : Option ℕ) → IsPlainPath g l p es → IsRun g true (λ e. false) (plain_test g l) p es
  run_plain [] p path = refl
  run_plain (e ∷ es) p path = (path.0, path.1, inr (plain-test g l e path.2, run_plain es (g.target e) path.3))

  pub plain_run : (es : List ℕ) (p : Option ℕ) → IsRun g true (λ e. false) (plain_test g l) p es → IsPlainPath g l p es
  plain_run [] p run = tt
  plain_run (e ∷ es) p run = go run.2 (λ r. plain_run es (g.target e) r)
    where
      go : (((false ≡ true) × (es ≡ [])) ⊎ ((plain_test g l e ≡ true) × IsRun g true (λ e. false) (plain_test g l) (g.target e) es)) →
          (IsRun g true (λ e. false) (plain_test g l) (g.target e) es → IsPlainPath g l (g.target e) es) → IsPlainPath g l p (e ∷ es)
      go (inl bad) ih = let b : false ≡ true = bad.0 in let no_way : ⊥ = cc in absurd no_way
      go (inr more) ih = (run.0, run.1, test-plain g l e more.0, ih more.1)

  pub run_closing : (k : ℕ) (es : List ℕ) (p : Option ℕ) → IsClosing g l k p es → IsRun g false (is_back g l k) (within_test g l k) p es
  run_closing k [] p closes = absurd closes
  run_closing k (e ∷ es) p closes = (
    closes.0,
    closes.1,
    ⊎_elim (λ a. inl a)
        (λ b. inr (and_both (plain_test g l e) (is_round l k (g.target e)) (plain-test g l e b.0) b.1, run_closing k es (g.target e) b.2)) closes.2,
  )

  pub closing_run : (k : ℕ) (es : List ℕ) (p : Option ℕ) → IsRun g false (is_back g l k) (within_test g l k) p es → IsClosing g l k p es
  closing_run k [] p run = let b : false ≡ true = run in let bad : ⊥ = cc in absurd bad
  closing_run k (e ∷ es) p run = (
    run.0,
    run.1,
    ⊎_elim (λ a. inl a)
        (λ b. inr (test-plain g l e (and_left (plain_test g l e) (is_round l k (g.target e)) b.0), and_right (plain_test g l e) (is_round l k (g.target e)) b.0, closing_run k es (g.target e) b.1)) run.2,
  )

  module _ (prog : IsProgram g) (count : ℕ) (place : ℕ → ℕ) (order : IsPlainOrder g l count place) where
    pub far : ℕ → ℕ
    far v = count - place v

    pub nearer : (e v : ℕ) → e < g.edges → IsPlain g l e → g.target e ≡ Some v → far v < far (g.source e)
    unfolding far
    nearer e v lt plain to =
        let a : place (g.source e) < place v = order.rises e v lt plain to in
        let b : place v < count = order.below v (prog.stays e v lt to).0 in
        omega arith

    -- plain and closing paths, for any costs
    pub best_plain : (c : ℕ → ℕ) (v : ℕ) → (x : ℕ) × IsGreatest (IsPlainPath g l (Some v)) (total c) x
    best_plain c v = go (best_run g true (λ e. false) (plain_test g l) c (suc (far v)) (Some v))
        (greatest_as (IsRun g true (λ e. false) (plain_test g l) (Some v)) (IsPlainPath g l (Some v)) (total c)
        (best_run g true (λ e. false) (plain_test g l) c (suc (far v)) (Some v)) (λ es r. plain_run es (Some v) r) (λ es r. run_plain es (Some v) r)
        (best_run-is g true (λ e. false) (plain_test g l) c far (λ e u lt st to. nearer e u lt (test-plain g l e st) to) (far v) v (le_refl (far v))))
      where
        go : (o : Option ℕ) → IsGreatestIfAny (IsPlainPath g l (Some v)) (total c) o → (x : ℕ) × IsGreatest (IsPlainPath g l (Some v)) (total c) x
        go None h = absurd (h [] tt)
        go (Some x) h = (x, h)

    pub best_closing : (c : ℕ → ℕ) (k v : ℕ) → (o : Option ℕ) × IsGreatestIfAny (IsClosing g l k (Some v)) (total c) o
    best_closing c k v = (
      best_run g false (is_back g l k) (within_test g l k) c (suc (far v)) (Some v),
      greatest_as (IsRun g false (is_back g l k) (within_test g l k) (Some v)) (IsClosing g l k (Some v)) (total c)
          (best_run g false (is_back g l k) (within_test g l k) c (suc (far v)) (Some v)) (λ es r. closing_run k es (Some v) r) (λ es r. run_closing k es (Some v) r)
          (best_run-is g false (is_back g l k) (within_test g l k) c far
          (λ e u lt st to. nearer e u lt (test-plain g l e (and_left (plain_test g l e) (is_round l k (g.target e)) st)) to) (far v) v (le_refl (far v))),
    )
