-- Sums of sums and of multiples.
use Rattle.std.proofs.Common.{◌≡◌, ℕ, zero, suc, ◌+◌, ◌*◌, ◌<◌, Bool, true, false, nat_eq, List, [], ◌∷◌, Option, Some, None, refl, sym, ap, ◌∙◌, arith, eqb-true, eq-eqb}
use Rattle.cost_theory.specs.Graph.{total, sum_below, only}
use Rattle.cost_theory.specs.Worst.{at_some}
use Rattle.cost_theory.proofs.Laws.{sum-none, sum-one}
use Rattle.walk_laws.proofs.Joined.{sum-add}
use Rattle.walk_laws.specs.Walks.{is_number}

pub mul-add : (a b c : ℕ) → a * (b + c) ≡ a * b + a * c
mul-add a b c = omega arith

pub sum-mul : (n a : ℕ) (f : ℕ → ℕ) → sum_below n (λ k. a * f k) ≡ a * sum_below n f
sum-mul zero a f = omega arith
sum-mul (suc n) a f = let ih : sum_below n (λ k. a * f k) ≡ a * sum_below n f = sum-mul n a f in ap (λ x. x + a * f n) ih ∙ sym (mul-add a (sum_below n f) (f n))

pub sum-swap : (n m : ℕ) (f : ℕ → ℕ → ℕ) → sum_below n (λ i. sum_below m (λ j. f i j)) ≡ sum_below m (λ j. sum_below n (λ i. f i j))
sum-swap zero m f = sym (sum-none m (λ j. 0) (λ k kl. refl))
sum-swap (suc n) m f = ap (λ x. x + sum_below m (λ j. f n j)) (sum-swap n m f) ∙ sym (sum-add m (λ j. sum_below n (λ i. f i j)) (λ j. f n j))

pub only-mul : (b : Bool) (x : ℕ) → only b x ≡ x * only b 1
only-mul true x = omega arith
only-mul false x = omega arith

pub total-add : (c d : ℕ → ℕ) (es : List ℕ) → total (λ e. c e + d e) es ≡ total c es + total d es
total-add c d [] = refl
total-add c d (e ∷ es) = let ih : total (λ e. c e + d e) es ≡ total c es + total d es = total-add c d es in omega arith

-- a table at the number of a function is the sum over all functions of what is there at that function
pub at-some-sum : (n : ℕ) (o : Option ℕ) (f : ℕ → ℕ) → ((h : ℕ) → o ≡ Some h → h < n) → at_some o f ≡ sum_below n (λ h. f h * only (is_number h o) 1)
at-some-sum n None f below = sym (sum-none n (λ h. f h * 0) (λ h hl. omega arith))
at-some-sum n (Some j) f below =
    sym (sum-one n (λ h. f h * only (nat_eq j h) 1) j (below j refl) (λ h hl ne. other h (nat_eq j h) ne refl) ∙
    ap (λ b. f j * only b 1) (eq-eqb j j refl) ∙ (omega arith))
  where
    other : (h : ℕ) (b : Bool) → (h ≡ j → ⊥) → nat_eq j h ≡ b → f h * only b 1 ≡ 0
    other h false ne is = omega arith
    other h true ne is = absurd (ne (sym (eqb-true j h is)))
