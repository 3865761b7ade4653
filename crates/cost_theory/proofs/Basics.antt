-- Sums over loops, searches below a count, and paths that are put together.
use Rattle.std.proofs.Common.{◌≡◌, ◌≢◌, ℕ, zero, suc, ◌+◌, ◌*◌, ◌-◌, ◌<◌, ◌≤◌, Bool, true, false, cond, not, ◌&&◌, ◌⊎◌, inl, inr, List, [], ◌∷◌, ◌++◌, Option, Some, None, is_some, refl, sym, ap, ◌∙◌, subst, arith, le_refl, ⊎_elim, mul-le-mul_right, sub-le}
use Rattle.cost_theory.specs.Graph.{total, sum_below, only, find_below, or_else}

-- a number below suc n is below n, or n
pub below_suc : (k n : ℕ) → k < suc n → (k < n) ⊎ (k ≡ n)
below_suc k n h = grind arith

-- a test holds somewhere below n, or nowhere
pub search_below : (n : ℕ) (p : ℕ → Bool) → ((k : ℕ) × (k < n) × (p k ≡ true)) ⊎ ((k : ℕ) → k < n → p k ≡ false)
search_below zero p = inr (λ k h. absurd (let no : ⊥ = omega arith in no))
search_below (suc n) p = go (search_below n p) (p n) refl
  where
    go : ((k : ℕ) × (k < n) × (p k ≡ true)) ⊎ ((k : ℕ) → k < n → p k ≡ false) → (b : Bool) → p n ≡ b →
        ((k : ℕ) × (k < suc n) × (p k ≡ true)) ⊎ ((k : ℕ) → k < suc n → p k ≡ false)
    go (inl (k, h, e)) b eb = inl (k, omega arith, e)
    go (inr none) true eb = inl (n, omega arith, eb)
    go (inr none) false eb = inr (λ k h. ⊎_elim (λ lt. none k lt) (λ e. ap p e ∙ eb) (below_suc k n h))

-- one term is at most the sum
pub term-le-sum : (n : ℕ) (f : ℕ → ℕ) (k : ℕ) → k < n → f k ≤ sum_below n f
term-le-sum zero f k h = omega arith
term-le-sum (suc n) f k h = ⊎_elim
    (λ lt. let ih : f k ≤ sum_below n f = term-le-sum n f k lt in let g : f k ≤ sum_below n f + f n = omega arith in g)
    (λ e. let q : f k ≡ f n = ap f e in let g : f k ≤ sum_below n f + f n = omega arith in g)
    (below_suc k n h)

pub sum-add : (n : ℕ) (f g : ℕ → ℕ) → sum_below n (λ k. f k + g k) ≡ sum_below n f + sum_below n g
sum-add zero f g = refl
sum-add (suc n) f g = let ih : sum_below n (λ k. f k + g k) ≡ sum_below n f + sum_below n g = sum-add n f g in omega arith

pub sum-same : (n : ℕ) (f g : ℕ → ℕ) → ((k : ℕ) → k < n → f k ≡ g k) → sum_below n f ≡ sum_below n g
sum-same zero f g h = refl
sum-same (suc n) f g h =
    let ih : sum_below n f ≡ sum_below n g = sum-same n f g (λ k lt. h k (omega arith)) in
    let last : f n ≡ g n = h n (omega arith) in
    omega arith

pub sum-le : (n : ℕ) (f g : ℕ → ℕ) → ((k : ℕ) → k < n → f k ≤ g k) → sum_below n f ≤ sum_below n g
sum-le zero f g h = le_refl 0
sum-le (suc n) f g h =
    let ih : sum_below n f ≤ sum_below n g = sum-le n f g (λ k lt. h k (omega arith)) in
    let last : f n ≤ g n = h n (omega arith) in
    omega arith

pub sum-none : (n : ℕ) (f : ℕ → ℕ) → ((k : ℕ) → k < n → f k ≡ 0) → sum_below n f ≡ 0
sum-none zero f h = refl
sum-none (suc n) f h =
    let ih : sum_below n f ≡ 0 = sum-none n f (λ k lt. h k (omega arith)) in
    let last : f n ≡ 0 = h n (omega arith) in
    omega arith

-- where at most one term is there, it is the sum
pub sum-one : (n : ℕ) (f : ℕ → ℕ) (j : ℕ) → j < n → ((k : ℕ) → k < n → k ≢ j → f k ≡ 0) → sum_below n f ≡ f j
sum-one zero f j lt h = omega arith
sum-one (suc n) f j lt h = ⊎_elim
    (λ below. let ih : sum_below n f ≡ f j = sum-one n f j below (λ k kn ne. h k (omega arith) ne) in
    let last : f n ≡ 0 = h n (omega arith) (omega arith) in
    let g : sum_below n f + f n ≡ f j = omega arith in g)
    (λ e. let rest : sum_below n f ≡ 0 = sum-none n f (λ k kn. h k (omega arith) (omega arith)) in
    let q : f n ≡ f j = ap f (sym e) in
    let g : sum_below n f + f n ≡ f j = omega arith in g)
    (below_suc j n lt)

pub total-append : (c : ℕ → ℕ) (xs ys : List ℕ) → total c (xs ++ ys) ≡ total c xs + total c ys
total-append c [] ys = omega arith
total-append c (x ∷ xs) ys = let ih : total c (xs ++ ys) ≡ total c xs + total c ys = total-append c xs ys in omega arith

-- both tests of a conjunction that holds
pub and_left : (a b : Bool) → (a && b) ≡ true → a ≡ true
and_left true b e = refl
and_left false b e = e

pub and_right : (a b : Bool) → (a && b) ≡ true → b ≡ true
and_right true b e = e
and_right false b e = grind arith

pub and_both : (a b : Bool) → a ≡ true → b ≡ true → (a && b) ≡ true
and_both a b p q = grind arith

pub only_true : (b : Bool) (x : ℕ) → b ≡ true → only b x ≡ x
only_true b x e = ap (λ t. only t x) e

pub only_false : (b : Bool) (x : ℕ) → b ≡ false → only b x ≡ 0
only_false b x e = ap (λ t. only t x) e

pub and_false : (b : Bool) → (b && false) ≡ false
and_false true = refl
and_false false = refl

pub not_true : (b : Bool) → not b ≡ true → b ≡ false
not_true true e = sym e
not_true false e = refl

pub sum-lt : (n : ℕ) (f g : ℕ → ℕ) (i : ℕ) → i < n → ((k : ℕ) → k < n → f k ≤ g k) → f i < g i → sum_below n f < sum_below n g
sum-lt zero f g i lt h more = let bad : ⊥ = omega arith in absurd bad
sum-lt (suc n) f g i lt h more = ⊎_elim
    (λ below. let ih : sum_below n f < sum_below n g = sum-lt n f g i below (λ k kl. h k (omega arith)) more in
    let last : f n ≤ g n = h n (omega arith) in
    let r : sum_below n f + f n < sum_below n g + g n = omega arith in r)
    (λ e. let rest : sum_below n f ≤ sum_below n g = sum-le n f g (λ k kl. h k (omega arith)) in
    let last : f n < g n = subst (λ j. f j < g j) e more in
    let r : sum_below n f + f n < sum_below n g + g n = omega arith in r)
    (below_suc i n lt)

pub some_value : (o : Option ℕ) → is_some o ≡ true → (v : ℕ) × (o ≡ Some v)
some_value None h = let bad : ⊥ = cc in absurd bad
some_value (Some v) h = (v, refl)

-- what is found passes the test
pub find-holds : (n : ℕ) (p : ℕ → Bool) (k : ℕ) → find_below n p ≡ Some k → (k < n) × (p k ≡ true)
find-holds zero p k e = let bad : ⊥ = cc in absurd bad
find-holds (suc n) p k e = go (find_below n p) refl (λ r. find-holds n p k r)
  where
    here : (b : Bool) → p n ≡ b → cond b (Some n) None ≡ Some k → (k < suc n) × (p k ≡ true)
    here true is q = let r : n ≡ k = cc in (omega arith, subst (λ i. p i ≡ true) r is)
    here false is q = let bad : ⊥ = cc in absurd bad

    go : (o : Option ℕ) → find_below n p ≡ o → (find_below n p ≡ Some k → (k < n) × (p k ≡ true)) → (k < suc n) × (p k ≡ true)
    go None is ih = here (p n) refl (subst (λ o. or_else o (cond (p n) (Some n) None) ≡ Some k) is e)
    go (Some j) is ih =
        let q : Some j ≡ Some k = subst (λ o. or_else o (cond (p n) (Some n) None) ≡ Some k) is e in
        let r : (k < n) × (p k ≡ true) = ih (is ∙ q) in
        let lt : k < n = r.0 in
        (omega arith, r.1)

pub only-turns : (b : Bool) (bound count cost : ℕ) → only b ((bound - count) * cost) ≤ only b (bound * cost)
only-turns true bound count cost = mul-le-mul_right cost (sub-le bound count)
only-turns false bound count cost = le_refl 0

pub ones-le : (n : ℕ) (p : ℕ → Bool) → sum_below n (λ k. only (p k) 1) ≤ n
ones-le zero p = le_refl 0
ones-le (suc n) p =
    let ih : sum_below n (λ k. only (p k) 1) ≤ n = ones-le n p in
    let one : only (p n) 1 ≤ 1 = most (p n) in
    omega arith
  where
    most : (b : Bool) → only b 1 ≤ 1
    most true = le_refl 1
    most false = omega arith

pub find-some : (n : ℕ) (p : ℕ → Bool) (k : ℕ) → k < n → p k ≡ true → is_some (find_below n p) ≡ true
find-some zero p k lt h = let bad : ⊥ = omega arith in absurd bad
find-some (suc n) p k lt h = go (find_below n p) (p n) refl refl (λ low. find-some n p k low h)
  where
    go : (o : Option ℕ) (b : Bool) → find_below n p ≡ o → p n ≡ b → (k < n → is_some (find_below n p) ≡ true) → is_some (or_else o (cond b (Some n) None)) ≡ true
    go (Some x) b is t ih = refl
    go None true is t ih = refl
    go None false is t ih = ⊎_elim
        (λ low. let a : is_some (find_below n p) ≡ true = ih low in let c : false ≡ true = subst (λ (o : Option ℕ). is_some o ≡ true) is a in let bad : ⊥ = cc in absurd bad)
        (λ e. let a : p n ≡ true = subst (λ i. p i ≡ true) e h in let bad : ⊥ = cc in absurd bad)
        (below_suc k n lt)
