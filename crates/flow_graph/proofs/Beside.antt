-- Entries of lists that stand beside each other.
use Rattle.std.proofs.Common.{◌≡◌, ℕ, zero, suc, ◌<◌, Bool, true, false, cond, List, [], ◌∷◌, length, get_or, map, Some, nat_eq, refl, ap, ◌∙◌, arith, ◌⊎◌, inl, inr, ⊎_elim, eqb-true, eq-eqb}
use Rattle.std.specs.Prelude.{slice_get}
use Rattle.std.proofs.lemmas.Bool.{cases_eq}
use Rattle.std.proofs.lemmas.Option.{slice_get-get_or}
use Rattle.cost_theory.specs.declared.flow.Flow.{Flow}
use Rattle.cost_theory.specs.Reached.{number_beside}
use Rattle.code_text.specs.Walk.{RiseStrictly}
use Rattle.flow_graph.specs.FlowGraph.{word_beside}

-- no number stands at two places
abbrev pub Once : List ℕ → Type 0
Once xs = (i j a : ℕ) → slice_get xs i ≡ Some a → slice_get xs j ≡ Some a → i ≡ j

abbrev pub Ascend : List ℕ → Type 0
Ascend xs = (i j a b : ℕ) → i < j → slice_get xs i ≡ Some a → slice_get xs j ≡ Some b → a < b

-- one of three, of two numbers
pub less_same_more : (i j : ℕ) → (i < j) ⊎ ((i ≡ j) ⊎ (j < i))
less_same_more zero zero = inr (inl refl)
less_same_more zero (suc j) = inl (omega arith)
less_same_more (suc i) zero = inr (inr (omega arith))
less_same_more (suc i) (suc j) = ⊎_elim (λ (a : i < j). inl (omega (arith, a))) (λ (r : (i ≡ j) ⊎ (j < i)). ⊎_elim (λ (e : i ≡ j). inr (inl (ap suc e))) (λ (b : j < i). inr (inr (omega (arith, b)))) r) (less_same_more i j)

pub ascending_once : (xs : List ℕ) → Ascend xs → Once xs
ascending_once xs up i j a at_i at_j = ⊎_elim
    (λ (lt : i < j). let bad : a < a = up i j a a lt at_i at_j in absurd (omega arith))
    (λ (r : (i ≡ j) ⊎ (j < i)). ⊎_elim (λ (e : i ≡ j). e) (λ (gt : j < i). let bad : a < a = up j i a a gt at_j at_i in absurd (omega arith)) r)
    (less_same_more i j)

pub ascending_rise : (xs : List ℕ) → Ascend xs → RiseStrictly xs
ascending_rise xs up i j ij jl = up i j (get_or xs i 0) (get_or xs j 0) ij (slice_get-get_or xs i 0 (omega arith)) (slice_get-get_or xs j 0 jl)

pub once_tail : (x : ℕ) (xs : List ℕ) → Once (x ∷ xs) → Once xs
once_tail x xs once i j a at_i at_j = let e : suc i ≡ suc j = once (suc i) (suc j) a at_i at_j in omega arith

pub once_head : (x : ℕ) (xs : List ℕ) → Once (x ∷ xs) → (k a : ℕ) → slice_get xs k ≡ Some a → nat_eq x a ≡ false
once_head x xs once k a at = go (nat_eq x a) refl
  where
    go : (b : Bool) → nat_eq x a ≡ b → b ≡ false
    go true e = let same : x ≡ a = eqb-true x a e in let bad : 0 ≡ suc k = once 0 (suc k) a (ap Some same) at in absurd (omega arith)
    go false e = refl

pub some_is : {X : Type 0} (x y : X) → Some x ≡ Some y → x ≡ y
some_is x y e = cc

pub word_beside-get : (us : List ℕ) (ws : List Flow) (k v : ℕ) (w : Flow) → Once us → slice_get us k ≡ Some v → slice_get ws k ≡ Some w → word_beside us ws v ≡ w
word_beside-get [] ws k v w once at beside = let bad : ⊥ = cc in absurd bad
word_beside-get (u ∷ us) [] k v w once at beside = let bad : ⊥ = cc in absurd bad
word_beside-get (u ∷ us) (x ∷ ws) zero v w once at beside = ap (λ (b : Bool). cond b x (word_beside us ws v)) (eq-eqb u v (some_is u v at)) ∙ some_is x w beside
word_beside-get (u ∷ us) (x ∷ ws) (suc k) v w once at beside = ap (λ (b : Bool). cond b x (word_beside us ws v)) (once_head u us once k v at) ∙ word_beside-get us ws k v w (once_tail u us once) at beside

pub number_beside-get : (us ws : List ℕ) (k v w : ℕ) → Once us → slice_get us k ≡ Some v → slice_get ws k ≡ Some w → number_beside us ws v ≡ w
number_beside-get [] ws k v w once at beside = let bad : ⊥ = cc in absurd bad
number_beside-get (u ∷ us) [] k v w once at beside = let bad : ⊥ = cc in absurd bad
number_beside-get (u ∷ us) (x ∷ ws) zero v w once at beside = ap (λ (b : Bool). cond b x (number_beside us ws v)) (eq-eqb u v (some_is u v at)) ∙ some_is x w beside
number_beside-get (u ∷ us) (x ∷ ws) (suc k) v w once at beside = ap (λ (b : Bool). cond b x (number_beside us ws v)) (once_head u us once k v at) ∙ number_beside-get us ws k v w (once_tail u us once) at beside

-- the number stands at some place, or at none
pub place_or_none : (xs : List ℕ) (v : ℕ) → ((k : ℕ) × (slice_get xs k ≡ Some v)) ⊎ ((k : ℕ) → slice_get xs k ≡ Some v → ⊥)
place_or_none [] v = inr (λ k at. let bad : ⊥ = cc in bad)
place_or_none (x ∷ xs) v = ⊎_elim
    (λ (e : x ≡ v). inl (0, ap Some e))
    (λ (ne : x ≡ v → ⊥). ⊎_elim
    (λ (there : (k : ℕ) × (slice_get xs k ≡ Some v)). inl (suc there.0, there.1))
    (λ (none : (k : ℕ) → slice_get xs k ≡ Some v → ⊥). inr (λ k at. nowhere ne none k at))
    (place_or_none xs v))
    (cases_eq x v)
  where
    nowhere : (x ≡ v → ⊥) → ((k : ℕ) → slice_get xs k ≡ Some v → ⊥) → (k : ℕ) → slice_get (x ∷ xs) k ≡ Some v → ⊥
    nowhere ne none zero at = ne (some_is x v at)
    nowhere ne none (suc k) at = none k at

-- a list beside another, whose entries are its image
pub map_is : {X Y : Type 0} (f : X → Y) (xs : List X) (ys : List Y) → length ys ≡ length xs → ((j : ℕ) (x : X) → slice_get xs j ≡ Some x → slice_get ys j ≡ Some (f x)) → ys ≡ map f xs
map_is f [] [] size same = refl
map_is f [] (y ∷ ys) size same = let bad : ⊥ = omega arith in absurd bad
map_is f (x ∷ xs) [] size same = let bad : ⊥ = omega arith in absurd bad
map_is f (x ∷ xs) (y ∷ ys) size same =
    ap (λ z. z ∷ ys) (some_is y (f x) (same 0 x refl)) ∙ ap (λ zs. f x ∷ zs) (map_is f xs ys (let e : suc (length ys) ≡ suc (length xs) = size in omega arith) (λ j z at. same (suc j) z at))
