-- Lists, one element more.
use Rattle.std.proofs.Common.{◌≡◌, ℕ, zero, suc, ◌+◌, ◌<◌, ◌≤◌, List, [], ◌∷◌, ◌++◌, map, length, slice_get, Some, refl, ap, arith}
use Rattle.worst_cycles.specs.Worst.{by_edge}

pub get_some : {A : Type 0} (xs : List A) (i : ℕ) (d : A) → i < length xs → slice_get xs i ≡ Some (Rattle.std.proofs.Common.get_or xs i d)
get_some [] i d lt = let bad : ⊥ = omega arith in absurd bad
get_some (x ∷ xs) zero d lt = refl
get_some (x ∷ xs) (suc i) d lt = get_some xs i d (omega arith)

pub map_take_more : {A B : Type 0} (f : A → B) (xs : List A) (i : ℕ) (d : A) → i < length xs → map f (Rattle.std.proofs.Common.take (suc i) xs) ≡ map f (Rattle.std.proofs.Common.take i xs) ++ f (Rattle.std.proofs.Common.get_or xs i d) ∷ []
map_take_more f [] i d lt = let bad : ⊥ = omega arith in absurd bad
map_take_more f (x ∷ xs) zero d lt = refl
map_take_more f (x ∷ xs) (suc i) d lt = ap (λ ys. f x ∷ ys) (map_take_more f xs i d (omega arith))

pub take_all : {A : Type 0} (xs : List A) (n : ℕ) → length xs ≤ n → Rattle.std.proofs.Common.take n xs ≡ xs
take_all [] zero le = refl
take_all [] (suc n) le = refl
take_all (x ∷ xs) zero le = let bad : ⊥ = omega arith in absurd bad
take_all (x ∷ xs) (suc n) le = ap (λ ys. x ∷ ys) (take_all xs n (omega arith))

pub step_is : (i : ℕ) → i + 1 ≡ suc i
step_is i = omega arith

pub past_end : (xs : List ℕ) (e : ℕ) → length xs ≤ e → by_edge xs e ≡ 0
past_end [] e h = refl
past_end (x ∷ xs) zero h = let bad : ⊥ = omega arith in absurd bad
past_end (x ∷ xs) (suc e) h = past_end xs e (omega arith)
