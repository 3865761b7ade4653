-- Names in a string table, and the search of an entry.
use Rattle.std.proofs.Common.{◌≡◌, ℕ, suc, ◌+◌, ◌-◌, ◌<◌, Bool, true, false, ◌&&◌, List, [], ◌∷◌, ◌++◌, length, get_or, refl, arith}
use Rattle.std.specs.Prelude.{nat_eq}
use Rattle.std.specs.List.{find, range_with_len, starts_with}
use Rattle.std.proofs.lemmas.Bool.Decides.{nat_tests}

sym_eq : (y : ℕ) → (nat_eq 0 y && true) ≡ (true && nat_eq y 0)
sym_eq y = grind (arith, nat_tests)

join : (a b c d : Bool) → b ≡ (c && d) → (a && b) ≡ ((a && c) && d)
join true b c d e = e
join false b c d e = refl

pub starts_with-text : (bytes name : List ℕ) → length name < length bytes → starts_with nat_eq bytes (name ++ 0 ∷ []) ≡ (starts_with nat_eq bytes name && nat_eq (get_or bytes (length name) 0) 0)
starts_with-text [] name lt = absurd (omega arith)
starts_with-text (y ∷ ys) [] lt = sym_eq y
starts_with-text (y ∷ ys) (x ∷ xs) lt = join (nat_eq x y) (starts_with nat_eq ys (xs ++ 0 ∷ [])) (starts_with nat_eq ys xs) (nat_eq (get_or ys (length xs) 0) 0) (starts_with-text ys xs (omega arith))

pub find-next : (p : ℕ → Bool) (n k : ℕ) → k < n → p k ≡ false → find p (range_with_len k (n - k)) ≡ find p (range_with_len (k + 1) (n - (k + 1)))
find-next p n k lt e =
    let more : n - k ≡ suc (n - (k + 1)) = omega arith in
    rw (more, e) refl
