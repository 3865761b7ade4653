-- The byte at an address by the first part that has it.
use Rattle.std.proofs.Common.{◌≡◌, ◌<◌, ◌≤◌, ◌+◌, ◌-◌, get_or, ℕ, zero, suc, Bool, true, cond, List, [], ◌∷◌, length, drop, sym, ap, ◌∙◌, subst, arith, Some}
use Rattle.std.specs.List.{find}
use Rattle.std.specs.Prelude.{slice_get, nat_le, nat_lt}
use Rattle.std.proofs.lemmas.Bool.{and_parts, cond-true, leb-true, ltb-true}
use Rattle.std.proofs.lemmas.Option.{slice_get-get_or}
use Rattle.stack_tables.specs.declared.tables.FixedPart.{FixedPart}
use Rattle.stack_tables.specs.Tables.{byte_of, has_address}

found_from : {A : Type 0} (p : A → Bool) (xs : List A) (k : ℕ) (x : A) → slice_get xs k ≡ Some x → find p (drop k xs) ≡ cond (p x) (Some x) (find p (drop (k + 1) xs))
found_from p [] k x at = let bad : ⊥ = cc in absurd bad
found_from p (y ∷ xs) zero x at = let same : y ≡ x = cc in ap (λ z. cond (p z) (Some z) (find p xs)) same
found_from p (y ∷ xs) (suc k) x at = subst (λ n. find p (drop k xs) ≡ cond (p x) (Some x) (find p (drop n (y ∷ xs)))) (let e : suc (k + 1) ≡ suc k + 1 = omega arith in e) (found_from p xs k x at)

pub byte_found : (at : ℕ) (parts : List FixedPart) (k : ℕ) (p : FixedPart) → k < length parts → p ≡ get_or parts k p → has_address at p ≡ true → find (has_address at) (drop k parts) ≡ find (has_address at) parts →
    (b : ℕ) → b ≡ get_or p.bytes.items (at - p.from) b → Some b ≡ byte_of at (find (has_address at) parts)
byte_found at parts k p lt is has_it so_far b byte =
    let h = and_parts (nat_le p.from at) (nat_lt at (p.from + length p.bytes.items)) has_it in
    let low : p.from ≤ at = leb-true p.from at h.0 in
    let high : at < p.from + length p.bytes.items = ltb-true at (p.from + length p.bytes.items) h.1 in
    let there : slice_get parts k ≡ Some p = slice_get-get_or parts k p lt ∙ ap Some (sym is) in
    let first : find (has_address at) (drop k parts) ≡ Some p = found_from (has_address at) parts k p there ∙ cond-true (has_address at p) (Some p) (find (has_address at) (drop (k + 1) parts)) has_it in
    let here : slice_get p.bytes.items (at - p.from) ≡ Some b = slice_get-get_or p.bytes.items (at - p.from) b (omega (arith, low, high)) ∙ ap Some (sym byte) in
    sym (sym (ap (byte_of at) so_far) ∙ (ap (byte_of at) first ∙ here))
