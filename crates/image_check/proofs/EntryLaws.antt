-- Which entries are safe.
use Rattle.std.proofs.Common.{◌≡◌, ◌⊎◌, inl, inr, ⊎_elim, ℕ, ◌<◌, Bool, true, false, ◌&&◌, ◌||◌, refl, sym, ap, ◌∙◌}
use Rattle.std.specs.Prelude.{◌==◌, nat_lt, length}
use Rattle.std.proofs.lemmas.Bool.{eqb-true, eq-eqb, ltb-true, lt-ltb, both_ways}
use Rattle.power_model.specs.Numbers.{PowerModel}
use Rattle.level_tables.specs.Tables.{meets_both}
use Rattle.level_tables.specs.declared.edge_numbers.EdgeNumbers.{EdgeNumbers}
use Rattle.stored_runs.specs.Meaning.{four_bits}
use Rattle.paid_runs.specs.Tabled.{IsSafeEntry}
use Rattle.image_check.specs.Causes.{IsBadEntry}
use Rattle.image_check.specs.Entries.{is_safe}

-- ---- an entry

or_true : (a b : Bool) → a || b ≡ true → (a ≡ true) ⊎ (b ≡ true)
or_true true b e = inl refl
or_true false b e = inr e

and_true : (a b : Bool) → a && b ≡ true → (a ≡ true) × (b ≡ true)
and_true true b e = (refl, e)
and_true false b e = let bad : ⊥ = cc in absurd bad

true_or : (a b : Bool) → (a ≡ true) ⊎ (b ≡ true) → a || b ≡ true
true_or true b h = refl
true_or false b (inl e) = let bad : ⊥ = cc in absurd bad
true_or false b (inr e) = e

true_and : (a b : Bool) → a ≡ true → b ≡ true → a && b ≡ true
true_and true b e f = f
true_and false b e f = e

pub safe_to : (power : PowerModel) (told : EdgeNumbers) (i j : ℕ) → is_safe power told i j ≡ true → IsSafeEntry power told i j
safe_to power told i j e = ⊎_elim
    (λ (same : (j == i) ≡ true). inl (eqb-true j i same))
    (λ (both : nat_lt j i && meets_both power told i j ≡ true). let parts = and_true (nat_lt j i) (meets_both power told i j) both in inr ((ltb-true j i parts.0, parts.1)))
    (or_true (j == i) (nat_lt j i && meets_both power told i j) e)

pub safe_from : (power : PowerModel) (told : EdgeNumbers) (i j : ℕ) → IsSafeEntry power told i j → is_safe power told i j ≡ true
safe_from power told i j (inl same) = true_or (j == i) (nat_lt j i && meets_both power told i j) (inl (eq-eqb j i same))
safe_from power told i j (inr (lower, meets)) =
    true_or (j == i) (nat_lt j i && meets_both power told i j) (inr (true_and (nat_lt j i) (meets_both power told i j) (lt-ltb j i lower) meets))

pub bad_entry : (power : PowerModel) (told : EdgeNumbers) (word i entry : ℕ) → i < length power.levels → entry ≡ four_bits word i → is_safe power told i entry ≡ false → IsBadEntry power told word i
bad_entry power told word i entry lt is bad =
    (lt, λ safe. both_ways (is_safe power told i (four_bits word i)) (ap (is_safe power told i) (sym is) ∙ bad) (safe_from power told i (four_bits word i) safe))

pub good_entry : (power : PowerModel) (told : EdgeNumbers) (word i entry : ℕ) → entry ≡ four_bits word i → is_safe power told i entry ≡ true → IsBadEntry power told word i → ⊥
good_entry power told word i entry is good (lt, bad) = bad (safe_to power told i (four_bits word i) (ap (is_safe power told i) (sym is) ∙ good))
