-- The tables of switches and exits: their words, their rows, and what a level that they name has met.
use Rattle.std.proofs.Common.{◌≡◌, ℕ, ◌+◌, ◌-◌, ◌*◌, ◌/◌, ◌^◌, ◌<◌, ◌≤◌, ◌⊎◌, inl, inr, Bool, true, false, ◌&&◌, nat_le, length, slice_index, Option, Some, None, unwrap_or, sym, ap, ◌∙◌, subst, arith}
use Rattle.std.specs.Prelude.{All}
use Rattle.std.specs.List.{range_with_len}
use Rattle.std.proofs.Math.Nat.{mul-le-mul_right}
use Rattle.std.proofs.lemmas.Bool.{and_parts}
use Rattle.std.proofs.lemmas.Bool.Decides.{nat_tests}
use Rattle.std.proofs.lemmas.List.Elements.{All-map}
use Rattle.std.proofs.lemmas.List.FromFn.{length-map-range_with_len}
use Rattle.power_model.specs.Numbers.{PowerModel}
use Rattle.level_tables.specs.Search.{least_below}
use Rattle.level_tables.specs.Tables.{meets_both, entry_by, nibble, word_by, shift_of, trips_left, at_row, row_by, all_rows_by, rows_of, behind_turns, goes_lowest, tally_shift, tally_from}
use Rattle.level_tables.specs.declared.edge_numbers.EdgeNumbers.{EdgeNumbers}
use Rattle.level_tables.proofs.Laws.{IsFound, least-is, nibbles-fit, entry-least, entries-low, word_by-at, row_by-at, trips_left-le}
use Rattle.stored_runs.specs.Stubbed.{IsTable}

pub leb-le : (x y : ℕ) → nat_le x y ≡ true → x ≤ y
leb-le x y e = grind (arith, nat_tests)

-- ---- words and rows are tables of levels

module _ (power : PowerModel) (test : EdgeNumbers → ℕ → ℕ → Bool) where
  pub word_is_table : (site : EdgeNumbers) → length power.levels ≤ 8 → IsTable (length power.levels) (word_by power test site)
  word_is_table site few = (
    nibbles-fit (entry_by test site) 0 (length power.levels) few (λ k h. entries-low test site k (length power.levels) few (omega arith)),
    λ i h. let e = word_by-at power test site i few h in let up = (entry-least test site i).up_to in omega (arith, e, up, h),
  )

  pub rows_by_count : (bound iteration : ℕ) (site : EdgeNumbers) → length (all_rows_by power test bound iteration site) ≡ bound / 2 ^ shift_of bound + 1
  rows_by_count bound iteration site = length-map-range_with_len (row_by power test bound iteration site) 0 (bound / 2 ^ shift_of bound + 1)

  pub rows_are_tables : (bound iteration : ℕ) (site : EdgeNumbers) → length power.levels ≤ 8 → All (IsTable (length power.levels)) (all_rows_by power test bound iteration site)
  rows_are_tables bound iteration site few =
      All-map (IsTable (length power.levels)) (row_by power test bound iteration site) (range_with_len 0 (bound / 2 ^ shift_of bound + 1)) (λ k d lt. word_is_table _ few)

shift_found : (bound : ℕ) → bound < 2 ^ 32 → (o : Option ℕ) → IsFound 32 (λ s. nat_le (bound / 2 ^ s) 15) o → (unwrap_or o 0 < 32) × (bound / 2 ^ unwrap_or o 0 ≤ 15)
shift_found bound small None none =
    let fails : nat_le (bound / 2 ^ 28) 15 ≡ false = none 28 (omega arith) in
    let passes : nat_le (bound / 2 ^ 28) 15 ≡ true = (let le : bound / 2 ^ 28 ≤ 15 = omega arith in grind (arith, nat_tests)) in
    let bad : ⊥ = cc in absurd bad
shift_found bound small (Some s) found = (found.0, leb-le (bound / 2 ^ s) 15 found.1)

pub shift_fits : (bound : ℕ) → bound < 2 ^ 32 → (shift_of bound < 32) × (bound / 2 ^ shift_of bound ≤ 15)
shift_fits bound small = shift_found bound small (least_below 32 (λ s. nat_le (bound / 2 ^ s) 15)) (least-is 32 (λ s. nat_le (bound / 2 ^ s) 15))

tally_found : (bound : ℕ) → bound < 2 ^ 32 → (o : Option ℕ) → IsFound 32 (λ s. nat_le (bound / 2 ^ s) 2045) o → (unwrap_or o 0 < 32) × (bound / 2 ^ unwrap_or o 0 ≤ 2045)
tally_found bound small None none =
    let fails : nat_le (bound / 2 ^ 28) 2045 ≡ false = none 28 (omega arith) in
    let passes : nat_le (bound / 2 ^ 28) 2045 ≡ true = (let le : bound / 2 ^ 28 ≤ 2045 = omega arith in grind (arith, nat_tests)) in
    let bad : ⊥ = cc in absurd bad
tally_found bound small (Some s) found = (found.0, leb-le (bound / 2 ^ s) 2045 found.1)

from_found : (test : ℕ → Bool) (o : Option ℕ) → IsFound 2047 (λ k. nat_le 1 k && test k) o → (1 ≤ unwrap_or o 2047) × (unwrap_or o 2047 < 2048)
from_found test None none = (omega arith, omega arith)
from_found test (Some k) found = (leb-le 1 k (and_parts (nat_le 1 k) (test k) found.1).0, (let low = found.0 in omega (arith, low)))

-- the numbers of a Tally fit its instructions
pub tally_fits : (power : PowerModel) (test : EdgeNumbers → ℕ → ℕ → Bool) (bound iteration : ℕ) (site : EdgeNumbers) → bound < 2 ^ 32
    → (tally_shift bound < 32) × (bound / 2 ^ tally_shift bound ≤ 2045) × (1 ≤ tally_from power test bound iteration site) × (tally_from power test bound iteration site < 2048)
tally_fits power test bound iteration site small =
    let s = tally_found bound small (least_below 32 (λ s. nat_le (bound / 2 ^ s) 2045)) (least-is 32 (λ s. nat_le (bound / 2 ^ s) 2045)) in
    let passes : ℕ → Bool = λ k. goes_lowest power test (behind_turns (k * 2 ^ tally_shift bound) iteration site) in
    let f = from_found passes (least_below 2047 (λ k. nat_le 1 k && passes k)) (least-is 2047 (λ k. nat_le 1 k && passes k)) in
    (s.0, s.1, f.0, f.1)

pub rows_count : (power : PowerModel) (bound iteration : ℕ) (site : EdgeNumbers) → length (rows_of power bound iteration site) ≡ bound / 2 ^ shift_of bound + 1
rows_count power bound iteration site = rows_by_count power (meets_both power) bound iteration site

-- ---- what a level of a word has met

pub record IsMet (test : EdgeNumbers → ℕ → ℕ → Bool) (site : EdgeNumbers) (i j : ℕ) : Type 0 where
  pub lower : j < i
  pub meets : test site i j ≡ true

module _ (power : PowerModel) (test : EdgeNumbers → ℕ → ℕ → Bool) where
  -- an entry is the level itself, or a lower one that has met the test
  entry_met : (site : EdgeNumbers) (i j : ℕ) → entry_by test site i ≡ j → (j ≡ i) ⊎ IsMet test site i j
  entry_met site i j e = by (Rattle.std.proofs.lemmas.Bool.cases_lt j i)
    where
      by : (j < i) ⊎ (i ≤ j) → (j ≡ i) ⊎ IsMet test site i j
      by (inl lt) =
          let is = entry-least test site i in
          inr (record { lower = lt; meets = subst (λ x. test site i x ≡ true) e (is.meets (omega (arith, e, lt))) })
      by (inr ge) = let up = (entry-least test site i).up_to in inl (omega (arith, e, up, ge))

  pub word_met : (site : EdgeNumbers) (i j : ℕ) → length power.levels ≤ 8 → i < length power.levels → nibble (word_by power test site) i ≡ j → (j ≡ i) ⊎ IsMet test site i j
  word_met site i j few lt e = entry_met site i j (sym (word_by-at power test site i few lt) ∙ e)

  -- the row of a count within the bound is the word of the edge with the slack of some of the turns that are left
  pub row_met : (bound iteration : ℕ) (site : EdgeNumbers) (count i j : ℕ) → count ≤ bound → length power.levels ≤ 8 → i < length power.levels → nibble (slice_index (all_rows_by power test bound iteration site) (count / 2 ^ shift_of bound)) i ≡ j
      → (j ≡ i) ⊎ IsMet test (at_row bound iteration (shift_of bound) site (count / 2 ^ shift_of bound)) i j
  row_met bound iteration site count i j most few lt e =
      word_met (at_row bound iteration (shift_of bound) site (count / 2 ^ shift_of bound)) i j few lt (ap (λ w. nibble w i) (sym (row_by-at power test bound iteration site count most)) ∙ e)

pub row_turns : (bound iteration count : ℕ) → trips_left bound (shift_of bound) (count / 2 ^ shift_of bound) * iteration ≤ (bound - count) * iteration
row_turns bound iteration count = mul-le-mul_right iteration (trips_left-le bound (shift_of bound) count)
