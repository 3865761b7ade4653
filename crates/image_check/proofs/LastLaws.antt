-- Where entries stand last, and that the last row with each entry decides about a table.
use Rattle.std.proofs.Common.{◌≡◌, inl, inr, ⊎_elim, ℕ, ◌+◌, ◌-◌, ◌*◌, ◌/◌, ◌^◌, ◌<◌, ◌≤◌, min, true, List, [], ◌∷◌, ◌++◌, length, Option, Some, None, refl, sym, ap, ◌∙◌, subst, arith}
use Rattle.std.specs.Prelude.{slice_index, replicate}
use Rattle.std.proofs.Math.Nat.{mul-le-mul_right, le_trans, mod-lt}
use Rattle.std.proofs.lemmas.Bool.{leb-true, le-leb, and_parts, and_from, cases_lt, cases_eq, both_ways, false_from_ne_true}
use Rattle.std.proofs.lemmas.List.{get_or-replicate, get_or_append_left, get_or_push, length_push}
use Rattle.scale_base.specs.State.{word_at}
use Rattle.power_model.specs.Levels.{level}
use Rattle.power_model.specs.Numbers.{PowerModel}
use Rattle.power_model.specs.Price.{switch_time}
use Rattle.level_tables.specs.Tables.{is_switch_in_time, pays, meets_both, trips_left}
use Rattle.stored_runs.specs.Meaning.{four_bits}
use Rattle.paid_runs.specs.Tabled.{IsSafeEntry}
use Rattle.image_check.specs.LastRows.{words_from, IsLastBefore, last_of, AreLastBefore, IsOneMore, AreBlocks}
use Rattle.image_check.specs.Entries.{is_safe, HasBadRow, last_row, told_row, IsExitLevel, IsBadLast, HasBadLast}
use Rattle.image_check.specs.declared.last_rows.LastPlaces.{LastPlaces}
use Rattle.image_check.specs.declared.told.ExitTold.{ExitTold}
use Rattle.image_check.proofs.EntryLaws.{safe_to, bad_entry}

-- ---- words one by one

last_none : (words : ℕ → ℕ) (i j last : ℕ) → last ≡ 0 → IsLastBefore words i j 0 last
last_none words i j last e = record {
  within = omega arith;
  has = λ w is. absurd (omega arith);
  behind = λ w le lt is. absurd (omega arith);
}

pub none_before : (words : ℕ → ℕ) (places : LastPlaces) → places.numbers ≡ replicate 128 0 → AreLastBefore words 0 places
none_before words places e i j level small =
    last_none words i j (last_of places i j) (ap (λ xs. slice_index xs (16 * i + j)) e ∙ get_or-replicate 128 (16 * i + j) 0 0 (omega arith))

last_here : (words : ℕ → ℕ) (i j n last : ℕ) → last ≡ n + 1 → four_bits (words n) i ≡ j → IsLastBefore words i j (n + 1) last
last_here words i j n last e is = record {
  within = omega arith;
  has = λ w at. let same : n ≡ w = omega arith in subst (λ m. four_bits (words m) i ≡ j) same is;
  behind = λ w le lt other. absurd (omega arith);
}

last_kept : (words : ℕ → ℕ) (i j n last : ℕ) → IsLastBefore words i j n last → (four_bits (words n) i ≡ j → ⊥) → IsLastBefore words i j (n + 1) last
last_kept words i j n last h not_here = record {
  within = let low = h.within in omega (arith, low);
  has = h.has;
  behind = λ w le lt is. ⊎_elim (λ (low : w < n). h.behind w le low is)
      (λ (high : n ≤ w). not_here (let same : w ≡ n = omega arith in subst (λ m. four_bits (words m) i ≡ j) same is)) (cases_lt w n);
}

pub one_more : (words : ℕ → ℕ) (word n : ℕ) (old new : LastPlaces) → word ≡ words n → AreLastBefore words n old → IsOneMore old word n new → AreLastBefore words (n + 1) new
one_more words word n old new word_is h more i j level small = ⊎_elim
    (λ (is : four_bits word i ≡ j). last_here words i j n (last_of new i j) (more.has i j level small is) (subst (λ x. four_bits x i ≡ j) word_is is))
    (λ (other : four_bits word i ≡ j → ⊥). subst (IsLastBefore words i j (n + 1)) (sym (more.others i j level small other))
    (last_kept words i j n (last_of old i j) (h i j level small) (λ is. other (subst (λ x. four_bits x i ≡ j) (sym word_is) is))))
    (cases_eq (four_bits word i) j)

pub one_block_more : (words : ℕ → ℕ) (n : ℕ) (blocks : List LastPlaces) (x : LastPlaces) → AreBlocks words n blocks → AreLastBefore words (64 * n) x → AreBlocks words (n + 1) (blocks ++ x ∷ [])
one_block_more words n blocks x (size, all) here = (
  length_push blocks x ∙ ap (λ m. m + 1) size,
  λ b other lt. ⊎_elim
      (λ (low : b < n). subst (AreLastBefore words (64 * b)) (sym (get_or_append_left blocks (x ∷ []) other b (omega (arith, size)))) (all b other low))
      (λ (high : n ≤ b). let same : n ≡ b = omega arith in
      subst (AreLastBefore words (64 * b)) (sym (get_or_push blocks x other b (size ∙ same))) (subst (λ m. AreLastBefore words (64 * m) x) same here)) (cases_lt b n),
)

-- ---- an entry that is safe in a row is safe in those before it

fewer : (bound x y : ℕ) → x ≤ y → bound - min bound (y - 1) ≤ bound - min bound (x - 1)
fewer bound x y le = omega arith

trips_fewer : (bound shift r s : ℕ) → r ≤ s → trips_left bound shift s ≤ trips_left bound shift r
trips_fewer bound shift r s le = fewer bound ((r + 1) * 2 ^ shift) ((s + 1) * 2 ^ shift) (mul-le-mul_right (2 ^ shift) (let more : r + 1 ≤ s + 1 = omega arith in more))

sum_more : (a x y : ℕ) → x ≤ y → a + x ≤ a + y
sum_more a x y le = omega arith

slack_less : (exit : ExitTold) (r s : ℕ) → r ≤ s → (told_row exit s).slack ≤ (told_row exit r).slack
slack_less exit r s le =
    sum_more exit.told.slack (trips_left exit.bound exit.shift s * exit.iteration) (trips_left exit.bound exit.shift r * exit.iteration) (mul-le-mul_right exit.iteration (trips_fewer exit.bound exit.shift r s le))

in_time_more : (power : PowerModel) (left x y i l : ℕ) (least other : Option ℕ) → x ≤ y → is_switch_in_time power (record { slack = x; left = left; least = least }) i l ≡ true
    → is_switch_in_time power (record { slack = y; left = left; least = other }) i l ≡ true
in_time_more power left x y i l least other le e =
    le-leb (left * (level power.levels l).period + switch_time power i l) ((left + y) * (level power.levels i).period)
    (le_trans (leb-true (left * (level power.levels l).period + switch_time power i l) ((left + x) * (level power.levels i).period) e) (mul-le-mul_right (level power.levels i).period (sum_more left x y le)))

meets_more : (power : PowerModel) (left x y i l : ℕ) (least : Option ℕ) → x ≤ y → meets_both power (record { slack = x; left = left; least = least }) i l ≡ true
    → meets_both power (record { slack = y; left = left; least = least }) i l ≡ true
meets_more power left x y i l least le e =
    let parts = and_parts (is_switch_in_time power (record { slack = x; left = left; least = least }) i l) (pays power least i l) e in
    and_from (is_switch_in_time power (record { slack = y; left = left; least = least }) i l) (pays power least i l) (in_time_more power left x y i l least least le parts.0) parts.1

safe_more : (power : PowerModel) (left x y i j : ℕ) (least : Option ℕ) → x ≤ y → IsSafeEntry power (record { slack = x; left = left; least = least }) i j → IsSafeEntry power (record { slack = y; left = left; least = least }) i j
safe_more power left x y i j least le (inl same) = inl same
safe_more power left x y i j least le (inr (lower, meets)) = inr (lower, meets_more power left x y i j least le meets)

pub safe_before : (power : PowerModel) (exit : ExitTold) (i j r s : ℕ) → r ≤ s → is_safe power (told_row exit s) i j ≡ true → IsSafeEntry power (told_row exit r) i j
safe_before power exit i j r s le e =
    safe_more power exit.told.left (told_row exit s).slack (told_row exit r).slack i j exit.told.least (slack_less exit r s le) (safe_to power (told_row exit s) i j e)

-- ---- an entry that isn't bad where it stands last

pub not_there : (power : PowerModel) (exit : ExitTold) (start : ℕ) (places : LastPlaces) (i j last : ℕ) → last ≡ last_of places i j → last ≤ start → IsBadLast power exit start places i j → ⊥
not_there power exit start places i j last is low (there, unsafe) = omega (arith, is, there)

pub safe_there : (power : PowerModel) (exit : ExitTold) (start : ℕ) (places : LastPlaces) (i j last : ℕ) → last ≡ last_of places i j → is_safe power (told_row exit (last - 1 - start)) i j ≡ true
    → IsBadLast power exit start places i j → ⊥
safe_there power exit start places i j last is safe (there, unsafe) =
    both_ways (is_safe power (told_row exit (last_of places i j - 1 - start)) i j) unsafe (subst (λ m. is_safe power (told_row exit (m - 1 - start)) i j ≡ true) is safe)

-- ---- the last rows decide

module _ (power : PowerModel) (bytes : ℕ → ℕ) (exit : ExitTold) (first table start : ℕ) (places : LastPlaces)
    (at : table ≡ 4 * (first + start)) (few : length power.levels ≤ 8) (last : AreLastBefore (words_from bytes first) (start + last_row exit + 1) places) where
  -- the word of a row
  row_word : (w row : ℕ) → w ≡ start + row → words_from bytes first w ≡ word_at bytes (table + 4 * row)
  row_word w row e = ap (word_at bytes) (let same : 4 * (first + w) ≡ table + 4 * row = omega arith in same)

  pub bad_row : (i : ℕ) → i < length power.levels → HasBadLast power exit start places i
      → HasBadRow power bytes exit.told exit.bound exit.iteration exit.shift table (last_row exit + 1) i
  bad_row i level (j, small, (there, unsafe)) =
      let h = last i j (omega (arith, level, few)) small in
      let within = h.within in
      let row = last_of places i j - 1 - start in
      let entry : four_bits (words_from bytes first (start + row)) i ≡ j = h.has (start + row) (omega (arith, there)) in (
        row,
        omega (arith, there, within),
        bad_entry power (told_row exit row) (word_at bytes (table + 4 * row)) i j level (sym entry ∙ ap (λ x. four_bits x i) (row_word (start + row) row refl)) unsafe,
      )

  pub bad_last : (i : ℕ) → HasBadRow power bytes exit.told exit.bound exit.iteration exit.shift table (last_row exit + 1) i → HasBadLast power exit start places i
  bad_last i (row, low, (level, unsafe)) =
      let j = four_bits (word_at bytes (table + 4 * row)) i in
      let small : j < 16 = mod-lt (word_at bytes (table + 4 * row) / 2 ^ (4 * i)) (omega arith) in
      let h = last i j (omega (arith, level, few)) small in
      let entry : four_bits (words_from bytes first (start + row)) i ≡ j = ap (λ x. four_bits x i) (row_word (start + row) row refl) in
      let there : start + row < last_of places i j = ⊎_elim (λ (lt : start + row < last_of places i j). lt)
      (λ (le : last_of places i j ≤ start + row). absurd (h.behind (start + row) le (omega (arith, low)) entry)) (cases_lt (start + row) (last_of places i j)) in
      let later : row ≤ last_of places i j - 1 - start = omega (arith, there) in (
        j,
        small,
        (
          (let lt : start < last_of places i j = omega (arith, there) in lt),
          false_from_ne_true (is_safe power (told_row exit (last_of places i j - 1 - start)) i j) (λ safe. unsafe (safe_before power exit i j row (last_of places i j - 1 - start) later safe)),
        ),
      )

  pub some_level : (i : ℕ) → i < length power.levels → HasBadLast power exit start places i → ((k : ℕ) → k < i → HasBadLast power exit start places k → ⊥) → IsExitLevel power bytes exit table (Some i)
  some_level i level bad fine = (bad_row i level bad, λ k lt row. fine k lt (bad_last k row))

  pub no_level : ((k : ℕ) → k < length power.levels → HasBadLast power exit start places k → ⊥) → IsExitLevel power bytes exit table None
  no_level fine = λ i row. let level = row.2.0 in fine i level (bad_last i row)
