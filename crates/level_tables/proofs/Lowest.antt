-- Where every level goes to the lowest one.
use Rattle.std.proofs.Common.{◌≡◌, ℕ, zero, suc, ◌+◌, ◌-◌, ◌*◌, ◌/◌, ◌%◌, ◌^◌, ◌<◌, ◌≤◌, Bool, true, false, ◌&&◌, nat_le, length, ◌⊎◌, inl, inr, Option, Some, None, unwrap_or, refl, sym, ap, ◌∙◌, subst, arith}
use Rattle.std.proofs.Math.Nat.{mul-le-mul_left, mul-le-mul_right, add-mul, div-mul-le_self}
use Rattle.std.proofs.lemmas.Bool.{and_parts, eq-eqb, eqb-true}
use Rattle.std.proofs.lemmas.Bool.Decides.{nat_tests}
use Rattle.std.proofs.lemmas.Nat.{pow_pos, le-div}
use Rattle.power_model.specs.Levels.{level, AreRanked}
use Rattle.power_model.specs.Numbers.{PowerModel, IsPowerModel}
use Rattle.power_model.specs.Price.{switch_time}
use Rattle.level_tables.specs.Search.{least_below}
use Rattle.level_tables.specs.Tables.{IsEntryFor, entry_by, nibbles, nibble, word_by, pays, behind_turns, goes_lowest, tally_shift, tally_from}
use Rattle.level_tables.specs.declared.edge_numbers.EdgeNumbers.{EdgeNumbers}
use Rattle.level_tables.specs.Budgets.{is_switch_in_budget, meets_in_budget}
use Rattle.level_tables.specs.Laws.{LowestGoes, TalliesAreSafe, TalliesAreSafeInTime}
use Rattle.level_tables.proofs.Searching.{IsFound, first-none, first-some, least-is}
use Rattle.level_tables.proofs.Entries.{entry-least, word_by-at}
use Rattle.level_tables.proofs.Budgets.{budgets_alike}

le_of : (x y : ℕ) → nat_le x y ≡ true → x ≤ y
le_of x y e = grind (arith, nat_tests)

le_test : (x y : ℕ) → x ≤ y → nat_le x y ≡ true
le_test x y e = grind (arith, nat_tests)

lt_or_le : (a b : ℕ) → (a < b) ⊎ (b ≤ a)
lt_or_le a b = grind arith

and_false : (a b : Bool) → b ≡ false → a && b ≡ false
and_false true b e = e
and_false false b e = refl

both_of : (a b : Bool) → a ≡ true → b ≡ true → a && b ≡ true
both_of a b p q = cc

-- ---- the word of entries is 0 just where each level meets the test

zero_meets : (test : EdgeNumbers → ℕ → ℕ → Bool) (told : EdgeNumbers) (i l : ℕ) → IsEntryFor test told i l → l ≡ 0 → 0 < i → test told i 0 ≡ true
zero_meets test told i l entry none pos = subst (λ k. test told i k ≡ true) none (entry.meets (omega arith))

pub lowest_goes : LowestGoes
lowest_goes = λ power test told i few lowest pos lt.
    let word : word_by power test told ≡ 0 = eqb-true (word_by power test told) 0 lowest in
    let at : nibble (word_by power test told) i ≡ entry_by test told i = word_by-at power test told i few lt in
    let nothing : 0 / 2 ^ (4 * i) ≡ 0 = grind arith in
    let none : entry_by test told i ≡ 0 = sym at ∙ ap (λ w. nibble w i) word ∙ ap (λ q. q % 16) nothing in
    zero_meets test told i (entry_by test told i) (entry-least test told i) none pos

entry_zero : (test : EdgeNumbers → ℕ → ℕ → Bool) (told : EdgeNumbers) (i : ℕ) → (0 < i → test told i 0 ≡ true) → entry_by test told i ≡ 0
entry_zero test told i meets = go (entry_by test told i) (entry-least test told i)
  where
    go : (l : ℕ) → IsEntryFor test told i l → l ≡ 0
    go zero entry = refl
    go (suc l) entry =
        let up : suc l ≤ i = entry.up_to in
        let one : test told i 0 ≡ true = meets (omega arith) in
        let other : test told i 0 ≡ false = entry.least 0 (omega arith) in
        let bad : true ≡ false = sym one ∙ other in
        cc

nibbles_zero : (digit : ℕ → ℕ) (i n : ℕ) → ((k : ℕ) → k < i + n → digit k ≡ 0) → nibbles digit i n ≡ 0
nibbles_zero digit i zero none = refl
nibbles_zero digit i (suc n) none =
    let here : digit i ≡ 0 = none i (omega arith) in
    let rest : nibbles digit (i + 1) n ≡ 0 = nibbles_zero digit (i + 1) n (λ k h. none k (omega (arith, h))) in
    omega (arith, here, rest)

pub goes_where : (power : PowerModel) (test : EdgeNumbers → ℕ → ℕ → Bool) (told : EdgeNumbers) → ((i : ℕ) → 0 < i → i < length power.levels → test told i 0 ≡ true) → goes_lowest power test told ≡ true
goes_where power test told meets =
    eq-eqb (word_by power test told) 0 (nibbles_zero (entry_by test told) 0 (length power.levels) (λ k h. entry_zero test told k (λ pos. meets k pos (omega (arith, h)))))

-- ---- less that is left is spent sooner

-- the lowest level takes the most time
pub lowest_slowest : (power : PowerModel) (i : ℕ) → AreRanked power.levels → i < length power.levels → (level power.levels i).period ≤ (level power.levels 0).period
lowest_slowest power zero ranked lt = omega arith
lowest_slowest power (suc i) ranked lt =
    let before = lowest_slowest power i ranked (omega (arith, lt)) in
    let step : (level power.levels (i + 1)).period < (level power.levels i).period = (ranked i (omega (arith, lt))).period in
    let same : suc i ≡ i + 1 = omega arith in
    let there : (level power.levels (suc i)).period ≡ (level power.levels (i + 1)).period = ap (λ k. (level power.levels k).period) same in
    omega (arith, before, step, there)

-- so many cycles less at both levels
less_left : (less d slow fast slack switch before behind : ℕ) → fast ≤ slow → (less + d) * slow + switch + before ≤ (less + d + slack) * fast + behind
    → less * slow + switch + before ≤ (less + slack) * fast + behind
less_left less d slow fast slack switch before behind ranked h =
    let one : (less + d) * slow ≡ less * slow + d * slow = add-mul less d slow in
    let two : (less + d + slack) * fast ≡ (less + slack) * fast + d * fast = (let e : less + d + slack ≡ less + slack + d = omega arith in ap (λ n. n * fast) e ∙ add-mul (less + slack) d fast) in
    let most : d * fast ≤ d * slow = mul-le-mul_left d ranked in
    omega (arith, one, two, most, h)

pub meets_less : (power : PowerModel) (budget : ℕ → ℕ) (more less : EdgeNumbers) (i : ℕ) → AreRanked power.levels → i < length power.levels → less.slack ≡ more.slack → less.least ≡ more.least → less.left ≤ more.left
    → meets_in_budget power budget more i 0 ≡ true → meets_in_budget power budget less i 0 ≡ true
meets_less power budget more less i ranked lt slack least left met =
    let parts = and_parts (is_switch_in_budget power budget more i 0) (pays power more.least i 0) met in
    let h = le_of (more.left * (level power.levels 0).period + switch_time power i 0 + budget i) ((more.left + more.slack) * (level power.levels i).period + budget 0) parts.0 in
    let d = more.left - less.left in
    let e : more.left ≡ less.left + d = omega arith in
    let s : more.slack ≡ less.slack = sym slack in
    let P : ℕ → ℕ → Type 0 = λ a b. a * (level power.levels 0).period + switch_time power i 0 + budget i ≤ (a + b) * (level power.levels i).period + budget 0 in
    let h2 : P (less.left + d) less.slack = subst (λ b. P (less.left + d) b) s (subst (λ a. P a more.slack) e h) in
    let fits = less_left less.left d (level power.levels 0).period (level power.levels i).period less.slack (switch_time power i 0) (budget i) (budget 0) (lowest_slowest power i ranked lt) h2 in
    let paid : pays power less.least i 0 ≡ true = ap (λ o. pays power o i 0) least ∙ parts.1 in
    both_of (is_switch_in_budget power budget less i 0) (pays power less.least i 0)
    (le_test (less.left * (level power.levels 0).period + switch_time power i 0 + budget i) ((less.left + less.slack) * (level power.levels i).period + budget 0) fits) paid

-- behind more turns each level meets the test, too
pub meets_later : (power : PowerModel) (budget : ℕ → ℕ) (told : EdgeNumbers) (iteration few many i : ℕ) → AreRanked power.levels → i < length power.levels → few ≤ many
    → meets_in_budget power budget (behind_turns few iteration told) i 0 ≡ true → meets_in_budget power budget (behind_turns many iteration told) i 0 ≡ true
meets_later power budget told iteration few many i ranked lt le met =
    let most : few * iteration ≤ many * iteration = mul-le-mul_right iteration le in
    meets_less power budget (behind_turns few iteration told) (behind_turns many iteration told) i ranked lt refl refl (omega (arith, most)) met

pub lowest_later : (power : PowerModel) (budget : ℕ → ℕ) (told : EdgeNumbers) (iteration few many : ℕ) → IsPowerModel power → few ≤ many
    → goes_lowest power (meets_in_budget power budget) (behind_turns few iteration told) ≡ true → goes_lowest power (meets_in_budget power budget) (behind_turns many iteration told) ≡ true
lowest_later power budget told iteration few many is le lowest =
    goes_where power (meets_in_budget power budget) (behind_turns many iteration told)
    (λ i pos lt. meets_later power budget told iteration few many i is.ranked lt le (lowest_goes power (meets_in_budget power budget) (behind_turns few iteration told) i is.few lowest pos lt))

-- ---- counts, shifted

-- the shift leaves a bound at most 2045
pub tally_small : (bound : ℕ) → bound < 2 ^ 32 → bound / 2 ^ tally_shift bound ≤ 2045
tally_small bound lt = go (least_below 32 (λ s. nat_le (bound / 2 ^ s) 2045)) (least-is 32 (λ s. nat_le (bound / 2 ^ s) 2045))
  where
    go : (o : Option ℕ) → IsFound 32 (λ s. nat_le (bound / 2 ^ s) 2045) o → bound / 2 ^ unwrap_or o 0 ≤ 2045
    go (Some k) (small, passes, fails) = le_of (bound / 2 ^ k) 2045 passes
    go None fails =
        let low : bound / 2 ^ 31 ≤ 1 = omega arith in
        let one : nat_le (bound / 2 ^ 31) 2045 ≡ true = le_test (bound / 2 ^ 31) 2045 (omega arith) in
        let other : nat_le (bound / 2 ^ 31) 2045 ≡ false = fails 31 (omega arith) in
        let bad : true ≡ false = sym one ∙ other in
        cc

-- one more than a number has at most one more of a divisor
div_one_more : (a b d most : ℕ) → 0 < d → a ≤ b → b / d ≤ most → (a + 1) / d ≤ most + 1
div_one_more a b d most pos le small =
    let whole : (a + 1) / d * d ≤ a + 1 = div-mul-le_self (a + 1) d in
    go ((a + 1) / d) whole
  where
    go : (q : ℕ) → q * d ≤ a + 1 → q ≤ most + 1
    go zero h = omega arith
    go (suc q) h =
        let e : suc q * d ≡ q * d + d = (let n : suc q ≡ q + 1 = omega arith in ap (λ k. k * d) n ∙ add-mul q 1 d ∙ (let one : 1 * d ≡ d = omega arith in ap (λ k. q * d + k) one)) in
        let below : q ≤ b / d = le-div q b d pos (omega (arith, e, h)) in
        omega (arith, below)

-- what a count is searched by
abbrev passes : PowerModel → (EdgeNumbers → ℕ → ℕ → Bool) → ℕ → ℕ → EdgeNumbers → ℕ → Bool
passes power test bound iteration told k = nat_le 1 k && goes_lowest power test (behind_turns (k * 2 ^ tally_shift bound) iteration told)

-- a number from which on it goes, if it is below 2047
from_goes : (power : PowerModel) (test : EdgeNumbers → ℕ → ℕ → Bool) (bound iteration : ℕ) (told : EdgeNumbers) → tally_from power test bound iteration told < 2047
    → goes_lowest power test (behind_turns (tally_from power test bound iteration told * 2 ^ tally_shift bound) iteration told) ≡ true
from_goes power test bound iteration told lt =
    go (least_below 2047 (passes power test bound iteration told)) (least-is 2047 (passes power test bound iteration told)) lt
  where
    go : (o : Option ℕ) → IsFound 2047 (passes power test bound iteration told) o → unwrap_or o 2047 < 2047 → goes_lowest power test (behind_turns (unwrap_or o 2047 * 2 ^ tally_shift bound) iteration told) ≡ true
    go (Some k) (small, is, fails) h = (and_parts (nat_le 1 k) (goes_lowest power test (behind_turns (k * 2 ^ tally_shift bound) iteration told)) is).1
    go None fails h = absurd (omega (arith, h))

-- ---- the search by halves

-- what fails below it and passes from it on is found
pub tally_found : (power : PowerModel) (test : EdgeNumbers → ℕ → ℕ → Bool) (bound iteration : ℕ) (told : EdgeNumbers) (k : ℕ) → 1 ≤ k → k ≤ 2047
    → ((j : ℕ) → 1 ≤ j → j < k → goes_lowest power test (behind_turns (j * 2 ^ tally_shift bound) iteration told) ≡ false)
    → (k < 2047 → goes_lowest power test (behind_turns (k * 2 ^ tally_shift bound) iteration told) ≡ true)
    → k ≡ tally_from power test bound iteration told
tally_found power test bound iteration told k some few fails goes = by_cases (lt_or_le k 2047)
  where
    none : (j : ℕ) → j < k → passes power test bound iteration told j ≡ false
    none zero h = refl
    none (suc j) h =
        let no = fails (suc j) (omega arith) h in
        and_false (nat_le 1 (suc j)) (goes_lowest power test (behind_turns (suc j * 2 ^ tally_shift bound) iteration told)) no

    by_cases : (k < 2047) ⊎ (2047 ≤ k) → k ≡ tally_from power test bound iteration told
    by_cases (inl lt) =
        first-some 2047 (passes power test bound iteration told) 2047 k lt
        (both_of (nat_le 1 k) (goes_lowest power test (behind_turns (k * 2 ^ tally_shift bound) iteration told)) (le_test 1 k some) (goes lt)) none
    by_cases (inr ge) =
        let last : k ≡ 2047 = omega (arith, ge, few) in
        last ∙ first-none 2047 (passes power test bound iteration told) 2047 (λ j h. none j (omega (arith, h, last)))

-- behind fewer turns than some at which it doesn't go, it doesn't
pub lowest_not_before : (power : PowerModel) (budget : ℕ → ℕ) (told : EdgeNumbers) (iteration few many : ℕ) → IsPowerModel power → few ≤ many
    → goes_lowest power (meets_in_budget power budget) (behind_turns many iteration told) ≡ false → goes_lowest power (meets_in_budget power budget) (behind_turns few iteration told) ≡ false
lowest_not_before power budget told iteration few many is le not =
    go (goes_lowest power (meets_in_budget power budget) (behind_turns few iteration told)) refl
  where
    go : (b : Bool) → goes_lowest power (meets_in_budget power budget) (behind_turns few iteration told) ≡ b → b ≡ false
    go false e = refl
    go true e =
        let later = lowest_later power budget told iteration few many is le e in
        let bad : true ≡ false = sym later ∙ not in
        cc

pub tallies_safe : TalliesAreSafe
tallies_safe = λ budget power bound iteration told count i is range most due pos lt.
    let test : EdgeNumbers → ℕ → ℕ → Bool = meets_in_budget power budget in
    let from = tally_from power (meets_in_budget power budget) bound iteration told in
    let width = 2 ^ tally_shift bound in
    let reached : from ≤ (count + 1) / width = le_of from ((count + 1) / width) due in
    let small : (count + 1) / width ≤ 2045 + 1 = div_one_more count bound width 2045 (pow_pos (tally_shift bound)) most (tally_small bound range) in
    let goes = from_goes power (meets_in_budget power budget) bound iteration told (omega (arith, reached, small)) in
    let up : from * width ≤ (count + 1) / width * width = mul-le-mul_right width reached in
    let whole : (count + 1) / width * width ≤ count + 1 = div-mul-le_self (count + 1) width in
    meets_later power budget told iteration (from * width) (count + 1) i is.ranked lt (omega (arith, up, whole))
    (lowest_goes power (meets_in_budget power budget) (behind_turns (from * width) iteration told) i is.few goes pos lt)

pub tallies_safe_in_time : TalliesAreSafeInTime
tallies_safe_in_time = λ power bound iteration told count i is range most due pos lt.
    let alike = budgets_alike power (λ k. power.deadline) (λ k. refl) in
    let P : (EdgeNumbers → ℕ → ℕ → Bool) → Type 0 = λ q. nat_le (tally_from power q bound iteration told) ((count + 1) / 2 ^ tally_shift bound) ≡ true → q (behind_turns (count + 1) iteration told) i 0 ≡ true in
    subst P alike (λ due2. tallies_safe (λ k. power.deadline) power bound iteration told count i is range most due2 pos lt) due
