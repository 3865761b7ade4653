-- One level, one pair of levels, or one input more of a bound.
use Rattle.std.proofs.Common.{◌≡◌, ℕ, zero, suc, ◌+◌, ◌-◌, ◌*◌, ◌^◌, ◌/◌, ◌<◌, ◌≤◌, Bool, true, false, cond, List, [], ◌∷◌, ◌++◌, map, length, take, get_or, refl, sym, ap, ◌∙◌, subst, arith, inl, inr}
use Rattle.std.specs.Prelude.{min, max, fold, sum_by}
use Rattle.std.specs.List.{filter, range_with_len}
use Rattle.std.proofs.lemmas.Bool.Decides.{eqb_tells}
use Rattle.std.proofs.lemmas.List.FromFn.{map-range_with_len_more}
use Rattle.std.proofs.lemmas.List.Sums.{fold_more, fold-append, sum_by_push}
use Rattle.std.proofs.lemmas.List.{append-nil, take_all}
use Rattle.std.proofs.lemmas.List.Elements.{filter_more}
use Rattle.std.proofs.Math.Nat.{div-le_self, max-le, min-le_left, mul-le-mul}
use Rattle.power_model.specs.declared.power.Level.{Level}
use Rattle.power_model.specs.Levels.{AreRanked, IsSlower, level, no_level}
use Rattle.power_model.specs.Numbers.{PowerModel}
use Rattle.pace_fit.specs.declared.endings.Ending.{Ending}
use Rattle.pace_fit.specs.Least.{bound_at, bound_with, greatest, least_energy, pair_bound}

-- ---- levels

pub rate_more : (f : Level → ℕ) (m : ℕ) (levels : List Level) (k least : ℕ) → k < length levels → least ≡ fold (λ n l. min n (f l)) m (take k levels) →
    min least (f (level levels k)) ≡ fold (λ n l. min n (f l)) m (take (k + 1) levels)
rate_more f m levels k least lt e = ap (λ n. min n (f (level levels k))) e ∙ sym (fold_more (λ n l. min n (f l)) m levels k no_level lt)

pub least_small : (least rate most : ℕ) → least < most → min least rate < most
least_small least rate most lt = let le = min-le_left least rate in omega (arith, le, lt)

pub ranked_below : (levels : List Level) → AreRanked levels → (i j : ℕ) → i < j → j < length levels → IsSlower (level levels i) (level levels j)
ranked_below levels ranked i zero lt below = absurd (omega (arith, lt))
ranked_below levels ranked i (suc j) lt below = elim (eqb_tells i j) [
  | inl same ↦ subst (λ n. IsSlower (level levels n) (level levels (suc j))) (sym same.1) (next j below)
  | inr other ↦ after (ranked_below levels ranked i j (apart i j lt other.1) (less j below)) (next j below)
]
  where
    apart : (i j : ℕ) → i < suc j → (i ≡ j → ⊥) → i < j
    apart i j lt other = omega (arith, lt, other)

    less : (j : ℕ) → suc j < length levels → j < length levels
    less j below = omega (arith, below)

    next : (j : ℕ) → suc j < length levels → IsSlower (level levels j) (level levels (suc j))
    next j below = let e : j + 1 ≡ suc j = omega arith in subst (λ n. IsSlower (level levels j) (level levels n)) e (ranked j (omega (arith, below)))

    after : IsSlower (level levels i) (level levels j) → IsSlower (level levels j) (level levels (suc j)) → IsSlower (level levels i) (level levels (suc j))
    after one two = record { period = omega (arith, one.period, two.period); energy = omega (arith, one.energy, two.energy) }

-- ---- bounds

pub pair_is : (power : PowerModel) (cycles i j : ℕ) (slower faster : Level) (n : ℕ) → slower ≡ level power.levels i → faster ≡ level power.levels j →
    n ≡ bound_at power cycles (faster.energy - slower.energy) (slower.period - faster.period) → n ≡ pair_bound power cycles i j
pair_is power cycles i j slower faster n e e' h =
    h ∙ (ap (λ (l : Level). bound_at power cycles (faster.energy - l.energy) (l.period - faster.period)) e
    ∙ ap (λ (l : Level). bound_at power cycles (l.energy - (level power.levels i).energy) ((level power.levels i).period - l.period)) e')

pub pair_ranked : (levels : List Level) → AreRanked levels → (i j : ℕ) (slower faster : Level) → i < j → j < length levels → slower ≡ level levels i → faster ≡ level levels j → IsSlower slower faster
pair_ranked levels ranked i j slower faster lt below e e' =
    subst (λ (l : Level). IsSlower slower l) (sym e') (subst (λ (l : Level). IsSlower l (level levels j)) (sym e) (ranked_below levels ranked i j lt below))

pub greatest_more : (f : ℕ → ℕ) (m k most : ℕ) → most ≡ greatest m (map f (range_with_len 0 k)) → max most (f k) ≡ greatest m (map f (range_with_len 0 (k + 1)))
greatest_more f m k most e =
    let same : 0 + k ≡ k = omega arith in
    let more = map-range_with_len_more f 0 k k same in
    ap (λ n. max n (f k)) e ∙ (sym (fold-append (λ a b. max a b) m (map f (range_with_len 0 k)) (f k ∷ [])) ∙ ap (greatest m) (sym more))

pub least_energy_is : (power : PowerModel) (cycles j most : ℕ) → j ≡ length power.levels → most ≡ greatest (bound_at power cycles 0 1) (map (bound_with power cycles) (range_with_len 0 j)) → most ≡ least_energy power cycles
unfolding least_energy
least_energy_is power cycles j most last e = e ∙ ap (λ n. greatest (bound_at power cycles 0 1) (map (bound_with power cycles) (range_with_len 0 n))) last

pub most_small : (most bound limit : ℕ) → most ≤ limit → bound ≤ limit → max most bound ≤ limit
most_small most bound limit h h' = max-le h h'

pub paid_small : (cycles rate : ℕ) → cycles ≤ 2 ^ 56 → rate < 2 ^ 65 → cycles * rate ≤ 2 ^ 121
paid_small cycles rate h h' =
    let le : rate ≤ 2 ^ 65 = omega (arith, h') in
    let most : cycles * rate ≤ 2 ^ 56 * 2 ^ 65 = mul-le-mul h le in
    let same : 2 ^ 56 * 2 ^ 65 ≡ 2 ^ 121 = refl in
    subst (λ n. cycles * rate ≤ n) same most

pub bound_small : (paid deadline b : ℕ) → paid ≤ 2 ^ 121 → (paid - deadline) / b ≤ 2 ^ 121
bound_small paid deadline b h = let le = div-le_self (paid - deadline) b in omega (arith, le, h)

-- ---- runs

-- one run more, which counts or doesn't
one_run : (f : Ending → ℕ) (x : Ending) (before : List Ending) (b : Bool) → sum_by f (before ++ cond b (x ∷ []) []) ≡ sum_by f before + cond b (f x) 0
one_run f x before true = sum_by_push f before x
one_run f x before false = ap (sum_by f) (append-nil before) ∙ omega arith

pub least_in : (f : Ending → ℕ) (p : Ending → Bool) (xs : List Ending) (k : ℕ) (d : Ending) (energy one : ℕ) → k < length xs → one ≡ cond (p (get_or xs k d)) (f (get_or xs k d)) 0 → energy ≡ sum_by f (filter p (take k xs)) →
    energy + one ≡ sum_by f (filter p (take (k + 1) xs))
least_in f p xs k d energy one lt is e =
    ap (λ n. n + one) e ∙ (ap (λ n. sum_by f (filter p (take k xs)) + n) is
    ∙ (sym (one_run f (get_or xs k d) (filter p (take k xs)) (p (get_or xs k d))) ∙ ap (sum_by f) (sym (filter_more p xs k d lt))))

pub least_all : (f : Ending → ℕ) (p : Ending → Bool) (xs : List Ending) (k energy : ℕ) → length xs ≤ k → energy ≡ sum_by f (filter p (take k xs)) → energy ≡ sum_by f (filter p xs)
least_all f p xs k energy long e = e ∙ ap (λ (ys : List Ending). sum_by f (filter p ys)) (take_all k xs long)

pub small_more : (k energy one : ℕ) → energy ≤ k * 2 ^ 121 → one ≤ 2 ^ 121 → energy + one ≤ (k + 1) * 2 ^ 121
small_more k energy one h h' = omega arith

pub small_same : (k energy : ℕ) → energy ≤ k * 2 ^ 121 → energy ≤ (k + 1) * 2 ^ 121
small_same k energy h = omega arith
