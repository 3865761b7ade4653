-- A leg before the rest of a run: no step raises the level, and its switch pays.
use Rattle.std.proofs.Common.{◌≡◌, ℕ, suc, ◌+◌, ◌-◌, ◌*◌, ◌≤◌, ◌==◌, Bool, true, false, cond, List, [], ◌∷◌, ◌++◌, refl, sym, ap, ◌∙◌, subst, arith, Option, Some, None, ◌⊎◌, inl, inr, mul-le-mul_right, mul-le-mul_left}
use Rattle.std.specs.Prelude.{unwrap_or}
use Rattle.std.proofs.lemmas.Bool.{eq-eqb}
use Rattle.std.proofs.lemmas.List.Sums.{sum_by-append}
use Rattle.scale_base.specs.declared.stepping.Class.{Class}
use Rattle.scale_base.specs.declared.stepping.Stepped.{Stepped}
use Rattle.power_model.specs.Numbers.{PowerModel}
use Rattle.power_model.specs.Price.{level_after}
use Rattle.stored_runs.specs.Cycles.{stepped_cycles}
use Rattle.stored_runs.specs.Legs.{StoresLevel}
use Rattle.power_model.specs.Switches.{energy, costs_of, NeverRises, switches_from, saved, fee, AllPay}
use Rattle.paid_runs.proofs.LegPrice.{AreSilent}

-- ---- no step raises the level

silent_rise : (i : ℕ) (xs ys : List Stepped) → AreSilent xs → NeverRises i ys → NeverRises i (xs ++ ys)
silent_rise i [] ys silent rest = rest
silent_rise i (x ∷ xs) ys silent rest =
    let stays : level_after i x ≡ i = ap (λ o. unwrap_or o i) (silent 0 x (omega arith)) in
    (omega (arith, stays), subst (λ j. NeverRises j (xs ++ ys)) (sym stays) (silent_rise i xs ys (λ k d lt. silent (suc k) d (omega arith)) rest))

once_rise : (i j : ℕ) (before behind ys : List Stepped) (store : Stepped) → AreSilent before → AreSilent behind → store.port ≡ Some j → j ≤ i → NeverRises j ys → NeverRises i ((before ++ store ∷ behind) ++ ys)
once_rise i j [] behind ys store silent quiet stored low rest =
    let to : level_after i store ≡ j = ap (λ o. unwrap_or o i) stored in
    (omega (arith, to, low), subst (λ k. NeverRises k (behind ++ ys)) (sym to) (silent_rise j behind ys quiet rest))
once_rise i j (x ∷ before) behind ys store silent quiet stored low rest =
    let stays : level_after i x ≡ i = ap (λ o. unwrap_or o i) (silent 0 x (omega arith)) in
    (omega (arith, stays), subst (λ k. NeverRises k ((before ++ store ∷ behind) ++ ys)) (sym stays) (once_rise i j before behind ys store (λ k d lt. silent (suc k) d (omega arith)) quiet stored low rest))

pub leg_rise : (stored : Option ℕ) (tail : (Class → ℕ) → ℕ) (xs : List Stepped) → StoresLevel stored tail xs → (i : ℕ) (ys : List Stepped) → ((j : ℕ) → stored ≡ Some j → j ≤ i) → NeverRises (unwrap_or stored i) ys → NeverRises i (xs ++ ys)
leg_rise None tail xs h i ys low rest = silent_rise i xs ys h rest
leg_rise (Some j) tail xs h i ys low rest =
    subst (λ zs. NeverRises i (zs ++ ys)) (sym h.parts) (once_rise i j h.before h.behind ys h.store h.none_before h.none_behind h.level_is (low j refl) rest)

-- ---- switches

-- a step that leaves the level alone is no switch
no_switch_pays : (power : PowerModel) (i : ℕ) (x : Stepped) (xs : List Stepped) → level_after i x ≡ i → AllPay power (switches_from power i xs) → AllPay power (switches_from power i (x ∷ xs))
no_switch_pays power i x xs stays rest =
    subst (λ j. AllPay power (cond (i == j) (switches_from power j xs) (record { from = i; to = j; cycles = stepped_cycles (costs_of power) xs } ∷ switches_from power j xs))) (sym stays)
    (subst (λ b. AllPay power (cond b (switches_from power i xs) (record { from = i; to = i; cycles = stepped_cycles (costs_of power) xs } ∷ switches_from power i xs))) (sym (eq-eqb i i refl)) rest)

silent_pay : (power : PowerModel) (i : ℕ) (xs ys : List Stepped) → AreSilent xs → AllPay power (switches_from power i ys) → AllPay power (switches_from power i (xs ++ ys))
silent_pay power i [] ys silent rest = rest
silent_pay power i (x ∷ xs) ys silent rest =
    no_switch_pays power i x (xs ++ ys) (ap (λ o. unwrap_or o i) (silent 0 x (omega arith))) (silent_pay power i xs ys (λ k d lt. silent (suc k) d (omega arith)) rest)

-- a step that stores level j
store_pays : (power : PowerModel) (i j : ℕ) (store : Stepped) (xs : List Stepped) → store.port ≡ Some j → (j ≡ i) ⊎ (fee power (record { from = i; to = j; cycles = stepped_cycles (costs_of power) xs }) ≤ saved power (record { from = i; to = j; cycles = stepped_cycles (costs_of power) xs }))
    → AllPay power (switches_from power j xs) → AllPay power (switches_from power i (store ∷ xs))
store_pays power i j store xs stored (inl same) rest =
    no_switch_pays power i store xs (ap (λ o. unwrap_or o i) stored ∙ same) (subst (λ k. AllPay power (switches_from power k xs)) same rest)
store_pays power i j store xs stored (inr pays) rest =
    let to : level_after i store ≡ j = ap (λ o. unwrap_or o i) stored in
    subst (λ k. AllPay power (cond (i == k) (switches_from power k xs) (record { from = i; to = k; cycles = stepped_cycles (costs_of power) xs } ∷ switches_from power k xs))) (sym to) (by_test (i == j))
  where
    by_test : (b : Bool) → AllPay power (cond b (switches_from power j xs) (record { from = i; to = j; cycles = stepped_cycles (costs_of power) xs } ∷ switches_from power j xs))
    by_test true = rest
    by_test false = (pays, rest)

-- what has to be so of a switch within a leg
abbrev pub PaysBehind : PowerModel → (i j behind : ℕ) → Type 0
PaysBehind power i j behind = (j ≡ i) ⊎ (fee power (record { from = i; to = j; cycles = behind }) ≤ saved power (record { from = i; to = j; cycles = behind }))

once_pays : (power : PowerModel) (i j : ℕ) (before behind ys : List Stepped) (store : Stepped) → AreSilent before → AreSilent behind → store.port ≡ Some j → PaysBehind power i j (stepped_cycles (costs_of power) behind + stepped_cycles (costs_of power) ys)
    → AllPay power (switches_from power j ys) → AllPay power (switches_from power i ((before ++ store ∷ behind) ++ ys))
once_pays power i j [] behind ys store silent quiet stored pays rest =
    store_pays power i j store (behind ++ ys) stored (subst (PaysBehind power i j) (sym (sum_by-append (λ x. costs_of power x.class) behind ys)) pays) (silent_pay power j behind ys quiet rest)
once_pays power i j (x ∷ before) behind ys store silent quiet stored pays rest =
    no_switch_pays power i x ((before ++ store ∷ behind) ++ ys) (ap (λ o. unwrap_or o i) (silent 0 x (omega arith)))
    (once_pays power i j before behind ys store (λ k d lt. silent (suc k) d (omega arith)) quiet stored pays rest)

pub leg_pays : (power : PowerModel) (stored : Option ℕ) (tail : (Class → ℕ) → ℕ) (xs : List Stepped) → StoresLevel stored tail xs → (i : ℕ) (ys : List Stepped) → ((j : ℕ) → stored ≡ Some j → PaysBehind power i j (tail (costs_of power) + stepped_cycles (costs_of power) ys))
    → AllPay power (switches_from power (unwrap_or stored i) ys) → AllPay power (switches_from power i (xs ++ ys))
leg_pays power None tail xs h i ys pays rest = silent_pay power i xs ys h rest
leg_pays power (Some j) tail xs h i ys pays rest =
    subst (λ zs. AllPay power (switches_from power i (zs ++ ys))) (sym h.parts)
    (once_pays power i j h.before h.behind ys h.store h.none_before h.none_behind h.level_is (subst (λ c. PaysBehind power i j (c + stepped_cycles (costs_of power) ys)) (sym (h.tail_is (costs_of power))) (pays j refl)) rest)

-- ---- the argument on a switch

spread : (a b c x : ℕ) → (a + b + c) * x ≡ a * x + b * x + c * x
spread a b c x = grind arith

spread4 : (a b c d x : ℕ) → (a + b + c + d) * x ≡ a * x + b * x + c * x + d * x
spread4 a b c d x = grind arith

-- t is the switch's time, p and q the periods before and behind it, from and to the budgets of both levels
pub one_switch : (time head tail slack rest left p q t from to : ℕ) → p ≤ q → left ≤ rest → (rest + tail) * q + t + from ≤ (rest + tail + slack) * p + to → time + (head + tail + slack + left) * p ≤ from
    → time + head * p + t + tail * q + left * q ≤ to
one_switch time head tail slack rest left p q t from to slower at_most test safe =
    -- a larger rest makes the test harder
    let spare : (rest - left) * p ≤ (rest - left) * q = mul-le-mul_left (rest - left) slower in
    let split : rest ≡ left + (rest - left) = omega arith in
    let at_q : (rest + tail) * q ≡ left * q + (rest - left) * q + tail * q = ap (λ r. (r + tail) * q) split ∙ spread left (rest - left) tail q in
    let at_p : (rest + tail + slack) * p ≡ left * p + (rest - left) * p + tail * p + slack * p = ap (λ r. (r + tail + slack) * p) split ∙ spread4 left (rest - left) tail slack p in
    let whole : (head + tail + slack + left) * p ≡ head * p + tail * p + slack * p + left * p = spread4 head tail slack left p in
    omega arith

-- and where the level stays
pub no_switch_safe : (time head tail left before p deadline : ℕ) → head + tail + left ≤ before → time + before * p ≤ deadline → time + head * p + 0 + tail * p + left * p ≤ deadline
no_switch_safe time head tail left before p deadline falls safe =
    let less : (head + tail + left) * p ≤ before * p = mul-le-mul_right p falls in
    let split = spread head tail left p in
    omega (arith, less, split, safe)

-- a payment by the least cycles is one by more
pub pays_more : (power : PowerModel) (i j least more : ℕ) → least ≤ more → fee power (record { from = i; to = j; cycles = least }) ≤ saved power (record { from = i; to = j; cycles = least }) → fee power (record { from = i; to = j; cycles = more }) ≤ saved power (record { from = i; to = j; cycles = more })
pays_more power i j least more le pays =
    let up : least * (energy power i - energy power j) ≤ more * (energy power i - energy power j) = mul-le-mul_right (energy power i - energy power j) le in
    omega (arith, up, pays)
