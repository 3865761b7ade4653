-- The price of the steps of a leg.
use Rattle.std.proofs.Common.{◌≡◌, ℕ, suc, ◌+◌, ◌*◌, List, [], ◌∷◌, ◌++◌, fold, refl, sym, ap, ◌∙◌, subst, arith, Option, Some, None}
use Rattle.std.specs.Prelude.{All, unwrap_or}
use Rattle.std.proofs.Math.Nat.{add-mul}
use Rattle.std.proofs.lemmas.Bool.Decides.{nat_tests}
use Rattle.std.proofs.lemmas.List.Sums.{sum_by-cons, sum_by-append, fold-append}
use Rattle.scale_base.specs.declared.stepping.Class.{Class}
use Rattle.scale_base.specs.declared.stepping.Stepped.{Stepped}
use Rattle.power_model.specs.Numbers.{PowerModel, RunPrice}
use Rattle.power_model.specs.Price.{level_after, metered, switch_time, time_at}
use Rattle.stub_writer.specs.Stubs.{Site}
use Rattle.stored_runs.specs.Cycles.{stepped_cycles}
use Rattle.stored_runs.specs.Marks.{Shadow, fragments_over, tail_cycles, level_stored}
use Rattle.stored_runs.specs.Legs.{Leg, StoresLevel, IsLeg}
use Rattle.power_model.specs.Switches.{period, costs_of}
use Rattle.paid_runs.specs.Paid.{tail_if, IsPaidLeg}

-- no change of level takes no time
pub no_switch : (power : PowerModel) (i : ℕ) → switch_time power i i ≡ 0
no_switch power i = grind (arith, nat_tests)

abbrev pub AreSilent : List Stepped → Type 0
AreSilent xs = All (λ x. x.port ≡ None) xs

-- steps that store nothing at the port
pub record IsAtLevel (power : PowerModel) (n m : RunPrice) (stepped_cycles : ℕ) : Type 0 where
  pub level : m.level ≡ n.level
  pub time : m.time ≡ n.time + stepped_cycles * period power n.level

pub silent_price : (power : PowerModel) (n : RunPrice) (xs : List Stepped) → AreSilent xs → IsAtLevel power n (fold (metered power) n xs) (stepped_cycles (costs_of power) xs)
silent_price power n [] h = record { level = refl; time = omega arith }
silent_price power n (x ∷ xs) h =
    let stays : level_after n.level x ≡ n.level = ap (λ o. unwrap_or o n.level) (h 0 x (omega arith)) in
    let rest = silent_price power (metered power n x) xs (λ k d lt. h (suc k) d (omega arith)) in
    let none : switch_time power n.level (level_after n.level x) ≡ 0 = ap (switch_time power n.level) stays ∙ no_switch power n.level in
    let later = rest.time in
    let rate : stepped_cycles (costs_of power) xs * period power (level_after n.level x) ≡ stepped_cycles (costs_of power) xs * period power n.level = ap (λ i. stepped_cycles (costs_of power) xs * period power i) stays in
    let split = add-mul (costs_of power x.class) (stepped_cycles (costs_of power) xs) (period power n.level) in
    let sum : stepped_cycles (costs_of power) (x ∷ xs) ≡ costs_of power x.class + stepped_cycles (costs_of power) xs = sum_by-cons (λ y. costs_of power y.class) x xs in
    let whole : stepped_cycles (costs_of power) (x ∷ xs) * period power n.level ≡ costs_of power x.class * period power n.level + stepped_cycles (costs_of power) xs * period power n.level = ap (λ c. c * period power n.level) sum ∙ split in
    record { level = rest.level ∙ stays; time = omega (arith, later, none, rate, whole) }

abbrev Paid : PowerModel → RunPrice → RunPrice → (whole tail to : ℕ) → Type 0
Paid power n m whole tail to = (head : ℕ) × (head + tail ≡ whole) × (m.level ≡ to) × (m.time ≡ n.time + time_at power n.level head + switch_time power n.level m.level + time_at power m.level tail)

-- where nothing is stored
stays_paid : (power : PowerModel) (n m : RunPrice) (c : ℕ) → IsAtLevel power n m c → Paid power n m c 0 n.level
stays_paid power n m c h =
    let none : switch_time power n.level m.level ≡ 0 = ap (switch_time power n.level) h.level ∙ no_switch power n.level in
    let time = h.time in
    (c, omega arith, h.level, omega (arith, none, time))

-- where a level is stored once
once_paid : (power : PowerModel) (n : RunPrice) (before behind : List Stepped) (store : Stepped) (j : ℕ) → AreSilent before → AreSilent behind → store.port ≡ Some j
    → Paid power n (fold (metered power) n (before ++ store ∷ behind)) (stepped_cycles (costs_of power) (before ++ store ∷ behind)) (stepped_cycles (costs_of power) behind) j
once_paid power n before behind store j silent_before silent_behind stored =
    let costs = costs_of power in
    let a : RunPrice = fold (metered power) n before in
    let b : RunPrice = metered power a store in
    let m : RunPrice = fold (metered power) b behind in
    let whole : fold (metered power) n (before ++ store ∷ behind) ≡ m = fold-append (metered power) n before (store ∷ behind) in
    let first = silent_price power n before silent_before in
    let last = silent_price power b behind silent_behind in
    let to : b.level ≡ j = ap (λ o. unwrap_or o a.level) stored in
    let level_is : m.level ≡ j = last.level ∙ to in
    let t1 = first.time in
    let t2 = last.time in
    let sum : stepped_cycles costs (before ++ store ∷ behind) ≡ stepped_cycles costs before + (costs store.class + stepped_cycles costs behind) = sum_by-append (λ y. costs y.class) before (store ∷ behind) ∙ ap (λ c. stepped_cycles costs before + c) (sum_by-cons (λ y. costs y.class) store behind) in
    let rate : costs store.class * period power a.level ≡ costs store.class * period power n.level = ap (λ i. costs store.class * period power i) first.level in
    let switch : switch_time power a.level b.level ≡ switch_time power n.level m.level = ap (λ i. switch_time power i b.level) first.level ∙ ap (switch_time power n.level) (sym last.level) in
    let behind_rate : stepped_cycles costs behind * period power b.level ≡ stepped_cycles costs behind * period power m.level = ap (λ i. stepped_cycles costs behind * period power i) (sym last.level) in
    let split = add-mul (stepped_cycles costs before) (costs store.class) (period power n.level) in
    let time_is : m.time ≡ n.time + (stepped_cycles costs before + costs store.class) * period power n.level + switch_time power n.level m.level + stepped_cycles costs behind * period power m.level = omega (arith, t1, t2, rate, switch, behind_rate, split) in
    subst (λ (q : RunPrice). Paid power n q (stepped_cycles costs (before ++ store ∷ behind)) (stepped_cycles costs behind) j) (sym whole)
    (stepped_cycles costs before + costs store.class, omega (arith, sum), level_is, time_is)

paid_by : (power : PowerModel) (n : RunPrice) (stored : Option ℕ) (tail : (Class → ℕ) → ℕ) (xs : List Stepped) → StoresLevel stored tail xs
    → Paid power n (fold (metered power) n xs) (stepped_cycles (costs_of power) xs) (tail_if stored (tail (costs_of power))) (unwrap_or stored n.level)
paid_by power n None tail xs h = stays_paid power n (fold (metered power) n xs) (stepped_cycles (costs_of power) xs) (silent_price power n xs h)
paid_by power n (Some j) tail xs h =
    subst (λ c. Paid power n (fold (metered power) n xs) (stepped_cycles (costs_of power) xs) c j) (h.tail_is (costs_of power))
    (subst (λ ys. Paid power n (fold (metered power) n ys) (stepped_cycles (costs_of power) ys) (stepped_cycles (costs_of power) h.behind) j) (sym h.parts) (once_paid power n h.before h.behind h.store j h.none_before h.none_behind h.level_is))

pub leg_paid : (power : PowerModel) (sites : List Site) (h : Shadow) (l : Leg) (n : RunPrice) → IsLeg sites h l → n.level ≡ h.level → IsPaidLeg power sites h l n (fold (metered power) n l.steps)
leg_paid power sites h l n is same =
    let fs = fragments_over sites l.step in
    let paid = paid_by power n (level_stored fs h) (λ costs. tail_cycles costs fs) l.steps is.stores in
    let cost = is.cost (costs_of power) in
    record {
      head = paid.0;
      tail = tail_if (level_stored fs h) (tail_cycles (costs_of power) fs);
      parts = paid.1 ∙ cost;
      tail_is = refl;
      level = paid.2 ∙ ap (λ i. unwrap_or (level_stored fs h) i) same;
      time = paid.3;
    }
