-- Sums over legs.
use Rattle.std.proofs.Common.{◌≡◌, ℕ, suc, ◌+◌, ◌*◌, ◌≤◌, Bool, true, false, cond, not, List, [], ◌∷◌, ◌++◌, length, refl, arith, ◌∙◌, ap, length-append, Option, Some, None}
use Rattle.std.specs.Prelude.{All, filter}
use Rattle.std.specs.List.{sum_by}
use Rattle.std.proofs.lemmas.List.Sums.{sum_by-cons, sum_by-append}
use Rattle.std.proofs.lemmas.List.Concat.{flat_map-cons}
use Rattle.scale_base.specs.declared.fragments.Fragment.{Fragment}
use Rattle.scale_base.specs.declared.fragments.Fragment.TheVariants.{Switch, Exit, Reset, Count, Lowest, Tally}
use Rattle.scale_base.specs.declared.stepping.Class.{Class}
use Rattle.scale_base.specs.declared.stepping.Class.TheVariants as classes
use Rattle.scale_base.specs.declared.stepping.Stepped.{Stepped}
use Rattle.stub_writer.specs.Stubs.{Site, Place, Forked, Straight}
use Rattle.stored_runs.specs.Cycles.{stepped_cycles, fragment_cost}
use Rattle.stored_runs.specs.Marks.{Shadow, place_at, jumps_by, fragments_over, extra_cycles, stored_cycles, shadow_more}
use Rattle.stored_runs.specs.Legs.{Leg, AreLegs, originals, all_steps}
use Rattle.stored_runs.specs.Laws.{text_steps}

pub cost_of_legs : (sites : List Site) (h : Shadow) (legs : List Leg) → AreLegs sites h legs → (costs : Class → ℕ) → stepped_cycles costs (all_steps legs) ≡ sum_by (stored_cycles costs sites) (originals legs)
cost_of_legs sites h [] are costs = refl
cost_of_legs sites h (l ∷ legs) are costs =
    let rest = cost_of_legs sites (shadow_more sites h l.step) legs are.1 costs in
    let first = are.0.cost costs in
    let split = ap (stepped_cycles costs) (flat_map-cons (λ k. k.steps) l legs) ∙ sum_by-append (λ x. costs x.class) l.steps (all_steps legs) in
    omega (arith, rest, first, split, sum_by-cons (stored_cycles costs sites) l.step (originals legs))

-- ---- steps of the text

pub filter_append : (p : Stepped → Bool) (xs ys : List Stepped) → filter p (xs ++ ys) ≡ filter p xs ++ filter p ys
filter_append p [] ys = refl
filter_append p (x ∷ xs) ys = step (p x) (filter_append p xs ys)
  where
    step : (b : Bool) → filter p (xs ++ ys) ≡ filter p xs ++ filter p ys → cond b (x ∷ filter p (xs ++ ys)) (filter p (xs ++ ys)) ≡ cond b (x ∷ filter p xs) (filter p xs) ++ filter p ys
    step true e = ap (λ l. x ∷ l) e
    step false e = e

none_of_text : (xs : List Stepped) → All (λ x. x.keyed ≡ true) xs → length (text_steps xs) ≡ 0
none_of_text [] h = refl
none_of_text (x ∷ xs) h = step x.keyed (h 0 x (omega arith)) (none_of_text xs (λ k d lt. h (suc k) d (omega arith)))
  where
    step : (b : Bool) → b ≡ true → length (text_steps xs) ≡ 0 → length (cond (not b) (x ∷ text_steps xs) (text_steps xs)) ≡ 0
    step true e go = go
    step false e go = let never : ⊥ = cc in absurd never

one_of_text : (x : Stepped) (xs : List Stepped) → x.keyed ≡ false → All (λ y. y.keyed ≡ true) xs → length (text_steps (x ∷ xs)) ≡ 1
one_of_text x xs text keyed = step x.keyed text (none_of_text xs keyed)
  where
    step : (b : Bool) → b ≡ false → length (text_steps xs) ≡ 0 → length (cond (not b) (x ∷ text_steps xs) (text_steps xs)) ≡ 1
    step true e go = let never : ⊥ = cc in absurd never
    step false e go = ap suc go

pub text_of_legs : (sites : List Site) (h : Shadow) (legs : List Leg) → AreLegs sites h legs → length (text_steps (all_steps legs)) ≡ length legs
text_of_legs sites h [] are = refl
text_of_legs sites h (l ∷ legs) are =
    let rest = text_of_legs sites (shadow_more sites h l.step) legs are.1 in
    let first = ap (λ xs. length (text_steps xs)) are.0.parts ∙ one_of_text are.0.first are.0.others are.0.text are.0.keyed in
    let split = ap (λ xs. length (text_steps xs)) (flat_map-cons (λ k. k.steps) l legs) ∙ (ap (λ (xs : List Stepped). length xs) (filter_append (λ x. not x.keyed) l.steps (all_steps legs)) ∙ length-append (text_steps l.steps) (text_steps (all_steps legs))) in
    omega (arith, rest, first, split)

-- ---- how many there are

each_once : (xs : List Stepped) → stepped_cycles (λ class. 1) xs ≡ length xs
each_once [] = refl
each_once (x ∷ xs) = let rest = each_once xs in omega (arith, rest, sum_by-cons (λ y. 1) x xs)

fragment_least : (costs : Class → ℕ) → ((class : Class) → 1 ≤ costs class) → (f : Fragment) → fragment_cost (λ class. 1) f ≤ fragment_cost costs f
fragment_least costs h (Switch word) = omega (arith, h classes.Store, h classes.Load, h classes.Alu)
fragment_least costs h (Exit counter shift rows) = omega (arith, h classes.Store, h classes.Load, h classes.Alu)
fragment_least costs h (Reset counter) = omega (arith, h classes.Store)
fragment_least costs h (Count counter) = omega (arith, h classes.Store, h classes.Load, h classes.Alu)
fragment_least costs h (Lowest down) = omega (arith, h classes.Store)
fragment_least costs h (Tally counter shift from) = omega (arith, h classes.Store, h classes.Load, h classes.Alu)

fragments_least : (costs : Class → ℕ) → ((class : Class) → 1 ≤ costs class) → (fs : List Fragment) → sum_by (fragment_cost (λ class. 1)) fs ≤ sum_by (fragment_cost costs) fs
fragments_least costs h [] = omega arith
fragments_least costs h (f ∷ fs) =
    let rest = fragments_least costs h fs in
    omega (arith, rest, fragment_least costs h f, sum_by-cons (fragment_cost (λ class. 1)) f fs, sum_by-cons (fragment_cost costs) f fs)

jumps_least : (costs : Class → ℕ) → ((class : Class) → 1 ≤ costs class) → (p : Option Place) → jumps_by p * 1 ≤ jumps_by p * costs classes.Jump
jumps_least costs h None = omega arith
jumps_least costs h (Some (Forked op rs1 rs2 untaken taken)) = omega (arith, h classes.Jump)
jumps_least costs h (Some (Straight way)) = omega (arith, h classes.Jump)

extra_least : (costs : Class → ℕ) → ((class : Class) → 1 ≤ costs class) → (sites : List Site) (x : Stepped) → extra_cycles (λ class. 1) sites x ≤ extra_cycles costs sites x
extra_least costs h sites x = omega (arith, jumps_least costs h (place_at sites x.pc), fragments_least costs h (fragments_over sites x))

sums_least : (costs : Class → ℕ) → ((class : Class) → 1 ≤ costs class) → (sites : List Site) (legs : List Leg) → sum_by (stored_cycles (λ class. 1) sites) (originals legs) ≤ length legs + sum_by (extra_cycles costs sites) (originals legs)
sums_least costs h sites [] = omega arith
sums_least costs h sites (l ∷ legs) =
    let rest = sums_least costs h sites legs in
    omega (arith, rest, extra_least costs h sites l.step, sum_by-cons (stored_cycles (λ class. 1) sites) l.step (originals legs), sum_by-cons (extra_cycles costs sites) l.step (originals legs))

pub short_legs : (sites : List Site) (h : Shadow) (legs : List Leg) → AreLegs sites h legs → (costs : Class → ℕ) → ((class : Class) → 1 ≤ costs class) → length (all_steps legs) ≤ length legs + sum_by (extra_cycles costs sites) (originals legs)
short_legs sites h legs are costs least =
    omega (arith, each_once (all_steps legs), cost_of_legs sites h legs are (λ class. 1), sums_least costs least sites legs)

pub long_legs : (sites : List Site) (h : Shadow) (legs : List Leg) → AreLegs sites h legs → length legs ≤ length (all_steps legs)
long_legs sites h [] are = omega arith
long_legs sites h (l ∷ legs) are =
    let rest = long_legs sites (shadow_more sites h l.step) legs are.1 in
    let first = ap (λ (xs : List Stepped). length xs) are.0.parts in
    let split = ap (λ (xs : List Stepped). length xs) (flat_map-cons (λ k. k.steps) l legs) ∙ length-append l.steps (all_steps legs) in
    omega (arith, rest, first, split)
