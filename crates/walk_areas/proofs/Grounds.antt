-- A pointer that moves on by less than intervals are apart stays in its interval.
use Rattle.std.proofs.Common.{◌≡◌, ℕ, ◌+◌, ◌-◌, ◌*◌, ◌<◌, ◌≤◌, ◌%◌, ◌^◌, ⊎_elim, ◌⊎◌, inl, inr, Bool, true, false, refl, sym, ap, ◌∙◌, subst, arith, Option, Some, None}
use Rattle.std.proofs.Math.Nat.{add-mul, mul-le-mul_right}
use Rattle.bound_laws.specs.Values.{Arc, IsIn, IsHeld, ahead, Covers, meet_of}
use Rattle.bound_laws.proofs.Laws.{in_covers, meet_of_in}
use Rattle.stack_laws.specs.Areas.{AreDisjoint}
use Rattle.stack_laws.proofs.Laws.{disjoint}
use Rattle.walk_areas.specs.Walking.{WalkCertificate, IsBeyond, IsOnGround, IsBarren, IsOfAreas, IsOfFixed, IsStep, IsGround}

-- so much of the interval is behind the address, by the way of the walk
abbrev pub IsPast : Bool → Arc → (at n : ℕ) → Type 0
IsPast true x at n = ahead x.low at + n ≤ x.more
IsPast false x at n = n ≤ ahead x.low at

-- an address in an interval of the ground, of which so much is behind it
pub record IsHere (c : WalkCertificate) (at n : ℕ) : Type 0 where
  pub number : ℕ
  pub interval : Arc
  pub interval_is : c.ground number ≡ Some interval
  pub inside : IsIn interval at
  pub past : IsPast c.down interval at n

moved_ahead : (low more a b s gap : ℕ) → low < 2 ^ 32 → a < 2 ^ 32 → (a + (2 ^ 32 - low)) % 2 ^ 32 ≤ more → b ≡ (a + s) % 2 ^ 32 → s ≤ gap → more + gap < 2 ^ 32 →
    (b + (2 ^ 32 - low)) % 2 ^ 32 ≡ (a + (2 ^ 32 - low)) % 2 ^ 32 + s
moved_ahead low more a b s gap l w near e le less = omega arith

-- a step up leads to no interval that is beyond
no_way : (x y : Arc) (a b s gap : ℕ) → IsIn x a → IsIn y b → b ≡ (a + s) % 2 ^ 32 → s ≤ gap → x.more + gap < 2 ^ 32 → IsBeyond x y gap → ⊥
no_way x y a b s gap inside there e le less beyond =
    let m : ahead x.low b ≡ ahead x.low a + s = moved_ahead x.low x.more a b s gap inside.start inside.word inside.near e le less in
    let n : ahead x.low b ≤ x.more + gap = (let near = inside.near in omega arith) in
    disjoint x.low (x.more + gap) y.low y.more b inside.start there.start there.word n there.near beyond.0 beyond.1

-- an address in the place and in an area is in an interval of the ground
record IsGrounded (ground : ℕ → Option Arc) (at : ℕ) : Type 0 where
  number : ℕ
  interval : Arc
  interval_is : ground number ≡ Some interval
  inside : IsIn interval at

in_neither : (place : Option Arc) (x : Arc) (at : ℕ) → IsHeld place at → IsIn x at → AreDisjoint place x → ⊥
in_neither None x at a b h = h
in_neither (Some i) x at a b h = disjoint i.low i.more x.low x.more at a.start b.start a.word a.near b.near h.0 h.1

grounded : (ground : ℕ → Option Arc) (place : Option Arc) (x : Arc) (at : ℕ) → IsOnGround ground place x → IsHeld place at → IsIn x at → IsGrounded ground at
grounded ground place x at on here inside = ⊎_elim
    (λ (none : AreDisjoint place x). absurd (in_neither place x at here inside none))
    (λ (q : (j : ℕ) × (y : Arc) × (ground j ≡ Some y) × Covers (Some y) (meet_of place (Some x))).
    record { number = q.0; interval = q.1; interval_is = q.2; inside = in_covers (meet_of place (Some x)) (Some q.1) at (meet_of_in place (Some x) at here inside) q.3 }) on

some_same : (x y : Arc) → Some x ≡ Some y → x ≡ y
some_same x y e = cc

-- a step within an interval
further : (down : Bool) (x : Arc) (was now s n least gap : ℕ) → IsIn x was → IsIn x now → IsStep down was s now → least ≤ s → s ≤ gap → x.more + gap < 2 ^ 32 → IsPast down x was n → IsPast down x now (n + least)
further false x was now s n least gap inside there step low le fits past =
    let m : ahead x.low now ≡ ahead x.low was + s = moved_ahead x.low x.more was now s gap inside.start inside.word inside.near step le fits in
    omega (arith, m, low, past)
further true x was now s n least gap inside there step low le fits past =
    let m : ahead x.low was ≡ ahead x.low now + s = moved_ahead x.low x.more now was s gap there.start there.word there.near step le fits in
    omega (arith, m, low, past)

-- what is past is past less, too
past_more : (down : Bool) (x : Arc) (at n m : ℕ) → m ≤ n → IsPast down x at n → IsPast down x at m
past_more true x at n m le past = omega (arith, le, past)
past_more false x at n m le past = omega (arith, le, past)

past_none : (down : Bool) (x : Arc) (at : ℕ) → IsIn x at → IsPast down x at 0
past_none true x at inside = (let near : ahead x.low at ≤ x.more = inside.near in omega (arith, near))
past_none false x at inside = omega arith

past_less : (down : Bool) (x : Arc) (at n : ℕ) → IsIn x at → IsPast down x at n → n ≤ x.more
past_less true x at n inside past = let p = past in omega arith
past_less false x at n inside past = let p = past in let near = inside.near in omega arith

module _ (areas : ℕ → Option Arc) (fixed : ℕ → Option ℕ) (c : WalkCertificate) (ground : IsGround areas fixed c) where
  abbrev gap : ℕ
  gap = c.least + c.spread

  same_interval : (k j : ℕ) (x y : Arc) → k ≡ j → c.ground k ≡ Some x → c.ground j ≡ Some y → x ≡ y
  same_interval k j x y e a b = some_same x y (sym a ∙ (ap c.ground e ∙ b))

  -- where the pointer was, and the step behind that
  pub record IsStepped (count now : ℕ) : Type 0 where
    pub before : ℕ
    pub few : count ≤ before + 1
    pub was : ℕ
    pub here : IsHere c was (before * c.least)
    pub step : ℕ
    pub steps : IsStep c.down was step now
    pub low : c.least ≤ step
    pub high : step ≤ gap

  -- so many turns were taken at most, by where the pointer of this turn points
  abbrev pub IsGood : (count now : ℕ) → Type 0
  IsGood count now = ((count ≡ 0) × IsHeld c.start now) ⊎ IsStepped count now

  -- and none as well
  pub good_anew : (count now : ℕ) → IsGood count now → IsGood 0 now
  good_anew count now good = ⊎_elim
      (λ (none : (count ≡ 0) × IsHeld c.start now). inl (refl, none.1))
      (λ (s : IsStepped count now). inr (record { before = s.before; few = omega arith; was = s.was; here = s.here; step = s.step; steps = s.steps; low = s.low; high = s.high })) good

  -- an address in an interval that none was behind yet, and one that is in the interval of the last turn's
  at_first : (count now k : ℕ) (x : Arc) → c.ground k ≡ Some x → IsIn x now → count ≡ 0 → IsHere c now (count * c.least)
  at_first count now k x e inside none = record {
    number = k;
    interval = x;
    interval_is = e;
    inside = inside;
    past = subst (IsPast c.down x now) (let z : 0 ≡ 0 * c.least = omega arith in z ∙ ap (λ n. n * c.least) (sym none)) (past_none c.down x now inside);
  }

  at_next : (count now : ℕ) (s : IsStepped count now) → IsIn s.here.interval now → IsHere c now (count * c.least)
  at_next count now s inside =
      let x : Arc = s.here.interval in
      let d : (s.before + 1) * c.least ≡ s.before * c.least + 1 * c.least = add-mul s.before 1 c.least in
      let le : count * c.least ≤ (s.before + 1) * c.least = mul-le-mul_right c.least s.few in
      record {
        number = s.here.number;
        interval = x;
        interval_is = s.here.interval_is;
        inside = inside;
        past = past_more c.down x now (s.before * c.least + c.least) (count * c.least) (omega (arith, d, le))
            (further c.down x s.was now s.step (s.before * c.least) c.least gap s.here.inside inside s.steps s.low s.high (ground.short s.here.number x s.here.interval_is).1 s.here.past);
      }

  -- a ground of areas
  module _ (of : IsOfAreas areas c) where
    -- from a up to b: both are in one interval
    one_interval : (k j : ℕ) (x y : Arc) (a b s : ℕ) → c.ground k ≡ Some x → c.ground j ≡ Some y → IsIn x a → IsIn y b → b ≡ (a + s) % 2 ^ 32 → s ≤ gap → x ≡ y
    one_interval k j x y a b s e f inside there step le = ⊎_elim
        (λ (same : k ≡ j). same_interval k j x y same e f)
        (λ (beyond : IsBeyond x y gap). absurd (no_way x y a b s gap inside there step le (ground.short k x e).1 beyond)) (of.apart k j x y e f)

    both_ways : (down : Bool) (k j : ℕ) (x y : Arc) (was now s : ℕ) → c.ground k ≡ Some x → c.ground j ≡ Some y → IsIn x was → IsIn y now → IsStep down was s now → s ≤ gap → x ≡ y
    both_ways false k j x y was now s e f inside there step le = one_interval k j x y was now s e f inside there step le
    both_ways true k j x y was now s e f inside there step le = sym (one_interval j k y x now was s f e there inside step le)

    shown_by_areas : (count now : ℕ) → IsGood count now → IsHeld c.place now → (k : ℕ) (x : Arc) → areas k ≡ Some x → IsIn x now → IsHere c now (count * c.least)
    shown_by_areas count now good here k x e inside =
        let g : IsGrounded c.ground now = grounded c.ground c.place x now (of.holds k x e) here inside in
        ⊎_elim
        (λ (none : (count ≡ 0) × IsHeld c.start now). at_first count now g.number g.interval g.interval_is g.inside none.0)
        (λ (s : IsStepped count now). at_next count now s (subst (λ y. IsIn y now)
        (sym (both_ways c.down s.here.number g.number s.here.interval g.interval s.was now s.step s.here.interval_is g.interval_is s.here.inside g.inside s.steps s.high)) g.inside)) good

  -- a ground of fixed bytes
  shown_by_fixed : IsOfFixed fixed c → (count now : ℕ) → IsGood count now → IsHeld c.place now → now < 2 ^ 32 → (IsBarren fixed c.sought now → ⊥) → IsHere c now (count * c.least)
  shown_by_fixed of count now good here word fertile = ⊎_elim
      (λ (none : (count ≡ 0) × IsHeld c.start now). ⊎_elim
      (λ (barren : IsBarren fixed c.sought now). absurd (fertile barren))
      (λ (q : (k : ℕ) × (x : Arc) × (c.ground k ≡ Some x) × IsIn x now). at_first count now q.0 q.1 q.2 q.3 none.0) (of.begins now none.1 here))
      (λ (s : IsStepped count now). ⊎_elim
      (λ (barren : IsBarren fixed c.sought now). absurd (fertile barren))
      (λ (inside : IsIn s.here.interval now). at_next count now s inside)
      (of.goes_on s.here.number s.here.interval s.was s.step now s.here.interval_is s.here.inside s.steps s.low s.high word here)) good

  -- an access to an address that isn't barren shows where that is
  pub shown : (count now : ℕ) → IsGood count now → IsHeld c.place now → (k : ℕ) (x : Arc) → areas k ≡ Some x → IsIn x now → (IsBarren fixed c.sought now → ⊥) → IsHere c now (count * c.least)
  shown count now good here k x e inside fertile = ⊎_elim
      (λ (of : IsOfAreas areas c). shown_by_areas of count now good here k x e inside)
      (λ (of : IsOfFixed fixed c). shown_by_fixed of count now good here inside.word fertile) ground.is

  pub few_good : (count now : ℕ) → IsGood count now → count * c.least ≤ c.width
  few_good count now good = ⊎_elim
      (λ (none : (count ≡ 0) × IsHeld c.start now). subst (λ n. n * c.least ≤ c.width) (sym none.0) (let z : 0 * c.least ≤ c.width = omega arith in z))
      (λ (s : IsStepped count now).
      let d : (s.before + 1) * c.least ≡ s.before * c.least + 1 * c.least = add-mul s.before 1 c.least in
      let le : count * c.least ≤ (s.before + 1) * c.least = mul-le-mul_right c.least s.few in
      let less : s.before * c.least ≤ s.here.interval.more = past_less c.down s.here.interval s.was (s.before * c.least) s.here.inside s.here.past in
      let fits : s.here.interval.more + c.least ≤ c.width = (ground.short s.here.number s.here.interval s.here.interval_is).0 in
      omega (arith, d, le, less, fits)) good
