-- What is so at an address of a loop's body by a certificate of a walk, and what a turn makes of it.
use Rattle.std.proofs.Common.{◌≡◌, ℕ, ◌+◌, ◌-◌, ◌*◌, ◌<◌, ◌≤◌, ◌%◌, ◌^◌, ◌⊎◌, inl, inr, ⊎_elim, Bool, true, false, refl, sym, ap, ◌∙◌, subst, arith, Option, Some, None}
use Rattle.std.proofs.lemmas.Bool.{both_ways}
use Rattle.std.proofs.lemmas.Nat.{mul-mod_second}
use Rattle.scale_base.specs.Arith.{plus, load_width, loaded}
use Rattle.scale_base.specs.State.{reg}
use Rattle.cost_theory.specs.Graph.{Graph}
use Rattle.code_text.specs.Text.{Text}
use Rattle.bound_laws.specs.Values.{Arc, IsIn, IsHeld, arc, strided, negated, negated_of, Covers, IsRegister, Values}
use Rattle.bound_laws.proofs.Laws.{in_covers, in_word, negated_in}
use Rattle.stack_laws.specs.Fixed.{AreFixedIn}
use Rattle.stack_laws.specs.Stacks.{Stacks, View}
use Rattle.walk_areas.specs.Walking.{Trace, traced, IsTraced, IsWider, multiplied, Place, number_in, Sought, WalkCertificate, pointer, steps_of, IsMoved, IsStep, IsGround, IsBegun, IsWalkCertificate}
use Rattle.walk_areas.specs.Walking.Place.{in_register, in_word as in_stack}
use Rattle.walk_areas.proofs.Traces.{wider_in, both_in, times_in, first_in, second_in}
use Rattle.walk_areas.proofs.Grounds.{IsHere, IsGood, few_good, good_anew}

-- where the pointer points, by the numbers in both places at the header
abbrev pub aimed : WalkCertificate → (first second : ℕ) → ℕ
aimed c first second = (c.first_factor * first + c.second_factor * second + c.at) % 2 ^ 32

-- the value is what a load of the kind of what is sought gave at an address of an area and of the place, with the fixed bytes in memory
pub record IsGiven (areas : ℕ → Option Arc) (fixed : ℕ → Option ℕ) (c : WalkCertificate) (at value : ℕ) : Type 0 where
  pub number : ℕ
  pub area : Arc
  pub area_is : areas number ≡ Some area
  pub inside : IsIn area at
  pub placed : IsHeld c.place at
  pub bytes : ℕ → ℕ
  pub fixed_are : AreFixedIn fixed bytes
  pub gives : (x : Sought) → c.sought ≡ Some x → (at % load_width x.op ≡ 0) × (value % 2 ^ 32 ≡ loaded x.op bytes at)

pub given_same : (areas : ℕ → Option Arc) (fixed : ℕ → Option ℕ) (c : WalkCertificate) (at value other : ℕ) → value % 2 ^ 32 ≡ other % 2 ^ 32 → IsGiven areas fixed c at value → IsGiven areas fixed c at other
given_same areas fixed c at value other same g = record {
  number = g.number;
  area = g.area;
  area_is = g.area_is;
  inside = g.inside;
  placed = g.placed;
  bytes = g.bytes;
  fixed_are = g.fixed_are;
  gives = λ x is. ((g.gives x is).0, sym same ∙ (g.gives x is).1);
}

module _ (areas : ℕ → Option Arc) (fixed : ℕ → Option ℕ) (c : WalkCertificate) (ground : IsGround areas fixed c) where
  pub record Facts (a count : ℕ) (x : View) : Type 0 where
    pub first : ℕ
    pub second : ℕ
    pub good : IsGood areas fixed c ground count (aimed c first second)
    pub rows : (r : ℕ) → IsRegister r → IsTraced (c.row a r) first second (reg x.regs r)
    pub words : (k : ℕ) → IsTraced (c.word a k) first second (x.words k)
    pub touched : c.touched a ≡ true → IsHere c (aimed c first second) (count * c.least)
    pub holder : (r : ℕ) → c.holder a ≡ Some r → IsGiven areas fixed c (aimed c first second) (reg x.regs r)

  pub few : (a count : ℕ) (x : View) → Facts a count x → count * c.least ≤ c.width
  few a count x f = few_good areas fixed c ground count (aimed c f.first f.second) f.good

-- ---- a step

aimed_sum : (p q a b at : ℕ) → p % 2 ^ 32 ≡ a % 2 ^ 32 → q % 2 ^ 32 ≡ b % 2 ^ 32 → (p + q + at) % 2 ^ 32 ≡ (plus (a % 2 ^ 32) (b % 2 ^ 32) + at) % 2 ^ 32
aimed_sum p q a b at e f = omega arith

aimed_on : (p f d at : ℕ) → p % 2 ^ 32 ≡ (f + d) % 2 ^ 32 → (p + at) % 2 ^ 32 ≡ ((f + at) % 2 ^ 32 + d) % 2 ^ 32
aimed_on p f d at e = omega arith

aimed_behind : (c : WalkCertificate) (first second m n d : ℕ) → plus (c.first_factor * m % 2 ^ 32) (c.second_factor * n % 2 ^ 32) % 2 ^ 32 ≡ (c.first_factor * first + c.second_factor * second + d) % 2 ^ 32 →
    aimed c (m % 2 ^ 32) (n % 2 ^ 32) ≡ (aimed c first second + d) % 2 ^ 32
aimed_behind c first second m n d e =
    aimed_sum (c.first_factor * (m % 2 ^ 32)) (c.second_factor * (n % 2 ^ 32)) (c.first_factor * m) (c.second_factor * n) c.at (mul-mod_second c.first_factor m (2 ^ 32)) (mul-mod_second c.second_factor n (2 ^ 32))
    ∙ aimed_on (plus (c.first_factor * m % 2 ^ 32) (c.second_factor * n % 2 ^ 32)) (c.first_factor * first + c.second_factor * second) d c.at e

-- the step that is taken, by what is added to the pointer
record HasStep (down : Bool) (least spread was now : ℕ) : Type 0 where
  step : ℕ
  steps : IsStep down was step now
  low : least ≤ step
  high : step ≤ least + spread

lower : (l m e : ℕ) → l < 2 ^ 32 → e < 2 ^ 32 → (e + (2 ^ 32 - l)) % 2 ^ 32 ≤ m → l + m < 2 ^ 32 → l ≤ e
lower l m e a b near less = omega arith

upper : (l m e : ℕ) → l ≤ e → e < 2 ^ 32 → (e + (2 ^ 32 - l)) % 2 ^ 32 ≤ m → e ≤ l + m
upper l m e a b near = omega arith

downwards : (was now d : ℕ) → was < 2 ^ 32 → now ≡ (was + d) % 2 ^ 32 → was ≡ (now + (2 ^ 32 - d % 2 ^ 32) % 2 ^ 32) % 2 ^ 32
downwards was now d small e = omega arith

as_word : (d : ℕ) → d < 2 ^ 32 → (2 ^ 32 - d) % 2 ^ 32 ≡ (2 ^ 32 - d % 2 ^ 32) % 2 ^ 32
as_word d small = omega arith

below : (n : ℕ) → n % 2 ^ 32 < 2 ^ 32
below n = omega arith

opposite_in : (i : Option Arc) (d : ℕ) → IsHeld i d → IsHeld (negated_of i) ((2 ^ 32 - d % 2 ^ 32) % 2 ^ 32)
opposite_in None d h = in_word ((2 ^ 32 - d % 2 ^ 32) % 2 ^ 32) (below (2 ^ 32 - d % 2 ^ 32))
opposite_in (Some i) d h = subst (IsIn (negated i)) (as_word d h.word) (negated_in i d h)

has_step : (down : Bool) (least spread was now d : ℕ) (i : Option Arc) → was < 2 ^ 32 → now ≡ (was + d) % 2 ^ 32 → IsHeld i d → Covers (Some (arc least spread)) (steps_of down i) → least + spread < 2 ^ 32 → HasStep down least spread was now
has_step false least spread was now d i small e h covers fits =
    let is : IsIn (arc least spread) d = in_covers i (Some (arc least spread)) d h covers in
    let low : least ≤ d = lower least spread d is.start is.word is.near fits in
    record { step = d; steps = e; low = low; high = upper least spread d low is.word is.near }
has_step true least spread was now d i small e h covers fits =
    let u : ℕ = (2 ^ 32 - d % 2 ^ 32) % 2 ^ 32 in
    let is : IsIn (arc least spread) u = in_covers (negated_of i) (Some (arc least spread)) u (opposite_in i d h) covers in
    let low : least ≤ u = lower least spread u is.start is.word is.near fits in
    record { step = u; steps = downwards was now d small e; low = low; high = upper least spread u low is.word is.near }

-- ---- at the header

module _ (t : Text) (g : Graph) (v : Values) (w : Stacks) (h : ℕ) (extent : ℕ → Bool) (c : WalkCertificate) (cert : IsWalkCertificate t g v w h extent c) where
  begun_in : (p : Place) (b : Option Trace) (x : View) → IsBegun c p b → IsTraced b (number_in c.first x % 2 ^ 32) (number_in c.second x % 2 ^ 32) (number_in p x)
  begun_in p b x is = ⊎_elim
      (λ (none : b ≡ None). subst (λ o. IsTraced o (number_in c.first x % 2 ^ 32) (number_in c.second x % 2 ^ 32) (number_in p x)) (sym none) tt)
      (λ (some : ((c.first ≡ p) × IsWider b (traced 1 0 (Some (strided 0 0 0)))) ⊎ ((c.second ≡ p) × IsWider b (traced 0 1 (Some (strided 0 0 0))))). ⊎_elim
      (λ (q : (c.first ≡ p) × IsWider b (traced 1 0 (Some (strided 0 0 0)))).
      wider_in b (traced 1 0 (Some (strided 0 0 0))) (number_in c.first x % 2 ^ 32) (number_in c.second x % 2 ^ 32) (number_in p x)
      (first_in (number_in c.first x % 2 ^ 32) (number_in c.second x % 2 ^ 32) (number_in p x) (ap (λ k. number_in k x % 2 ^ 32) (sym q.0))) q.1)
      (λ (q : (c.second ≡ p) × IsWider b (traced 0 1 (Some (strided 0 0 0)))).
      wider_in b (traced 0 1 (Some (strided 0 0 0))) (number_in c.first x % 2 ^ 32) (number_in c.second x % 2 ^ 32) (number_in p x)
      (second_in (number_in c.first x % 2 ^ 32) (number_in c.second x % 2 ^ 32) (number_in p x) (ap (λ k. number_in k x % 2 ^ 32) (sym q.0))) q.1) some) is

  begun : (count : ℕ) (x : View) → IsGood w.areas w.fixed c cert.ground count (aimed c (number_in c.first x % 2 ^ 32) (number_in c.second x % 2 ^ 32)) → Facts w.areas w.fixed c cert.ground h count x
  begun count x good = record {
    first = number_in c.first x % 2 ^ 32;
    second = number_in c.second x % 2 ^ 32;
    good = good;
    rows = λ r is. begun_in (in_register r) (c.row h r) x (cert.rows r is);
    words = λ k. begun_in (in_stack k) (c.word h k) x (cert.words k);
    touched = λ on. absurd (both_ways (c.touched h) cert.untouched on);
    holder = λ r is. (let none : None ≡ Some r = sym cert.unheld ∙ is in let bad : ⊥ = cc in absurd bad);
  }

  -- where the pointer points at the header
  abbrev pub aimed_at : View → ℕ
  aimed_at x = aimed c (number_in c.first x % 2 ^ 32) (number_in c.second x % 2 ^ 32)

  pub fresh : (x : View) → IsHeld c.start (aimed_at x) → Facts w.areas w.fixed c cert.ground h 0 x
  fresh x start = begun 0 x (inl (refl, start))

  -- what is so after so many turns is so after none
  pub anew : (count : ℕ) (x : View) → Facts w.areas w.fixed c cert.ground h count x → Facts w.areas w.fixed c cert.ground h 0 x
  anew count x f = record {
    first = f.first;
    second = f.second;
    good = good_anew w.areas w.fixed c cert.ground count (aimed c f.first f.second) f.good;
    rows = f.rows;
    words = f.words;
    touched = λ on. absurd (both_ways (c.touched h) cert.untouched on);
    holder = f.holder;
  }

  moved_in : (z : Option Trace) (first second m n : ℕ) → IsMoved c z → IsTraced z first second (plus (c.first_factor * m % 2 ^ 32) (c.second_factor * n % 2 ^ 32)) → c.least + c.spread < 2 ^ 32 →
      HasStep c.down c.least c.spread (aimed c first second) (aimed c (m % 2 ^ 32) (n % 2 ^ 32))
  moved_in None first second m n moved is fits = absurd moved
  moved_in (Some z) first second m n moved is fits =
      let p : ℕ = plus (c.first_factor * m % 2 ^ 32) (c.second_factor * n % 2 ^ 32) in
      let e : p % 2 ^ 32 ≡ (c.first_factor * first + c.second_factor * second + is.0) % 2 ^ 32 =
      is.2 ∙ (ap (λ f. (f * first + z.seconds * second + is.0) % 2 ^ 32) moved.0 ∙ ap (λ f. (c.first_factor * first + f * second + is.0) % 2 ^ 32) moved.1) in
      has_step c.down c.least c.spread (aimed c first second) (aimed c (m % 2 ^ 32) (n % 2 ^ 32)) is.0 z.more (below (c.first_factor * first + c.second_factor * second + c.at)) (aimed_behind c first second m n is.0 e) is.1 moved.2 fits

  -- a turn: the places are traced, the pointer by them is a step further, and memory was accessed where it was
  pub turned : (count first second : ℕ) (x : View) (one two : Option Trace) → IsTraced one first second (number_in c.first x) → IsTraced two first second (number_in c.second x) → IsMoved c (pointer c one two) →
      IsHere c (aimed c first second) (count * c.least) → Facts w.areas w.fixed c cert.ground h (count + 1) x
  turned count first second x one two a b moved here =
      let m : ℕ = number_in c.first x in
      let n : ℕ = number_in c.second x in
      let is : IsTraced (pointer c one two) first second (plus (c.first_factor * m % 2 ^ 32) (c.second_factor * n % 2 ^ 32)) =
      both_in (multiplied one c.first_factor) (multiplied two c.second_factor) first second (c.first_factor * m % 2 ^ 32) (c.second_factor * n % 2 ^ 32)
      (times_in one first second m c.first_factor a) (times_in two first second n c.second_factor b) in
      let all = (cert.ground.short here.number here.interval here.interval_is).1 in
      let s : HasStep c.down c.least c.spread (aimed c first second) (aimed c (m % 2 ^ 32) (n % 2 ^ 32)) = moved_in (pointer c one two) first second m n moved is (omega arith) in
      begun (count + 1) x (inr (record { before = count; few = omega arith; was = aimed c first second; here = here; step = s.step; steps = s.steps; low = s.low; high = s.high }))
