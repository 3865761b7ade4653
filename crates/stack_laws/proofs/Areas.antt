-- What a load or a store of a step that goes on says of its address, and what that says of its register.
use Rattle.std.proofs.Common.{◌≡◌, ℕ, zero, suc, ◌+◌, ◌-◌, ◌*◌, ◌<◌, ◌≤◌, ◌%◌, ◌^◌, ⊎_elim, Bool, true, false, List, length, refl, sym, ap, ◌∙◌, subst, arith, Option, Some, None}
use Rattle.std.specs.Prelude.{◌==◌, ◌||◌, ◌&&◌, not}
use Rattle.std.proofs.lemmas.Bool.{cond_both, and_parts, or_left, or_right}
use Rattle.scale_base.specs.declared.instruction.LoadOp.{LoadOp}
use Rattle.scale_base.specs.declared.instruction.LoadOp.TheVariants.{Lb, Lh, Lw, Lbu, Lhu}
use Rattle.scale_base.specs.declared.instruction.StoreOp.{StoreOp}
use Rattle.scale_base.specs.declared.instruction.StoreOp.TheVariants.{Sb, Sh, Sw}
use Rattle.scale_base.specs.declared.instruction.Instr.{Instr}
use Rattle.scale_base.specs.declared.instruction.Instr.TheVariants.{Load, Store}
use Rattle.scale_base.specs.declared.stepping.Stepped.{Stepped}
use Rattle.scale_base.specs.declared.stepping.StepEnd.TheVariants.{Went}
use Rattle.scale_base.specs.Reading.{instr_of}
use Rattle.scale_base.specs.Layout.{can_read, can_write, each_byte, in_option, is_keyed, may_read, may_write, reads_byte, uses_window}
use Rattle.scale_base.specs.Arith.{plus, moved_by, load_width, store_width}
use Rattle.scale_base.specs.State.{Setting, State, reg, word_at}
use Rattle.scale_base.specs.Step.{Outcome, loads, stores, performs, step}
use Rattle.bound_laws.specs.Registers.{Measure, keeps, measured}
use Rattle.bound_laws.specs.Values.{Arc, IsIn, IsHeld, Covers, difference_of, held, meet_of, opposite_of, passed, scaled, sum_with, Values}
use Rattle.bound_laws.proofs.Laws.{in_covers, in_word, meet_of_in, only_one, scaled_in, solved_in, step_of, sum_in, sum_with_in, word_of}
use Rattle.stack_laws.specs.Areas.{AreDisjoint, IsAccess, IsAccessedIn, IsCoveredByAccess, IsCutTo, IsLaidOut, IsSolvedByAccess, IsSolvedTo}
use Rattle.stack_laws.specs.Areas.IsAccess.{loads as by_load, stores as by_store}
use Rattle.stack_laws.specs.Areas.IsSolvedTo.{less, once}
use Rattle.stack_laws.specs.Stacks.{IsNamed, IsSpanned, IsSpannedByInterval, Stacks, View, view_of, AreTold}
use Rattle.stack_laws.specs.Stacks.Name.{of_word}
use Rattle.stack_laws.proofs.Stores.{no_window}
use Rattle.stack_laws.proofs.Making.{side_is}
use Rattle.stack_laws.proofs.Naming.{spanned_covers, spanned_from}
use Rattle.stack_laws.proofs.Stepping.{held_at}

-- ---- what a step says of an address

-- a test of many bytes is one of the first
first_byte : (test : ℕ → Bool) (at n : ℕ) → each_byte test at (suc n) ≡ true → test at ≡ true
unfolding each_byte
first_byte test at zero h = subst (λ a. test a ≡ true) (let e : at + 0 ≡ at = omega arith in e) (and_parts true (test (at + 0)) h).1
first_byte test at (suc n) h = first_byte test at n (and_parts (each_byte test at (suc n)) (test (at + suc n)) h).0

load_byte : (test : ℕ → Bool) (at : ℕ) (op : LoadOp) → each_byte test at (load_width op) ≡ true → test at ≡ true
load_byte test at Lb h = first_byte test at 0 h
load_byte test at Lh h = first_byte test at 1 h
load_byte test at Lw h = first_byte test at 3 h
load_byte test at Lbu h = first_byte test at 0 h
load_byte test at Lhu h = first_byte test at 1 h

store_byte : (test : ℕ → Bool) (at : ℕ) (op : StoreOp) → each_byte test at (store_width op) ≡ true → test at ≡ true
store_byte test at Sb h = first_byte test at 0 h
store_byte test at Sh h = first_byte test at 1 h
store_byte test at Sw h = first_byte test at 3 h

without_key : (may keyed other : Bool) → keyed ≡ false → (may || (keyed && other)) ≡ true → may ≡ true
without_key true keyed other none h = refl
without_key false true other none h = sym none
without_key false false other none h = h

module _ (env : Setting) (keyless : env.layout.keyed ≡ None) (s : State) (i : Instr) where
  abbrev IsUsable : ℕ → Type 0
  IsUsable at = (may_read env.layout at || may_write env.layout at) ≡ true

  unkeyed : is_keyed env.layout s.pc ≡ false
  unkeyed = ap (in_option s.pc) keyless

  load_usable : (op : LoadOp) (rd at : ℕ) (x : Stepped) → (loads env s i op rd at).end ≡ Went x → IsUsable at
  load_usable op rd at x =
      let P : Outcome → Type 0 = λ o. o.end ≡ Went x → IsUsable at in
      cond_both (not (at % load_width op == 0)) _ _ P (λ _ h. let bad : ⊥ = cc in absurd bad)
      (λ _. cond_both (uses_window env.layout s.pc at (load_width op)) _ _ P (λ u h. absurd (no_window env keyless s i at (load_width op) u))
      (λ _. cond_both (can_read env.layout s.pc at (load_width op)) _ _ P
      (λ can h. or_left (may_read env.layout at) (may_write env.layout at)
      (without_key (may_read env.layout at) (is_keyed env.layout s.pc) (is_keyed env.layout at) unkeyed (load_byte (reads_byte env.layout s.pc) at op can)))
      (λ _ h. let bad : ⊥ = cc in absurd bad)))

  store_usable : (op : StoreOp) (at value : ℕ) (x : Stepped) → (stores env s i op at value).end ≡ Went x → IsUsable at
  store_usable op at value x =
      let P : Outcome → Type 0 = λ o. o.end ≡ Went x → IsUsable at in
      cond_both (not (at % store_width op == 0)) _ _ P (λ _ h. let bad : ⊥ = cc in absurd bad)
      (λ _. cond_both (uses_window env.layout s.pc at (store_width op)) _ _ P (λ u h. absurd (no_window env keyless s i at (store_width op) u))
      (λ _. cond_both (can_write env.layout at (store_width op)) _ _ P
      (λ can h. or_right (may_read env.layout at) (may_write env.layout at) (store_byte (may_write env.layout) at op can))
      (λ _ h. let bad : ⊥ = cc in absurd bad)))

  module _ (here : instr_of (word_at s.bytes s.pc) ≡ Some i) (x : Stepped) (went : (step env s).end ≡ Went x) where
    performed : (j : Instr) → i ≡ j → (performs env s i j).end ≡ Went x
    performed j e = subst (λ j. (performs env s i j).end ≡ Went x) e (step_of (λ o. o.end ≡ Went x → (performs env s i i).end ≡ Went x) env s i here (λ end. end) (λ end. let bad : ⊥ = cc in absurd bad) went)

    -- an access of a step that goes on is to a byte that may be read or written
    pub usable : (r more : ℕ) → IsAccess i r more → IsUsable (plus (reg s.regs r) more)
    usable r more (by_load op rd offset e m) = subst (λ n. IsUsable (plus (reg s.regs r) n)) m (load_usable op rd (moved_by (reg s.regs r) offset) x (performed (Load op rd r offset) e))
    usable r more (by_store op rs2 offset e m) = subst (λ n. IsUsable (plus (reg s.regs r) n)) m (store_usable op (moved_by (reg s.regs r) offset) (reg s.regs rs2) x (performed (Store op r rs2 offset) e))

-- ---- what is in an area and in an interval

-- no number is in both of two intervals of which neither reaches the other one
pub disjoint : (low more from many n : ℕ) → low < 2 ^ 32 → from < 2 ^ 32 → n < 2 ^ 32 → (n + (2 ^ 32 - low)) % 2 ^ 32 ≤ more → (n + (2 ^ 32 - from)) % 2 ^ 32 ≤ many → more < (from + (2 ^ 32 - low)) % 2 ^ 32 → (from + (2 ^ 32 - low)) % 2 ^ 32 + many < 2 ^ 32 → ⊥
disjoint low more from many n a b c d e f g = let bad : ⊥ = omega arith in bad

apart : (i : Option Arc) (x : Arc) (n : ℕ) → IsHeld i n → IsIn x n → AreDisjoint i x → ⊥
apart None x n a b h = h
apart (Some i) x n a b h = disjoint i.low i.more x.low x.more n a.start b.start a.word a.near b.near h.0 h.1

cut_in : (areas : ℕ → Option Arc) (i : Option Arc) (c : Arc) (n : ℕ) → IsCutTo areas i c → IsHeld i n → (k : ℕ) × (x : Arc) × (areas k ≡ Some x) × IsIn x n → IsIn c n
cut_in areas i c n cut h area = ⊎_elim
    (λ (none : AreDisjoint i area.1). absurd (apart i area.1 n h area.3 none))
    (λ (covers : Covers (Some c) (meet_of i (Some area.1))). in_covers (meet_of i (Some area.1)) (Some c) n (meet_of_in i (Some area.1) n h area.3) covers) (cut area.0 area.1 area.2)

-- the address of an access is in the interval
module _ (env : Setting) (keyless : env.layout.keyed ≡ None) (v : Values) (w : Stacks) (offsets : (k : ℕ) → w.offset k < 2 ^ 32) (s : State) (zero_is : reg s.regs 0 ≡ 0) (size : length s.regs ≡ 32) (begun : List ℕ)
    (told : AreTold v w s.pc (view_of w begun s.regs s.bytes)) (i : Instr) (here : instr_of (word_at s.bytes s.pc) ≡ Some i) (laid : IsLaidOut env.layout w.areas w.fixed) (x : Stepped) (went : (step env s).end ≡ Went x) where
  pub accesses : (r more : ℕ) (c : Arc) → IsAccessedIn v w.areas i s.pc r more c → IsIn c (plus (reg s.regs r) more)
  accesses r more c accessed = cut_in w.areas (sum_with (held (v.at s.pc) r) more) c (plus (reg s.regs r) more) accessed.cut
      (sum_with_in (held (v.at s.pc) r) more (reg s.regs r) (held_at env keyless v w offsets s zero_is size begun told i here r))
      (laid.within (plus (reg s.regs r) more) (usable env keyless s i here x went r more accessed.access))

-- ---- what that says of the register, of a word, and of a span

given_back : (value more : ℕ) → value < 2 ^ 32 → ((value + more) % 2 ^ 32 + (2 ^ 32 - more % 2 ^ 32) % 2 ^ 32) % 2 ^ 32 ≡ value
given_back value more lt = omega arith

word_back : (value word more further : ℕ) → value % 2 ^ 32 ≡ (word + more) % 2 ^ 32 → word < 2 ^ 32 →
    ((value + further) % 2 ^ 32 + (2 ^ 32 - (further + more) % 2 ^ 32 % 2 ^ 32) % 2 ^ 32) % 2 ^ 32 ≡ word
word_back value word more further e lt = omega arith

above_start : (value start : ℕ) → value % 2 ^ 32 ≡ (start + (value + (2 ^ 32 - start % 2 ^ 32) % 2 ^ 32) % 2 ^ 32) % 2 ^ 32
above_start value start = omega arith

-- a register through which an access goes that leaves it
pub accessed_register : (v : Values) (areas : ℕ → Option Arc) (i : Instr) (a b r : ℕ) (before after : List ℕ) → (keeps r i ≡ true → reg after r ≡ reg before r) → IsHeld (held (v.at a) r) (reg before r) →
    ((more : ℕ) (c : Arc) → IsAccessedIn v areas i a r more c → IsIn c (plus (reg before r) more)) → IsCoveredByAccess v areas i a b r → IsHeld (v.at b r) (reg after r)
accessed_register v areas i a b r before after kept holds places x =
    let small : reg before r < 2 ^ 32 = word_of (held (v.at a) r) (reg before r) x.accessed.known holds in
    let from : IsHeld (sum_with (Some x.place) (opposite_of x.more)) (plus (plus (reg before r) x.more) (opposite_of x.more)) = sum_with_in (Some x.place) (opposite_of x.more) (plus (reg before r) x.more) (places x.more x.place x.accessed) in
    in_covers (sum_with (Some x.place) (opposite_of x.more)) (v.at b r) (reg after r)
    (subst (IsHeld (sum_with (Some x.place) (opposite_of x.more))) (given_back (reg before r) x.more small ∙ sym (kept x.left)) from) x.covers

-- ---- a register by a line of it and of a register through which an access goes

minus_in : (i j : Option Arc) (a b : ℕ) → IsHeld i a → IsHeld j b → IsHeld (difference_of i j) (plus a ((2 ^ 32 - 1) * b % 2 ^ 32))
minus_in i None a b x y = in_word (plus a ((2 ^ 32 - 1) * b % 2 ^ 32)) (omega arith)
minus_in i (Some j) a b x y = sum_in i (scaled (2 ^ 32 - 1) (Some j)) a ((2 ^ 32 - 1) * b % 2 ^ 32) x (scaled_in (2 ^ 32 - 1) (Some j) b y)

less_is : (shift value rest : ℕ) → value < 2 ^ 32 → ((rest % 2 ^ 32 + (2 ^ 32 - 1) * ((shift + (2 ^ 32 - 1) * value + rest) % 2 ^ 32) % 2 ^ 32) % 2 ^ 32 + shift) % 2 ^ 32 ≡ value
less_is shift value rest lt = omega arith

solved_less : (m : Measure) (line other : Option Arc) (regs : List ℕ) → m.factor ≡ 2 ^ 32 - 1 → reg regs m.register < 2 ^ 32 → IsHeld line (measured m regs) → IsHeld other (reg regs m.other) →
    IsHeld (sum_with (difference_of (scaled m.other_factor other) line) m.shift) (reg regs m.register)
solved_less m line other regs factor small a b =
    let value : ℕ = reg regs m.register in
    let rest : ℕ = m.other_factor * reg regs m.other in
    let all = sum_with_in (difference_of (scaled m.other_factor other) line) m.shift (plus (rest % 2 ^ 32) ((2 ^ 32 - 1) * measured m regs % 2 ^ 32))
    (minus_in (scaled m.other_factor other) line (rest % 2 ^ 32) (measured m regs) (scaled_in m.other_factor other (reg regs m.other) b) a) in
    let e : measured m regs ≡ (m.shift + (2 ^ 32 - 1) * value + rest) % 2 ^ 32 = ap (λ f. (m.shift + f * value + rest) % 2 ^ 32) factor in
    subst (IsHeld (sum_with (difference_of (scaled m.other_factor other) line) m.shift)) (ap (λ n. plus (plus (rest % 2 ^ 32) ((2 ^ 32 - 1) * n % 2 ^ 32)) m.shift) e ∙ less_is m.shift value rest small) all

solved_to : (m : Measure) (line other solution : Option Arc) (regs : List ℕ) → reg regs m.register < 2 ^ 32 → IsHeld line (measured m regs) → IsHeld other (reg regs m.other) → IsSolvedTo m line other solution →
    IsHeld solution (reg regs m.register)
solved_to m line other solution regs small a b (once one is) = subst (λ o. IsHeld o (reg regs m.register)) (sym is) (solved_in m line other regs one small a b)
solved_to m line other solution regs small a b (less factor is) = subst (λ o. IsHeld o (reg regs m.register)) (sym is) (solved_less m line other regs factor small a b)

pub solved_register : (v : Values) (areas : ℕ → Option Arc) (i : Instr) (a b r : ℕ) (before after : List ℕ) → (keeps r i ≡ true → reg after r ≡ reg before r) → IsHeld (passed i a b (v.at a) r) (reg after r) →
    ((s : ℕ) → IsHeld (held (v.at a) s) (reg before s)) → ((j : ℕ) → IsHeld (v.lines a j) (measured (v.forms j) before)) →
    ((s more : ℕ) (c : Arc) → IsAccessedIn v areas i a s more c → IsIn c (plus (reg before s) more)) → IsSolvedByAccess v areas i a b r → IsHeld (v.at b r) (reg after r)
solved_register v areas i a b r before after kept holds each lines places x =
    ⊎_elim
    (λ (c : Covers (v.at b r) x.solution). in_covers x.solution (v.at b r) (reg after r) found c)
    (λ (c : Covers (v.at b r) (meet_of x.solution (passed i a b (v.at a) r))). in_covers (meet_of x.solution (passed i a b (v.at a) r)) (v.at b r) (reg after r) (meet_of_in x.solution (passed i a b (v.at a) r) (reg after r) found holds) c)
    x.covers
  where
    m : Measure
    m = x.form

    same : reg before m.register ≡ reg after r
    same = ap (reg before) x.register ∙ sym (kept x.left)

    small : reg before m.register < 2 ^ 32
    small = subst (λ n. n < 2 ^ 32) (sym same) (word_of (passed i a b (v.at a) r) (reg after r) x.known holds)

    line : IsHeld (v.lines a x.number) (measured m before)
    line = subst (IsHeld (v.lines a x.number)) (sym (side_is m (v.forms x.number) before x.is_side)) (lines x.number)

    other : IsHeld (sum_with (Some x.place) (opposite_of x.more)) (reg before m.other)
    other = subst (IsHeld (sum_with (Some x.place) (opposite_of x.more))) (given_back (reg before m.other) x.more (word_of (held (v.at a) m.other) (reg before m.other) x.accessed.known (each m.other)))
        (sum_with_in (Some x.place) (opposite_of x.more) (plus (reg before m.other) x.more) (places m.other x.more x.place x.accessed))

    found : IsHeld x.solution (reg after r)
    found = subst (IsHeld x.solution) same (solved_to m (v.lines a x.number) (sum_with (Some x.place) (opposite_of x.more)) x.solution before small line other x.solves)

-- a word by a register that is so much more
pub accessed_word : (place : Arc) (x : View) (k more further value : ℕ) → x.words k < 2 ^ 32 → IsNamed (Some (of_word k more)) x value → IsIn place (plus value further) →
    IsHeld (sum_with (Some place) (opposite_of (plus further more))) (x.words k)
accessed_word place x k more further value small is h = subst (IsHeld (sum_with (Some place) (opposite_of (plus further more)))) (word_back value (x.words k) more further is.0 small)
    (sum_with_in (Some place) (opposite_of (plus further more)) (plus value further) h)

-- a register's span by its interval
pub span_by_interval : (v : Values) (w : Stacks) (b r : ℕ) (x : View) (value : ℕ) → IsHeld (w.begins (v.function b)) (reg x.begun 2) → IsHeld (v.at b r) value → IsSpannedByInterval v w b r → IsSpanned (w.span b r) x value
span_by_interval v w b r x value begins holds s =
    let start : reg x.begun 2 ≡ s.begun.low = only_one s.begun (reg x.begun 2) (subst (λ o. IsHeld o (reg x.begun 2)) s.begun_is begins) s.one in
    let so : value % 2 ^ 32 ≡ plus (reg x.begun 2) (plus value (opposite_of s.begun.low)) = above_start value s.begun.low ∙ ap (λ n. plus n (plus value (opposite_of s.begun.low))) (sym start) in
    spanned_covers (w.span b r) (sum_with (v.at b r) (opposite_of s.begun.low)) x value
    (spanned_from (sum_with (v.at b r) (opposite_of s.begun.low)) x value (plus value (opposite_of s.begun.low)) (sum_with_in (v.at b r) (opposite_of s.begun.low) value holds) so) s.covers
