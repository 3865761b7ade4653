-- A guard as steps of the machine.
use Rattle.std.proofs.Common.{◌≡◌, ℕ, pos, negsuc, ◌+◌, ◌-◌, ◌%◌, ◌^◌, ◌<◌, ◌≤◌, Bool, true, false, List, [], ◌∷◌, length, None, refl, arith, ap, sym, subst, ◌∙◌, get_or-set_other}
use Rattle.std.specs.Prelude.{All, slice_set, ◌==◌, int_lt}
use Rattle.std.proofs.lemmas.Bool.Decides.{nat_tests}
use Rattle.std.proofs.lemmas.Bool.{cond-true, cond-false, eq-eqb, eqb-true, and_parts}
use Rattle.std.proofs.lemmas.Int.{ints, of_z-to_z}
use Rattle.std.specs.Int.{w32}
use Rattle.scale_base.specs.Layout.{each_byte, fetches_byte}
use Rattle.std.proofs.lemmas.List.{get_or-set_same, set-set, set-get_or}
use Rattle.std.proofs.lemmas.List.Elements.{All-cons}
use Rattle.std.proofs.lemmas.List.Sums.{sum_by-cons}
use Rattle.scale_base.specs.declared.instruction.BranchOp.TheVariants.{Blt}
use Rattle.scale_base.specs.declared.instruction.ImmOp.TheVariants.{Addi}
use Rattle.scale_base.specs.declared.instruction.RegOp.TheVariants.{Add, Sub}
use Rattle.scale_base.specs.declared.instruction.Instr.{Instr}
use Rattle.scale_base.specs.declared.instruction.Instr.TheVariants as instr
use Rattle.scale_base.specs.declared.stepping.Class.{Class}
use Rattle.scale_base.specs.declared.stepping.Stepped.{Stepped}
use Rattle.scale_base.specs.Arith.{plus, moved_by, signed, reg_result, imm_result, is_taken}
use Rattle.scale_base.specs.State.{Setting, State, reg, with_reg, word_at}
use Rattle.scale_base.specs.Step.{step, goes, stepped, sets, jumps, branches, performs}
use Rattle.stored_runs.specs.Meaning.{StepsLead}
use Rattle.stored_runs.proofs.Laws.{leads_none, leads_first}
use Rattle.stored_runs.specs.Cycles.{stepped_cycles}
use Rattle.stub_writer.specs.Stubs.{jump}
use Rattle.image_lower.specs.TreeRuns.{InstrStands, CodeStands}
use Rattle.machine_laws.proofs.Laws.{step_performs}
use Rattle.scale_base.proofs.Laws.{word_back}
use Rattle.rv_encode.specs.Jumps.{distance}
use Rattle.loop_versions.specs.Pieces.{guard_code}
use Rattle.loop_versions.specs.GuardRuns.{IsAtGuard, LeadsOn, GuardsLeadOn, less_limit, is_negative}

-- ---- single steps

aligned : (env : Setting) (bytes : ℕ → ℕ) (at : ℕ) (i : Instr) → InstrStands env bytes at i → at % 4 ≡ 0
aligned env bytes at i h = eqb-true (at % 4) 0 (and_parts (at % 4 == 0) (each_byte (fetches_byte env.layout) at 4) h.fetched).0

performed : (env : Setting) (s : State) (i : Instr) → InstrStands env s.bytes s.pc i → step env s ≡ performs env s i i
performed env s i h = step_performs env s i h.fetched (word_back (word_at s.bytes s.pc) i h.encodes)

reaches_to : (from to : ℕ) → from < 2 ^ 32 → to < 2 ^ 32 → moved_by from (distance (from % 2 ^ 32) (to % 2 ^ 32)) ≡ to
reaches_to from to h g =
    ap (plus from) (of_z-to_z w32 ((to % 2 ^ 32 + (2 ^ 32 - from % 2 ^ 32)) % 2 ^ 32) (omega arith)) ∙ omega arith

-- a jump to a multiple of 4
pub jump_step : (env : Setting) (s : State) (from to : ℕ) → s.pc ≡ from → InstrStands env s.bytes s.pc (jump from to) → to < 2 ^ 32 → to % 4 ≡ 0 → step env s ≡ goes (stepped env s (jump from to) false None to) (record s { pc = to })
jump_step env s from to here h small even =
    let low : s.pc < 2 ^ 32 = omega (arith, h.room) in
    let there : moved_by s.pc (distance (from % 2 ^ 32) (to % 2 ^ 32)) ≡ to = ap (λ n. moved_by s.pc (distance (n % 2 ^ 32) (to % 2 ^ 32))) (sym here) ∙ reaches_to s.pc to low small in
    performed env s (jump from to) h
    ∙ (ap (λ target. jumps env s (jump from to) 0 target) there
    ∙ cond-true (to % 4 == 0) _ _ (eq-eqb (to % 4) 0 even))

put : (s : State) (x : Stepped) (pc pc2 : ℕ) (regs regs2 : List ℕ) → pc ≡ pc2 → regs ≡ regs2 → goes x (record s { pc = pc; regs = regs }) ≡ goes x (record s { pc = pc2; regs = regs2 })
put s x pc pc2 regs regs2 e f = ap (λ n. goes x (record s { pc = n; regs = regs })) e ∙ ap (λ r. goes x (record s { pc = pc2; regs = r })) f

next_is : (pc : ℕ) → pc + 4 < 2 ^ 32 → plus pc 4 ≡ pc + 4
next_is pc h = omega arith

-- a register that isn't x0 gets a value, and the next instruction follows
pub set_step : (env : Setting) (s : State) (i : Instr) (rd v value : ℕ) (regs : List ℕ) → InstrStands env s.bytes s.pc i → performs env s i i ≡ sets env s i rd v → 0 < rd → v ≡ value → slice_set s.regs rd value ≡ regs
    → step env s ≡ goes (stepped env s i false None (plus s.pc 4)) (record s { pc = s.pc + 4; regs = regs })
set_step env s i rd v value regs h is some e f =
    performed env s i h ∙ (is ∙ put s (stepped env s i false None (plus s.pc 4)) (plus s.pc 4) (s.pc + 4) (with_reg s.regs rd v) regs
    (next_is s.pc h.room)
    (cond-false (rd == 0) s.regs (slice_set s.regs rd v) (not_zero rd some) ∙ (ap (slice_set s.regs rd) e ∙ f)))
  where
    not_zero : (r : ℕ) → 0 < r → (r == 0) ≡ false
    not_zero r lt = grind (arith, nat_tests)

-- a branch that is taken if a register is negative
taken_step : (env : Setting) (s : State) (rs n to : ℕ) → InstrStands env s.bytes s.pc (instr.Branch Blt rs 0 (pos n)) → int_lt (signed (reg s.regs rs)) (signed (reg s.regs 0)) ≡ true → s.pc + n < 2 ^ 32 → n % 4 ≡ 0 → to ≡ s.pc + n →
    step env s ≡ goes (stepped env s (instr.Branch Blt rs 0 (pos n)) true None to) (record s { pc = to })
taken_step env s rs n to h is room even to_is =
    let i = instr.Branch Blt rs 0 (pos n) in
    let here = aligned env s.bytes s.pc i h in
    let there : moved_by s.pc (pos n) ≡ to = omega (arith, ints) in
    let e : to % 4 ≡ 0 = omega (arith, here, even, to_is) in
    performed env s i h
    ∙ (ap (branches env s i (is_taken Blt (reg s.regs rs) (reg s.regs 0))) there
    ∙ (ap (λ b. branches env s i b to) is
    ∙ cond-true (to % 4 == 0) _ _ (eq-eqb (to % 4) 0 e)))

passed_step : (env : Setting) (s : State) (rs n : ℕ) → InstrStands env s.bytes s.pc (instr.Branch Blt rs 0 (pos n)) → int_lt (signed (reg s.regs rs)) (signed (reg s.regs 0)) ≡ false →
    step env s ≡ goes (stepped env s (instr.Branch Blt rs 0 (pos n)) false None (plus s.pc 4)) (record s { pc = s.pc + 4 })
passed_step env s rs n h is =
    let i = instr.Branch Blt rs 0 (pos n) in
    performed env s i h
    ∙ (ap (λ b. branches env s i b (moved_by s.pc (pos n))) is
    ∙ ap (λ pc. goes (stepped env s i false None (plus s.pc 4)) (record s { pc = pc })) (next_is s.pc h.room))

cycles_one : (costs : Class → ℕ) (x : Stepped) (xs : List Stepped) → stepped_cycles costs (x ∷ xs) ≡ costs x.class + stepped_cycles costs xs
cycles_one costs x xs = sum_by-cons (λ y. costs y.class) x xs

-- ---- numbers

-- the limit is taken off and added again
limit_back : (d limit : ℕ) → d < 2 ^ 32 → 0 < limit → limit < 2048 → imm_result Addi (imm_result Addi d (negsuc (limit - 1))) (pos limit) ≡ d
limit_back d limit small some few = omega (arith, ints)

difference_small : (a b : ℕ) → reg_result Sub a b < 2 ^ 32
difference_small a b = omega arith

-- so is the smaller register
difference_back : (a b : ℕ) → a < 2 ^ 32 → b < 2 ^ 32 → reg_result Add (reg_result Sub a b) b ≡ a
difference_back a b small small2 = omega arith

-- ---- the guard

module _ (env : Setting) (s : State) (larger smaller limit to : ℕ) (h : IsAtGuard env s larger smaller limit to) where
  abbrev a : ℕ
  a = reg s.regs larger

  abbrev b : ℕ
  b = reg s.regs smaller

  abbrev d : ℕ
  d = reg_result Sub a b

  abbrev e : ℕ
  e = less_limit s larger smaller limit

  -- the state with another number in the register
  abbrev at : ℕ → ℕ → State
  at pc v = record s { pc = pc; regs = slice_set s.regs larger v }

  inside : larger < length s.regs
  inside = let few = h.few in let long = h.regs in omega (arith, few, long)

  holds : (v : ℕ) → reg (slice_set s.regs larger v) larger ≡ v
  holds v = get_or-set_same s.regs larger v 0 inside

  smaller_kept : (v : ℕ) → reg (slice_set s.regs larger v) smaller ≡ b
  smaller_kept v = get_or-set_other s.regs larger smaller v 0 (λ same. h.other (sym same))

  zero_kept : (v : ℕ) → reg (slice_set s.regs larger v) 0 ≡ 0
  zero_kept v = let some = h.some in get_or-set_other s.regs larger 0 v 0 (λ same. omega (arith, some, same)) ∙ h.zero

  c : CodeStands env s.bytes s.pc (guard_code s.pc larger smaller limit to)
  c = h.code

  back : record s { pc = s.pc; regs = slice_set s.regs larger a } ≡ s
  back = ap (λ r. record s { pc = s.pc; regs = r }) (set-get_or s.regs larger 0)

  -- the places of the instructions
  abbrev p4 : ℕ
  p4 = s.pc + 4

  abbrev p8 : ℕ
  p8 = p4 + 4

  abbrev p12 : ℕ
  p12 = p8 + 4

  abbrev p16 : ℕ
  p16 = p12 + 4

  abbrev p20 : ℕ
  p20 = p16 + 4

  abbrev p24 : ℕ
  p24 = p20 + 4

  abbrev p28 : ℕ
  p28 = p24 + 4

  abbrev p32 : ℕ
  p32 = p28 + 4

  abbrev turns : Instr
  turns = instr.Branch Blt larger 0 (pos 16)

  -- the difference is made
  made : step env s ≡ goes (stepped env s (instr.Reg Sub larger larger smaller) false None (plus s.pc 4)) (at p4 d)
  made = set_step env s (instr.Reg Sub larger larger smaller) larger d d (slice_set s.regs larger d) c.0 refl h.some refl refl

  -- the limit is taken off it
  lessened : step env (at p8 d) ≡ goes (stepped env (at p8 d) (instr.Imm Addi larger larger (negsuc (limit - 1))) false None (plus p8 4)) (at p12 e)
  lessened = set_step env (at p8 d) (instr.Imm Addi larger larger (negsuc (limit - 1))) larger (imm_result Addi (reg (slice_set s.regs larger d) larger) (negsuc (limit - 1))) e (slice_set s.regs larger e) c.1.1.0 refl h.some
      (ap (λ v. imm_result Addi v (negsuc (limit - 1))) (holds d)) (set-set s.regs larger d e)

  -- the limit is added again
  raised : (place : ℕ) → InstrStands env s.bytes place (instr.Imm Addi larger larger (pos limit)) → step env (at place e) ≡ goes (stepped env (at place e) (instr.Imm Addi larger larger (pos limit)) false None (plus place 4)) (at (place + 4) d)
  raised place one = set_step env (at place e) (instr.Imm Addi larger larger (pos limit)) larger (imm_result Addi (reg (slice_set s.regs larger e) larger) (pos limit)) d (slice_set s.regs larger d) one refl h.some
      (ap (λ v. imm_result Addi v (pos limit)) (holds e) ∙ limit_back d limit (difference_small a b) h.limit_some h.limit_few) (set-set s.regs larger e d)

  -- and the smaller register
  restored : (place : ℕ) → InstrStands env s.bytes place (instr.Reg Add larger larger smaller) → step env (at place d) ≡ goes (stepped env (at place d) (instr.Reg Add larger larger smaller) false None (plus place 4)) (record s { pc = place + 4 })
  restored place two = set_step env (at place d) (instr.Reg Add larger larger smaller) larger (reg_result Add (reg (slice_set s.regs larger d) larger) (reg (slice_set s.regs larger d) smaller)) a s.regs two refl h.some
      (ap (λ v. reg_result Add v (reg (slice_set s.regs larger d) smaller)) (holds d) ∙ (ap (reg_result Add d) (smaller_kept d) ∙ difference_back a b h.larger_word h.smaller_word))
      (set-set s.regs larger d a ∙ set-get_or s.regs larger 0)

  sign_is : (v : ℕ) (negative : Bool) → is_negative v ≡ negative → int_lt (signed (reg (slice_set s.regs larger v) larger)) (signed (reg (slice_set s.regs larger v) 0)) ≡ negative
  sign_is v negative is = ap (λ x. int_lt (signed x) (signed (reg (slice_set s.regs larger v) 0))) (holds v) ∙ (ap (λ x. int_lt (signed v) (signed x)) (zero_kept v) ∙ is)

  -- ---- single steps, by name

  abbrev x1 : Stepped
  x1 = stepped env s (instr.Reg Sub larger larger smaller) false None (plus s.pc 4)

  abbrev add_at : ℕ → Stepped
  add_at place = stepped env (at place d) (instr.Reg Add larger larger smaller) false None (plus place 4)

  abbrev raise_at : ℕ → Stepped
  raise_at place = stepped env (at place e) (instr.Imm Addi larger larger (pos limit)) false None (plus place 4)

  abbrev IsInside : Stepped → Type 0
  IsInside x = (s.pc ≤ x.pc) × (x.pc < s.pc + 36)

  none_inside : All IsInside []
  none_inside = λ k x lt. absurd (omega (arith, lt))

  -- ---- the way out, in front of the jump

  abbrev mid : State
  mid = record s { pc = p24 }

  abbrev out : State
  out = record s { pc = to }

  abbrev x_jump : Stepped
  x_jump = stepped env mid (jump (s.pc + 24) to) false None to

  goes_out : step env mid ≡ goes x_jump out
  goes_out = let here : p24 ≡ s.pc + 24 = omega arith in jump_step env mid (s.pc + 24) to here c.1.1.1.1.1.1.0 h.to_word h.to_even

  leads_out : StepsLead env (at p20 d) (add_at p20 ∷ x_jump ∷ []) out
  leads_out = leads_first env (at p20 d) mid out (add_at p20) (x_jump ∷ []) (restored p20 c.1.1.1.1.1.0) (leads_first env mid out out x_jump [] goes_out (leads_none env out))

  -- where the difference is negative
  lead_below : (less : Bool) → is_negative d ≡ true → LeadsOn env s (record { below = true; less = less }) to
  lead_below less is =
      let room = h.room in
      let x2 = stepped env (at p4 d) turns true None p20 in
      let e2 = taken_step env (at p4 d) larger 16 p20 c.1.0 (sign_is d true is) (omega (arith, room)) refl (omega arith) in
      record {
        steps = x1 ∷ x2 ∷ add_at p20 ∷ x_jump ∷ [];
        leads = leads_first env s (at p4 d) out x1 (x2 ∷ add_at p20 ∷ x_jump ∷ []) made
            (leads_first env (at p4 d) (at p20 d) out x2 (add_at p20 ∷ x_jump ∷ []) e2 leads_out);
        inside = All-cons IsInside x1 (x2 ∷ add_at p20 ∷ x_jump ∷ []) (omega arith, omega arith) (All-cons IsInside x2 (add_at p20 ∷ x_jump ∷ []) (omega arith, omega arith)
            (All-cons IsInside (add_at p20) (x_jump ∷ []) (omega arith, omega arith) (All-cons IsInside x_jump [] (omega arith, omega arith) none_inside)));
        cycles = λ costs. omega (
          arith,
          cycles_one costs x1 (x2 ∷ add_at p20 ∷ x_jump ∷ []),
          cycles_one costs x2 (add_at p20 ∷ x_jump ∷ []),
          cycles_one costs (add_at p20) (x_jump ∷ []),
          cycles_one costs x_jump [],
        );
      }

  -- ---- where it isn't

  abbrev x2 : Stepped
  x2 = stepped env (at p4 d) turns false None (plus p4 4)

  abbrev x3 : Stepped
  x3 = stepped env (at p8 d) (instr.Imm Addi larger larger (negsuc (limit - 1))) false None (plus p8 4)

  -- the first three steps
  leads_in : is_negative d ≡ false → (xs : List Stepped) (t : State) → StepsLead env (at p12 e) xs t → StepsLead env s (x1 ∷ x2 ∷ x3 ∷ xs) t
  leads_in is xs t on =
      leads_first env s (at p4 d) t x1 (x2 ∷ x3 ∷ xs) made
      (leads_first env (at p4 d) (at p8 d) t x2 (x3 ∷ xs) (passed_step env (at p4 d) larger 16 c.1.0 (sign_is d false is))
      (leads_first env (at p8 d) (at p12 e) t x3 xs lessened on))

  inside_in : (xs : List Stepped) → All IsInside xs → All IsInside (x1 ∷ x2 ∷ x3 ∷ xs)
  inside_in xs all = All-cons IsInside x1 (x2 ∷ x3 ∷ xs) (omega arith, omega arith) (All-cons IsInside x2 (x3 ∷ xs) (omega arith, omega arith) (All-cons IsInside x3 xs (omega arith, omega arith) all))

  -- and the difference is below the limit
  lead_small : is_negative d ≡ false → is_negative e ≡ true → LeadsOn env s (record { below = false; less = true }) to
  lead_small is less =
      let room = h.room in
      let x4 = stepped env (at p12 e) turns true None p28 in
      let e4 = taken_step env (at p12 e) larger 16 p28 c.1.1.1.0 (sign_is e true less) (omega (arith, room)) refl (omega arith) in
      let last : State = record s { pc = p32 + 4 } in
      let way : StepsLead env s (x1 ∷ x2 ∷ x3 ∷ x4 ∷ raise_at p28 ∷ add_at p32 ∷ []) last =
      leads_in is (x4 ∷ raise_at p28 ∷ add_at p32 ∷ []) last
      (leads_first env (at p12 e) (at p28 e) last x4 (raise_at p28 ∷ add_at p32 ∷ []) e4
      (leads_first env (at p28 e) (at p32 d) last (raise_at p28) (add_at p32 ∷ []) (raised p28 c.1.1.1.1.1.1.1.0)
      (leads_first env (at p32 d) last last (add_at p32) [] (restored p32 c.1.1.1.1.1.1.1.1.0) (leads_none env last)))) in
      let there : p32 + 4 ≡ s.pc + 36 = omega arith in
      record {
        steps = x1 ∷ x2 ∷ x3 ∷ x4 ∷ raise_at p28 ∷ add_at p32 ∷ [];
        leads = subst (λ pc. StepsLead env s (x1 ∷ x2 ∷ x3 ∷ x4 ∷ raise_at p28 ∷ add_at p32 ∷ []) (record s { pc = pc })) there way;
        inside = inside_in (x4 ∷ raise_at p28 ∷ add_at p32 ∷ []) (All-cons IsInside x4 (raise_at p28 ∷ add_at p32 ∷ []) (omega arith, omega arith)
            (All-cons IsInside (raise_at p28) (add_at p32 ∷ []) (omega arith, omega arith) (All-cons IsInside (add_at p32) [] (omega arith, omega arith) none_inside)));
        cycles = λ costs. omega (
          arith,
          cycles_one costs x1 (x2 ∷ x3 ∷ x4 ∷ raise_at p28 ∷ add_at p32 ∷ []),
          cycles_one costs x2 (x3 ∷ x4 ∷ raise_at p28 ∷ add_at p32 ∷ []),
          cycles_one costs x3 (x4 ∷ raise_at p28 ∷ add_at p32 ∷ []),
          cycles_one costs x4 (raise_at p28 ∷ add_at p32 ∷ []),
          cycles_one costs (raise_at p28) (add_at p32 ∷ []),
          cycles_one costs (add_at p32) [],
        );
      }

  -- and it isn't below it
  lead_large : is_negative d ≡ false → is_negative e ≡ false → LeadsOn env s (record { below = false; less = false }) to
  lead_large is less =
      let x4 = stepped env (at p12 e) turns false None (plus p12 4) in
      let e4 = passed_step env (at p12 e) larger 16 c.1.1.1.0 (sign_is e false less) in
      record {
        steps = x1 ∷ x2 ∷ x3 ∷ x4 ∷ raise_at p16 ∷ add_at p20 ∷ x_jump ∷ [];
        leads = leads_in is (x4 ∷ raise_at p16 ∷ add_at p20 ∷ x_jump ∷ []) out
            (leads_first env (at p12 e) (at p16 e) out x4 (raise_at p16 ∷ add_at p20 ∷ x_jump ∷ []) e4
            (leads_first env (at p16 e) (at p20 d) out (raise_at p16) (add_at p20 ∷ x_jump ∷ []) (raised p16 c.1.1.1.1.0) leads_out));
        inside = inside_in (x4 ∷ raise_at p16 ∷ add_at p20 ∷ x_jump ∷ []) (All-cons IsInside x4 (raise_at p16 ∷ add_at p20 ∷ x_jump ∷ []) (omega arith, omega arith)
            (All-cons IsInside (raise_at p16) (add_at p20 ∷ x_jump ∷ []) (omega arith, omega arith) (All-cons IsInside (add_at p20) (x_jump ∷ []) (omega arith, omega arith)
            (All-cons IsInside x_jump [] (omega arith, omega arith) none_inside))));
        cycles = λ costs. omega (
          arith,
          cycles_one costs x1 (x2 ∷ x3 ∷ x4 ∷ raise_at p16 ∷ add_at p20 ∷ x_jump ∷ []),
          cycles_one costs x2 (x3 ∷ x4 ∷ raise_at p16 ∷ add_at p20 ∷ x_jump ∷ []),
          cycles_one costs x3 (x4 ∷ raise_at p16 ∷ add_at p20 ∷ x_jump ∷ []),
          cycles_one costs x4 (raise_at p16 ∷ add_at p20 ∷ x_jump ∷ []),
          cycles_one costs (raise_at p16) (add_at p20 ∷ x_jump ∷ []),
          cycles_one costs (add_at p20) (x_jump ∷ []),
          cycles_one costs x_jump [],
        );
      }

  lead : (below less : Bool) → is_negative d ≡ below → is_negative e ≡ less → LeadsOn env s (record { below = below; less = less }) to
  lead true less is is_less = lead_below less is
  lead false true is is_less = lead_small is is_less
  lead false false is is_less = lead_large is is_less

pub guard_leads : GuardsLeadOn
guard_leads = λ env s larger smaller limit to h. lead env s larger smaller limit to h
    (is_negative (reg_result Sub (reg s.regs larger) (reg s.regs smaller))) (is_negative (less_limit s larger smaller limit)) refl refl
