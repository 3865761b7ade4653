-- What a step makes of values that depend on the numbers at the header, and where an access of it is.
use Rattle.std.proofs.Common.{◌≡◌, ℕ, ◌+◌, ◌*◌, ◌<◌, ◌%◌, ◌^◌, ⊎_elim, ◌⊎◌, true, false, List, length, refl, sym, ap, ◌∙◌, subst, arith, Option, Some, None}
use Rattle.std.specs.Prelude.{ℤ, ◌==◌, ◌||◌, ◌&&◌, not, nat_lt}
use Rattle.std.proofs.lemmas.Bool.{cond_both, cond-false, and_parts, ltb-true, ne_eqb, eq-eqb}
use Rattle.std.proofs.Math.Nat.{mul_comm, mod-eq_of_lt}
use Rattle.scale_base.specs.declared.instruction.LoadOp.{LoadOp}
use Rattle.scale_base.specs.declared.instruction.LoadOp.TheVariants.{Lb, Lh, Lw, Lbu, Lhu}
use Rattle.scale_base.specs.declared.instruction.ImmOp.TheVariants.{Addi, Slli}
use Rattle.scale_base.specs.declared.instruction.RegOp.TheVariants.{Add}
use Rattle.scale_base.specs.declared.instruction.Instr.{Instr}
use Rattle.scale_base.specs.declared.instruction.Instr.TheVariants.{Load, Store}
use Rattle.scale_base.specs.declared.stepping.Stepped.{Stepped}
use Rattle.scale_base.specs.declared.stepping.StepEnd.TheVariants.{Went}
use Rattle.scale_base.specs.Reading.{instr_of}
use Rattle.scale_base.specs.Arith.{plus, moved_by, unsigned, load_width, loaded}
use Rattle.scale_base.specs.State.{Setting, State, reg, word_at}
use Rattle.scale_base.specs.Step.{step}
use Rattle.bound_laws.specs.Registers.{keeps}
use Rattle.bound_laws.specs.Values.{Arc, IsIn, IsHeld, held, load_arc, passed, strided, sum_with, IsRegister, Values, AreBytes}
use Rattle.bound_laws.proofs.Laws.{held_of, in_covers, only_one, passed_in, steps_leave, sum_with_in}
use Rattle.stack_laws.specs.Areas.{IsAccess, IsLaidOut}
use Rattle.stack_laws.specs.Areas.IsAccess.{loads as on_load, stores as on_store}
use Rattle.stack_laws.specs.Stacks.{Stacks, View, view_of, AreTold}
use Rattle.stack_laws.specs.Tidy.{AreKept}
use Rattle.stack_laws.proofs.Laws.{gets, puts, misses, reads, reads_aligned, usable, numbers, results}
use Rattle.walk_areas.specs.Walking.{Trace, IsTraced, IsWider, moved_by_number, sum_of_both, multiplied, Place, number_in, Sought, WalkCertificate, row_of, operand, aim, IsRowOver, IsWordOver, IsPlaceOver, IsAimed, IsSearching, IsHolderOver, IsFound, IsTouched, IsBarren, IsGround}
use Rattle.walk_areas.specs.Walking.IsRowOver.{untraced, kept, summed, added, shifted, loaded as loaded_row}
use Rattle.walk_areas.specs.Walking.IsWordOver.{untraced as untraced_word, missed, stored}
use Rattle.walk_areas.specs.Walking.IsHolderOver.{unheld, kept as held_on, searched}
use Rattle.walk_areas.specs.Walking.Place.{in_register, in_word}
use Rattle.walk_areas.proofs.Traces.{wider_in, same_in, number_in as sum_in, both_in, times_in, or_in}
use Rattle.walk_areas.proofs.Grounds.{IsHere, shown}
use Rattle.walk_areas.proofs.Facts.{Facts, IsGiven, aimed}

twice : (n : ℕ) → n % 2 ^ 32 % 2 ^ 32 ≡ n % 2 ^ 32
twice n = omega arith

same_number : (q r : ℕ) → Some q ≡ Some r → q ≡ r
same_number q r e = cc

same_sought : (x y : Sought) → Some x ≡ Some y → x ≡ y
same_sought x y e = cc

-- what a load gives is a word
held_word : (op : LoadOp) (n : ℕ) → IsHeld (load_arc op) n → n < 2 ^ 32
held_word Lb n h = h.word
held_word Lh n h = h.word
held_word Lw n h = h.word
held_word Lbu n h = h.word
held_word Lhu n h = h.word

-- a load writes its register
written_by : (op : LoadOp) (r rs1 : ℕ) (offset : ℤ) → IsRegister r → keeps r (Load op r rs1 offset) ≡ false
written_by op r rs1 offset is =
    let zero : (r == 0) ≡ false = ne_eqb r 0 (λ e. let positive : 0 < r = is.0 in let bad : ⊥ = omega (arith, e, positive) in bad) in
    ap (λ b. b || not (r == r)) zero ∙ ap not (eq-eqb r r refl)

-- the address of an access that is a load
same_address : (op : LoadOp) (rd rs1 : ℕ) (offset : ℤ) (regs : List ℕ) (i : Instr) (r more : ℕ) → IsAccess i r more → i ≡ Load op rd rs1 offset → plus (reg regs r) more ≡ moved_by (reg regs rs1) offset
same_address op rd rs1 offset regs i r more (on_load op2 rd2 offset2 is e) l =
    let same : Load op2 rd2 r offset2 ≡ Load op rd rs1 offset = sym is ∙ l in
    let base : r ≡ rs1 = cc in
    let far : offset2 ≡ offset = cc in
    ap (plus (reg regs r)) (sym e) ∙ (ap (λ z. plus (reg regs r) (unsigned z)) far ∙ ap (λ n. plus (reg regs n) (unsigned offset)) base)
same_address op rd rs1 offset regs i r more (on_store op2 rs2 offset2 is e) l =
    let same : Store op2 r rs2 offset2 ≡ Load op rd rs1 offset = sym is ∙ l in
    let bad : ⊥ = cc in
    absurd bad

module _ (env : Setting) (keyless : env.layout.keyed ≡ None) (v : Values) (w : Stacks) (offsets : (k : ℕ) → w.offset k < 2 ^ 32) (s : State) (zero_is : reg s.regs 0 ≡ 0) (size : length s.regs ≡ 32) (begun : List ℕ)
    (told : AreTold v w s.pc (view_of w begun s.regs s.bytes)) (i : Instr) (here : instr_of (word_at s.bytes s.pc) ≡ Some i) (x : Stepped) (went : (step env s).end ≡ Went x)
    (own : w.doubtful s.pc ≡ true → AreKept w s.bytes (step env s).state.bytes (record { function = v.function s.pc; stack = reg begun 2 }))
    (c : WalkCertificate) (ground : IsGround w.areas w.fixed c) (count : ℕ) (facts : Facts w.areas w.fixed c ground s.pc count (view_of w begun s.regs s.bytes)) where
  abbrev after : State
  after = (step env s).state

  abbrev seen : View
  seen = view_of w begun s.regs s.bytes

  abbrev then : View
  then = view_of w begun after.regs after.bytes

  abbrev Has : Option Trace → ℕ → Type 0
  Has b n = IsTraced b facts.first facts.second n

  related : (r : ℕ) → Has (row_of c s.pc r) (reg s.regs r)
  related r = cond_both (nat_lt 0 r && nat_lt r 32) (c.row s.pc r) None (λ p. Has p (reg s.regs r))
      (λ h. let p = and_parts (nat_lt 0 r) (nat_lt r 32) h in facts.rows r (ltb-true 0 r p.0, ltb-true r 32 p.1)) (λ _. tt)

  finds : (r : ℕ) → Has (operand v c s.pc r) (reg s.regs r)
  finds r = or_in (row_of c s.pc r) (held (v.at s.pc) r) facts.first facts.second (reg s.regs r) (related r) (held_of (v.at s.pc) s.regs zero_is size told.registers.each r)

  none_in : (b : Option Trace) (n : ℕ) → b ≡ None → Has b n
  none_in b n e = subst (λ o. Has o n) (sym e) tt

  wider : (b z : Option Trace) (n : ℕ) → Has z n → IsWider b z → Has b n
  wider b z n h q = wider_in b z facts.first facts.second n h q

  pub row_over : (r : ℕ) → IsRegister r → (b : Option Trace) → IsRowOver v w c s.pc i r b → Has b (reg after.regs r)
  row_over r is b (untraced e) = none_in b (reg after.regs r) e
  row_over r is b (kept keep q) = wider b (c.row s.pc r) (reg after.regs r) (subst (Has (c.row s.pc r)) (sym (steps_leave env s i r here keep)) (facts.rows r is)) q
  row_over r is b (summed rs imm e q) =
      wider b (moved_by_number (operand v c s.pc rs) (unsigned imm)) (reg after.regs r)
      (subst (Has (moved_by_number (operand v c s.pc rs) (unsigned imm))) (sym (numbers env s size i here x went Addi r rs imm is e))
      (sum_in (operand v c s.pc rs) facts.first facts.second (reg s.regs rs) (unsigned imm) (finds rs))) q
  row_over r is b (added rs1 rs2 e q) =
      wider b (sum_of_both (operand v c s.pc rs1) (operand v c s.pc rs2)) (reg after.regs r)
      (subst (Has (sum_of_both (operand v c s.pc rs1) (operand v c s.pc rs2))) (sym (results env s size i here x went Add r rs1 rs2 is e))
      (both_in (operand v c s.pc rs1) (operand v c s.pc rs2) facts.first facts.second (reg s.regs rs1) (reg s.regs rs2) (finds rs1) (finds rs2))) q
  row_over r is b (shifted rs imm e q) =
      let k : ℕ = 2 ^ (unsigned imm % 32) in
      wider b (multiplied (operand v c s.pc rs) k) (reg after.regs r)
      (subst (Has (multiplied (operand v c s.pc rs) k)) (ap (λ n. n % 2 ^ 32) (mul_comm k (reg s.regs rs)) ∙ sym (numbers env s size i here x went Slli r rs imm is e))
      (times_in (operand v c s.pc rs) facts.first facts.second (reg s.regs rs) k (finds rs))) q
  row_over r is b (loaded_row k loads q) =
      wider b (c.word s.pc k) (reg after.regs r)
      (subst (Has (c.word s.pc k)) (sym (gets env keyless v w offsets s zero_is size begun told i here x went k r is loads)) (facts.words k)) q

  pub word_over : (k : ℕ) (b : Option Trace) → IsWordOver v w c s.pc i k b → Has b (then.words k)
  word_over k b (untraced_word e) = none_in b (then.words k) e
  word_over k b (missed far q) =
      wider b (c.word s.pc k) (then.words k)
      (subst (Has (c.word s.pc k)) (sym (misses env keyless v w offsets s zero_is size begun told i here own k far)) (facts.words k)) q
  word_over k b (stored r stores q) =
      wider b (operand v c s.pc r) (then.words k)
      (subst (Has (operand v c s.pc r)) (sym (puts env keyless v w offsets s zero_is size begun told i here x went k r stores))
      (same_in (operand v c s.pc r) facts.first facts.second (reg s.regs r) (reg s.regs r % 2 ^ 32) (sym (twice (reg s.regs r))) (finds r))) q

  pub place_over : (p : Place) (b : Option Trace) → IsPlaceOver v w c s.pc i p b → Has b (number_in p then)
  place_over (in_register r) b over = row_over r over.0 b over.1
  place_over (in_word k) b over = word_over k b over

  -- the access is where the pointer points
  points : (n : ℕ) → n < 2 ^ 32 → Has (aim c) n → n ≡ aimed c facts.first facts.second
  points n small h =
      let d : h.0 ≡ c.at = only_one (strided c.at 0 0) h.0 h.1 refl in
      let e : n % 2 ^ 32 ≡ (c.first_factor * facts.first + c.second_factor * facts.second + c.at) % 2 ^ 32 = h.2 ∙ ap (λ k. (c.first_factor * facts.first + c.second_factor * facts.second + k) % 2 ^ 32) d in
      let z : n ≡ n % 2 ^ 32 = omega arith in
      z ∙ e

  small_sum : (a b : ℕ) → plus a b < 2 ^ 32
  small_sum a b = omega arith

  -- and in the place
  is_placed : (q : IsAimed v c s.pc i) → IsHeld c.place (plus (reg s.regs q.register) q.more)
  is_placed q =
      let known : IsHeld (held (v.at s.pc) q.register) (reg s.regs q.register) = held_of (v.at s.pc) s.regs zero_is size told.registers.each q.register in
      in_covers (sum_with (held (v.at s.pc) q.register) q.more) c.place (plus (reg s.regs q.register) q.more) (sum_with_in (held (v.at s.pc) q.register) q.more (reg s.regs q.register) known) q.placed

  -- where the access is
  record IsReached (at : ℕ) : Type 0 where
    number : ℕ
    area : Arc
    area_is : w.areas number ≡ Some area
    inside : IsIn area at
    placed : IsHeld c.place at

  reached : IsLaidOut env.layout w.areas w.fixed → (q : IsAimed v c s.pc i) → (plus (reg s.regs q.register) q.more ≡ aimed c facts.first facts.second) × IsReached (aimed c facts.first facts.second)
  reached laid q =
      let n : ℕ = plus (reg s.regs q.register) q.more in
      let traced : Has (aim c) n = wider (aim c) (moved_by_number (operand v c s.pc q.register) q.more) n (sum_in (operand v c s.pc q.register) facts.first facts.second (reg s.regs q.register) q.more (finds q.register)) q.aims in
      let area = laid.within n (usable env keyless s i here x went q.register q.more q.access) in
      let e : n ≡ aimed c facts.first facts.second = points n (small_sum (reg s.regs q.register) q.more) traced in
      (e, record { number = area.0; area = area.1; area_is = area.2; inside = subst (IsIn area.1) e area.3; placed = subst (IsHeld c.place) e (is_placed q) })

  touched_by : IsLaidOut env.layout w.areas w.fixed → c.sought ≡ None → IsAimed v c s.pc i → IsHere c (aimed c facts.first facts.second) (count * c.least)
  touched_by laid none q =
      let r : IsReached (aimed c facts.first facts.second) = (reached laid q).1 in
      shown w.areas w.fixed c ground count (aimed c facts.first facts.second) facts.good r.placed r.number r.area r.area_is r.inside (λ barren. subst (λ o. IsBarren w.fixed o (aimed c facts.first facts.second)) none barren)

  -- ---- what is sought

  module _ (memory : AreBytes s.bytes) where
    goes_on : (r : ℕ) → IsRegister r → IsHeld (passed i s.pc after.pc (v.at s.pc) r) (reg after.regs r)
    goes_on r is = passed_in env keyless s (v.at s.pc) zero_is size told.registers.each memory i r x here went is

    found_by : IsFound v c s.pc i after.pc → IsHere c (aimed c facts.first facts.second) (count * c.least)
    found_by f =
        let at : ℕ = aimed c facts.first facts.second in
        let g : IsGiven w.areas w.fixed c at (reg s.regs f.register) = facts.holder f.register f.holder in
        let wanted : IsIn f.sought.wanted (reg after.regs f.register) = in_covers (passed i s.pc after.pc (v.at s.pc) f.register) (Some f.sought.wanted) (reg after.regs f.register) (goes_on f.register f.is_register) f.covers in
        let word : reg after.regs f.register < 2 ^ 32 = wanted.word in
        let gives : reg after.regs f.register % 2 ^ 32 ≡ loaded f.sought.op g.bytes at = subst (λ n. n % 2 ^ 32 ≡ loaded f.sought.op g.bytes at) (sym (steps_leave env s i f.register here f.left)) (g.gives f.sought f.sought_is).1 in
        let value : reg after.regs f.register ≡ loaded f.sought.op g.bytes at = sym (mod-eq_of_lt word) ∙ gives in
        shown w.areas w.fixed c ground count at facts.good g.placed g.number g.area g.area_is g.inside
        (λ barren. subst (λ o. IsBarren w.fixed o at) f.sought_is barren (g.gives f.sought f.sought_is).0 g.bytes g.fixed_are (subst (IsIn f.sought.wanted) value wanted))

    pub touches : IsLaidOut env.layout w.areas w.fixed → (b : ℕ) → after.pc ≡ b → IsTouched v c s.pc i b → IsHere c (aimed c facts.first facts.second) (count * c.least)
    touches laid b to q = ⊎_elim (λ (on : c.touched s.pc ≡ true). facts.touched on)
        (λ (z : ((c.sought ≡ None) × IsAimed v c s.pc i) ⊎ IsFound v c s.pc i b). ⊎_elim
        (λ (a : (c.sought ≡ None) × IsAimed v c s.pc i). touched_by laid a.0 a.1)
        (λ (f : IsFound v c s.pc i b). found_by (subst (IsFound v c s.pc i) (sym to) f)) z) q

    -- a register to which a load goes has a word
    loaded_word : (op : LoadOp) (r rs1 : ℕ) (offset : ℤ) → IsRegister r → i ≡ Load op r rs1 offset → reg after.regs r < 2 ^ 32
    loaded_word op r rs1 offset is e = held_word op (reg after.regs r)
        (subst (λ o. IsHeld o (reg after.regs r)) (cond-false _ _ _ (written_by op r rs1 offset is)) (subst (λ j. IsHeld (passed j s.pc after.pc (v.at s.pc) r) (reg after.regs r)) e (goes_on r is)))

    search : IsLaidOut env.layout w.areas w.fixed → (r : ℕ) → IsSearching v c s.pc i r → IsGiven w.areas w.fixed c (aimed c facts.first facts.second) (reg after.regs r)
    search laid r q =
        let at : ℕ = aimed c facts.first facts.second in
        let there : (plus (reg s.regs q.aimed.register) q.aimed.more ≡ at) × IsReached at = reached laid q.aimed in
        let e : moved_by (reg s.regs q.rs1) q.offset ≡ at = sym (same_address q.sought.op r q.rs1 q.offset s.regs i q.aimed.register q.aimed.more q.aimed.access q.loads) ∙ there.0 in
        let whole : at % load_width q.sought.op ≡ 0 = subst (λ n. n % load_width q.sought.op ≡ 0) e (reads_aligned env s i here x went q.sought.op r q.rs1 q.offset q.loads) in
        let word : reg after.regs r < 2 ^ 32 = loaded_word q.sought.op r q.rs1 q.offset q.register q.loads in
        let value : reg after.regs r % 2 ^ 32 ≡ loaded q.sought.op s.bytes at = mod-eq_of_lt word ∙ (reads env keyless v w offsets s zero_is size begun told i here x went q.sought.op r q.rs1 q.offset q.register q.loads ∙ ap (loaded q.sought.op s.bytes) e) in
        record {
          number = there.1.number;
          area = there.1.area;
          area_is = there.1.area_is;
          inside = there.1.inside;
          placed = there.1.placed;
          bytes = s.bytes;
          fixed_are = told.fixed;
          gives = λ z is. subst (λ (y : Sought). (at % load_width y.op ≡ 0) × (reg after.regs r % 2 ^ 32 ≡ loaded y.op s.bytes at)) (same_sought q.sought z (sym q.sought_is ∙ is)) (whole, value);
        }

    pub holder_over : IsLaidOut env.layout w.areas w.fixed → (b : Option ℕ) → IsHolderOver v c s.pc i b → (r : ℕ) → b ≡ Some r → IsGiven w.areas w.fixed c (aimed c facts.first facts.second) (reg after.regs r)
    holder_over laid b (unheld none) r is = (let e : None ≡ Some r = sym none ∙ is in let bad : ⊥ = cc in absurd bad)
    holder_over laid b (held_on q same before left) r is =
        subst (λ n. IsGiven w.areas w.fixed c (aimed c facts.first facts.second) (reg after.regs n)) (same_number q r (sym same ∙ is))
        (subst (IsGiven w.areas w.fixed c (aimed c facts.first facts.second)) (sym (steps_leave env s i q here left)) (facts.holder q before))
    holder_over laid b (searched q same by) r is = subst (λ n. IsGiven w.areas w.fixed c (aimed c facts.first facts.second) (reg after.regs n)) (same_number q r (sym same ∙ is)) (search laid q by)
