-- A sum of two registers behind an instruction is the sum before it of which it is made, and a difference that it writes is in its lines.
use Rattle.std.proofs.Common.{◌≡◌, ℕ, ℤ, ◌+◌, ◌-◌, ◌*◌, ◌<◌, ◌%◌, ◌^◌, ⊎_elim, Bool, true, false, cond, nat_eq, eqb-true, List, length, refl, sym, ap, ◌∙◌, subst, arith, Option}
use Rattle.std.proofs.Math.Nat.{add-mod-mod, mod-add-mod, add-mul}
use Rattle.std.proofs.lemmas.Nat.{mul-mod_first}
use Rattle.scale_base.specs.declared.instruction.ImmOp.TheVariants.{Addi}
use Rattle.scale_base.specs.declared.instruction.RegOp.TheVariants.{Add, Sub}
use Rattle.scale_base.specs.declared.instruction.RegOp.{RegOp}
use Rattle.scale_base.specs.declared.instruction.Instr.{Instr}
use Rattle.scale_base.specs.declared.instruction.Instr.TheVariants.{Imm, Reg}
use Rattle.scale_base.specs.Arith.{plus, unsigned, reg_result}
use Rattle.scale_base.specs.State.{reg}
use Rattle.bound_laws.specs.Registers.{Measure, measured, keeps}
use Rattle.bound_laws.specs.Values.{Arc, IsHeld, Values, IsRegister, AreIn, Covers, held, line_of, sum_with}
use Rattle.bound_laws.proofs.Laws.{measure_adds, in_covers, sum_with_in, word_of, held_of, line_in}
use Rattle.stack_laws.specs.Making.{turned, moved, taken_for, spread, joined, IsMade, IsSide, IsSumBy, IsLineMade, difference, IsSubtracted}
use Rattle.stack_laws.specs.Making.IsMade.{summed, added, added_to}

other_order : (s a b : ℕ) → (s + a + b) % 2 ^ 32 ≡ (s + b + a) % 2 ^ 32
other_order s a b = omega arith

turned_is : (m : Measure) (regs : List ℕ) → measured (turned m) regs ≡ measured m regs
turned_is m regs = other_order m.shift (m.other_factor * reg regs m.other) (m.factor * reg regs m.register)

pub side_is : (m f : Measure) (regs : List ℕ) → IsSide m f → measured m regs ≡ measured f regs
side_is m f regs side = ⊎_elim
    (λ (e : m ≡ f). ap (λ (x : Measure). measured x regs) e)
    (λ (e : m ≡ turned f). ap (λ (x : Measure). measured x regs) e ∙ turned_is f regs) side

more_first : (s a b e : ℕ) → ((s + e) % 2 ^ 32 + a + b) % 2 ^ 32 ≡ ((s + a + b) % 2 ^ 32 + e) % 2 ^ 32
more_first s a b e = omega arith

pub moved_is : (m : Measure) (more : ℕ) (regs : List ℕ) → measured (moved m more) regs ≡ (measured m regs + more) % 2 ^ 32
moved_is m more regs = more_first m.shift (m.factor * reg regs m.register) (m.other_factor * reg regs m.other) more

-- a sum of multiples of one number
both_times : (s f g x : ℕ) → (s + (f + g) % 2 ^ 32 * x) % 2 ^ 32 ≡ (s + f * x + g * x) % 2 ^ 32
both_times s f g x =
    sym (add-mod-mod s ((f + g) % 2 ^ 32 * x) (2 ^ 32))
    ∙ (ap (λ n. (s + n) % 2 ^ 32) (mul-mod_first (f + g) x (2 ^ 32))
    ∙ (add-mod-mod s ((f + g) * x) (2 ^ 32)
    ∙ ap (λ n. n % 2 ^ 32) (let e : (f + g) * x ≡ f * x + g * x = add-mul f g x in let q : s + (f + g) * x ≡ s + f * x + g * x = omega arith in q)))

no_more : (n x : ℕ) → (n + 0 * x) % 2 ^ 32 ≡ n % 2 ^ 32
no_more n x = omega arith

joined_is : (m : Measure) (regs : List ℕ) → measured (joined m) regs ≡ measured m regs
joined_is m regs = go (nat_eq m.register m.other) refl
  where
    one : Measure
    one = record { register = m.register; factor = (m.factor + m.other_factor) % 2 ^ 32; other = m.other; other_factor = 0; shift = m.shift }

    by : (b : Bool) → nat_eq m.register m.other ≡ b → measured (cond b one m) regs ≡ measured m regs
    by true e =
        no_more (m.shift + (m.factor + m.other_factor) % 2 ^ 32 * reg regs m.register) (reg regs m.other)
        ∙ (both_times m.shift m.factor m.other_factor (reg regs m.register)
        ∙ ap (λ (r : ℕ). (m.shift + m.factor * reg regs m.register + m.other_factor * reg regs r) % 2 ^ 32) (eqb-true m.register m.other e))
    by false e = refl

    go : (b : Bool) → nat_eq m.register m.other ≡ b → measured (joined m) regs ≡ measured m regs
    go b e = ap (λ (c : Bool). measured (cond c one m) regs) e ∙ by b e

-- a first register that is so much more
first_more : (s f g a u y : ℕ) → (s + f * ((a + u) % 2 ^ 32) + g * y) % 2 ^ 32 ≡ ((s + f * a + g * y) % 2 ^ 32 + f * u) % 2 ^ 32
first_more s f g a u y =
    other_order s (f * ((a + u) % 2 ^ 32)) (g * y)
    ∙ (measure_adds (2 ^ 32) (s + g * y) f a u
    ∙ (add-mod-mod ((s + g * y + f * a) % 2 ^ 32) (f * u) (2 ^ 32)
    ∙ ap (λ n. (n + f * u) % 2 ^ 32) (other_order s (g * y) (f * a))))

-- a first register that is the sum of the other one and of a third
first_summed : (s f g y z : ℕ) → (s + f * ((z + y) % 2 ^ 32) + g * y) % 2 ^ 32 ≡ (s + f * z + (f + g) % 2 ^ 32 * y) % 2 ^ 32
first_summed s f g y z =
    first_more s f g z y y
    ∙ (mod-add-mod (s + f * z + g * y) (2 ^ 32) (f * y)
    ∙ (other_order (s + f * z) (g * y) (f * y)
    ∙ sym (both_times (s + f * z) f g y)))

plus_turned : (a b : ℕ) → plus a b ≡ plus b a
plus_turned a b = omega arith

difference_is : (a b : ℕ) → b < 2 ^ 32 → (0 + 1 * a + (2 ^ 32 - 1) * b) % 2 ^ 32 ≡ (a + (2 ^ 32 - b)) % 2 ^ 32
difference_is a b small = omega arith

module _ (v : Values) (registers : (j : ℕ) → IsRegister (v.forms j).register × IsRegister (v.forms j).other) (a b : ℕ) (i : Instr) (before after : List ℕ)
    (kept : (r : ℕ) → keeps r i ≡ true → reg after r ≡ reg before r)
    (sums : (r rs : ℕ) (imm : ℤ) → IsRegister r → i ≡ Imm Addi r rs imm → reg after r ≡ plus (reg before rs) (unsigned imm))
    (results : (op : RegOp) (r rs1 rs2 : ℕ) → IsRegister r → i ≡ Reg op r rs1 rs2 → reg after r ≡ reg_result op (reg before rs1) (reg before rs2))
    (zero_before : reg before 0 ≡ 0) (size_before : length before ≡ 32) (now : AreIn v a before) where
  -- by what the first register is behind the instruction
  behind : (m : Measure) (x : ℕ) → keeps m.other i ≡ true → reg after m.register ≡ x → measured m after ≡ (m.shift + m.factor * x + m.other_factor * reg before m.other) % 2 ^ 32
  behind m x other is =
      ap (λ (n : ℕ). (m.shift + m.factor * n + m.other_factor * reg after m.other) % 2 ^ 32) is
      ∙ ap (λ (n : ℕ). (m.shift + m.factor * x + m.other_factor * n) % 2 ^ 32) (kept m.other other)

  of_total : (m : Measure) (rs : ℕ) → keeps m.other i ≡ true → reg after m.register ≡ plus (reg before rs) (reg before m.other) → measured m after ≡ measured (spread m rs) before
  of_total m rs other is =
      behind m (plus (reg before rs) (reg before m.other)) other is ∙ first_summed m.shift m.factor m.other_factor (reg before m.other) (reg before rs)

  made_is : (m n : Measure) → IsRegister m.register → keeps m.other i ≡ true → IsMade m i n → measured m after ≡ measured n before
  made_is m n register other (summed rs imm is n_is) =
      behind m (plus (reg before rs) (unsigned imm)) other (sums m.register rs imm register is)
      ∙ (first_more m.shift m.factor m.other_factor (reg before rs) (unsigned imm) (reg before m.other)
      ∙ (sym (moved_is (taken_for m rs) (m.factor * unsigned imm) before)
      ∙ (sym (joined_is (moved (taken_for m rs) (m.factor * unsigned imm)) before) ∙ ap (λ (x : Measure). measured x before) (sym n_is))))
  made_is m n register other (added rs is n_is) =
      of_total m rs other (results Add m.register m.other rs register is ∙ plus_turned (reg before m.other) (reg before rs)) ∙ ap (λ (x : Measure). measured x before) (sym n_is)
  made_is m n register other (added_to rs is n_is) =
      of_total m rs other (results Add m.register rs m.other register is) ∙ ap (λ (x : Measure). measured x before) (sym n_is)

  first_of_side : (m f : Measure) → IsSide m f → IsRegister f.register → IsRegister f.other → IsRegister m.register
  first_of_side m f side one two = ⊎_elim
      (λ (e : m ≡ f). subst (λ (x : Measure). IsRegister x.register) (sym e) one)
      (λ (e : m ≡ turned f). subst (λ (x : Measure). IsRegister x.register) (sym e) two) side

  sum_by : (n : Measure) (interval : Option Arc) → IsSumBy v a n interval → IsHeld interval (measured n before)
  sum_by n interval q =
      let same : (measured (v.forms q.0) before + q.2) % 2 ^ 32 ≡ measured n before =
      ap (λ (x : ℕ). (x + q.2) % 2 ^ 32) (sym (side_is q.1 (v.forms q.0) before q.3)) ∙ (sym (moved_is q.1 q.2 before) ∙ ap (λ (x : Measure). measured x before) (sym q.4)) in
      in_covers (sum_with (v.lines a q.0) q.2) interval (measured n before) (subst (λ (x : ℕ). IsHeld (sum_with (v.lines a q.0) q.2) x) same (sum_with_in (v.lines a q.0) q.2 (measured (v.forms q.0) before) (now.lines q.0))) q.5

  held_before : (r : ℕ) → IsHeld (held (v.at a) r) (reg before r)
  held_before r = held_of (v.at a) before zero_before size_before now.each r

  pub line_made : (j : ℕ) → IsLineMade v i a b j → IsHeld (v.lines b j) (measured (v.forms j) after)
  line_made j made =
      let rs = registers j in
      let m : Measure = made.side in
      let n : Measure = made.before in
      let is : measured n before ≡ measured (v.forms j) after = sym (made_is m n (first_of_side m (v.forms j) made.is_side rs.0 rs.1) made.other made.made) ∙ side_is m (v.forms j) after made.is_side in
      subst (λ (x : ℕ). IsHeld (v.lines b j) x) is (⊎_elim
      (λ (c : Covers (v.lines b j) (line_of n (v.at a))). in_covers (line_of n (v.at a)) (v.lines b j) (measured n before) (line_in n (v.at a) before held_before) c)
      (λ (q : IsSumBy v a n (v.lines b j)). sum_by n (v.lines b j) q) made.covers)

  pub subtracted : (r : ℕ) → IsRegister r → IsSubtracted v i a b r → IsHeld (v.at b r) (reg after r)
  subtracted r is x =
      let small : reg before x.second < 2 ^ 32 = word_of (held (v.at a) x.second) (reg before x.second) x.word (held_before x.second) in
      subst (λ (n : ℕ). IsHeld (v.at b r) n) (difference_is (reg before x.first) (reg before x.second) small ∙ sym (results Sub r x.first x.second is x.subtracts))
      (sum_by (difference x.first x.second) (v.at b r) x.covers)
