-- Where the pointer is when the loop is entered.
use Rattle.std.proofs.Common.{◌≡◌, ℕ, ◌+◌, ◌*◌, ◌<◌, ◌%◌, ◌^◌, ⊎_elim, true, List, length, sym, subst, arith, Option, Some, None}
use Rattle.std.proofs.lemmas.Nat.{mul-mod_second}
use Rattle.scale_base.specs.declared.instruction.Instr.{Instr}
use Rattle.scale_base.specs.declared.stepping.Stepped.{Stepped}
use Rattle.scale_base.specs.declared.stepping.StepEnd.TheVariants.{Went}
use Rattle.scale_base.specs.Reading.{instr_of}
use Rattle.scale_base.specs.Arith.{plus}
use Rattle.scale_base.specs.State.{Setting, State, reg, word_at}
use Rattle.scale_base.specs.Step.{step}
use Rattle.bound_laws.specs.Values.{Arc, IsHeld, held, scaled, sum_of, Values, AreBytes}
use Rattle.bound_laws.proofs.Laws.{held_of, in_covers, passed_in, scaled_in, sum_in, sum_with_in}
use Rattle.stack_laws.specs.Stacks.{Stacks, View, view_of, AreTold}
use Rattle.stack_laws.specs.Tidy.{AreKept}
use Rattle.stack_laws.proofs.Laws.{misses, puts}
use Rattle.walk_areas.specs.Walking.{Place, number_in, WalkCertificate, IsArcOver, aimed_in, IsStarted, IsStartedBy}
use Rattle.walk_areas.specs.Walking.IsArcOver.{register, missed, stored}
use Rattle.walk_areas.proofs.Facts.{aimed}

-- a number of an interval is one modulo 2^32, too
held_mod : (i : Option Arc) (n : ℕ) → IsHeld i n → IsHeld i (n % 2 ^ 32)
held_mod None n h = tt
held_mod (Some i) n h = subst (λ k. IsHeld (Some i) k) (let word : n < 2 ^ 32 = h.word in let e : n ≡ n % 2 ^ 32 = omega arith in e) h

aimed_plus : (p q a b at : ℕ) → p ≡ a % 2 ^ 32 → q ≡ b % 2 ^ 32 → plus (plus p q) at ≡ (a + b + at) % 2 ^ 32
aimed_plus p q a b at e f = omega arith

module _ (env : Setting) (keyless : env.layout.keyed ≡ None) (v : Values) (w : Stacks) (offsets : (k : ℕ) → w.offset k < 2 ^ 32) (s : State) (zero_is : reg s.regs 0 ≡ 0) (size : length s.regs ≡ 32) (begun : List ℕ)
    (told : AreTold v w s.pc (view_of w begun s.regs s.bytes)) (i : Instr) (here : instr_of (word_at s.bytes s.pc) ≡ Some i) (x : Stepped) (went : (step env s).end ≡ Went x)
    (own : w.doubtful s.pc ≡ true → AreKept w s.bytes (step env s).state.bytes (record { function = v.function s.pc; stack = reg begun 2 })) (memory : AreBytes s.bytes)
    (c : WalkCertificate) where
  abbrev after : State
  after = (step env s).state

  abbrev then : View
  then = view_of w begun after.regs after.bytes

  abbrev Has : Option Arc → Place → Type 0
  Has arc p = IsHeld arc (number_in p then)

  arc_over : (p : Place) (arc : Option Arc) → IsArcOver v w s.pc i after.pc p arc → Has arc p
  arc_over p arc (register r at is e) =
      subst (Has arc) (sym at) (subst (λ o. IsHeld o (reg after.regs r)) (sym e) (passed_in env keyless s (v.at s.pc) zero_is size told.registers.each memory i r x here went is))
  arc_over p arc (missed k at far e) =
      subst (Has arc) (sym at) (subst (λ o. IsHeld o (then.words k)) (sym e)
      (subst (IsHeld (w.word s.pc k)) (sym (misses env keyless v w offsets s zero_is size begun told i here own k far)) (told.words k)))
  arc_over p arc (stored k r at stores e) =
      subst (Has arc) (sym at) (subst (λ o. IsHeld o (then.words k)) (sym e)
      (subst (IsHeld (held (v.at s.pc) r)) (sym (puts env keyless v w offsets s zero_is size begun told i here x went k r stores))
      (held_mod (held (v.at s.pc) r) (reg s.regs r) (held_of (v.at s.pc) s.regs zero_is size told.registers.each r))))

  aims_in : (first second : Option Arc) (m n : ℕ) → IsHeld first m → IsHeld second n → IsHeld (aimed_in c first second) (aimed c (m % 2 ^ 32) (n % 2 ^ 32))
  aims_in first second m n a b =
      let p : ℕ = c.first_factor * m % 2 ^ 32 in
      let q : ℕ = c.second_factor * n % 2 ^ 32 in
      let both : IsHeld (sum_of (scaled c.first_factor first) (scaled c.second_factor second)) (plus p q) =
      sum_in (scaled c.first_factor first) (scaled c.second_factor second) p q (scaled_in c.first_factor first m a) (scaled_in c.second_factor second n b) in
      subst (IsHeld (aimed_in c first second))
      (aimed_plus p q (c.first_factor * (m % 2 ^ 32)) (c.second_factor * (n % 2 ^ 32)) c.at (sym (mul-mod_second c.first_factor m (2 ^ 32))) (sym (mul-mod_second c.second_factor n (2 ^ 32))))
      (sum_with_in (sum_of (scaled c.first_factor first) (scaled c.second_factor second)) c.at (plus p q) both)

  pub starts_in : (b : ℕ) → after.pc ≡ b → IsStarted v w c s.pc i b → IsHeld c.start (aimed c (number_in c.first then % 2 ^ 32) (number_in c.second then % 2 ^ 32))
  starts_in b to q = ⊎_elim
      (λ (none : c.start ≡ None). subst (λ o. IsHeld o (aimed c (number_in c.first then % 2 ^ 32) (number_in c.second then % 2 ^ 32))) (sym none) tt)
      (λ (by : IsStartedBy v w c s.pc i b).
      in_covers (aimed_in c by.first by.second) c.start (aimed c (number_in c.first then % 2 ^ 32) (number_in c.second then % 2 ^ 32))
      (aims_in by.first by.second (number_in c.first then) (number_in c.second then)
      (arc_over c.first by.first (subst (λ n. IsArcOver v w s.pc i n c.first by.first) (sym to) by.first_over))
      (arc_over c.second by.second (subst (λ n. IsArcOver v w s.pc i n c.second by.second) (sym to) by.second_over))) by.covers) q
