-- What a counter is behind an instruction, by the tables.
use Rattle.std.proofs.Common.{◌≡◌, ℕ, ◌+◌, ◌-◌, ◌*◌, ◌/◌, ◌<◌, ◌%◌, ◌^◌, ◌⊎◌, ⊎_elim, true, List, length, sym, ap, ◌∙◌, subst, arith, Option, Some, None}
use Rattle.std.specs.Prelude.{◌==◌, ◌&&◌, ◌||◌}
use Rattle.std.proofs.lemmas.Bool.{and_parts, or_cases, eqb-true}
use Rattle.std.proofs.lemmas.Nat.{mod_below}
use Rattle.std.proofs.Math.Nat.{mod-add-mod, add-mul, mul_assoc, div-add-mod}
use Rattle.scale_base.specs.declared.instruction.BranchOp.{BranchOp}
use Rattle.scale_base.specs.declared.instruction.BranchOp.TheVariants.{Beq, Bne, Blt, Bge, Bltu, Bgeu}
use Rattle.scale_base.specs.declared.instruction.Instr.{Instr}
use Rattle.scale_base.specs.declared.stepping.Stepped.{Stepped}
use Rattle.scale_base.specs.declared.stepping.StepEnd.TheVariants.{Went}
use Rattle.scale_base.specs.Reading.{instr_of}
use Rattle.scale_base.specs.Arith.{plus, is_taken}
use Rattle.scale_base.specs.State.{Setting, State, reg, word_at}
use Rattle.scale_base.specs.Step.{step}
use Rattle.bound_laws.specs.Registers.{Measure, measured, keeps, effect}
use Rattle.bound_laws.specs.Values.{Arc, IsIn, IsHeld, Covers, Said, held, sum_with, scaled, line_of, opposite_of, said, passed, IsRegister, Values, AreBytes}
use Rattle.bound_laws.proofs.Laws.{IsSo, held_of, in_covers, line_in, measure_adds, nothing_more, passed_in, possible, scaled_in, so_behind, steps_add, steps_leave, sum_with_in}
use Rattle.stack_laws.specs.Stacks.{Stacks, View, view_of, word_address, IsNamed, name_of, IsStoredFrom, IsMissed, AreTold}
use Rattle.stack_laws.specs.Stacks.Name.{of_word}
use Rattle.stack_laws.specs.Counting.{Counter, counted, HasRegisters, IsAdded}
use Rattle.stack_laws.specs.Counting.Counter.{in_registers, in_word}
use Rattle.stack_laws.specs.Tidy.{AreKept}
use Rattle.stack_laws.proofs.Laws.{misses, puts}
use Rattle.lower_bounds.specs.LowerBounds.{says_same, is_same, IsSumAt, IsSumOver, IsWordOver, IsCountedOver, IsNever}
use Rattle.lower_bounds.proofs.Naming.{named_at}

-- ---- numbers

words_small : (x y z u : ℕ) → x < 256 → y < 256 → z < 256 → u < 256 → x + y * 2 ^ 8 + z * 2 ^ 16 + u * 2 ^ 24 < 2 ^ 32
words_small x y z u a b c d = omega arith

word_small : (bytes : ℕ → ℕ) (q : ℕ) → AreBytes bytes → word_at bytes q < 2 ^ 32
word_small bytes q b = words_small (bytes q) (bytes (q + 1)) (bytes (q + 2)) (bytes (q + 3)) (b q) (b (q + 1)) (b (q + 2)) (b (q + 3))

taken_back : (value word more : ℕ) → value % 2 ^ 32 ≡ (word + more) % 2 ^ 32 → word < 2 ^ 32 → (value + (2 ^ 32 - more % 2 ^ 32) % 2 ^ 32) % 2 ^ 32 ≡ word
taken_back value word more e lt = omega arith

turned_sum : (shift p : ℕ) → plus (p % 2 ^ 32) shift ≡ (shift + p) % 2 ^ 32
turned_sum shift p = mod-add-mod p (2 ^ 32) shift ∙ ap (λ n. n % 2 ^ 32) (let e : p + shift ≡ shift + p = omega arith in e)

word_mod : (n : ℕ) → n < 2 ^ 32 → n % 2 ^ 32 ≡ n
word_mod n h = omega arith

held_word : (z : Option Arc) (n : ℕ) → IsHeld z n → IsHeld z (n % 2 ^ 32)
held_word None n h = tt
held_word (Some y) n h = subst (λ m. IsIn y m) (sym (word_mod n h.word)) h

-- multiples of one number, whose factors take each other away
nothing_left : (s f g x : ℕ) → (f + g) % 2 ^ 32 ≡ 0 → (s + f * x + g * x) % 2 ^ 32 ≡ s % 2 ^ 32
nothing_left s f g x h =
    let q : ℕ = (f + g) / 2 ^ 32 in
    let a : f + g ≡ 2 ^ 32 * q = (let d = div-add-mod (f + g) (2 ^ 32) in omega arith) in
    rounds s (f * x) (g * x) (q * x) (sym (add-mul f g x) ∙ (ap (λ y. y * x) a ∙ mul_assoc (2 ^ 32) q x))
  where
    rounds : (s p r m : ℕ) → p + r ≡ 2 ^ 32 * m → (s + p + r) % 2 ^ 32 ≡ s % 2 ^ 32
    rounds s p r m e = omega arith

same_words : (op : BranchOp) (a b : ℕ) → says_same op ≡ true → is_taken op a b ≡ true → a ≡ b
same_words Beq a b d h = eqb-true a b h
same_words Bne a b d h = let bad : ⊥ = cc in absurd bad
same_words Blt a b d h = let bad : ⊥ = cc in absurd bad
same_words Bge a b d h = let bad : ⊥ = cc in absurd bad
same_words Bltu a b d h = let bad : ⊥ = cc in absurd bad
same_words Bgeu a b d h = let bad : ⊥ = cc in absurd bad

word_left : (shift factor before after e : ℕ) → after ≡ before → e ≡ 0 → (shift + factor * after) % 2 ^ 32 ≡ ((shift + factor * before) % 2 ^ 32 + e) % 2 ^ 32
word_left shift factor before after e same none =
    ap (λ n. (shift + factor * n) % 2 ^ 32) same
    ∙ (sym (nothing_more ((shift + factor * before) % 2 ^ 32) (mod_below (shift + factor * before) (2 ^ 32) (omega arith))) ∙ ap (λ n. ((shift + factor * before) % 2 ^ 32 + n) % 2 ^ 32) (sym none))

word_moved : (shift factor before after more e : ℕ) → after ≡ (before + more) % 2 ^ 32 → e ≡ factor * more % 2 ^ 32 → (shift + factor * after) % 2 ^ 32 ≡ ((shift + factor * before) % 2 ^ 32 + e) % 2 ^ 32
word_moved shift factor before after more e is adds =
    ap (λ n. (shift + factor * n) % 2 ^ 32) is ∙ (measure_adds (2 ^ 32) shift factor before more ∙ ap (λ n. ((shift + factor * before) % 2 ^ 32 + n) % 2 ^ 32) (sym adds))

-- ---- a step

module _ (env : Setting) (keyless : env.layout.keyed ≡ None) (v : Values) (w : Stacks) (offsets : (k : ℕ) → w.offset k < 2 ^ 32) (s : State) (zero_is : reg s.regs 0 ≡ 0) (size : length s.regs ≡ 32) (begun : List ℕ)
    (told : AreTold v w s.pc (view_of w begun s.regs s.bytes)) (memory : AreBytes s.bytes) (i : Instr) (here : instr_of (word_at s.bytes s.pc) ≡ Some i) (x : Stepped) (went : (step env s).end ≡ Went x)
    (own : w.doubtful s.pc ≡ true → AreKept w s.bytes (step env s).state.bytes (record { function = v.function s.pc; stack = reg begun 2 }))
    (zero_after : reg (step env s).state.regs 0 ≡ 0) (size_after : length (step env s).state.regs ≡ 32)
    (known : AreTold v w (step env s).state.pc (view_of w begun (step env s).state.regs (step env s).state.bytes)) where
  abbrev after : State
  after = (step env s).state

  abbrev seen : View
  seen = view_of w begun s.regs s.bytes

  abbrev then : View
  then = view_of w begun after.regs after.bytes

  abbrev behind : ℕ → Option Arc
  behind = passed i s.pc after.pc (v.at s.pc)

  holds : (r : ℕ) → IsRegister r → IsHeld (behind r) (reg after.regs r)
  holds r is = passed_in env keyless s (v.at s.pc) zero_is size told.registers.each memory i r x here went is

  at_of : (r : ℕ) → IsHeld (held (v.at s.pc) r) (reg s.regs r)
  at_of r = held_of (v.at s.pc) s.regs zero_is size told.registers.each r

  adds : (m : Measure) (e : ℕ) → (m.register < 32) × (m.other < 32) → effect m i ≡ Some e → measured m after.regs ≡ (measured m s.regs + e) % 2 ^ 32
  adds m e small does = steps_add env s x i m e here went (let a = small.0 in omega arith) (let a = small.1 in omega arith) does

  -- ---- a sum of registers

  same_in : (m : Measure) (o : Option Said) → IsSo env keyless s (v.at s.pc) zero_is size told.registers.each memory o → is_same o m ≡ true → measured m s.regs ≡ m.shift % 2 ^ 32
  same_in m None so h = let bad : ⊥ = cc in absurd bad
  same_in m (Some q) so h =
      ap (λ n. (m.shift + m.factor * n + m.other_factor * reg s.regs m.other) % 2 ^ 32) equal
      ∙ nothing_left m.shift m.factor m.other_factor (reg s.regs m.other) (eqb-true ((m.factor + m.other_factor) % 2 ^ 32) 0 p.1)
    where
      p : ((says_same q.op && (((m.register == q.first) && (m.other == q.second)) || ((m.register == q.second) && (m.other == q.first)))) ≡ true) × (((m.factor + m.other_factor) % 2 ^ 32 == 0) ≡ true)
      p = and_parts (says_same q.op && (((m.register == q.first) && (m.other == q.second)) || ((m.register == q.second) && (m.other == q.first)))) ((m.factor + m.other_factor) % 2 ^ 32 == 0) h

      r : (says_same q.op ≡ true) × ((((m.register == q.first) && (m.other == q.second)) || ((m.register == q.second) && (m.other == q.first))) ≡ true)
      r = and_parts (says_same q.op) (((m.register == q.first) && (m.other == q.second)) || ((m.register == q.second) && (m.other == q.first))) p.0

      words : reg s.regs q.first ≡ reg s.regs q.second
      words = same_words q.op (reg s.regs q.first) (reg s.regs q.second) r.0 so

      equal : reg s.regs m.register ≡ reg s.regs m.other
      equal = ⊎_elim
          (λ (y : ((m.register == q.first) && (m.other == q.second)) ≡ true).
          let c = and_parts (m.register == q.first) (m.other == q.second) y in
          ap (reg s.regs) (eqb-true m.register q.first c.0) ∙ (words ∙ sym (ap (reg s.regs) (eqb-true m.other q.second c.1))))
          (λ (y : ((m.register == q.second) && (m.other == q.first)) ≡ true).
          let c = and_parts (m.register == q.second) (m.other == q.first) y in
          ap (reg s.regs) (eqb-true m.register q.second c.0) ∙ (sym words ∙ sym (ap (reg s.regs) (eqb-true m.other q.first c.1))))
          (or_cases ((m.register == q.first) && (m.other == q.second)) ((m.register == q.second) && (m.other == q.first)) r.1)

  by_line : (m : Measure) (y : Arc) → (m.register < 32) × (m.other < 32) → (j : ℕ) × (e : ℕ) × (v.forms j ≡ m) × (effect m i ≡ Some e) × Covers (Some y) (sum_with (v.lines s.pc j) e) → IsIn y (measured m after.regs)
  by_line m y small (j, e, form, does, covers) =
      let line : IsHeld (v.lines s.pc j) (measured m s.regs) = subst (λ f. IsHeld (v.lines s.pc j) (measured f s.regs)) form (told.registers.lines j) in
      in_covers (sum_with (v.lines s.pc j) e) (Some y) (measured m after.regs)
      (subst (IsHeld (sum_with (v.lines s.pc j) e)) (sym (adds m e small does)) (sum_with_in (v.lines s.pc j) e (measured m s.regs) line)) covers

  by_branch : (m : Measure) (y : Arc) → (m.register < 32) × (m.other < 32) → effect m i ≡ Some 0 → is_same (said i s.pc after.pc) m ≡ true → IsIn y (m.shift % 2 ^ 32) → IsIn y (measured m after.regs)
  by_branch m y small does same is =
      let was : measured m s.regs ≡ m.shift % 2 ^ 32 = same_in m (said i s.pc after.pc) (so_behind env keyless s (v.at s.pc) zero_is size told.registers.each memory i x here went) same in
      let now : measured m after.regs ≡ m.shift % 2 ^ 32 = adds m 0 small does ∙ (ap (λ n. (n + 0) % 2 ^ 32) was ∙ nothing_more (m.shift % 2 ^ 32) (mod_below m.shift (2 ^ 32) (omega arith))) in
      subst (IsIn y) (sym now) is

  sum_there : (m : Measure) (y : Arc) → IsSumAt v after.pc m y → IsIn y (measured m after.regs)
  sum_there m y h = ⊎_elim
      (λ (covers : Covers (Some y) (line_of m (v.at after.pc))).
      in_covers (line_of m (v.at after.pc)) (Some y) (measured m after.regs) (line_in m (v.at after.pc) after.regs (held_of (v.at after.pc) after.regs zero_after size_after known.registers.each)) covers)
      (λ (q : (j : ℕ) × (v.forms j ≡ m) × Covers (Some y) (v.lines after.pc j)).
      in_covers (v.lines after.pc q.0) (Some y) (measured m after.regs) (subst (λ f. IsHeld (v.lines after.pc q.0) (measured f after.regs)) q.1 (known.registers.lines q.0)) q.2) h

  sum_over : (m : Measure) (y : Arc) → (m.register < 32) × (m.other < 32) → IsSumOver v i s.pc after.pc m y → IsIn y (measured m after.regs)
  sum_over m y small h = ⊎_elim
      (λ (covers : Covers (Some y) (line_of m behind)). in_covers (line_of m behind) (Some y) (measured m after.regs) (line_in m behind after.regs (held_of behind after.regs zero_after size_after holds)) covers)
      (λ (rest : ((j : ℕ) × (e : ℕ) × (v.forms j ≡ m) × (effect m i ≡ Some e) × Covers (Some y) (sum_with (v.lines s.pc j) e)) ⊎ ((effect m i ≡ Some 0) × (is_same (said i s.pc after.pc) m ≡ true) × IsIn y (m.shift % 2 ^ 32)) ⊎ IsSumAt v after.pc m y). ⊎_elim
      (λ (q : (j : ℕ) × (e : ℕ) × (v.forms j ≡ m) × (effect m i ≡ Some e) × Covers (Some y) (sum_with (v.lines s.pc j) e)). by_line m y small q)
      (λ (more : ((effect m i ≡ Some 0) × (is_same (said i s.pc after.pc) m ≡ true) × IsIn y (m.shift % 2 ^ 32)) ⊎ IsSumAt v after.pc m y). ⊎_elim
      (λ (q : (effect m i ≡ Some 0) × (is_same (said i s.pc after.pc) m ≡ true) × IsIn y (m.shift % 2 ^ 32)). by_branch m y small q.0 q.1 q.2)
      (λ (q : IsSumAt v after.pc m y). sum_there m y q) more) rest) h

  -- ---- a word of the stack

  tied_word : (k r more : ℕ) → IsMissed v w s.pc i k → IsRegister r → keeps r i ≡ true → w.name s.pc r ≡ Some (of_word k more) → IsHeld (sum_with (behind r) (opposite_of more)) (then.words k)
  tied_word k r more missed is keep name =
      let named : IsNamed (Some (of_word k more)) seen (reg s.regs r) = subst (λ n. IsNamed n seen (reg s.regs r)) name (told.names r is) in
      let left : IsHeld (behind r) (reg s.regs r) = subst (IsHeld (behind r)) (steps_leave env s i r here keep) (holds r is) in
      let word : plus (reg s.regs r) (opposite_of more) ≡ then.words k = taken_back (reg s.regs r) (seen.words k) more named.0 (word_small s.bytes (word_address w begun k) memory) ∙ sym (misses env keyless v w offsets s zero_is size begun told i here own k missed) in
      subst (IsHeld (sum_with (behind r) (opposite_of more))) word (sum_with_in (behind r) (opposite_of more) (reg s.regs r) left)

  word_over : (k : ℕ) (z : Option Arc) → IsWordOver v w i s.pc after.pc k z → IsHeld z (then.words k)
  word_over k z h = ⊎_elim
      (λ (q : z ≡ w.word after.pc k). subst (λ y. IsHeld y (then.words k)) (sym q) (known.words k))
      (λ (some : (IsMissed v w s.pc i k × (z ≡ w.word s.pc k)) ⊎ ((r : ℕ) × IsStoredFrom w s.pc i k r × (z ≡ held (v.at s.pc) r)) ⊎ ((r : ℕ) × (more : ℕ) × IsMissed v w s.pc i k × IsRegister r × (keeps r i ≡ true) × (w.name s.pc r ≡ Some (of_word k more)) × (z ≡ sum_with (behind r) (opposite_of more)))). ⊎_elim
      (λ (q : IsMissed v w s.pc i k × (z ≡ w.word s.pc k)).
      subst (λ y. IsHeld y (then.words k)) (sym q.1) (subst (IsHeld (w.word s.pc k)) (sym (misses env keyless v w offsets s zero_is size begun told i here own k q.0)) (told.words k)))
      (λ (rest : ((r : ℕ) × IsStoredFrom w s.pc i k r × (z ≡ held (v.at s.pc) r)) ⊎ ((r : ℕ) × (more : ℕ) × IsMissed v w s.pc i k × IsRegister r × (keeps r i ≡ true) × (w.name s.pc r ≡ Some (of_word k more)) × (z ≡ sum_with (behind r) (opposite_of more)))). ⊎_elim
      (λ (q : (r : ℕ) × IsStoredFrom w s.pc i k r × (z ≡ held (v.at s.pc) r)).
      subst (λ y. IsHeld y (then.words k)) (sym q.2)
      (subst (IsHeld (held (v.at s.pc) q.0)) (sym (puts env keyless v w offsets s zero_is size begun told i here x went k q.0 q.1)) (held_word (held (v.at s.pc) q.0) (reg s.regs q.0) (at_of q.0))))
      (λ (q : (r : ℕ) × (more : ℕ) × IsMissed v w s.pc i k × IsRegister r × (keeps r i ≡ true) × (w.name s.pc r ≡ Some (of_word k more)) × (z ≡ sum_with (behind r) (opposite_of more))).
      subst (λ y. IsHeld y (then.words k)) (sym q.6) (tied_word k q.0 q.1 q.2 q.3 q.4 q.5)) rest) some) h

  -- ---- both

  pub counted_over : (c : Counter) (y : Arc) → HasRegisters c → IsCountedOver v w i s.pc after.pc c y → IsIn y (counted c then)
  counted_over (in_registers m) y small h = sum_over m y small h
  counted_over (in_word k factor shift) y small (z, over, covers) =
      let line : Option Arc = sum_with (scaled factor z) shift in
      let value : ℕ = (shift + factor * then.words k) % 2 ^ 32 in
      in_covers line (Some y) value
      (subst (IsHeld line) (turned_sum shift (factor * then.words k)) (sum_with_in (scaled factor z) shift (factor * then.words k % 2 ^ 32) (scaled_in factor z (then.words k) (word_over k z over)))) covers

  pub never : IsNever v i s.pc after.pc → ⊥
  never h = possible env keyless s (v.at s.pc) zero_is size told.registers.each memory (said i s.pc after.pc) (so_behind env keyless s (v.at s.pc) zero_is size told.registers.each memory i x here went) h

  -- what the step adds to a counter
  pub counted_on : (c : Counter) (e : ℕ) → HasRegisters c → IsAdded v w c s.pc i e → counted c then ≡ (counted c seen + e) % 2 ^ 32
  counted_on (in_registers m) e small does = adds m e small does
  counted_on (in_word k factor shift) e small does = ⊎_elim
      (λ (q : IsMissed v w s.pc i k × (e ≡ 0)). word_left shift factor (seen.words k) (then.words k) e (misses env keyless v w offsets s zero_is size begun told i here own k q.0) q.1)
      (λ (q : (r : ℕ) × (more : ℕ) × IsStoredFrom w s.pc i k r × (name_of w s.pc r ≡ Some (of_word k more)) × (e ≡ factor * more % 2 ^ 32)).
      let named : IsNamed (Some (of_word k q.1)) seen (reg s.regs q.0) = subst (λ n. IsNamed n seen (reg s.regs q.0)) q.3 (named_at v w s.pc seen told q.0) in
      word_moved shift factor (seen.words k) (then.words k) q.1 e (puts env keyless v w offsets s zero_is size begun told i here x went k q.0 q.2 ∙ named.0) q.4) does
