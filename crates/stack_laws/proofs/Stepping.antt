-- What a step does to the words of the stack, by the tables.
use Rattle.std.proofs.Common.{◌⊎◌, ◌≡◌, ℕ, ◌+◌, ◌<◌, ◌≤◌, ◌%◌, ◌^◌, inl, ⊎_elim, Bool, true, false, List, length, refl, sym, ap, ◌∙◌, subst, arith, Option, Some, None}
use Rattle.std.specs.Prelude.{ℤ, ◌==◌, ◌||◌, ◌&&◌, not, nat_lt, min, is_some}
use Rattle.std.proofs.lemmas.Bool.{cond_both, and_parts, ltb-true}
use Rattle.scale_base.specs.declared.instruction.LoadOp.{LoadOp}
use Rattle.scale_base.specs.declared.instruction.LoadOp.TheVariants.{Lb, Lh, Lw, Lbu, Lhu}
use Rattle.scale_base.specs.declared.instruction.StoreOp.{StoreOp}
use Rattle.scale_base.specs.declared.instruction.StoreOp.TheVariants.{Sb, Sh, Sw}
use Rattle.scale_base.specs.declared.instruction.Instr.{Instr}
use Rattle.scale_base.specs.declared.instruction.Instr.TheVariants.{Lui, Auipc, Jal, Jalr, Branch, Load, Store, Imm, Reg, Fence, Ecall, Ebreak}
use Rattle.scale_base.specs.declared.stepping.Stepped.{Stepped}
use Rattle.scale_base.specs.declared.stepping.StepEnd.TheVariants.{Went}
use Rattle.scale_base.specs.Reading.{instr_of}
use Rattle.scale_base.specs.Layout.{can_read, uses_window}
use Rattle.scale_base.specs.Arith.{plus, moved_by, unsigned, is_taken, load_width, store_width}
use Rattle.scale_base.specs.State.{Setting, State, reg, word_at}
use Rattle.scale_base.specs.Step.{Outcome, loads, jumps, branches, performs, step}
use Rattle.bound_laws.specs.Values.{Arc, strided, IsHeld, sum_with, top_of, held, IsRegister, Values}
use Rattle.bound_laws.specs.Registers.{keeps}
use Rattle.bound_laws.proofs.Laws.{sum_with_in, below_top, held_of, step_of}
use Rattle.stack_laws.specs.Stacks.{known_sum, span_of, IsSpanned, stored_span, most_stored, AreBelow, Stacks, View, view_of, word_address, IsNamed, name_of, offset_of, stored_at, loaded_at, width_stored, word_stored, word_loaded, IsStoredFrom, IsLoadedTo, IsApart, AreApart, HasNot, IsFar, IsMissed, IsBelow, IsSparing, AreTold}
use Rattle.stack_laws.specs.Tidy.{AreKept}
use Rattle.stack_laws.proofs.Stores.{AreOut, AreSame, word_same, apart_out, stores_keep, served_keeps, stores_put, loads_get}
use Rattle.stack_laws.proofs.Naming.{held_small, span_sum, places_apart, span_apart, span_below, plus_small, are_apart, apart_small, less_apart, has_not, is_below, offset_small, offset_is}

module _ (env : Setting) (keyless : env.layout.keyed ≡ None) (v : Values) (w : Stacks) (offsets : (k : ℕ) → w.offset k < 2 ^ 32) (s : State) (zero_is : reg s.regs 0 ≡ 0) (size : length s.regs ≡ 32) (begun : List ℕ)
    (told : AreTold v w s.pc (view_of w begun s.regs s.bytes)) (i : Instr) (here : instr_of (word_at s.bytes s.pc) ≡ Some i) where
  abbrev after : State
  after = (step env s).state

  abbrev view : View
  view = view_of w begun s.regs s.bytes

  pub held_at : (r : ℕ) → IsHeld (held (v.at s.pc) r) (reg s.regs r)
  held_at r = held_of (v.at s.pc) s.regs zero_is size told.registers.each r

  pub name_held : (r : ℕ) → IsNamed (name_of w s.pc r) view (reg s.regs r)
  name_held r = cond_both (nat_lt 0 r && nat_lt r 32) (w.name s.pc r) None (λ n. IsNamed n view (reg s.regs r))
      (λ h. let p = and_parts (nat_lt 0 r) (nat_lt r 32) h in told.names r (ltb-true 0 r p.0, ltb-true r 32 p.1)) (λ _. tt)

  abbrev Keeps : ℕ → ℕ → Outcome → Type 0
  Keeps q n o = AreSame o.state.bytes s.bytes q n

  -- what a step stores, by what holds of every store and of the read service
  pub bytes_by : (q n : ℕ) →
      ((op : StoreOp) (rs1 rs2 : ℕ) (offset : ℤ) → i ≡ Store op rs1 rs2 offset → moved_by (reg s.regs rs1) offset + store_width op ≤ 2 ^ 32 → AreOut (moved_by (reg s.regs rs1) offset) (store_width op) q n) →
      (i ≡ Ecall → reg s.regs 17 ≡ 63 → (m : ℕ) → m ≤ 256 → m ≤ reg s.regs 12 → reg s.regs 11 + m ≤ 2 ^ 32 → AreOut (reg s.regs 11) m q n) → AreSame after.bytes s.bytes q n
  bytes_by q n stores reads = step_of (Keeps q n) env s i here (by i refl) (λ k lt. refl)
    where
      jump : (rd target : ℕ) → Keeps q n (jumps env s i rd target)
      jump rd target = cond_both (target % 4 == 0) _ _ (Keeps q n) (λ _ k lt. refl) (λ _ k lt. refl)

      branch : (taken : Bool) (target : ℕ) → Keeps q n (branches env s i taken target)
      branch taken target = cond_both taken _ _ (Keeps q n) (λ _. cond_both (target % 4 == 0) _ _ (Keeps q n) (λ _ k lt. refl) (λ _ k lt. refl)) (λ _ k lt. refl)

      load : (op : LoadOp) (rd at : ℕ) → Keeps q n (loads env s i op rd at)
      load op rd at =
          cond_both (not (at % load_width op == 0)) _ _ (Keeps q n) (λ _ k lt. refl)
          (λ _. cond_both (uses_window env.layout s.pc at (load_width op)) _ _ (Keeps q n) (λ _ k lt. refl)
          (λ _. cond_both (can_read env.layout s.pc at (load_width op)) _ _ (Keeps q n) (λ _ k lt. refl) (λ _ k lt. refl)))

      by : (j : Instr) → i ≡ j → Keeps q n (performs env s i j)
      by (Lui rd imm) e = λ k lt. refl
      by (Auipc rd imm) e = λ k lt. refl
      by (Jal rd offset) e = jump rd _
      by (Jalr rd rs1 offset) e = jump rd _
      by (Branch op rs1 rs2 offset) e = branch (is_taken op (reg s.regs rs1) (reg s.regs rs2)) (moved_by s.pc offset)
      by (Load op rd rs1 offset) e = load op rd _
      by (Store op rs1 rs2 offset) e = stores_keep env s q n i op (moved_by (reg s.regs rs1) offset) (reg s.regs rs2) (plus_small (reg s.regs rs1) (unsigned offset)) (stores op rs1 rs2 offset e)
      by (Imm op rd rs1 imm) e = λ k lt. refl
      by (Reg op rd rs1 rs2) e = λ k lt. refl
      by (Fence rd rs1 imm) e = λ k lt. refl
      by Ecall e = cond_both ((reg s.regs 17 == 93) || (reg s.regs 17 == 94)) _ _ (Keeps q n) (λ _ k lt. refl) (λ _. served_keeps env s q n (reads e))
      by Ebreak e = λ k lt. refl

  -- the same of a word
  keeps_by : (q : ℕ) →
      ((op : StoreOp) (rs1 rs2 : ℕ) (offset : ℤ) → i ≡ Store op rs1 rs2 offset → moved_by (reg s.regs rs1) offset + store_width op ≤ 2 ^ 32 → AreOut (moved_by (reg s.regs rs1) offset) (store_width op) q 4) →
      (i ≡ Ecall → reg s.regs 17 ≡ 63 → (n : ℕ) → n ≤ 256 → n ≤ reg s.regs 12 → reg s.regs 11 + n ≤ 2 ^ 32 → AreOut (reg s.regs 11) n q 4) → word_at after.bytes q ≡ word_at s.bytes q
  keeps_by q stores reads = word_same after.bytes s.bytes q (bytes_by q 4 stores reads)

  pub count_top : (n : ℕ) → n ≤ 256 → n ≤ reg s.regs 12 → n ≤ min 256 (top_of (held (v.at s.pc) 12))
  count_top n few asked = by (held (v.at s.pc) 12) (held_at 12)
    where
      by : (c : Option Arc) → IsHeld c (reg s.regs 12) → n ≤ min 256 (top_of c)
      by None h = omega arith
      by (Some c) h = let p = below_top c (reg s.regs 12) h in omega arith

  -- what is far is kept
  pub far_keeps : (y : Option Arc) (q : ℕ) → q < 2 ^ 32 → IsHeld y q → IsFar v s.pc i y → word_at after.bytes q ≡ word_at s.bytes q
  far_keeps y q small is far = keeps_by q
      (λ op rs1 rs2 offset e fits.
      let f : AreApart (sum_with (held (v.at s.pc) rs1) (unsigned offset)) (store_width op) y = subst (λ j. IsFar v s.pc j y) e far in
      apart_out (moved_by (reg s.regs rs1) offset) (store_width op) q (plus_small (reg s.regs rs1) (unsigned offset)) small fits
      (are_apart (sum_with (held (v.at s.pc) rs1) (unsigned offset)) y (store_width op) (moved_by (reg s.regs rs1) offset) q (sum_with_in (held (v.at s.pc) rs1) (unsigned offset) (reg s.regs rs1) (held_at rs1)) is f))
      (λ e read m few asked fits.
      let n : ℕ = min 256 (top_of (held (v.at s.pc) 12)) in
      ⊎_elim (λ (no : HasNot (held (v.at s.pc) 17) 63). absurd (has_not (held (v.at s.pc) 17) 63 (subst (λ m. IsHeld (held (v.at s.pc) 17) m) read (held_at 17)) no))
      (λ (f : AreApart (held (v.at s.pc) 11) n y).
      apart_out (reg s.regs 11) m q (apart_small (held (v.at s.pc) 11) y n (reg s.regs 11) (held_at 11) f) small fits
      (less_apart (reg s.regs 11) n m q (count_top m few asked) (are_apart (held (v.at s.pc) 11) y n (reg s.regs 11) q (held_at 11) is f)))
      (subst (λ j. IsFar v s.pc j y) e far))

  -- the address of a store by the offset of it
  store_offset : (op : StoreOp) (rs1 rs2 : ℕ) (offset : ℤ) (o : ℕ) → i ≡ Store op rs1 rs2 offset → stored_at w s.pc i ≡ Some o → (moved_by (reg s.regs rs1) offset ≡ plus (reg begun 2) o) × (o < 2 ^ 32) × (width_stored i ≡ store_width op)
  store_offset op rs1 rs2 offset o e h =
      let q : offset_of (name_of w s.pc rs1) (unsigned offset) ≡ Some o = subst (λ j. stored_at w s.pc j ≡ Some o) e h in
      (offset_is (name_of w s.pc rs1) view (reg s.regs rs1) (unsigned offset) o (name_held rs1) q, offset_small (name_of w s.pc rs1) (unsigned offset) o q, ap width_stored e)

  not_service : (o : ℕ) → stored_at w s.pc i ≡ Some o → i ≡ Ecall → ⊥
  not_service o h e = let q : stored_at w s.pc Ecall ≡ Some o = subst (λ j. stored_at w s.pc j ≡ Some o) e h in let bad : ⊥ = cc in bad

  near_keeps : (o p : ℕ) → p < 2 ^ 32 → stored_at w s.pc i ≡ Some o → IsApart o (width_stored i) p → word_at after.bytes (plus (reg begun 2) p) ≡ word_at s.bytes (plus (reg begun 2) p)
  near_keeps o p small h apart = keeps_by (plus (reg begun 2) p)
      (λ op rs1 rs2 offset e fits.
      let f = store_offset op rs1 rs2 offset o e h in
      let width : width_stored i ≡ store_width op = f.2 in
      let apart_so : IsApart (plus (reg begun 2) o) (store_width op) (plus (reg begun 2) p) = places_apart (reg begun 2) o (store_width op) p f.1 small (subst (λ n. IsApart o n p) width apart) in
      subst (λ at. AreOut at (store_width op) (plus (reg begun 2) p) 4) (sym f.0)
      (apart_out (plus (reg begun 2) o) (store_width op) (plus (reg begun 2) p) (plus_small (reg begun 2) o) (plus_small (reg begun 2) p) (subst (λ at. at + store_width op ≤ 2 ^ 32) f.0 fits) apart_so))
      (λ e. absurd (not_service o h e))

  below_keeps : (o q : ℕ) → q < 2 ^ 32 → reg begun 2 ≤ q → stored_at w s.pc i ≡ Some o → IsBelow (w.begins (v.function s.pc)) o (width_stored i) → word_at after.bytes q ≡ word_at s.bytes q
  below_keeps o q small above h below = keeps_by q
      (λ op rs1 rs2 offset e fits.
      let f = store_offset op rs1 rs2 offset o e h in
      let b = is_below (w.begins (v.function s.pc)) (reg begun 2) o (width_stored i) told.begins below in
      let c : plus (reg begun 2) o + store_width op ≤ reg begun 2 = subst (λ n. plus (reg begun 2) o + n ≤ reg begun 2) f.2 b.2 in
      subst (λ at. AreOut at (store_width op) q 4) (sym f.0) (inl (let d : plus (reg begun 2) o + store_width op ≤ q = omega arith in d)))
      (λ e. absurd (not_service o h e))

  -- the same by how far the addresses are above x2
  pub span_held : (r : ℕ) → IsSpanned (span_of w s.pc r) view (reg s.regs r)
  span_held r = cond_both (nat_lt 0 r && nat_lt r 32) (w.span s.pc r) None (λ n. IsSpanned n view (reg s.regs r))
      (λ h. let p = and_parts (nat_lt 0 r) (nat_lt r 32) h in told.spans r (ltb-true 0 r p.0, ltb-true r 32 p.1)) (λ _. tt)

  eleven : IsRegister 11
  eleven = (omega arith, omega arith)

  spanned_keeps : (p : ℕ) → p < 2 ^ 32 → AreApart (stored_span v w s.pc i) (most_stored v s.pc i) (Some (strided p 0 0)) → word_at after.bytes (plus (reg begun 2) p) ≡ word_at s.bytes (plus (reg begun 2) p)
  spanned_keeps p small apart = keeps_by (plus (reg begun 2) p)
      (λ op rs1 rs2 offset e fits.
      let h : AreApart (known_sum (span_of w s.pc rs1) (unsigned offset)) (store_width op) (Some (strided p 0 0)) = subst (λ j. AreApart (stored_span v w s.pc j) (most_stored v s.pc j) (Some (strided p 0 0))) e apart in
      apart_out (moved_by (reg s.regs rs1) offset) (store_width op) (plus (reg begun 2) p) (plus_small (reg s.regs rs1) (unsigned offset)) (plus_small (reg begun 2) p) fits
      (span_apart (known_sum (span_of w s.pc rs1) (unsigned offset)) view (moved_by (reg s.regs rs1) offset) (store_width op) p (plus_small (reg s.regs rs1) (unsigned offset)) small
      (span_sum (span_of w s.pc rs1) view (reg s.regs rs1) (unsigned offset) (span_held rs1)) h))
      (λ e read m few asked fits.
      let n : ℕ = min 256 (top_of (held (v.at s.pc) 12)) in
      cond_both (is_some (v.at s.pc 11)) (w.span s.pc 11) None (λ k. AreApart k n (Some (strided p 0 0)) → AreOut (reg s.regs 11) m (plus (reg begun 2) p) 4)
      (λ some h.
      let low : reg s.regs 11 < 2 ^ 32 = held_small (v.at s.pc 11) (reg s.regs 11) some (told.registers.each 11 eleven) in
      apart_out (reg s.regs 11) m (plus (reg begun 2) p) low (plus_small (reg begun 2) p) fits
      (less_apart (reg s.regs 11) n m (plus (reg begun 2) p) (count_top m few asked) (span_apart (w.span s.pc 11) view (reg s.regs 11) n p low small (told.spans 11 eleven) h)))
      (λ _ h. absurd h) (subst (λ j. AreApart (stored_span v w s.pc j) (most_stored v s.pc j) (Some (strided p 0 0))) e apart))

  spanned_below : (q : ℕ) → q < 2 ^ 32 → reg begun 2 ≤ q → AreBelow (w.begins (v.function s.pc)) (stored_span v w s.pc i) (most_stored v s.pc i) → word_at after.bytes q ≡ word_at s.bytes q
  spanned_below q small above below = keeps_by q
      (λ op rs1 rs2 offset e fits.
      let h : AreBelow (w.begins (v.function s.pc)) (known_sum (span_of w s.pc rs1) (unsigned offset)) (store_width op) = subst (λ j. AreBelow (w.begins (v.function s.pc)) (stored_span v w s.pc j) (most_stored v s.pc j)) e below in
      inl (under (moved_by (reg s.regs rs1) offset) (store_width op) (store_width op) (reg begun 2) q
      (span_below (w.begins (v.function s.pc)) (known_sum (span_of w s.pc rs1) (unsigned offset)) view (moved_by (reg s.regs rs1) offset) (store_width op) (plus_small (reg s.regs rs1) (unsigned offset)) told.begins
      (span_sum (span_of w s.pc rs1) view (reg s.regs rs1) (unsigned offset) (span_held rs1)) h) (omega arith) above))
      (λ e read m few asked fits.
      let n : ℕ = min 256 (top_of (held (v.at s.pc) 12)) in
      cond_both (is_some (v.at s.pc 11)) (w.span s.pc 11) None (λ k. AreBelow (w.begins (v.function s.pc)) k n → AreOut (reg s.regs 11) m q 4)
      (λ some h.
      let low : reg s.regs 11 < 2 ^ 32 = held_small (v.at s.pc 11) (reg s.regs 11) some (told.registers.each 11 eleven) in
      inl (under (reg s.regs 11) n m (reg begun 2) q (span_below (w.begins (v.function s.pc)) (w.span s.pc 11) view (reg s.regs 11) n low told.begins (told.spans 11 eleven) h) (count_top m few asked) above))
      (λ _ h. absurd (nowhere (w.begins (v.function s.pc)) n h)) (subst (λ j. AreBelow (w.begins (v.function s.pc)) (stored_span v w s.pc j) (most_stored v s.pc j)) e below))
    where
      under : (at width few e q : ℕ) → at + width ≤ e → few ≤ width → e ≤ q → at + few ≤ q
      under at width few e q a b c = omega arith

      nowhere : (b : Option Arc) (n : ℕ) → AreBelow b None n → ⊥
      nowhere None n h = h
      nowhere (Some b) n h = h

  pub misses : (w.doubtful s.pc ≡ true → AreKept w s.bytes after.bytes (record { function = v.function s.pc; stack = reg begun 2 })) → (k : ℕ) → IsMissed v w s.pc i k → word_at after.bytes (word_address w begun k) ≡ word_at s.bytes (word_address w begun k)
  misses tidy k m = ⊎_elim
      (λ (far : IsFar v s.pc i (sum_with (w.begins (v.function s.pc)) (w.offset k))). far_keeps (sum_with (w.begins (v.function s.pc)) (w.offset k)) (word_address w begun k) (plus_small (reg begun 2) (w.offset k)) (sum_with_in (w.begins (v.function s.pc)) (w.offset k) (reg begun 2) told.begins) far)
      (λ (rest : ((o : ℕ) × (stored_at w s.pc i ≡ Some o) × IsApart o (width_stored i) (w.offset k)) ⊎ AreApart (stored_span v w s.pc i) (most_stored v s.pc i) (Some (strided (w.offset k) 0 0)) ⊎ ((w.doubtful s.pc ≡ true) × (w.kept (v.function s.pc) k ≡ true))). ⊎_elim
      (λ (near : (o : ℕ) × (stored_at w s.pc i ≡ Some o) × IsApart o (width_stored i) (w.offset k)). near_keeps near.0 (w.offset k) (offsets k) near.1 near.2)
      (λ (last : AreApart (stored_span v w s.pc i) (most_stored v s.pc i) (Some (strided (w.offset k) 0 0)) ⊎ ((w.doubtful s.pc ≡ true) × (w.kept (v.function s.pc) k ≡ true))). ⊎_elim
      (λ (apart : AreApart (stored_span v w s.pc i) (most_stored v s.pc i) (Some (strided (w.offset k) 0 0))). spanned_keeps (w.offset k) (offsets k) apart)
      (λ (doubt : (w.doubtful s.pc ≡ true) × (w.kept (v.function s.pc) k ≡ true)). tidy doubt.0 k doubt.1) last) rest) m

  pub spares : (k q : ℕ) → IsSparing v w s.pc i k → IsHeld (w.place k) q → q < 2 ^ 32 → reg begun 2 ≤ q → (w.doubtful s.pc ≡ true → word_at after.bytes q ≡ word_at s.bytes q) → word_at after.bytes q ≡ word_at s.bytes q
  spares k q m place small above tidy = ⊎_elim
      (λ (far : IsFar v s.pc i (w.place k)). far_keeps (w.place k) q small place far)
      (λ (rest : ((o : ℕ) × (stored_at w s.pc i ≡ Some o) × IsBelow (w.begins (v.function s.pc)) o (width_stored i)) ⊎ AreBelow (w.begins (v.function s.pc)) (stored_span v w s.pc i) (most_stored v s.pc i) ⊎ (w.doubtful s.pc ≡ true)). ⊎_elim
      (λ (below : (o : ℕ) × (stored_at w s.pc i ≡ Some o) × IsBelow (w.begins (v.function s.pc)) o (width_stored i)). below_keeps below.0 q small above below.1 below.2)
      (λ (last : AreBelow (w.begins (v.function s.pc)) (stored_span v w s.pc i) (most_stored v s.pc i) ⊎ (w.doubtful s.pc ≡ true)). ⊎_elim
      (λ (below : AreBelow (w.begins (v.function s.pc)) (stored_span v w s.pc i) (most_stored v s.pc i)). spanned_below q small above below) tidy last) rest) m

  module _ (x : Stepped) (went : (step env s).end ≡ Went x) where
    stored_as : (k r : ℕ) (j : Instr) → i ≡ j → word_stored j ≡ Some r → stored_at w s.pc j ≡ Some (w.offset k) → (performs env s i j).end ≡ Went x → word_at (performs env s i j).state.bytes (word_address w begun k) ≡ reg s.regs r % 2 ^ 32
    stored_as k r (Store Sw rs1 rs2 offset) same e h end =
        let q : rs2 ≡ r = cc in
        let at : moved_by (reg s.regs rs1) offset ≡ word_address w begun k = offset_is (name_of w s.pc rs1) view (reg s.regs rs1) (unsigned offset) (w.offset k) (name_held rs1) h in
        subst (λ a. word_at (performs env s i (Store Sw rs1 rs2 offset)).state.bytes a ≡ reg s.regs r % 2 ^ 32) at
        (stores_put env keyless s i (moved_by (reg s.regs rs1) offset) (reg s.regs rs2) x end ∙ ap (λ n. reg s.regs n % 2 ^ 32) q)
    stored_as k r (Store Sb rs1 rs2 offset) same e h end = let bad : ⊥ = cc in absurd bad
    stored_as k r (Store Sh rs1 rs2 offset) same e h end = let bad : ⊥ = cc in absurd bad
    stored_as k r (Lui rd imm) same e h end = let bad : ⊥ = cc in absurd bad
    stored_as k r (Auipc rd imm) same e h end = let bad : ⊥ = cc in absurd bad
    stored_as k r (Jal rd offset) same e h end = let bad : ⊥ = cc in absurd bad
    stored_as k r (Jalr rd rs1 offset) same e h end = let bad : ⊥ = cc in absurd bad
    stored_as k r (Branch op rs1 rs2 offset) same e h end = let bad : ⊥ = cc in absurd bad
    stored_as k r (Load op rd rs1 offset) same e h end = let bad : ⊥ = cc in absurd bad
    stored_as k r (Imm op rd rs1 imm) same e h end = let bad : ⊥ = cc in absurd bad
    stored_as k r (Reg op rd rs1 rs2) same e h end = let bad : ⊥ = cc in absurd bad
    stored_as k r (Fence rd rs1 imm) same e h end = let bad : ⊥ = cc in absurd bad
    stored_as k r Ecall same e h end = let bad : ⊥ = cc in absurd bad
    stored_as k r Ebreak same e h end = let bad : ⊥ = cc in absurd bad

    pub puts : (k r : ℕ) → IsStoredFrom w s.pc i k r → word_at after.bytes (word_address w begun k) ≡ reg s.regs r % 2 ^ 32
    puts k r h = step_of (λ o. o.end ≡ Went x → word_at o.state.bytes (word_address w begun k) ≡ reg s.regs r % 2 ^ 32) env s i here
        (λ end. stored_as k r i refl h.0 h.1 end) (λ end. let bad : ⊥ = cc in absurd bad) went

    loaded_as : (k r : ℕ) → IsRegister r → (j : Instr) → word_loaded j ≡ Some r → loaded_at w s.pc j ≡ Some (w.offset k) → (performs env s i j).end ≡ Went x → reg (performs env s i j).state.regs r ≡ word_at s.bytes (word_address w begun k)
    loaded_as k r is (Load Lw rd rs1 offset) e h end =
        let q : rd ≡ r = cc in
        let at : moved_by (reg s.regs rs1) offset ≡ word_address w begun k = offset_is (name_of w s.pc rs1) view (reg s.regs rs1) (unsigned offset) (w.offset k) (name_held rs1) h in
        subst (λ n. reg (performs env s i (Load Lw rd rs1 offset)).state.regs n ≡ word_at s.bytes (word_address w begun k)) q
        (loads_get env keyless s i rd (moved_by (reg s.regs rs1) offset) x (subst IsRegister (sym q) is) size end ∙ ap (word_at s.bytes) at)
    loaded_as k r is (Load Lb rd rs1 offset) e h end = let bad : ⊥ = cc in absurd bad
    loaded_as k r is (Load Lh rd rs1 offset) e h end = let bad : ⊥ = cc in absurd bad
    loaded_as k r is (Load Lbu rd rs1 offset) e h end = let bad : ⊥ = cc in absurd bad
    loaded_as k r is (Load Lhu rd rs1 offset) e h end = let bad : ⊥ = cc in absurd bad
    loaded_as k r is (Lui rd imm) e h end = let bad : ⊥ = cc in absurd bad
    loaded_as k r is (Auipc rd imm) e h end = let bad : ⊥ = cc in absurd bad
    loaded_as k r is (Jal rd offset) e h end = let bad : ⊥ = cc in absurd bad
    loaded_as k r is (Jalr rd rs1 offset) e h end = let bad : ⊥ = cc in absurd bad
    loaded_as k r is (Branch op rs1 rs2 offset) e h end = let bad : ⊥ = cc in absurd bad
    loaded_as k r is (Store op rs1 rs2 offset) e h end = let bad : ⊥ = cc in absurd bad
    loaded_as k r is (Imm op rd rs1 imm) e h end = let bad : ⊥ = cc in absurd bad
    loaded_as k r is (Reg op rd rs1 rs2) e h end = let bad : ⊥ = cc in absurd bad
    loaded_as k r is (Fence rd rs1 imm) e h end = let bad : ⊥ = cc in absurd bad
    loaded_as k r is Ecall e h end = let bad : ⊥ = cc in absurd bad
    loaded_as k r is Ebreak e h end = let bad : ⊥ = cc in absurd bad

    pub gets : (k r : ℕ) → IsRegister r → IsLoadedTo w s.pc i k r → reg after.regs r ≡ word_at s.bytes (word_address w begun k)
    gets k r is h = step_of (λ o. o.end ≡ Went x → reg o.state.regs r ≡ word_at s.bytes (word_address w begun k)) env s i here
        (λ end. loaded_as k r is i h.0 h.1 end) (λ end. let bad : ⊥ = cc in absurd bad) went

-- a load stores nothing, and a store changes no register
pub load_far : (v : Values) (a : ℕ) (y : Option Arc) (i : Instr) (r : ℕ) → word_loaded i ≡ Some r → IsFar v a i y
load_far v a y (Load Lw rd rs1 offset) r e = tt
load_far v a y (Load Lb rd rs1 offset) r e = tt
load_far v a y (Load Lh rd rs1 offset) r e = tt
load_far v a y (Load Lbu rd rs1 offset) r e = tt
load_far v a y (Load Lhu rd rs1 offset) r e = tt
load_far v a y (Lui rd imm) r e = tt
load_far v a y (Auipc rd imm) r e = tt
load_far v a y (Jal rd offset) r e = tt
load_far v a y (Jalr rd rs1 offset) r e = tt
load_far v a y (Branch op rs1 rs2 offset) r e = tt
load_far v a y (Store op rs1 rs2 offset) r e = let bad : ⊥ = cc in absurd bad
load_far v a y (Imm op rd rs1 imm) r e = tt
load_far v a y (Reg op rd rs1 rs2) r e = tt
load_far v a y (Fence rd rs1 imm) r e = tt
load_far v a y Ecall r e = let bad : ⊥ = cc in absurd bad
load_far v a y Ebreak r e = tt

always : (b : Bool) → (b || true) ≡ true
always true = refl
always false = refl

pub store_keeps : (i : Instr) (r q : ℕ) → word_stored i ≡ Some r → keeps q i ≡ true
store_keeps (Store op rs1 rs2 offset) r q e = always (q == 0)
store_keeps (Lui rd imm) r q e = let bad : ⊥ = cc in absurd bad
store_keeps (Auipc rd imm) r q e = let bad : ⊥ = cc in absurd bad
store_keeps (Jal rd offset) r q e = let bad : ⊥ = cc in absurd bad
store_keeps (Jalr rd rs1 offset) r q e = let bad : ⊥ = cc in absurd bad
store_keeps (Branch op rs1 rs2 offset) r q e = let bad : ⊥ = cc in absurd bad
store_keeps (Load op rd rs1 offset) r q e = let bad : ⊥ = cc in absurd bad
store_keeps (Imm op rd rs1 imm) r q e = let bad : ⊥ = cc in absurd bad
store_keeps (Reg op rd rs1 rs2) r q e = let bad : ⊥ = cc in absurd bad
store_keeps (Fence rd rs1 imm) r q e = let bad : ⊥ = cc in absurd bad
store_keeps Ecall r q e = let bad : ⊥ = cc in absurd bad
store_keeps Ebreak r q e = let bad : ⊥ = cc in absurd bad
