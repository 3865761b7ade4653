-- What is known of the registers and of the stack in the calls that a run is in, and that each transition keeps it so.
use Rattle.std.proofs.Common.{◌≡◌, ℕ, ◌+◌, ◌*◌, ◌<◌, ◌≤◌, ◌%◌, ◌^◌, true, ◌⊎◌, inl, ⊎_elim, List, [], ◌∷◌, length, refl, sym, ap, ◌∙◌, subst, arith, Option, Some, None}
use Rattle.std.specs.Prelude.{ℤ}
use Rattle.scale_base.specs.declared.instruction.ImmOp.{ImmOp}
use Rattle.scale_base.specs.declared.instruction.ImmOp.TheVariants.{Addi}
use Rattle.scale_base.specs.declared.instruction.RegOp.TheVariants.{Add}
use Rattle.scale_base.specs.declared.instruction.RegOp.{RegOp}
use Rattle.scale_base.specs.declared.instruction.Instr.{Instr}
use Rattle.scale_base.specs.declared.instruction.LoadOp.{LoadOp}
use Rattle.scale_base.specs.declared.instruction.Instr.TheVariants.{Load, Imm, Reg}
use Rattle.scale_base.specs.Arith.{plus, moved_by, unsigned, load_width, loaded, imm_result, reg_result}
use Rattle.scale_base.specs.State.{reg, word_at}
use Rattle.cost_theory.specs.Graph.{Graph}
use Rattle.code_text.specs.Text.{Text, instr_at}
use Rattle.bound_laws.specs.Registers.{Measure, measured, keeps, effect}
use Rattle.bound_laws.specs.Turning.{Leads, Calls}
use Rattle.bound_laws.specs.Values.{Arc, word, IsIn, IsHeld, Covers, sum_with, opposite_of, held, said, passed, line_of, IsImpossible, keeps_of, keeps_at, IsRegister, Values, Steps, IsLineCovered, AreBytes}
use Rattle.bound_laws.proofs.Laws.{only_one, in_covers, in_word, sum_with_in, held_of, line_in}
use Rattle.stack_laws.specs.Cells.{IsCellHeld}
use Rattle.stack_laws.specs.Fixed.{AreFixedIn}
use Rattle.stack_laws.specs.Tidy.{Activation, IsTidyStep}
use Rattle.stack_laws.specs.Areas.{IsAccessedIn, IsCoveredByAccess, IsSolvedByAccess}
use Rattle.stack_laws.specs.Telling.{IsTelling, IsToldTo}
use Rattle.stack_laws.specs.Digits.{IsDwindling, IsLimitedBy}
use Rattle.stack_laws.specs.Stacks.{IsCellLoaded, IsFixedLoaded, IsExactly, known_sum, known_sums, name_span, span_of, IsSpanned, IsSpannedOver, IsWordSpanned, IsSpanBack, IsWordSpanBack, Name, Stacks, View, view_of, word_address, IsNamed, name_of, more_of, name_arc, word_loaded, IsStoredFrom, IsLoadedTo, IsFar, IsMissed, IsDescending, IsSteady, IsNamedOver, IsWordCovered, IsWordNamed, ArePassed, AreEntered, IsRestored, IsSafe, IsNameSafe, IsRegisterBack, IsSumBack, IsNameBack, IsWordBack, IsWordNameBack, AreBack, IsReturned, IsStackInvariant, AreTold}
use Rattle.stack_laws.specs.Stacks.Name.{of_begin, of_word}
use Rattle.stack_laws.specs.Stacks.IsNamedOver.{unnamed as none_over, kept as kept_over, summed as summed_over, added as added_over, added_to as added_to_over, loaded as loaded_over, loaded_as as loaded_as_over, stored as stored_over}
use Rattle.stack_laws.specs.Stacks.IsWordCovered.{any as any_word, kept as kept_word, stored as stored_word, tied as tied_word, accessed as accessed_word_over}
use Rattle.stack_laws.specs.Stacks.IsWordNamed.{unnamed as none_word, kept as kept_name, stored as stored_name}
use Rattle.stack_laws.specs.Stacks.IsSpannedOver.{unspanned as none_span, kept as kept_span, by_name as named_span, summed as summed_span, added as added_span, added_to as added_to_span, loaded as loaded_span, by_interval as interval_span}
use Rattle.stack_laws.specs.Stacks.IsWordSpanned.{unspanned as none_word_span, kept as kept_word_span, by_name as named_word_span, stored as stored_word_span}
use Rattle.stack_laws.specs.Stacks.IsSpanBack.{by_name as span_by_name, restored as restored_span}
use Rattle.stack_laws.specs.Stacks.IsWordSpanBack.{by_name as word_span_by_name, kept as kept_span_back}
use Rattle.stack_laws.specs.Stacks.IsRegisterBack.{restored as restored_register, exits as exit_register, by_name as register_by_name}
use Rattle.stack_laws.specs.Stacks.IsSumBack.{restored as restored_sum, anew as sum_anew}
use Rattle.stack_laws.specs.Stacks.IsNameBack.{unnamed as none_back, restored as restored_name}
use Rattle.stack_laws.specs.Stacks.IsWordBack.{any as any_back, kept as kept_back}
use Rattle.stack_laws.specs.Stacks.IsWordNameBack.{unnamed as none_word_back, kept as kept_name_back}
use Rattle.stack_laws.proofs.Naming.{twice, spanned_covers, spanned_alike, span_sum, span_sums, span_named, plus_small, mod_same, held_small, held_mod, held_same, is_below, above_below, IsSame, named_in, named_alike, named_mod, more_named, begun_named, word_named, tied_in, name_arc_in, measured_alike}
use Rattle.stack_laws.proofs.Covering.{IsSo, register_in, line_covered}
use Rattle.stack_laws.proofs.Making.{line_made, subtracted}
use Rattle.stack_laws.specs.Making.{IsLineMade, IsSubtracted}
use Rattle.stack_laws.proofs.Stepping.{load_far, store_keeps}
use Rattle.stack_laws.proofs.Cells.{cell_loaded}
use Rattle.stack_laws.proofs.Areas.{accessed_register, accessed_word, solved_register, span_by_interval}
use Rattle.stack_laws.proofs.Fixed.{fixed_loaded}
use Rattle.stack_laws.proofs.Telling.{told_behind, told_to}
use Rattle.stack_laws.proofs.Digits.{dwindling_behind, limited_by}

words_small : (x y z u : ℕ) → x < 256 → y < 256 → z < 256 → u < 256 → x + y * 2 ^ 8 + z * 2 ^ 16 + u * 2 ^ 24 < 2 ^ 32
words_small x y z u a b c d = omega arith

pub word_small : (bytes : ℕ → ℕ) (q : ℕ) → AreBytes bytes → word_at bytes q < 2 ^ 32
word_small bytes q b = words_small (bytes q) (bytes (q + 1)) (bytes (q + 2)) (bytes (q + 3)) (b q) (b (q + 1)) (b (q + 2)) (b (q + 3))

turned_round : (a b : ℕ) → (a + b) % 2 ^ 32 ≡ (b + a) % 2 ^ 32
turned_round a b = omega arith

two_is : IsRegister 2
two_is = (omega arith, omega arith)

-- the activations that wait, by the calls that are open and what their functions saw before them
abbrev pub waiting : Values → List ℕ → List View → List Activation
waiting v [] xs = []
waiting v (u ∷ us) [] = []
waiting v (u ∷ us) (x ∷ xs) = record { function = v.function u; stack = reg x.begun 2 } ∷ waiting v us xs

module _ (t : Text) (g : Graph) (v : Values) (w : Stacks) (inv : IsStackInvariant t g v w) where
  -- the call at u is open, before which the function that calls saw this, and the run is at pc in the called function, or where the next
  -- call within it is
  pub record Frame (pc : ℕ) (begun : List ℕ) (bytes : ℕ → ℕ) (u : ℕ) (x : View) : Type 0 where
    pub to : ℕ
    pub call : Calls g u to
    pub function : v.function pc ≡ v.function to
    pub told : AreTold v w u x
    pub left : (r : ℕ) → keeps_at t r u ≡ true → reg begun r ≡ reg x.regs r
    pub stack : reg begun 2 ≡ reg x.regs 2
    pub link : reg begun 1 ≡ plus u 4
    pub spared : (k : ℕ) → w.spared k to ≡ true → w.spared k pc ≡ true
    pub same : (k : ℕ) → IsSafe v w u to k → word_at bytes (word_address w x.begun k) ≡ x.words k

  -- where no call is open, the run is in the function in which it began
  abbrev pub Frames : ℕ → List ℕ → (ℕ → ℕ) → List ℕ → List View → Type 0
  Frames pc begun bytes [] [] = v.function pc ≡ v.function t.entry
  Frames pc begun bytes [] (x ∷ xs) = ⊥
  Frames pc begun bytes (u ∷ us) [] = ⊥
  Frames pc begun bytes (u ∷ us) (x ∷ xs) = Frame pc begun bytes u x × Frames u x.begun bytes us xs

  -- memory changes by an instruction at c, but not in words of the functions that wait, where it is either not doubtful or leaves them
  abbrev pub IsLeft : ℕ → ℕ → List ℕ → (ℕ → ℕ) → (ℕ → ℕ) → Type 0
  IsLeft a c begun before after = (k q : ℕ) → w.spared k a ≡ true → IsHeld (w.place k) q → q < 2 ^ 32 → reg begun 2 ≤ q → (w.doubtful c ≡ true → word_at after q ≡ word_at before q) → word_at after q ≡ word_at before q

  -- x2 is at most what it was when the function began
  descends : (u : ℕ) (x : View) (more : ℕ) → AreTold v w u x → IsDescending v w u more → (reg x.begun 2 < 2 ^ 32) × (opposite_of more ≤ reg x.begun 2) × (reg x.regs 2 ≡ plus (reg x.begun 2) more) × (reg x.regs 2 ≤ reg x.begun 2)
  descends u x more told d =
      let b = is_below (w.begins (v.function u)) (reg x.begun 2) more 0 told.begins d.1 in
      let n : IsNamed (Some (of_begin 2 more)) x (reg x.regs 2) = subst (λ o. IsNamed o x (reg x.regs 2)) d.0 (told.names 2 two_is) in
      let small : reg x.regs 2 < 2 ^ 32 = n.1 b.0 in
      let e : reg x.regs 2 ≡ plus (reg x.begun 2) more = sym (mod_same (reg x.regs 2) small) ∙ n.0 in
      let low : plus (reg x.begun 2) more + 0 ≤ reg x.begun 2 = b.2 in
      (b.0, b.1, e, (let f = e in let r : reg x.regs 2 ≤ reg x.begun 2 = omega arith in r))

  frames_left : (pc c : ℕ) (begun : List ℕ) (before after : ℕ → ℕ) (calls : List ℕ) (xs : List View) → IsLeft pc c begun before after → IsTidyStep w c (waiting v calls xs) before after → Frames pc begun before calls xs → Frames pc begun after calls xs
  frames_left pc c begun before after [] [] left tidy fs = fs
  frames_left pc c begun before after [] (x ∷ xs) left tidy fs = fs
  frames_left pc c begun before after (u ∷ us) [] left tidy fs = fs
  frames_left pc c begun before after (u ∷ us) (x ∷ xs) left tidy fs = (now, frames_left u c x.begun before after us xs outer (λ d. (tidy d).1) fs.1)
    where
      f : Frame pc begun before u x
      f = fs.0

      kept : (k : ℕ) → IsSafe v w u f.to k → word_at after (word_address w x.begun k) ≡ x.words k
      kept k safe =
          let d = descends u x safe.more f.told safe.descending in
          let above : plus (reg x.begun 2) safe.more ≤ word_address w x.begun k = above_below (reg x.begun 2) safe.more (w.offset k) d.0 d.1 safe.above in
          let e : reg begun 2 ≡ plus (reg x.begun 2) safe.more = f.stack ∙ d.2 in
          let place : IsHeld (w.place k) (word_address w x.begun k) = in_covers (sum_with (w.begins (v.function u)) (w.offset k)) (w.place k) (word_address w x.begun k) (sum_with_in (w.begins (v.function u)) (w.offset k) (reg x.begun 2) f.told.begins) safe.place in
          left k (word_address w x.begun k) (f.spared k safe.spared) place (plus_small (reg x.begun 2) (w.offset k)) (subst (λ n. n ≤ word_address w x.begun k) (sym e) above) (λ d. (tidy d).0 k safe.kept) ∙ f.same k safe

      now : Frame pc begun after u x
      now = record { to = f.to; call = f.call; function = f.function; told = f.told; left = f.left; stack = f.stack; link = f.link; spared = f.spared; same = kept }

      outer : IsLeft u c x.begun before after
      outer k q spared place small above =
          let c = inv.spared_calls k u f.to f.call f.told.registers.live spared in
          let d = descends u x c.1 f.told c.2 in
          let e : reg begun 2 ≡ reg x.regs 2 = f.stack in
          let low : reg x.regs 2 ≤ reg x.begun 2 = d.3 in
          left k q (f.spared k c.0) place small (let r : reg begun 2 ≤ q = omega arith in r)

  frames_along : (a b : ℕ) (begun : List ℕ) (bytes : ℕ → ℕ) (calls : List ℕ) (xs : List View) → Leads g a b → Frames a begun bytes calls xs → Frames b begun bytes calls xs
  frames_along a b begun bytes [] [] leads fs = inv.functions a b leads ∙ fs
  frames_along a b begun bytes [] (x ∷ xs) leads fs = fs
  frames_along a b begun bytes (u ∷ us) [] leads fs = fs
  frames_along a b begun bytes (u ∷ us) (x ∷ xs) leads fs =
      let f = fs.0 in (
        record {
          to = f.to;
          call = f.call;
          function = inv.functions a b leads ∙ f.function;
          told = f.told;
          left = f.left;
          stack = f.stack;
          link = f.link;
          spared = λ k h. inv.spared_along k a b leads (f.spared k h);
          same = f.same;
        },
        fs.1,
      )

  module _ (a b : ℕ) (i : Instr) (begun before after : List ℕ) (bytes later : ℕ → ℕ) (here : instr_at t a ≡ Some i)
      (kept : (r : ℕ) → keeps r i ≡ true → reg after r ≡ reg before r)
      (holds : (r : ℕ) → IsRegister r → IsHeld (passed i a b (v.at a) r) (reg after r))
      (adds : (m : Measure) (e : ℕ) → IsRegister m.register → IsRegister m.other → effect m i ≡ Some e → measured m after ≡ (measured m before + e) % 2 ^ 32)
      (so : IsSo before (said i a b)) (possible : IsImpossible (said i a b) (v.at a) → ⊥)
      (zero_before : reg before 0 ≡ 0) (size_before : length before ≡ 32) (zero_after : reg after 0 ≡ 0) (size_after : length after ≡ 32)
      (told : AreTold v w a (view_of w begun before bytes)) (bytes_before : AreBytes bytes) (bytes_after : AreBytes later)
      (misses : (k : ℕ) → IsMissed v w a i k → word_at later (word_address w begun k) ≡ word_at bytes (word_address w begun k))
      (puts : (k r : ℕ) → IsStoredFrom w a i k r → word_at later (word_address w begun k) ≡ reg before r % 2 ^ 32)
      (gets : (k r : ℕ) → IsRegister r → IsLoadedTo w a i k r → reg after r ≡ word_at bytes (word_address w begun k))
      (numbers : (op : ImmOp) (r rs : ℕ) (imm : ℤ) → IsRegister r → i ≡ Imm op r rs imm → reg after r ≡ imm_result op (reg before rs) imm)
      (far : (y : Option Arc) (q : ℕ) → q < 2 ^ 32 → IsHeld y q → IsFar v a i y → word_at later q ≡ word_at bytes q)
      (name_held : (r : ℕ) → IsNamed (name_of w a r) (view_of w begun before bytes) (reg before r))
      (span_held : (r : ℕ) → IsSpanned (span_of w a r) (view_of w begun before bytes) (reg before r))
      (results : (op : RegOp) (r rs1 rs2 : ℕ) → IsRegister r → i ≡ Reg op r rs1 rs2 → reg after r ≡ reg_result op (reg before rs1) (reg before rs2))
      (left : IsLeft a a begun bytes later) (cells : (k : ℕ) → IsCellHeld (w.cell k) later) (fixed : AreFixedIn w.fixed later)
      (reads : (op : LoadOp) (r rs1 : ℕ) (offset : ℤ) → IsRegister r → i ≡ Load op r rs1 offset → reg after r ≡ loaded op bytes (moved_by (reg before rs1) offset))
      (aligned : (op : LoadOp) (r rs1 : ℕ) (offset : ℤ) → i ≡ Load op r rs1 offset → moved_by (reg before rs1) offset % load_width op ≡ 0)
      (accesses : (r more : ℕ) (c : Arc) → IsAccessedIn v w.areas i a r more c → IsIn c (plus (reg before r) more)) where
    abbrev now : View
    now = view_of w begun before bytes

    abbrev then : View
    then = view_of w begun after later

    sums : (r rs : ℕ) (imm : ℤ) → IsRegister r → i ≡ Imm Addi r rs imm → reg after r ≡ plus (reg before rs) (unsigned imm)
    sums = numbers Addi

    small_now : (k : ℕ) → now.words k < 2 ^ 32
    small_now k = word_small bytes (word_address w begun k) bytes_before

    small_then : (k : ℕ) → then.words k < 2 ^ 32
    small_then k = word_small later (word_address w begun k) bytes_after

    steady : (n : Option Name) → IsSteady v w a i n → IsSame n now then
    steady None h = tt
    steady (Some (of_begin r more)) h = refl
    steady (Some (of_word k more)) h = misses k h

    still : (n : Option Name) → ((k : ℕ) → IsMissed v w a i k) → IsSame n now then
    still None h = tt
    still (Some (of_begin r more)) h = refl
    still (Some (of_word k more)) h = misses k (h k)

    load_misses : (r k : ℕ) → word_loaded i ≡ Some r → IsMissed v w a i k
    load_misses r k e = inl (load_far v a (sum_with (w.begins (v.function a)) (w.offset k)) i r e)

    held_before : (r : ℕ) → IsHeld (held (v.at a) r) (reg before r)
    held_before r = held_of (v.at a) before zero_before size_before told.registers.each r

    exact : (r : ℕ) (c : Arc) → IsExactly v a r c → reg before r ≡ c.low
    exact r c x = only_one c (reg before r) (subst (λ k. IsHeld k (reg before r)) x.0 (held_before r)) x.1

    by_total : (r rs n rs1 rs2 : ℕ) → reg after r ≡ plus (reg before rs) n → i ≡ Reg Add r rs1 rs2 → w.name b r ≡ more_of (name_of w a rs) n → IsNamed (w.name b r) then (reg after r)
    by_total r rs n rs1 rs2 sum e q =
        let missed : (k : ℕ) → IsMissed v w a i k = λ k. subst (λ j. IsMissed v w a j k) (sym e) (inl tt) in
        subst (λ m. IsNamed m then (reg after r)) (sym q) (subst (λ value. IsNamed (more_of (name_of w a rs) n) then value) (sym sum)
        (more_named (name_of w a rs) then (reg before rs) n (named_in (name_of w a rs) now then (reg before rs) (still (name_of w a rs) missed) (name_held rs))))

    names_then : (r : ℕ) → IsRegister r → IsNamedOver v w i a b r → IsNamed (w.name b r) then (reg after r)
    names_then r is (none_over e) = subst (λ n. IsNamed n then (reg after r)) (sym e) tt
    names_then r is (kept_over keep e s) = subst (λ n. IsNamed n then (reg after r)) (sym e)
        (subst (λ value. IsNamed (w.name a r) then value) (sym (kept r keep)) (named_in (w.name a r) now then (reg before r) (steady (w.name a r) s) (told.names r is)))
    names_then r is (summed_over rs imm e q) =
        let missed : (k : ℕ) → IsMissed v w a i k = λ k. subst (λ j. IsMissed v w a j k) (sym e) (inl tt) in
        subst (λ n. IsNamed n then (reg after r)) (sym q) (subst (λ value. IsNamed (more_of (name_of w a rs) (unsigned imm)) then value) (sym (sums r rs imm is e))
        (more_named (name_of w a rs) then (reg before rs) (unsigned imm) (named_in (name_of w a rs) now then (reg before rs) (still (name_of w a rs) missed) (name_held rs))))
    names_then r is (added_over rs1 rs2 c e x q) = by_total r rs1 c.low rs1 rs2 (results Add r rs1 rs2 is e ∙ ap (plus (reg before rs1)) (exact rs2 c x)) e q
    names_then r is (added_to_over rs1 rs2 c e x q) = by_total r rs2 c.low rs1 rs2 (results Add r rs1 rs2 is e ∙ (turned_round (reg before rs1) (reg before rs2) ∙ ap (plus (reg before rs2)) (exact rs1 c x))) e q
    names_then r is (loaded_over k l q) =
        let e : reg after r ≡ then.words k = gets k r is l ∙ sym (misses k (load_misses r k l.0)) in
        subst (λ n. IsNamed n then (reg after r)) (sym q) (word_named then k (reg after r) (subst (λ n. n < 2 ^ 32) (sym e) (small_then k)) e)
    names_then r is (loaded_as_over k l q) =
        subst (λ n. IsNamed n then (reg after r)) (sym q) (subst (λ value. IsNamed (w.word_name a k) then value) (sym (gets k r is l))
        (named_in (w.word_name a k) now then (now.words k) (still (w.word_name a k) (λ j. load_misses r j l.0)) (told.word_names k)))
    names_then r is (stored_over k s some q) =
        let e : reg after r ≡ reg before r = kept r (store_keeps i r r s.0) in
        let small : reg before r < 2 ^ 32 = held_small (v.at a r) (reg before r) some (told.registers.each r is) in
        let f : reg after r ≡ then.words k = e ∙ (sym (mod_same (reg before r) small) ∙ sym (puts k r s)) in
        subst (λ n. IsNamed n then (reg after r)) (sym q) (word_named then k (reg after r) (subst (λ n. n < 2 ^ 32) (sym e) small) f)

    words_then : (k : ℕ) → IsWordCovered v w i a b k → IsHeld (w.word b k) (then.words k)
    words_then k (any_word c) = in_covers word (w.word b k) (then.words k) (in_word (then.words k) (small_then k)) c
    words_then k (kept_word m c) = in_covers (w.word a k) (w.word b k) (then.words k) (subst (IsHeld (w.word a k)) (sym (misses k m)) (told.words k)) c
    words_then k (stored_word r s c) = in_covers (held (v.at a) r) (w.word b k) (then.words k) (subst (IsHeld (held (v.at a) r)) (sym (puts k r s)) (held_mod (held (v.at a) r) (reg before r) (held_of (v.at a) before zero_before size_before told.registers.each r))) c
    words_then k (tied_word r more is keep e m c) =
        let n : IsNamed (Some (of_word k more)) now (reg before r) = subst (λ o. IsNamed o now (reg before r)) e (told.names r is) in
        let h : IsHeld (passed i a b (v.at a) r) (reg before r) = subst (IsHeld (passed i a b (v.at a) r)) (kept r keep) (holds r is) in
        in_covers (sum_with (passed i a b (v.at a) r) (opposite_of more)) (w.word b k) (then.words k)
        (subst (IsHeld (sum_with (passed i a b (v.at a) r) (opposite_of more))) (sym (misses k m)) (tied_in (passed i a b (v.at a) r) now k more (reg before r) (small_now k) n h)) c
    words_then k (accessed_word_over r more further place is e m p c) =
        let n : IsNamed (Some (of_word k more)) now (reg before r) = subst (λ o. IsNamed o now (reg before r)) e (told.names r is) in
        in_covers (sum_with (Some place) (opposite_of (plus further more))) (w.word b k) (then.words k)
        (subst (IsHeld (sum_with (Some place) (opposite_of (plus further more)))) (sym (misses k m)) (accessed_word place now k more further (reg before r) (small_now k) n (accesses r further place p))) c

    word_names_then : (k : ℕ) → IsWordNamed v w i a b k → IsNamed (w.word_name b k) then (then.words k)
    word_names_then k (none_word e) = subst (λ n. IsNamed n then (then.words k)) (sym e) tt
    word_names_then k (kept_name e m s) = subst (λ n. IsNamed n then (then.words k)) (sym e)
        (subst (λ value. IsNamed (w.word_name a k) then value) (sym (misses k m)) (named_in (w.word_name a k) now then (now.words k) (steady (w.word_name a k) s) (told.word_names k)))
    word_names_then k (stored_name r s e st) = subst (λ n. IsNamed n then (then.words k)) (sym e)
        (subst (λ value. IsNamed (name_of w a r) then value) (sym (puts k r s)) (named_mod (name_of w a r) now then (reg before r) (steady (name_of w a r) st) (name_held r)))

    spans_then : (r : ℕ) → IsRegister r → IsNamed (w.name b r) then (reg after r) → IsHeld (w.begins (v.function b)) (reg begun 2) → IsHeld (v.at b r) (reg after r) → IsSpannedOver v w i a b r → IsSpanned (w.span b r) then (reg after r)
    spans_then r is named begins value (none_span e) = subst (λ n. IsSpanned n then (reg after r)) (sym e) tt
    spans_then r is named begins value (kept_span keep c) = spanned_covers (w.span b r) (w.span a r) then (reg after r) (spanned_alike (w.span a r) now then (reg before r) (reg after r) refl (ap (λ n. n % 2 ^ 32) (kept r keep)) (told.spans r is)) c
    spans_then r is named begins value (named_span c) = spanned_covers (w.span b r) (name_span (w.name b r)) then (reg after r) (span_named (w.name b r) then (reg after r) named) c
    spans_then r is named begins value (summed_span rs imm e c) = spanned_covers (w.span b r) (known_sum (span_of w a rs) (unsigned imm)) then (reg after r)
        (spanned_alike (known_sum (span_of w a rs) (unsigned imm)) now then (plus (reg before rs) (unsigned imm)) (reg after r) refl (ap (λ n. n % 2 ^ 32) (sums r rs imm is e)) (span_sum (span_of w a rs) now (reg before rs) (unsigned imm) (span_held rs))) c
    spans_then r is named begins value (added_span rs1 rs2 e c) = spanned_covers (w.span b r) (known_sums (span_of w a rs1) (held (v.at a) rs2)) then (reg after r)
        (spanned_alike (known_sums (span_of w a rs1) (held (v.at a) rs2)) now then (plus (reg before rs1) (reg before rs2)) (reg after r) refl (ap (λ n. n % 2 ^ 32) (results Add r rs1 rs2 is e))
        (span_sums (span_of w a rs1) (held (v.at a) rs2) now (reg before rs1) (reg before rs2) (span_held rs1) (held_before rs2))) c
    spans_then r is named begins value (added_to_span rs1 rs2 e c) = spanned_covers (w.span b r) (known_sums (span_of w a rs2) (held (v.at a) rs1)) then (reg after r)
        (spanned_alike (known_sums (span_of w a rs2) (held (v.at a) rs1)) now then (plus (reg before rs2) (reg before rs1)) (reg after r) refl
        (ap (λ n. n % 2 ^ 32) (results Add r rs1 rs2 is e ∙ turned_round (reg before rs1) (reg before rs2)))
        (span_sums (span_of w a rs2) (held (v.at a) rs1) now (reg before rs2) (reg before rs1) (span_held rs2) (held_before rs1))) c
    spans_then r is named begins value (loaded_span k l c) = spanned_covers (w.span b r) (w.word_span a k) then (reg after r)
        (spanned_alike (w.word_span a k) now then (now.words k) (reg after r) refl (ap (λ n. n % 2 ^ 32) (gets k r is l)) (told.word_spans k)) c
    spans_then r is named begins value (interval_span c) = span_by_interval v w b r then (reg after r) begins value c

    word_spans_then : (k : ℕ) → IsNamed (w.word_name b k) then (then.words k) → IsWordSpanned v w i a b k → IsSpanned (w.word_span b k) then (then.words k)
    word_spans_then k named (none_word_span e) = subst (λ n. IsSpanned n then (then.words k)) (sym e) tt
    word_spans_then k named (kept_word_span m c) = spanned_covers (w.word_span b k) (w.word_span a k) then (then.words k) (spanned_alike (w.word_span a k) now then (now.words k) (then.words k) refl (ap (λ n. n % 2 ^ 32) (misses k m)) (told.word_spans k)) c
    word_spans_then k named (named_word_span c) = spanned_covers (w.word_span b k) (name_span (w.word_name b k)) then (then.words k) (span_named (w.word_name b k) then (then.words k) named) c
    word_spans_then k named (stored_word_span r s c) = spanned_covers (w.word_span b k) (span_of w a r) then (then.words k)
        (spanned_alike (span_of w a r) now then (reg before r) (then.words k) refl (ap (λ n. n % 2 ^ 32) (puts k r s) ∙ twice (reg before r)) (span_held r)) c

    line_passed : (j : ℕ) → IsLineCovered v i a b j ⊎ IsLineMade v i a b j → IsHeld (v.lines b j) (measured (v.forms j) after)
    line_passed j c = ⊎_elim
        (λ (x : IsLineCovered v i a b j). line_covered v inv.registers a b i before after kept holds adds so zero_before size_before zero_after size_after told.registers j x)
        (λ (x : IsLineMade v i a b j). line_made v inv.registers a b i before after kept sums results zero_before size_before told.registers j x) c

    passed_then : Leads g a b → ArePassed v w i a b → AreTold v w b then
    passed_then leads p = record {
      registers = record { live = p.live; each = each; lines = λ j. line_passed j (p.lines j) };
      names = names;
      words = words;
      word_names = λ k. word_names_then k (p.word_names k);
      spans = λ r is. spans_then r is (names r is) begins (each r is) (p.spans r is);
      word_spans = λ k. word_spans_then k (word_names_then k (p.word_names k)) (p.word_spans k);
      begins = begins;
      cells = cells;
      fixed = fixed;
      told = λ j. told_behind v (w.told a) a b i before after kept holds numbers results zero_before size_before zero_after size_after told.registers.each told.told (w.told b j) (p.told j);
      dwindling = λ j. dwindling_behind v (w.dwindling a) a b i before after kept holds numbers results zero_before size_before zero_after size_after told.registers.each told.dwindling (w.dwindling b j) (p.dwindling j);
    }
      where
        names : (r : ℕ) → IsRegister r → IsNamed (w.name b r) then (reg after r)
        names r is = names_then r is (p.names r is)

        words : (k : ℕ) → IsHeld (w.word b k) (then.words k)
        words k = words_then k (p.words k)

        begins : IsHeld (w.begins (v.function b)) (reg begun 2)
        begins = subst (λ f. IsHeld (w.begins f) (reg begun 2)) (sym (inv.functions a b leads)) told.begins

        each : (r : ℕ) → IsRegister r → IsHeld (v.at b r) (reg after r)
        each r is = ⊎_elim (register_in v inv.registers a b i before after kept holds adds so zero_before size_before zero_after size_after told.registers r is)
            (λ (x : Covers (v.at b r) (name_arc v w b (w.name b r)) ⊎ IsSubtracted v i a b r ⊎ IsCellLoaded v w i a b r ⊎ IsToldTo v (w.told a) i a b r ⊎ IsCoveredByAccess v w.areas i a b r ⊎ IsLimitedBy v (w.dwindling a) i a b r ⊎ IsSolvedByAccess v w.areas i a b r ⊎ IsFixedLoaded v w i a b r). ⊎_elim
            (λ (c : Covers (v.at b r) (name_arc v w b (w.name b r))). in_covers (name_arc v w b (w.name b r)) (v.at b r) (reg after r) (name_arc_in v w b (w.name b r) then (reg after r) begins words small_then (names r is)) c)
            (λ (y : IsSubtracted v i a b r ⊎ IsCellLoaded v w i a b r ⊎ IsToldTo v (w.told a) i a b r ⊎ IsCoveredByAccess v w.areas i a b r ⊎ IsLimitedBy v (w.dwindling a) i a b r ⊎ IsSolvedByAccess v w.areas i a b r ⊎ IsFixedLoaded v w i a b r). ⊎_elim
            (λ (c : IsSubtracted v i a b r). subtracted v inv.registers a b i before after kept sums results zero_before size_before told.registers r is c)
            (λ (z : IsCellLoaded v w i a b r ⊎ IsToldTo v (w.told a) i a b r ⊎ IsCoveredByAccess v w.areas i a b r ⊎ IsLimitedBy v (w.dwindling a) i a b r ⊎ IsSolvedByAccess v w.areas i a b r ⊎ IsFixedLoaded v w i a b r). ⊎_elim
            (λ (c : IsCellLoaded v w i a b r). cell_loaded v w i a b r before after bytes held_before told.cells (λ op rs1 offset. reads op r rs1 offset is) c)
            (λ (u : IsToldTo v (w.told a) i a b r ⊎ IsCoveredByAccess v w.areas i a b r ⊎ IsLimitedBy v (w.dwindling a) i a b r ⊎ IsSolvedByAccess v w.areas i a b r ⊎ IsFixedLoaded v w i a b r). ⊎_elim
            (λ (c : IsToldTo v (w.told a) i a b r). told_to v (w.told a) a b i before after kept holds numbers results zero_before size_before zero_after size_after told.registers.each told.told r is c)
            (λ (q : IsCoveredByAccess v w.areas i a b r ⊎ IsLimitedBy v (w.dwindling a) i a b r ⊎ IsSolvedByAccess v w.areas i a b r ⊎ IsFixedLoaded v w i a b r). ⊎_elim
            (λ (c : IsCoveredByAccess v w.areas i a b r). accessed_register v w.areas i a b r before after (kept r) (held_before r) (accesses r) c)
            (λ (o : IsLimitedBy v (w.dwindling a) i a b r ⊎ IsSolvedByAccess v w.areas i a b r ⊎ IsFixedLoaded v w i a b r). ⊎_elim
            (λ (c : IsLimitedBy v (w.dwindling a) i a b r). limited_by v (w.dwindling a) a b i before after kept holds numbers results zero_before size_before zero_after size_after told.registers.each told.dwindling r is c)
            (λ (f : IsSolvedByAccess v w.areas i a b r ⊎ IsFixedLoaded v w i a b r). ⊎_elim
            (λ (c : IsSolvedByAccess v w.areas i a b r). solved_register v w.areas i a b r before after (kept r) (holds r is) held_before told.registers.lines accesses c)
            (λ (c : IsFixedLoaded v w i a b r). fixed_loaded v w i a b r before after bytes held_before told.fixed (λ op rs1 offset. reads op r rs1 offset is) (λ op rs1 offset. aligned op r rs1 offset) c) f) o) q) u) z) y) x) (p.registers r is)

    -- over an edge
    pub step_frames : (calls : List ℕ) (xs : List View) → IsTidyStep w a (waiting v calls xs) bytes later → Leads g a b → Steps g a b → Frames a begun bytes calls xs → AreTold v w b then × Frames b begun later calls xs
    step_frames calls xs tidy leads steps fs = (
      ⊎_elim (λ (none : IsImpossible (said i a b) (v.at a)). absurd (possible none)) (passed_then leads) (inv.steps a b i steps told.registers.live here),
      frames_along a b begun later calls xs leads (frames_left a a begun bytes later calls xs left tidy fs),
    )

    -- into a call
    pub call_frames : (calls : List ℕ) (xs : List View) → IsTidyStep w a (waiting v calls xs) bytes later → reg after 1 ≡ plus a 4 → Calls g a b → Frames a begun bytes calls xs → AreTold v w b (view_of w after after later) × Frames b after later (a ∷ calls) (now ∷ xs)
    call_frames calls xs tidy link call fs = (
      record {
        registers = record {
          live = e.live;
          each = λ r is. register_in v inv.registers a b i before after kept holds adds so zero_before size_before zero_after size_after told.registers r is (e.registers r is);
          lines = λ j. line_passed j (e.lines j);
        };
        names = fresh_names;
        words = λ k. subst (λ o. IsHeld o (fresh.words k)) (sym (e.beginning.words k)) tt;
        word_names = λ k. subst (λ n. IsNamed n fresh (fresh.words k)) (sym (e.beginning.word_names k)) tt;
        spans = λ r is. spanned_covers (w.span b r) (name_span (w.name b r)) fresh (reg after r) (span_named (w.name b r) fresh (reg after r) (fresh_names r is)) (e.beginning.spans r is);
        word_spans = λ k. subst (λ n. IsSpanned n fresh (fresh.words k)) (sym (e.beginning.word_spans k)) tt;
        begins = in_covers (v.at a 2) (w.begins (v.function b)) (reg after 2) (subst (IsHeld (v.at a 2)) (sym (kept 2 e.stack)) (told.registers.each 2 two_is)) e.begins;
        cells = cells;
        fixed = fixed;
        told = λ j. subst (λ o. IsTelling o after) (sym (e.beginning.told j)) tt;
        dwindling = λ j. subst (λ o. IsDwindling o after) (sym (e.beginning.dwindling j)) tt;
      },
      (
        record {
          to = b;
          call = call;
          function = refl;
          told = told;
          left = λ r h. kept r (subst (λ o. keeps_of r o ≡ true) here h);
          stack = kept 2 e.stack;
          link = link;
          spared = λ k h. h;
          same = λ k safe. far None (word_address w begun k) (plus_small (reg begun 2) (w.offset k)) tt e.quiet;
        },
        frames_left a a begun bytes later calls xs left tidy fs,
      ),
    )
      where
        e : AreEntered v w i a b
        e = inv.calls a b i call told.registers.live here

        fresh : View
        fresh = view_of w after after later

        fresh_names : (r : ℕ) → IsRegister r → IsNamed (w.name b r) fresh (reg after r)
        fresh_names r is = ⊎_elim (λ (q : w.name b r ≡ None). subst (λ n. IsNamed n fresh (reg after r)) (sym q) tt)
            (λ (q : w.name b r ≡ Some (of_begin r 0)). subst (λ n. IsNamed n fresh (reg after r)) (sym q) (begun_named fresh r refl)) (e.beginning.names r is)

  -- the same modulo 2^32
  abbrev pub AreAlike : List ℕ → List ℕ → ℕ → Type 0
  AreAlike before after r = reg after r % 2 ^ 32 ≡ reg before r % 2 ^ 32

  -- back from a call at u, by a return at a
  module _ (a b u e : ℕ) (begun before after : List ℕ) (bytes later : ℕ → ℕ) (kept : (r : ℕ) → keeps_at t r a ≡ true → reg after r ≡ reg before r) (zero_after : reg after 0 ≡ 0) (size_after : length after ≡ 32)
      (bytes_after : AreBytes later) (lt : e < g.edges) (from : g.source e ≡ a) (returns : g.returns e ≡ true) (leads : Leads g u b) (calls : List ℕ) (x : View) (xs : List View)
      (told : AreTold v w a (view_of w begun before bytes)) (left : IsLeft a a begun bytes later) (tidy : IsTidyStep w a (waiting v (u ∷ calls) (x ∷ xs)) bytes later) (cells : (k : ℕ) → IsCellHeld (w.cell k) later) (fixed : AreFixedIn w.fixed later) (fs : Frames a begun bytes (u ∷ calls) (x ∷ xs)) where
    at_return : (r : ℕ) → IsRegister r → IsReturned t v w a r
    at_return r is = subst (λ n. IsReturned t v w n r) from (inv.returns e r lt returns (ap v.live from ∙ told.registers.live) is)

    over : Frame a begun later u x × Frames u x.begun later calls xs
    over = frames_left a a begun bytes later (u ∷ calls) (x ∷ xs) left tidy fs

    pub frame : Frame a begun later u x
    frame = over.0

    abbrev here : View
    here = view_of w x.begun after later

    back : AreBack t v w u frame.to b
    back = inv.back u frame.to b frame.call leads frame.told.registers.live

    -- a register that is restored has what it had before the call
    pub alike : (r : ℕ) → IsRegister r → IsRestored t v w u frame.to r → AreAlike x.regs after r × (reg x.regs r < 2 ^ 32 → reg after r < 2 ^ 32)
    alike r is res =
        let name : w.name a r ≡ Some (of_begin r 0) = (at_return r is).restores (subst (λ f. w.restored f r ≡ true) (sym frame.function) res.0) in
        let n : IsNamed (Some (of_begin r 0)) (view_of w begun before bytes) (reg before r) = subst (λ o. IsNamed o (view_of w begun before bytes) (reg before r)) name (told.names r is) in
        let same : reg after r ≡ reg before r = kept r (at_return r is).keeps in
        let was : reg begun r ≡ reg x.regs r = frame.left r res.1 in (
          ap (λ q. q % 2 ^ 32) same ∙ (n.0 ∙ ap (λ q. plus q 0) was) ∙ (let z : plus (reg x.regs r) 0 ≡ reg x.regs r % 2 ^ 32 = omega arith in z),
          λ low. subst (λ q. q < 2 ^ 32) (sym same) (n.1 (subst (λ q. q < 2 ^ 32) (sym was) low)),
        )

    restored_is : (r : ℕ) → IsRegister r → IsRestored t v w u frame.to r → reg x.regs r < 2 ^ 32 → reg after r ≡ reg x.regs r
    restored_is r is res low = let p = alike r is res in sym (mod_same (reg after r) (p.1 low)) ∙ (p.0 ∙ mod_same (reg x.regs r) low)

    -- and a word that is kept
    pub safe_is : (k : ℕ) → IsSafe v w u frame.to k → here.words k ≡ x.words k
    safe_is k safe = frame.same k safe

    safe : (n : Option Name) → IsNameSafe v w u frame.to n → IsSame n x here
    safe None h = tt
    safe (Some (of_begin r more)) h = refl
    safe (Some (of_word k more)) h = safe_is k h

    small_here : (k : ℕ) → here.words k < 2 ^ 32
    small_here k = word_small later (word_address w x.begun k) bytes_after

    begins : IsHeld (w.begins (v.function b)) (reg x.begun 2)
    begins = subst (λ f. IsHeld (w.begins f) (reg x.begun 2)) (sym (inv.functions u b leads)) frame.told.begins

    name_back : (r : ℕ) → IsRegister r → IsNameBack t v w u frame.to b r → IsNamed (w.name b r) here (reg after r)
    name_back r is (none_back q) = subst (λ n. IsNamed n here (reg after r)) (sym q) tt
    name_back r is (restored_name res q s) =
        let p = alike r is res in
        subst (λ n. IsNamed n here (reg after r)) (sym q) (named_alike (w.name u r) x here (reg x.regs r) (reg after r) (safe (w.name u r) s) p.0 p.1 (frame.told.names r is))

    names : (r : ℕ) → IsRegister r → IsNamed (w.name b r) here (reg after r)
    names r is = name_back r is (back.names r is)

    word_back : (k : ℕ) → IsWordBack v w u frame.to b k → IsHeld (w.word b k) (here.words k)
    word_back k (any_back c) = in_covers word (w.word b k) (here.words k) (in_word (here.words k) (small_here k)) c
    word_back k (kept_back s c) = in_covers (w.word u k) (w.word b k) (here.words k) (subst (IsHeld (w.word u k)) (sym (safe_is k s)) (frame.told.words k)) c

    words : (k : ℕ) → IsHeld (w.word b k) (here.words k)
    words k = word_back k (back.words k)

    word_name_back : (k : ℕ) → IsWordNameBack v w u frame.to b k → IsNamed (w.word_name b k) here (here.words k)
    word_name_back k (none_word_back q) = subst (λ n. IsNamed n here (here.words k)) (sym q) tt
    word_name_back k (kept_name_back s q n) =
        subst (λ o. IsNamed o here (here.words k)) (sym q) (subst (λ value. IsNamed (w.word_name u k) here value) (sym (safe_is k s)) (named_in (w.word_name u k) x here (x.words k) (safe (w.word_name u k) n) (frame.told.word_names k)))

    register_back : (r : ℕ) → IsRegister r → IsRegisterBack t v w u frame.to b r → IsHeld (v.at b r) (reg after r)
    register_back r is (restored_register res c) = held_same (v.at b r) (v.at u r) (reg x.regs r) (reg after r) (restored_is r is res) (frame.told.registers.each r is) c
    register_back r is (exit_register c) =
        let at_exit : IsHeld (v.exit (v.function a) r) (reg after r) = in_covers (v.at a r) (v.exit (v.function a) r) (reg after r) (subst (IsHeld (v.at a r)) (sym (kept r (at_return r is).keeps)) (told.registers.each r is)) (at_return r is).exits in
        in_covers (v.exit (v.function frame.to) r) (v.at b r) (reg after r) (subst (λ f. IsHeld (v.exit f r) (reg after r)) frame.function at_exit) c
    register_back r is (register_by_name c) = in_covers (name_arc v w b (w.name b r)) (v.at b r) (reg after r) (name_arc_in v w b (w.name b r) here (reg after r) begins words small_here (names r is)) c

    each : (r : ℕ) → IsRegister r → IsHeld (v.at b r) (reg after r)
    each r is = register_back r is (back.registers r is)

    sum_back : (j : ℕ) → IsSumBack t v w u frame.to b j → IsHeld (v.lines b j) (measured (v.forms j) after)
    sum_back j (restored_sum p q c) =
        let rs = inv.registers j in
        in_covers (v.lines u j) (v.lines b j) (measured (v.forms j) after) (subst (IsHeld (v.lines u j)) (sym (measured_alike (v.forms j) x.regs after (alike (v.forms j).register rs.0 p).0 (alike (v.forms j).other rs.1 q).0)) (frame.told.registers.lines j)) c
    sum_back j (sum_anew c) = in_covers (line_of (v.forms j) (v.at b)) (v.lines b j) (measured (v.forms j) after) (line_in (v.forms j) (v.at b) after (held_of (v.at b) after zero_after size_after each)) c

    span_back : (r : ℕ) → IsRegister r → IsSpanBack t v w u frame.to b r → IsSpanned (w.span b r) here (reg after r)
    span_back r is (span_by_name c) = spanned_covers (w.span b r) (name_span (w.name b r)) here (reg after r) (span_named (w.name b r) here (reg after r) (names r is)) c
    span_back r is (restored_span res c) = spanned_covers (w.span b r) (w.span u r) here (reg after r) (spanned_alike (w.span u r) x here (reg x.regs r) (reg after r) refl (alike r is res).0 (frame.told.spans r is)) c

    word_span_back : (k : ℕ) → IsWordSpanBack v w u frame.to b k → IsSpanned (w.word_span b k) here (here.words k)
    word_span_back k (word_span_by_name c) = spanned_covers (w.word_span b k) (name_span (w.word_name b k)) here (here.words k) (span_named (w.word_name b k) here (here.words k) (word_name_back k (back.word_names k))) c
    word_span_back k (kept_span_back s c) = spanned_covers (w.word_span b k) (w.word_span u k) here (here.words k) (spanned_alike (w.word_span u k) x here (x.words k) (here.words k) refl (ap (λ n. n % 2 ^ 32) (safe_is k s)) (frame.told.word_spans k)) c

    pub return_frames : AreTold v w b here × Frames b x.begun later calls xs
    return_frames = (
      record {
        registers = record { live = back.live; each = each; lines = λ j. sum_back j (back.lines j) };
        names = names;
        words = words;
        word_names = λ k. word_name_back k (back.word_names k);
        spans = λ r is. span_back r is (back.spans r is);
        word_spans = λ k. word_span_back k (back.word_spans k);
        begins = begins;
        cells = cells;
        fixed = fixed;
        told = λ j. subst (λ o. IsTelling o after) (sym (back.told j)) tt;
        dwindling = λ j. subst (λ o. IsDwindling o after) (sym (back.dwindling j)) tt;
      },
      frames_along u b x.begun later calls xs leads over.1,
    )
