-- A step keeps the bytes that may not be written, and what a load of fixed bytes gives.
use Rattle.std.proofs.Common.{◌≡◌, ℕ, ◌%◌, false, ⊎_elim, List, subst, sym, ◌∙◌, Option, Some}
use Rattle.std.specs.Prelude.{ℤ, ◌==◌, not}
use Rattle.std.proofs.lemmas.Bool.{cond_both, eqb-true, not-false}
use Rattle.scale_base.specs.declared.instruction.LoadOp.{LoadOp}
use Rattle.scale_base.specs.declared.instruction.Instr.{Instr}
use Rattle.scale_base.specs.declared.instruction.Instr.TheVariants.{Load}
use Rattle.scale_base.specs.declared.stepping.Stepped.{Stepped}
use Rattle.scale_base.specs.declared.stepping.StepEnd.TheVariants.{Went}
use Rattle.scale_base.specs.Reading.{instr_of}
use Rattle.scale_base.specs.Layout.{can_read, may_write, uses_window}
use Rattle.scale_base.specs.Arith.{moved_by, unsigned, load_width, loaded}
use Rattle.scale_base.specs.State.{Setting, State, reg, word_at}
use Rattle.scale_base.specs.Step.{Outcome, loads, performs, step}
use Rattle.graph_runs.proofs.Laws.{IsTrap, IsDone, step_done}
use Rattle.bound_laws.specs.Values.{IsHeld, held, Values}
use Rattle.bound_laws.proofs.Laws.{step_of, sum_with_in}
use Rattle.stack_laws.specs.Fixed.{AreFixedIn, AreUnwritten}
use Rattle.stack_laws.specs.Stacks.{Stacks, IsFixedLoaded}

-- ---- steps

-- a step writes no byte that may not be written
pub bytes_kept : (env : Setting) (s : State) (x : Stepped) → (step env s).end ≡ Went x → (a : ℕ) → may_write env.layout a ≡ false → (step env s).state.bytes a ≡ s.bytes a
bytes_kept env s x e a none = ⊎_elim
    (λ (trap : IsTrap (step env s).end). absurd (subst IsTrap e trap))
    (λ (done : (i : Instr) × IsDone env s i (step env s).end (step env s).state). done.1.bytes a none) (step_done env s)

pub fixed_kept : (env : Setting) (s : State) (x : Stepped) → (step env s).end ≡ Went x → (fixed : ℕ → Option ℕ) → AreUnwritten env.layout fixed → AreFixedIn fixed s.bytes → AreFixedIn fixed (step env s).state.bytes
fixed_kept env s x e fixed unwritten are at byte is = bytes_kept env s x e at (unwritten at byte is) ∙ are at byte is

module _ (env : Setting) (s : State) (i : Instr) where
  -- the address of a load that goes on is a multiple of its width
  loads_aligned : (op : LoadOp) (rd at : ℕ) (x : Stepped) → (loads env s i op rd at).end ≡ Went x → at % load_width op ≡ 0
  loads_aligned op rd at x =
      let P : Outcome → Type 0 = λ o. o.end ≡ Went x → at % load_width op ≡ 0 in
      cond_both (not (at % load_width op == 0)) _ _ P (λ _ h. let bad : ⊥ = cc in absurd bad)
      (λ whole. cond_both (uses_window env.layout s.pc at (load_width op)) _ _ P (λ _ h. aligned whole)
      (λ _. cond_both (can_read env.layout s.pc at (load_width op)) _ _ P (λ _ h. aligned whole) (λ _ h. aligned whole)))
    where
      aligned : not (at % load_width op == 0) ≡ false → at % load_width op ≡ 0
      aligned whole = eqb-true (at % load_width op) 0 (not-false (at % load_width op == 0) whole)

  pub reads_aligned : instr_of (word_at s.bytes s.pc) ≡ Some i → (x : Stepped) → (step env s).end ≡ Went x → (op : LoadOp) (r rs1 : ℕ) (offset : ℤ) → i ≡ Load op r rs1 offset → moved_by (reg s.regs rs1) offset % load_width op ≡ 0
  reads_aligned here x went op r rs1 offset e = step_of (λ o. o.end ≡ Went x → moved_by (reg s.regs rs1) offset % load_width op ≡ 0) env s i here
      (λ end. loads_aligned op r (moved_by (reg s.regs rs1) offset) x (subst (λ j. (performs env s i j).end ≡ Went x) e end))
      (λ end. let bad : ⊥ = cc in absurd bad) went

-- ---- registers

-- a register to which fixed bytes are loaded
pub fixed_loaded : (v : Values) (w : Stacks) (i : Instr) (a b r : ℕ) (before after : List ℕ) (bytes : ℕ → ℕ) → ((n : ℕ) → IsHeld (held (v.at a) n) (reg before n)) → AreFixedIn w.fixed bytes →
    ((op : LoadOp) (rs1 : ℕ) (offset : ℤ) → i ≡ Load op r rs1 offset → reg after r ≡ loaded op bytes (moved_by (reg before rs1) offset)) →
    ((op : LoadOp) (rs1 : ℕ) (offset : ℤ) → i ≡ Load op r rs1 offset → moved_by (reg before rs1) offset % load_width op ≡ 0) → IsFixedLoaded v w i a b r → IsHeld (v.at b r) (reg after r)
fixed_loaded v w i a b r before after bytes has fixed reads aligned x =
    let at : ℕ = moved_by (reg before x.rs1) x.offset in
    let place : IsHeld (Some x.place) at = subst (λ o. IsHeld o at) x.place_is (sum_with_in (held (v.at a) x.rs1) (unsigned x.offset) (reg before x.rs1) (has x.rs1)) in
    subst (IsHeld (v.at b r)) (sym (reads x.op x.rs1 x.offset x.loads)) (x.covers at place (aligned x.op x.rs1 x.offset x.loads) bytes fixed)
