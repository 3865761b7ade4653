-- A held image is safe: its runs are those of the original image, and those that are kept end in time.
use Rattle.std.proofs.Common.{◌≡◌, ℕ, ◌≤◌, Bool, true, false, cond, List, [], length, Option, Some, None, Result, Ok, Err, refl, sym, ap, subst, ◌∙◌, arith, inl, inr}
use Rattle.std.specs.Prelude.{nat_lt, IfOk, Vec}
use Rattle.std.specs.declared.alloc.Global.{Global}
use Rattle.scale_base.specs.declared.refusal.Refusal.TheVariants.{TooLong}
use Rattle.scale_base.specs.declared.refusal.Stop.{Stop}
use Rattle.scale_base.specs.declared.summary.Summary.{Summary}
use Rattle.scale_base.specs.declared.stepping.Class.{Class}
use Rattle.scale_base.specs.declared.stepping.Class.TheVariants as class
use Rattle.scale_base.specs.Answer.{AnswersBy}
use Rattle.scale_base.specs.Image.{Image, image_of, contents}
use Rattle.power_model.specs.Numbers.{PowerModel, CostsArePositive}
use Rattle.power_model.specs.Price.{cycles_of}
use Rattle.power_model.specs.Slowest.{slowest_of, is_in_time}
use Rattle.power_model.specs.declared.power.Costs.{Costs}
use Rattle.machine_file.specs.Machine.{read_machine}
use Rattle.machine_file.proofs.Laws.{model-from_bytes}
use Rattle.elf_patch.specs.Stored.{stored_image, held_base}
use Rattle.stored_laws.proofs.Laws.{a_held_image}
use Rattle.loop_forest.specs.Tree.{loops as tree_loops}
use Rattle.code_text.specs.Text.{text_of}
use Rattle.graph_runs.specs.KeptSteps.{Carried}
use Rattle.graph_runs.specs.KeptRuns.{kept_of, IsKeptUpTo}
use Rattle.graph_runs.proofs.Laws.{image_runs_are_below, image_runs_end}
use Rattle.loop_file.specs.declared.notes.LoopNote.{LoopNote}
use Rattle.loop_file.specs.Loops.{read_loops}
use Rattle.loop_file.specs.Kept.{noted_loops}
use Rattle.scaler.specs.Held.{IsHeld, IsProgramHeld, IsHeldProgram, held_at, held_from, held_file, held_summary}
use Rattle.scaler.specs.Runs.{IsHeldSafely, KeptAsPrinted, KeptRunsEndAsPrinted}
use Rattle.program_sources.specs.Sources.{sources_of}
use Rattle.program_sources.proofs.Laws.{no_key, sources_parts, then_ok}
use Rattle.marked_images.proofs.Laws.{file_is, found_below}
use Rattle.scaler.proofs.HeldRuns.{runs_alike, printed}
use Rattle.rewritten_runs.proofs.Laws.{kept_by_tree, program_of}

-- ---- what `hold` went through

pub record WentThrough (image machine loops : List ℕ) (given : List ℕ × Summary) : Type 0 where
  pub power : PowerModel
  pub original : Image
  pub notes : List LoopNote
  pub power_is : read_machine machine ≡ Ok power
  pub original_is : image_of image ≡ Ok original
  pub no_key : original.keyed_segment ≡ None
  pub notes_are : read_loops original loops ≡ Ok notes
  pub program : IsProgramHeld power original notes (Ok given)

held_program : (power : PowerModel) (original : Image) (notes : List LoopNote) (given : List ℕ × Summary) → IsHeldProgram power original notes (Ok given) → IsProgramHeld power original notes (Ok given)
held_program power original notes given (inl h) = let e : Ok given ≡ Err h.refusal = h.answer_is in absurd cc
held_program power original notes given (inr (inl h)) = let e : Ok given ≡ Err h.refusal = h.answer_is in absurd cc
held_program power original notes given (inr (inr h)) = h

pub went_through : (image machine loops : List ℕ) (given : List ℕ × Summary) → IsHeld image machine loops (Ok given) → WentThrough image machine loops given
unfolding IsHeld
went_through image machine loops given h =
    let read = then_ok (sources_of image machine loops) _ given h in
    let s = sources_parts image machine loops read.0 read.1 in
    record {
      power = read.0.power;
      original = read.0.view;
      notes = read.0.notes;
      power_is = s.power_is;
      original_is = s.view_is;
      no_key = no_key read.0.view.keyed_segment s.unscaled;
      notes_are = s.notes_are;
      program = held_program read.0.power read.0.view read.0.notes given read.2;
    }

-- ---- the starting level

pub record StartsAt (power : PowerModel) (image : Image) (worst : ℕ) (given : List ℕ × Summary) : Type 0 where
  pub level : ℕ
  pub slow : slowest_of power worst ≡ Some level
  pub given_is : given ≡ (held_file image level, held_summary power worst level)

starts_from : (power : PowerModel) (image : Image) (worst : ℕ) (o : Option ℕ) (given : List ℕ × Summary) → slowest_of power worst ≡ o → held_from power image worst o ≡ Ok given → StartsAt power image worst given
starts_from power image worst None given s e = absurd cc
starts_from power image worst (Some level) given s e = record { level = level; slow = s; given_is = cc }

pub starts_within : (power : PowerModel) (image : Image) (worst : ℕ) (given : List ℕ × Summary) (b : Bool) → cond b (Err TooLong) (held_at power image worst) ≡ Ok given → StartsAt power image worst given
unfolding held_at
starts_within power image worst given true e = absurd cc
starts_within power image worst given false e = starts_from power image worst (slowest_of power worst) given refl e

-- ---- costs

-- each class costs a cycle at least
each_positive : (costs : Costs) → CostsArePositive costs → (c : Class) → 1 ≤ cycles_of costs c
each_positive costs p class.Alu = p.alu
each_positive costs p class.Load = p.load
each_positive costs p class.Store = p.store
each_positive costs p class.Taken = p.taken
each_positive costs p class.Untaken = p.untaken
each_positive costs p class.Jump = p.jump
each_positive costs p class.Mul = p.mul
each_positive costs p class.Div = p.div
each_positive costs p class.Ecall = p.ecall
each_positive costs p class.Fence = p.fence

-- ---- the law

pub safe : (image machine loops stored : List ℕ) (summary : Summary) → length image ≤ 4194304 → length machine ≤ 1048576 → length loops ≤ 1048576 → IsHeld image machine loops (Ok ((stored, summary))) → IsHeldSafely image machine loops stored summary
safe image machine loops stored summary short _ _ h =
    let went = went_through image machine loops (stored, summary) h in
    let power = went.power in
    let original = went.original in
    let notes = went.notes in
    let levels = length power.levels in
    let p = went.program in
    let worst = p.numbers.worst 0 in
    let started = starts_within power original worst (stored, summary) (nat_lt 281474976710656 worst) (sym p.answer_is) in
    let level = started.level in
    let base = held_base original in
    let model = model-from_bytes machine power went.power_is in
    let few = model.few in
    let small = found_below (is_in_time power worst) 0 levels level started.slow in
    let held : Image = contents (stored_image image [] base [] level) in
    let lawful = a_held_image image original level went.original_is went.no_key short (omega arith) in
    let bytes : stored ≡ stored_image image [] base [] level =
    ap (λ (g : List ℕ × Summary). g.0) started.given_is ∙ ap (λ f. stored_image f [] base [] level) (file_is image original went.original_is) in
    let numbers : summary ≡ held_summary power worst level = ap (λ (g : List ℕ × Summary). g.1) started.given_is in
    let alike = runs_alike image original held base level levels went.no_key lawful in
    let program = program_of (text_of original) p.code notes p.tree p.code_is p.tree_is in
    let carried = λ (input : List ℕ) (n : ℕ) (c : Carried) (k : kept_of original levels input (noted_loops notes) n ≡ Some c).
    kept_by_tree p.code notes p.tree p.tree_is original levels input n c k in
    let below = λ (input : List ℕ) (n : ℕ) (k : IsKeptUpTo original levels input (noted_loops notes) n).
    image_runs_are_below image original levels input p.code.code (tree_loops p.code p.tree) (noted_loops notes).inside (cycles_of power.costs) p.numbers went.original_is program p.numbers_are
    n k.carried (carried input n k.carried k.kept) in
    let kept : KeptAsPrinted power original notes held (held_summary power worst level) = λ input n k.
    printed power image original held base level worst input n went.no_key lawful started.slow (below input n k) in
    let ends : KeptRunsEndAsPrinted power original notes held (held_summary power worst level) = λ input n k goes.
    image_runs_end image original levels input p.code.code (tree_loops p.code p.tree) (noted_loops notes).inside (cycles_of power.costs) p.numbers went.original_is program p.numbers_are
    (each_positive power.costs model.costs) n k.carried (carried input n k.carried k.kept) (sym (alike input n).standing ∙ goes) in
    let P : Summary → Type 0 = λ s. KeptAsPrinted power original notes held s × KeptRunsEndAsPrinted power original notes held s in
    let both : P summary = subst P (sym numbers) (kept, ends) in
    record {
      power = power;
      original = original;
      notes = notes;
      held = held;
      power_is = went.power_is;
      original_is = went.original_is;
      notes_are = went.notes_are;
      held_is = ap image_of bytes ∙ lawful.accepted;
      slow = subst (λ (s : Summary). slowest_of power s.worst ≡ Some s.start) (sym numbers) started.slow;
      runs = alike;
      kept = both.0;
      ends = both.1;
    }

-- what a call of `hold` gives
pub safe_given : (image machine loops : List ℕ) (result : Result (Vec ℕ Global × Summary) Stop) → length image ≤ 4194304 → length machine ≤ 1048576 → length loops ≤ 1048576
    → AnswersBy (λ given. (given.0.items, given.1)) result (IsHeld image machine loops) → IfOk result (λ given. IsHeldSafely image machine loops given.0.items given.1)
safe_given image machine loops (Ok given) si sm sl h = safe image machine loops given.0.items given.1 si sm sl h
safe_given image machine loops (Err stop) si sm sl h = tt
