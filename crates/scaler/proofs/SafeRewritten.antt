-- What `rewrite` gives is safe.
use Rattle.std.proofs.Common.{◌≡◌, ℕ, ◌≤◌, List, length, Some, None, Result, Ok, Err, sym, ap, ◌∙◌, subst, inl, inr}
use Rattle.std.specs.Prelude.{IfOk, Vec}
use Rattle.std.specs.declared.alloc.Global.{Global}
use Rattle.scale_base.specs.declared.refusal.Stop.{Stop}
use Rattle.scale_base.specs.declared.summary.Summary.{Summary}
use Rattle.scale_base.specs.Answer.{AnswersBy}
use Rattle.scale_base.specs.Image.{Image, image_of}
use Rattle.power_model.specs.Numbers.{PowerModel}
use Rattle.power_model.specs.Price.{time_at}
use Rattle.power_model.specs.Slowest.{slowest_of}
use Rattle.machine_file.specs.Machine.{read_machine}
use Rattle.machine_file.proofs.Laws.{model-from_bytes}
use Rattle.loop_file.specs.declared.notes.LoopNote.{LoopNote}
use Rattle.loop_file.specs.Loops.{read_loops}
use Rattle.stub_writer.specs.Stubs.{out_of_reach}
use Rattle.rewritten_runs.specs.Stubs.{rewritten_file, marks_by_slack, stored_weights}
use Rattle.rewritten_runs.specs.Promise.{KeepsThePromise}
use Rattle.rewritten_runs.specs.Followed.{FollowsInTime}
use Rattle.rewritten_runs.proofs.Laws.{rewritten_follow}
use Rattle.scaler.specs.Rewritten.{IsRewritten, IsRewrittenProgram, IsProgramRewritten}
use Rattle.marked_images.specs.Stored.{rewritten_summary}
use Rattle.rewritten_runs.specs.FilePromise.{FilesKeepThePromise}
use Rattle.marked_images.specs.Promise.{IsStoredSafely}
use Rattle.scaler.specs.RewrittenRuns.{IsProgramStored, IsRewrittenSafely}
use Rattle.program_sources.specs.Sources.{sources_of}
use Rattle.program_sources.proofs.Laws.{no_key, sources_parts, then_ok}
use Rattle.marked_images.proofs.Laws.{found_in_time, near_of}

-- ---- what `rewrite` went through

pub record WentThrough (image machine loops : List ℕ) (given : List ℕ × Summary) : Type 0 where
  pub power : PowerModel
  pub original : Image
  pub notes : List LoopNote
  pub power_is : read_machine machine ≡ Ok power
  pub original_is : image_of image ≡ Ok original
  pub no_key : original.keyed_segment ≡ None
  pub notes_are : read_loops original loops ≡ Ok notes
  pub program : IsProgramRewritten power original notes (Ok given)

pub rewritten_program : (power : PowerModel) (original : Image) (notes : List LoopNote) (given : List ℕ × Summary) → IsRewrittenProgram power original notes (Ok given) → IsProgramRewritten power original notes (Ok given)
rewritten_program power original notes given (inl h) = let e : Ok given ≡ Err h.refusal = h.answer_is in absurd cc
rewritten_program power original notes given (inr (inl h)) = let e : Ok given ≡ Err h.refusal = h.answer_is in absurd cc
rewritten_program power original notes given (inr (inr (inl h))) = let e : Ok given ≡ Err h.refusal = h.answer_is in absurd cc
rewritten_program power original notes given (inr (inr (inr (inl h)))) = let e = h.answer_is in absurd cc
rewritten_program power original notes given (inr (inr (inr (inr (inl h))))) = let e = h.answer_is in absurd cc
rewritten_program power original notes given (inr (inr (inr (inr (inr h))))) = h

pub went_through : (image machine loops : List ℕ) (given : List ℕ × Summary) → IsRewritten image machine loops (Ok given) → WentThrough image machine loops given
unfolding IsRewritten
went_through image machine loops given h =
    let read = then_ok (sources_of image machine loops) _ given h in
    let s = sources_parts image machine loops read.0 read.1 in
    record {
      power = read.0.power;
      original = read.0.view;
      notes = read.0.notes;
      power_is = s.power_is;
      original_is = s.view_is;
      no_key = no_key read.0.view.keyed_segment s.unscaled;
      notes_are = s.notes_are;
      program = rewritten_program read.0.power read.0.view read.0.notes given read.2;
    }

-- ---- the law

pub safe : (image machine loops stored : List ℕ) (summary : Summary) → length image ≤ 4194304 → length machine ≤ 1048576 → length loops ≤ 1048576 → IsRewritten image machine loops (Ok ((stored, summary))) → IsRewrittenSafely image machine loops stored summary
safe image machine loops stored summary short _ _ h =
    let went = went_through image machine loops (stored, summary) h in
    let p = went.program in
    let near = near_of (out_of_reach p.base p.sites) (stored, summary) (rewritten_file went.original p.sites p.base p.start, rewritten_summary went.power p.code (marks_by_slack went.power went.original p.code p.tree p.plain) p.start (p.stored.worst 0) (p.extra.worst 0) p.sites) p.answer_is in
    let bytes : stored ≡ rewritten_file went.original p.sites p.base p.start = ap (λ (g : List ℕ × Summary). g.0) near.same in
    let numbers = ap (λ (g : List ℕ × Summary). g.1) near.same in
    let model = model-from_bytes machine went.power went.power_is in
    let made = rewritten_follow went.power model image went.original went.notes p.code p.tree p.plain p.stored p.extra p.least p.sites p.base p.start went.original_is went.no_key short p.weighed p.short p.slow p.stubs near.near in
    let bound : summary.stub_cycles ≡ p.extra.worst 0 = ap (λ (s : Summary). s.stub_cycles) numbers in
    let worst : summary.worst ≡ p.stored.worst 0 = ap (λ (s : Summary). s.worst) numbers in
    let start : summary.start ≡ p.start = ap (λ (s : Summary). s.start) numbers in
    let time : summary.time ≡ time_at went.power p.start (p.stored.worst 0) = ap (λ (s : Summary). s.time) numbers in
    let files : FilesKeepThePromise image machine loops stored summary.start summary.worst summary.time summary.stub_cycles = record {
      power = went.power;
      original = went.original;
      notes = went.notes;
      rewritten = made.rewritten;
      power_is = went.power_is;
      original_is = went.original_is;
      notes_are = went.notes_are;
      rewritten_is = ap image_of bytes ∙ made.is;
      same_text = made.same_text;
      key = made.key;
      keyed = made.keyed;
      starts = made.starts ∙ sym start;
      time = time ∙ (ap (λ i. time_at went.power i (p.stored.worst 0)) (sym start) ∙ ap (time_at went.power summary.start) (sym worst));
      in_time = subst (λ t. t ≤ went.power.deadline) (sym time) (found_in_time went.power (p.stored.worst 0) p.start p.slow);
      promise = subst (λ b. KeepsThePromise went.power went.original went.notes made.rewritten b) (sym bound) made.promise;
    } in
    let safe : IsStoredSafely image machine loops stored summary = record { files = files; slow = subst (λ (s : Summary). slowest_of went.power s.worst ≡ Some s.start) (sym numbers) p.slow } in
    let program : IsProgramStored went.power went.original went.notes made.rewritten stored summary = record {
      code = p.code;
      tree = p.tree;
      plain = p.plain;
      numbers = p.stored;
      extra = p.extra;
      least = p.least;
      sites = p.sites;
      base = p.base;
      weighed = p.weighed;
      stubs = p.stubs;
      file_is = bytes ∙ ap (rewritten_file went.original p.sites p.base) (sym start);
      printed = (worst, bound);
      follows = subst (λ b. FollowsInTime went.power went.original made.rewritten went.notes p.code p.tree (stored_weights went.power went.original p.code (marks_by_slack went.power went.original p.code p.tree p.plain)) p.plain p.stored b) (sym bound) made.follows;
    } in
    record { safe = safe; program = program }

-- what a call of `rewrite` gives
pub safe_given : (image machine loops : List ℕ) (result : Result (Vec ℕ Global × Summary) Stop) → length image ≤ 4194304 → length machine ≤ 1048576 → length loops ≤ 1048576
    → AnswersBy (λ given. (given.0.items, given.1)) result (IsRewritten image machine loops) → IfOk result (λ given. IsRewrittenSafely image machine loops given.0.items given.1)
safe_given image machine loops (Ok given) si sm sl h = safe image machine loops given.0.items given.1 si sm sl h
safe_given image machine loops (Err stop) si sm sl h = tt
