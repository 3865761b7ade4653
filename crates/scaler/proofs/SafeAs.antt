-- What `rewrite_as` gives is safe: the promise speaks of neither the least gain of the machine nor of which loops are counted.
use Rattle.std.proofs.Common.{◌≡◌, ℕ, zero, suc, ◌≤◌, Bool, true, false, List, [], ◌∷◌, map, length, Some, None, Result, Ok, Err, refl, sym, ap, ◌∙◌, subst}
use Rattle.std.specs.Prelude.{IfOk, Vec}
use Rattle.std.specs.declared.alloc.Global.{Global}
use Rattle.std.proofs.lemmas.List.{length-map}
use Rattle.std.proofs.Math.Path.{fun_ext}
use Rattle.scale_base.specs.declared.refusal.Stop.{Stop}
use Rattle.scale_base.specs.declared.summary.Summary.{Summary}
use Rattle.scale_base.specs.Answer.{AnswersBy}
use Rattle.scale_base.specs.Image.{Image, image_of}
use Rattle.power_model.specs.Numbers.{PowerModel}
use Rattle.power_model.specs.Price.{time_at}
use Rattle.power_model.specs.Slowest.{slowest_of}
use Rattle.machine_file.specs.Machine.{read_machine}
use Rattle.machine_file.proofs.Laws.{model-from_bytes}
use Rattle.cost_theory.specs.Graph.{Loops}
use Rattle.loop_file.specs.declared.notes.LoopNote.{LoopNote}
use Rattle.loop_file.specs.Loops.{read_loops}
use Rattle.loop_file.specs.Kept.{in_extent, note_at, noted_loops}
use Rattle.loop_file.specs.Notes.{uncounted_note}
use Rattle.graph_runs.specs.KeptRuns.{IsKeptUpTo}
use Rattle.stub_writer.specs.Stubs.{out_of_reach}
use Rattle.rewritten_runs.specs.Stubs.{rewritten_file, marks_by_slack}
use Rattle.rewritten_runs.specs.Promise.{EndsAsPromised, KeepsThePromise}
use Rattle.rewritten_runs.proofs.Laws.{rewritten_follow}
use Rattle.scaler.specs.Rewritten.{IsProgramRewritten}
use Rattle.marked_images.specs.Stored.{rewritten_summary}
use Rattle.rewritten_runs.specs.FilePromise.{FilesKeepThePromise}
use Rattle.marked_images.specs.Promise.{IsStoredSafely}
use Rattle.scaler.specs.RewrittenAs.{IsRewrittenAs, with_gain, notes_with}
use Rattle.scaler.proofs.Gains.{model_with}
use Rattle.program_sources.specs.Sources.{sources_of}
use Rattle.program_sources.proofs.Laws.{no_key, sources_parts, then_ok}
use Rattle.marked_images.proofs.Laws.{found_in_time, near_of}
use Rattle.scaler.proofs.SafeRewritten.{rewritten_program}

-- ---- what it went through

record WentThrough (image machine loops : List ℕ) (min_gain : ℕ) (counters : Bool) (given : List ℕ × Summary) : Type 0 where
  power : PowerModel
  original : Image
  notes : List LoopNote
  power_is : read_machine machine ≡ Ok power
  original_is : image_of image ≡ Ok original
  no_key : original.keyed_segment ≡ None
  notes_are : read_loops original loops ≡ Ok notes
  program : IsProgramRewritten (with_gain power min_gain) original (notes_with counters notes) (Ok given)

went_through : (image machine loops : List ℕ) (min_gain : ℕ) (counters : Bool) (given : List ℕ × Summary) → IsRewrittenAs image machine loops min_gain counters (Ok given) → WentThrough image machine loops min_gain counters given
unfolding IsRewrittenAs
went_through image machine loops min_gain counters given h =
    let read = then_ok (sources_of image machine loops) _ given h in
    let s = sources_parts image machine loops read.0 read.1 in
    record {
      power = read.0.power;
      original = read.0.view;
      notes = read.0.notes;
      power_is = s.power_is;
      original_is = s.view_is;
      no_key = no_key read.0.view.keyed_segment s.unscaled;
      notes_are = s.notes_are;
      program = rewritten_program (with_gain read.0.power min_gain) read.0.view (notes_with counters read.0.notes) given read.2;
    }

-- ---- the notes keep the same runs

pub note_changed : (notes : List LoopNote) (k : ℕ) → note_at (map uncounted_note notes) k ≡ uncounted_note (note_at notes k)
note_changed [] k = refl
note_changed (note ∷ notes) zero = refl
note_changed (note ∷ notes) (suc k) = note_changed notes k

abbrev of_parts : ℕ → (header bound least : ℕ → ℕ) → (ℕ → ℕ → Bool) → Loops
of_parts n header bound least inside = record { loops = n; header = header; bound = bound; least_trips = least; inside = inside }

pub same_without : (notes : List LoopNote) → noted_loops notes ≡ noted_loops (map uncounted_note notes)
same_without notes =
    let less = map uncounted_note notes in
    let header : (λ (k : ℕ). (note_at notes k).header) ≡ (λ (k : ℕ). (note_at less k).header) = fun_ext (λ k. ap (λ (note : LoopNote). note.header) (sym (note_changed notes k))) in
    let bound : (λ (k : ℕ). (note_at notes k).bound) ≡ (λ (k : ℕ). (note_at less k).bound) = fun_ext (λ k. ap (λ (note : LoopNote). note.bound) (sym (note_changed notes k))) in
    let least : (λ (k : ℕ). (note_at notes k).at_least) ≡ (λ (k : ℕ). (note_at less k).at_least) = fun_ext (λ k. ap (λ (note : LoopNote). note.at_least) (sym (note_changed notes k))) in
    let inside : (λ (k v : ℕ). in_extent (note_at notes k) v) ≡ (λ (k v : ℕ). in_extent (note_at less k) v) = fun_ext (λ k. ap in_extent (sym (note_changed notes k))) in
    ap (λ n. of_parts n (λ k. (note_at notes k).header) (λ k. (note_at notes k).bound) (λ k. (note_at notes k).at_least) (λ k v. in_extent (note_at notes k) v)) (sym (length-map notes uncounted_note))
    ∙ (ap (λ f. of_parts (length less) f (λ k. (note_at notes k).bound) (λ k. (note_at notes k).at_least) (λ k v. in_extent (note_at notes k) v)) header
    ∙ (ap (λ f. of_parts (length less) (λ k. (note_at less k).header) f (λ k. (note_at notes k).at_least) (λ k v. in_extent (note_at notes k) v)) bound
    ∙ (ap (λ f. of_parts (length less) (λ k. (note_at less k).header) (λ k. (note_at less k).bound) f (λ k v. in_extent (note_at notes k) v)) least
    ∙ ap (λ f. of_parts (length less) (λ k. (note_at less k).header) (λ k. (note_at less k).bound) (λ k. (note_at less k).at_least) f) inside)))

same_loops : (counters : Bool) (notes : List LoopNote) → noted_loops notes ≡ noted_loops (notes_with counters notes)
same_loops true notes = refl
same_loops false notes = same_without notes

-- ---- the promise

module _ (power : PowerModel) (min_gain : ℕ) (counters : Bool) (original : Image) (notes : List LoopNote) (stored : Image) (bound : ℕ) where
  ends_as : (input : List ℕ) (n status : ℕ) → EndsAsPromised (with_gain power min_gain) original stored bound input n status → EndsAsPromised power original stored bound input n status
  ends_as input n status h = record {
    after = h.after;
    from = h.from;
    to = h.to;
    exits = h.exits;
    output = h.output;
    steps_from = h.steps_from;
    steps_to = h.steps_to;
    cycles = h.cycles;
    is_level = h.is_level;
    in_time = h.in_time;
    falls = h.falls;
    energy = h.energy;
  }

  pub promise_of : KeepsThePromise (with_gain power min_gain) original (notes_with counters notes) stored bound → KeepsThePromise power original notes stored bound
  promise_of promise input n status kept exits = ends_as input n status
      (promise input n status (subst (λ (l : Loops). IsKeptUpTo original (length power.levels) input l n) (same_loops counters notes) kept) exits)

-- ---- the law

pub safe : (image machine loops : List ℕ) (min_gain : ℕ) (counters : Bool) (stored : List ℕ) (summary : Summary) → length image ≤ 4194304 → length machine ≤ 1048576 → length loops ≤ 1048576 → IsRewrittenAs image machine loops min_gain counters (Ok ((stored, summary)))
    → IsStoredSafely image machine loops stored summary
safe image machine loops min_gain counters stored summary short _ _ h =
    let went = went_through image machine loops min_gain counters (stored, summary) h in
    let p = went.program in
    let power = with_gain went.power min_gain in
    let notes = notes_with counters went.notes in
    let near = near_of (out_of_reach p.base p.sites) (stored, summary) (rewritten_file went.original p.sites p.base p.start, rewritten_summary power p.code (marks_by_slack power went.original p.code p.tree p.plain) p.start (p.stored.worst 0) (p.extra.worst 0) p.sites) p.answer_is in
    let bytes : stored ≡ rewritten_file went.original p.sites p.base p.start = ap (λ (g : List ℕ × Summary). g.0) near.same in
    let numbers = ap (λ (g : List ℕ × Summary). g.1) near.same in
    let model = model_with went.power min_gain (model-from_bytes machine went.power went.power_is) in
    let made = rewritten_follow power model image went.original notes p.code p.tree p.plain p.stored p.extra p.least p.sites p.base p.start went.original_is went.no_key short p.weighed p.short p.slow p.stubs near.near in
    let stub_cycles : summary.stub_cycles ≡ p.extra.worst 0 = ap (λ (s : Summary). s.stub_cycles) numbers in
    let worst : summary.worst ≡ p.stored.worst 0 = ap (λ (s : Summary). s.worst) numbers in
    let start : summary.start ≡ p.start = ap (λ (s : Summary). s.start) numbers in
    let time : summary.time ≡ time_at went.power p.start (p.stored.worst 0) = ap (λ (s : Summary). s.time) numbers in
    let files : FilesKeepThePromise image machine loops stored summary.start summary.worst summary.time summary.stub_cycles = record {
      power = went.power;
      original = went.original;
      notes = went.notes;
      rewritten = made.rewritten;
      power_is = went.power_is;
      original_is = went.original_is;
      notes_are = went.notes_are;
      rewritten_is = ap image_of bytes ∙ made.is;
      same_text = made.same_text;
      key = made.key;
      keyed = made.keyed;
      starts = made.starts ∙ sym start;
      time = time ∙ (ap (λ i. time_at went.power i (p.stored.worst 0)) (sym start) ∙ ap (time_at went.power summary.start) (sym worst));
      in_time = subst (λ t. t ≤ went.power.deadline) (sym time) (found_in_time went.power (p.stored.worst 0) p.start p.slow);
      promise = subst (λ b. KeepsThePromise went.power went.original went.notes made.rewritten b) (sym stub_cycles)
          (promise_of went.power min_gain counters went.original went.notes made.rewritten (p.extra.worst 0) made.promise);
    } in
    record { files = files; slow = subst (λ (s : Summary). slowest_of went.power s.worst ≡ Some s.start) (sym numbers) p.slow }

-- what a call of `rewrite_as` gives
pub safe_given : (image machine loops : List ℕ) (min_gain : ℕ) (counters : Bool) (result : Result (Vec ℕ Global × Summary) Stop) → length image ≤ 4194304 → length machine ≤ 1048576 → length loops ≤ 1048576
    → AnswersBy (λ given. (given.0.items, given.1)) result (IsRewrittenAs image machine loops min_gain counters) → IfOk result (λ given. IsStoredSafely image machine loops given.0.items given.1)
safe_given image machine loops min_gain counters (Ok given) si sm sl h = safe image machine loops min_gain counters given.0.items given.1 si sm sl h
safe_given image machine loops min_gain counters (Err stop) si sm sl h = tt
