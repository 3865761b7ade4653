-- What `pace` gives is safe.
use Rattle.std.proofs.Common.{◌≡◌, ℕ, ◌≤◌, Bool, List, length, Some, None, Result, Ok, Err, sym, ap, ◌∙◌, subst, inl, inr}
use Rattle.std.specs.Prelude.{IfOk, Vec}
use Rattle.std.specs.declared.alloc.Global.{Global}
use Rattle.scale_base.specs.declared.refusal.Stop.{Stop}
use Rattle.scale_base.specs.declared.summary.Summary.{Summary}
use Rattle.scale_base.specs.Answer.{AnswersBy}
use Rattle.scale_base.specs.Image.{Image, image_of}
use Rattle.power_model.specs.Numbers.{PowerModel}
use Rattle.power_model.specs.Price.{time_at}
use Rattle.power_model.specs.Slowest.{slowest_of}
use Rattle.elf_patch.specs.Stored.{stored_image as stored_bytes}
use Rattle.machine_file.specs.Machine.{read_machine}
use Rattle.machine_file.proofs.Laws.{model-from_bytes}
use Rattle.loop_file.specs.declared.notes.LoopNote.{LoopNote}
use Rattle.loop_file.specs.Loops.{read_loops}
use Rattle.stub_writer.specs.Stubs.{out_of_reach, block_bytes, patches_from}
use Rattle.rewritten_runs.specs.Stubs.{rewritten_file}
use Rattle.rewritten_runs.specs.Promise.{KeepsThePromise}
use Rattle.program_sources.specs.Sources.{sources_of}
use Rattle.program_sources.proofs.Laws.{no_key, sources_parts, then_ok}
use Rattle.marked_images.specs.Stored.{rewritten_summary}
use Rattle.rewritten_runs.specs.FilePromise.{FilesKeepThePromise}
use Rattle.marked_images.specs.Promise.{IsStoredSafely}
use Rattle.marked_images.proofs.Laws.{file_is, found_in_time, near_of, read_again, IsMade}
use Rattle.paced_images.specs.declared.wanted.SwitchSite.{SwitchSite}
use Rattle.paced_images.specs.Paced.{IsPaced, IsPacedProgram, IsProgramPaced, paced_rule}
use Rattle.paced_images.specs.Wanted.{notes_by, marked_at, wanted_of}
use Rattle.paced_images.proofs.Uncounted.{promise_of}
use Rattle.paced_images.proofs.WantedMarks.{chooses}
use Rattle.paced_images.proofs.PacedRuns.{stored as stored_image_of, stored_is, keeps, view_text, view_key, key_of}

paced_program : (power : PowerModel) (original : Image) (notes : List LoopNote) (wanted : List SwitchSite) (tallied : List ℕ) (share : ℕ) (given : List ℕ × Summary) → IsPacedProgram power original notes wanted tallied share (Ok given) → IsProgramPaced power original notes wanted tallied share (Ok given)
paced_program power original notes wanted tallied share given (inl h) = let e : Ok given ≡ Err h.refusal = h.answer_is in absurd cc
paced_program power original notes wanted tallied share given (inr (inl h)) = let e : Ok given ≡ Err h.refusal = h.answer_is in absurd cc
paced_program power original notes wanted tallied share given (inr (inr (inl h))) = let e : Ok given ≡ Err h.refusal = h.answer_is in absurd cc
paced_program power original notes wanted tallied share given (inr (inr (inr (inl h)))) = let e = h.answer_is in absurd cc
paced_program power original notes wanted tallied share given (inr (inr (inr (inr (inl h))))) = let e = h.answer_is in absurd cc
paced_program power original notes wanted tallied share given (inr (inr (inr (inr (inr h))))) = h

-- ---- what it went through

record WentThrough (image machine loops : List ℕ) (wanted : List SwitchSite) (counted : Bool) (tallied : List ℕ) (share : ℕ) (given : List ℕ × Summary) : Type 0 where
  power : PowerModel
  original : Image
  notes : List LoopNote
  power_is : read_machine machine ≡ Ok power
  original_is : image_of image ≡ Ok original
  no_key : original.keyed_segment ≡ None
  notes_are : read_loops original loops ≡ Ok notes
  program : IsProgramPaced power original (notes_by counted tallied notes) wanted tallied share (Ok given)

went_through : (image machine loops : List ℕ) (wanted : List SwitchSite) (counted : Bool) (tallied : List ℕ) (share : ℕ) (given : List ℕ × Summary) → IsPaced image machine loops wanted counted tallied share (Ok given) → WentThrough image machine loops wanted counted tallied share given
unfolding IsPaced
went_through image machine loops wanted counted tallied share given h =
    let read = then_ok (sources_of image machine loops) _ given h in
    let s = sources_parts image machine loops read.0 read.1 in
    record {
      power = read.0.power;
      original = read.0.view;
      notes = read.0.notes;
      power_is = s.power_is;
      original_is = s.view_is;
      no_key = no_key read.0.view.keyed_segment s.unscaled;
      notes_are = s.notes_are;
      program = paced_program read.0.power read.0.view (notes_by counted tallied read.0.notes) wanted tallied share given read.2;
    }

-- ---- the law

pub safe : (image machine loops : List ℕ) (wanted : List SwitchSite) (counted : Bool) (tallied : List ℕ) (share : ℕ) (stored : List ℕ) (summary : Summary) → length image ≤ 4194304 → length machine ≤ 1048576 → length loops ≤ 1048576 → share ≤ 4 → IsPaced image machine loops wanted counted tallied share (Ok ((stored, summary)))
    → IsStoredSafely image machine loops stored summary
safe image machine loops wanted counted tallied share stored summary short _ _ quarters h =
    let went = went_through image machine loops wanted counted tallied share (stored, summary) h in
    let p = went.program in
    let power = went.power in
    let notes = notes_by counted tallied went.notes in
    let original = went.original in
    let near = near_of (out_of_reach p.base p.sites) (stored, summary) (rewritten_file original p.sites p.base p.start, rewritten_summary power p.code (marked_at p.code p.tree wanted tallied) p.start (p.stored.worst 0) (p.extra.worst 0) p.sites) p.answer_is in
    let bytes : stored ≡ rewritten_file original p.sites p.base p.start = ap (λ (g : List ℕ × Summary). g.0) near.same in
    let numbers = ap (λ (g : List ℕ × Summary). g.1) near.same in
    let model = model-from_bytes machine power went.power_is in
    let of = file_is image original went.original_is in
    let is : IsMade power original notes p.code p.tree (wanted_of p.code p.tree wanted tallied) (paced_rule power share) p.sites p.base p.start = record { kinds = chooses p.code wanted; stored = p.stored; extra = p.extra; least = p.least; weighed = p.weighed; slow = p.slow; stubs = p.stubs; near = near.near } in
    let read = read_again image original went.original_is in
    let fits : length original.file ≤ 4194304 = rw of short in
    let made = stored_is power model original notes p.code p.tree wanted tallied share p.sites p.base p.start read went.no_key fits quarters is in
    let kept = keeps power model original notes p.code p.tree wanted tallied share p.sites p.base p.start read went.no_key fits quarters is in
    let stub_cycles : summary.stub_cycles ≡ p.extra.worst 0 = ap (λ (s : Summary). s.stub_cycles) numbers in
    let worst : summary.worst ≡ p.stored.worst 0 = ap (λ (s : Summary). s.worst) numbers in
    let start : summary.start ≡ p.start = ap (λ (s : Summary). s.start) numbers in
    let time : summary.time ≡ time_at went.power p.start (p.stored.worst 0) = ap (λ (s : Summary). s.time) numbers in
    let files : FilesKeepThePromise image machine loops stored summary.start summary.worst summary.time summary.stub_cycles = record {
      power = went.power;
      original = went.original;
      notes = went.notes;
      rewritten = stored_image_of power model original notes p.code p.tree wanted tallied share p.sites p.base p.start read went.no_key fits quarters is;
      power_is = went.power_is;
      original_is = went.original_is;
      notes_are = went.notes_are;
      rewritten_is = ap image_of bytes ∙ made;
      same_text = view_text original (stored_bytes original.file (patches_from p.base p.sites) p.base (block_bytes p.base p.sites) p.start) p.base (block_bytes p.base p.sites) p.start;
      key = key_of p.base (block_bytes p.base p.sites) p.start;
      keyed = view_key original (stored_bytes original.file (patches_from p.base p.sites) p.base (block_bytes p.base p.sites) p.start) p.base (block_bytes p.base p.sites) p.start;
      starts = sym start;
      time = time ∙ (ap (λ i. time_at went.power i (p.stored.worst 0)) (sym start) ∙ ap (time_at went.power summary.start) (sym worst));
      in_time = subst (λ t. t ≤ went.power.deadline) (sym time) (found_in_time went.power (p.stored.worst 0) p.start p.slow);
      promise = subst (λ b. KeepsThePromise power original went.notes (stored_image_of power model original notes p.code p.tree wanted tallied share p.sites p.base p.start read went.no_key fits quarters is) b) (sym stub_cycles)
          (promise_of power counted tallied original went.notes (stored_image_of power model original notes p.code p.tree wanted tallied share p.sites p.base p.start read went.no_key fits quarters is) (p.extra.worst 0) kept);
    } in
    record { files = files; slow = subst (λ (s : Summary). slowest_of went.power s.worst ≡ Some s.start) (sym numbers) p.slow }

-- what a call of `pace` gives
pub safe_given : (image machine loops : List ℕ) (wanted : List SwitchSite) (counted : Bool) (tallied : List ℕ) (share : ℕ) (result : Result (Vec ℕ Global × Summary) Stop) → length image ≤ 4194304 → length machine ≤ 1048576 → length loops ≤ 1048576 → share ≤ 4
    → AnswersBy (λ given. (given.0.items, given.1)) result (IsPaced image machine loops wanted counted tallied share) → IfOk result (λ given. IsStoredSafely image machine loops given.0.items given.1)
safe_given image machine loops wanted counted tallied share (Ok given) si sm sl few h = safe image machine loops wanted counted tallied share given.0.items given.1 si sm sl few h
safe_given image machine loops wanted counted tallied share (Err stop) si sm sl few h = tt
