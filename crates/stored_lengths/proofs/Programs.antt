-- What the commands store of a program is short.
use Rattle.std.proofs.Common.{◌≡◌, ℕ, suc, ◌+◌, ◌*◌, ◌≤◌, Bool, true, false, List, [], ◌∷◌, length, Option, Some, None, Ok, Err, sym, ap, subst, ◌∙◌, arith, inl, inr}
use Rattle.std.specs.Prelude.{All, IsTrue, cond, min, nat_lt}
use Rattle.std.proofs.lemmas.List.Elements.{All-nil, All-cons}
use Rattle.scale_base.specs.declared.ranges.Patch.{Patch}
use Rattle.scale_base.specs.declared.refusal.Refusal.TheVariants.{TooLong}
use Rattle.scale_base.specs.declared.summary.Summary.{Summary}
use Rattle.scale_base.specs.Image.{Image, image_of, is_word_address}
use Rattle.scale_base.specs.Word.{word_of}
use Rattle.power_model.specs.Numbers.{PowerModel, IsPowerModel}
use Rattle.power_model.specs.Slowest.{slowest_of}
use Rattle.machine_file.proofs.Laws.{model-from_bytes}
use Rattle.loop_file.specs.declared.notes.LoopNote.{LoopNote}
use Rattle.elf_patch.specs.Stored.{held_base, stored_image}
use Rattle.stub_writer.specs.Stubs.{Site, block_bytes, block_size, jump, out_of_reach, patches_from, stub_len}
use Rattle.rewritten_runs.specs.Stubs.{marks_by_slack, rewritten_file}
use Rattle.rewritten_runs.proofs.Laws.{block_bytes_len, supplied}
use Rattle.scaler.specs.Held.{held_at, held_file, held_from, held_summary}
use Rattle.scaler.specs.Rewritten.{IsProgramRewritten, IsRewrittenProgram}
use Rattle.marked_images.specs.Stored.{rewritten_summary}
use Rattle.scaler.specs.RewrittenAs.{IsRewrittenAs, notes_with, with_gain}
use Rattle.program_sources.specs.Sources.{sources_of}
use Rattle.program_sources.proofs.Laws.{no_key, sources_parts, then_ok}
use Rattle.marked_images.proofs.Laws.{file_is, near_of, read_again}
use Rattle.scaler.proofs.Laws.{held_parts, model_with, rewritten_parts}
use Rattle.gain_tuner.specs.Candidates.{IsCandidate}
use Rattle.stored_lengths.specs.Laws.{HeldImagesAreShort, ImagesRewrittenAsAreShort, RewrittenImagesAreShort, StubbedFilesAreShort, TunedImagesAreShort}
use Rattle.stored_lengths.proofs.Blocks.{block_small}
use Rattle.stored_lengths.proofs.Files.{file_short}

-- ---- a file with stubs

patched_words : (image : Image) (at : ℕ) (sites : List Site) → All (λ s. is_word_address image s.at ≡ true) sites → All (λ p. IsTrue (is_word_address image p.at)) (patches_from at sites)
patched_words image at [] h = All-nil (λ p. IsTrue (is_word_address image p.at))
patched_words image at (site ∷ sites) h =
    let next = at + 4 * stub_len site in
    All-cons (λ p. IsTrue (is_word_address image p.at)) (record { at = site.at; word = word_of (jump site.at at) }) (patches_from next sites) (h 0 site (omega arith)) (patched_words image next sites (λ k d lt. h (suc k) d (omega arith)))

pub stubbed_short : StubbedFilesAreShort
stubbed_short image levels limits sites base start e short is safe near =
    let small = block_small image.file image levels limits sites base (min (block_size sites) 4194304) e (omega arith) is safe near in
    let words = patched_words image base sites (λ k d lt. (safe k d lt).word) in
    file_short image.file image (patches_from base sites) base (block_bytes base sites) start e short words (omega (arith, small, block_bytes_len base sites))

-- ---- what is held

level_from : (power : PowerModel) (image : Image) (worst : ℕ) (o : Option ℕ) (given : List ℕ × Summary) → held_from power image worst o ≡ Ok given → (level : ℕ) × (given.0 ≡ held_file image level)
level_from power image worst None given e = absurd cc
level_from power image worst (Some level) given e =
    let same : given ≡ (held_file image level, held_summary power worst level) = cc in
    (level, ap (λ (g : List ℕ × Summary). g.0) same)

level_within : (power : PowerModel) (image : Image) (worst : ℕ) (given : List ℕ × Summary) (b : Bool) → cond b (Err TooLong) (held_at power image worst) ≡ Ok given → (level : ℕ) × (given.0 ≡ held_file image level)
unfolding held_at
level_within power image worst given true e = absurd cc
level_within power image worst given false e = level_from power image worst (slowest_of power worst) given e

pub held_short : HeldImagesAreShort
held_short image machine loops stored summary short h =
    let went = held_parts image machine loops (stored, summary) h in
    let original = went.original in
    let worst = went.program.numbers.worst 0 in
    let at = level_within went.power original worst (stored, summary) (nat_lt 281474976710656 worst) (sym went.program.answer_is) in
    let bytes : stored ≡ stored_image image [] (held_base original) [] at.0 = at.1 ∙ ap (λ f. stored_image f [] (held_base original) [] at.0) (file_is image original went.original_is) in
    let none : All (λ (p : Patch). IsTrue (is_word_address original p.at)) [] = All-nil (λ p. IsTrue (is_word_address original p.at)) in
    subst (λ (b : List ℕ). length b ≤ 8388608) (sym bytes) (file_short image original [] (held_base original) [] at.0 went.original_is short none (omega arith))

-- ---- what is rewritten

program_short : (power : PowerModel) (file : List ℕ) (image : Image) (notes : List LoopNote) (given : List ℕ × Summary) → IsPowerModel power → image_of file ≡ Ok image → image.keyed_segment ≡ None → length file ≤ 4194304
    → IsProgramRewritten power image notes (Ok given) → length given.0 ≤ 8388608
program_short power file image notes given ok read no_key short p =
    let made : List ℕ × Summary = (rewritten_file image p.sites p.base p.start, rewritten_summary power p.code (marks_by_slack power image p.code p.tree p.plain) p.start (p.stored.worst 0) (p.extra.worst 0) p.sites) in
    let near = near_of (out_of_reach p.base p.sites) given made p.answer_is in
    let sup = supplied power ok file image notes p.code p.tree p.plain p.stored p.extra p.least p.sites p.base p.start read no_key short p.weighed p.slow p.stubs near.near in
    let same = file_is file image read in
    let size : length image.file ≤ 4194304 = subst (λ (f : List ℕ). length f ≤ 4194304) (sym same) short in
    let bytes : given.0 ≡ rewritten_file image p.sites p.base p.start = ap (λ (g : List ℕ × Summary). g.0) near.same in
    subst (λ (b : List ℕ). length b ≤ 8388608) (sym bytes)
    (stubbed_short image (length power.levels) sup.limits p.sites p.base p.start (read_again file image read) size p.stubs.base_is sup.stubbed.safe near.near)

pub rewritten_short : RewrittenImagesAreShort
rewritten_short image machine loops stored summary short h =
    let went = rewritten_parts image machine loops (stored, summary) h in
    program_short went.power image went.original went.notes (stored, summary) (model-from_bytes machine went.power went.power_is) went.original_is went.no_key short went.program

-- ---- what is rewritten with other choices

program_of : (power : PowerModel) (image : Image) (notes : List LoopNote) (given : List ℕ × Summary) → IsRewrittenProgram power image notes (Ok given) → IsProgramRewritten power image notes (Ok given)
program_of power image notes given (inl h) = let e : Ok given ≡ Err h.refusal = h.answer_is in absurd cc
program_of power image notes given (inr (inl h)) = let e : Ok given ≡ Err h.refusal = h.answer_is in absurd cc
program_of power image notes given (inr (inr (inl h))) = let e : Ok given ≡ Err h.refusal = h.answer_is in absurd cc
program_of power image notes given (inr (inr (inr (inl h)))) = let e = h.answer_is in absurd cc
program_of power image notes given (inr (inr (inr (inr (inl h))))) = let e = h.answer_is in absurd cc
program_of power image notes given (inr (inr (inr (inr (inr h))))) = h

pub rewritten_as_short : ImagesRewrittenAsAreShort
unfolding IsRewrittenAs
rewritten_as_short image machine loops min_gain counters stored summary short h =
    let given : List ℕ × Summary = (stored, summary) in
    let read = then_ok (sources_of image machine loops) _ given h in
    let s = sources_parts image machine loops read.0 read.1 in
    let original = read.0.view in
    let power = with_gain read.0.power min_gain in
    let notes = notes_with counters read.0.notes in
    let ok = model_with read.0.power min_gain (model-from_bytes machine read.0.power s.power_is) in
    program_short power image original notes given ok s.view_is (no_key original.keyed_segment s.unscaled) short (program_of power original notes given read.2)

-- ---- what is tuned

candidate_short : (image machine loops : List ℕ) (c : ℕ) (stored : List ℕ) (summary : Summary) → length image ≤ 4194304 → IsCandidate image machine loops c (Ok ((stored, summary))) → length stored ≤ 8388608
candidate_short image machine loops c stored summary short (inl h) = held_short image machine loops stored summary short h.1
candidate_short image machine loops c stored summary short (inr (inl g)) = rewritten_as_short image machine loops _ _ stored summary short g.answer_is
candidate_short image machine loops c stored summary short (inr (inr g)) = rewritten_as_short image machine loops _ _ stored summary short g.answer_is

pub tuned_short : TunedImagesAreShort
tuned_short image machine loops inputs stored tuned short h = candidate_short image machine loops tuned.candidate stored tuned.summary short h.cheapest.trial.answer_is
