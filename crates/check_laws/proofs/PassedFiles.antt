-- Yes is an answer of a check of what `rewrite` stores.
use Rattle.std.proofs.Common.{◌≡◌, ℕ, List, Ok, sym, ap, ◌∙◌, subst}
use Rattle.scale_base.specs.declared.summary.Summary.{Summary}
use Rattle.scale_base.specs.declared.verdict.Verdict.TheVariants.{Yes}
use Rattle.scale_base.specs.Image.{image_of}
use Rattle.power_model.specs.Price.{time_at}
use Rattle.machine_file.proofs.Laws.{model-from_bytes}
use Rattle.stub_writer.specs.Stubs.{out_of_reach}
use Rattle.rewritten_runs.specs.Stubs.{rewritten_file, marks_by_slack}
use Rattle.rewritten_runs.proofs.Laws.{rewritten_follow}
use Rattle.program_sources.specs.declared.reading.Sources.{Sources}
use Rattle.program_sources.specs.Sources.{sources_of}
use Rattle.program_sources.proofs.Laws.{key_unscaled, sources_are, then_is}
use Rattle.marked_images.specs.Stored.{rewritten_summary}
use Rattle.marked_images.proofs.Laws.{near_of}
use Rattle.scaler.proofs.Laws.{rewritten_parts}
use Rattle.image_check.specs.Checked.{IsPassed, IsFileVerdict, IsChecked}
use Rattle.check_laws.specs.Passing.{checked_as, RewrittenFilesAreChecked}
use Rattle.image_check.proofs.Laws.{rewritten_safe}

pub files_checked : RewrittenFilesAreChecked
unfolding IsChecked
files_checked = λ image machine loop_file stored summary short _ _ h.
    let went = rewritten_parts image machine loop_file (stored, summary) h in
    let p = went.program in
    let made = rewritten_summary went.power p.code (marks_by_slack went.power went.original p.code p.tree p.plain) p.start (p.stored.worst 0) (p.extra.worst 0) p.sites in
    let near = near_of (out_of_reach p.base p.sites) (stored, summary) (rewritten_file went.original p.sites p.base p.start, made) p.answer_is in
    let bytes : stored ≡ rewritten_file went.original p.sites p.base p.start = ap (λ (g : List ℕ × Summary). g.0) near.same in
    let numbers : summary ≡ made = ap (λ (g : List ℕ × Summary). g.1) near.same in
    let model = model-from_bytes machine went.power went.power_is in
    let follows = rewritten_follow went.power model image went.original went.notes p.code p.tree p.plain p.stored p.extra p.least p.sites p.base p.start went.original_is went.no_key short p.weighed p.short p.slow p.stubs near.near in
    let safe = rewritten_safe went.power model image went.original follows.rewritten went.notes p.code p.tree p.plain p.stored p.extra p.least p.sites p.base p.start went.original_is went.no_key short p.weighed p.short p.slow p.stubs near.near follows.is in
    let passed : IsPassed went.power went.original follows.rewritten went.notes p.code p.tree (checked_as summary) = record {
      found = safe.found;
      owner = safe.owner;
      n = p.stored;
      least = p.least;
      more = p.extra;
      safe = safe.safe;
      start = ap (λ (s : Summary). s.start) numbers ∙ sym safe.starts;
      worst = ap (λ (s : Summary). s.worst) numbers;
      time = ap (λ (s : Summary). s.time) numbers ∙ ap (λ i. time_at went.power i (p.stored.worst 0)) (sym safe.starts);
      deadline = ap (λ (s : Summary). s.deadline) numbers;
      stub_cycles = ap (λ (s : Summary). s.stub_cycles) numbers;
    } in
    let verdict : IsFileVerdict went.power went.original (image_of stored) went.notes p.code p.tree (Yes (checked_as summary)) =
    subst (λ r. IsFileVerdict went.power went.original r went.notes p.code p.tree (Yes (checked_as summary))) (sym (ap image_of bytes ∙ follows.is)) passed in
    let s : Sources = record { power = went.power; view = went.original; notes = went.notes } in
    let are = sources_are image machine loop_file s (record { power_is = went.power_is; view_is = went.original_is; unscaled = key_unscaled went.original.keyed_segment went.no_key; notes_are = went.notes_are }) in
    then_is (sources_of image machine loop_file) s _ (Ok (Yes (checked_as summary))) are (p.code, p.tree, p.weighed.code_is, p.weighed.tree_is, verdict)
