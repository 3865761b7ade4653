-- A program that has reasons is held, at the same level.
use Rattle.std.proofs.Common.{ℕ, List, Result, Ok, refl, sym}
use Rattle.scale_base.specs.declared.refusal.Refusal.{Refusal}
use Rattle.scale_base.specs.declared.summary.Summary.{Summary}
use Rattle.program_sources.specs.declared.reading.Sources.{Sources}
use Rattle.program_sources.proofs.Laws.{sources_are}
use Rattle.scaler.specs.Held.{IsHeld, held_file, held_summary}
use Rattle.scaler.proofs.Laws.{held_answer, held_by}
use Rattle.level_reasons.specs.declared.shown.Shown.{Shown}
use Rattle.level_reasons.specs.Program.{HasReasons, ShownProgramsAreHeld}

held_files : (image machine loop_file : List ℕ) (shown : Shown) (h : HasReasons image machine loop_file shown)
    → IsHeld image machine loop_file (Ok ((held_file h.original shown.start, held_summary h.power (h.program.numbers.worst 0) shown.start)))
held_files image machine loop_file shown h =
    let s : Sources = record { power = h.power; view = h.original; notes = h.notes } in
    let are = sources_are image machine loop_file s (record { power_is = h.power_is; view_is = h.original_is; unscaled = h.unscaled; notes_are = h.notes_are }) in
    let p = h.program in
    let answer : Result (List ℕ × Summary) Refusal = Ok ((held_file h.original shown.start, held_summary h.power (p.numbers.worst 0) shown.start)) in
    held_answer image machine loop_file s answer are (held_by h.power h.original h.notes p.code p.tree p.numbers shown.start p.code_is p.tree_is p.numbers_are p.short h.program.start)

pub shown_held : ShownProgramsAreHeld
shown_held = λ image machine loop_file shown h. (
  held_file h.original shown.start,
  held_summary h.power (h.program.numbers.worst 0) shown.start,
  held_files image machine loop_file shown h,
  refl,
  sym h.program.worst,
)
