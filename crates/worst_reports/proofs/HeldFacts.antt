-- A program whose worst cycles are explained is held.
use Rattle.std.proofs.Common.{ℕ, List, Result, Ok, sym}
use Rattle.scale_base.specs.declared.refusal.Refusal.{Refusal}
use Rattle.scale_base.specs.declared.summary.Summary.{Summary}
use Rattle.program_sources.specs.declared.reading.Sources.{Sources}
use Rattle.program_sources.proofs.Laws.{sources_are}
use Rattle.scaler.specs.Held.{IsHeld, held_file, held_summary}
use Rattle.scaler.proofs.Laws.{held_answer, held_by}
use Rattle.worst_reports.specs.declared.explained.Explained.{Explained}
use Rattle.worst_reports.specs.Explained.{HasExplained, ExplainedProgramsAreHeld}

held_files : (image machine loop_file : List ℕ) (explained : Explained) (h : HasExplained image machine loop_file explained)
    → IsHeld image machine loop_file (Ok ((held_file h.original h.program.start, held_summary h.power (h.program.numbers.worst 0) h.program.start)))
held_files image machine loop_file explained h =
    let s : Sources = record { power = h.power; view = h.original; notes = h.notes } in
    let are = sources_are image machine loop_file s (record { power_is = h.power_is; view_is = h.original_is; unscaled = h.unscaled; notes_are = h.notes_are }) in
    let p = h.program in
    let answer : Result (List ℕ × Summary) Refusal = Ok ((held_file h.original h.program.start, held_summary h.power (p.numbers.worst 0) h.program.start)) in
    held_answer image machine loop_file s answer are (held_by h.power h.original h.notes p.code p.tree p.numbers h.program.start p.code_is p.tree_is p.numbers_are p.short h.program.in_time)

pub explained_held : ExplainedProgramsAreHeld
explained_held = λ image machine loop_file explained h. (
  held_file h.original h.program.start,
  held_summary h.power (h.program.numbers.worst 0) h.program.start,
  held_files image machine loop_file explained h,
  sym h.program.worst,
)
