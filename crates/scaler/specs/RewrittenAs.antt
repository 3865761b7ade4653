-- What `rewrite_as` gives: what `rewrite` would give where the machine file's least gain is another number and, if so chosen, no loop is counted.
use Rattle.std.specs.Prelude.{ℕ, Bool, true, false, List, map, Result}
use Rattle.scale_base.specs.declared.refusal.Refusal.{Refusal}
use Rattle.scale_base.specs.declared.summary.Summary.{Summary}
use Rattle.power_model.specs.Numbers.{PowerModel}
use Rattle.loop_file.specs.declared.notes.LoopNote.{LoopNote}
use Rattle.loop_file.specs.Notes.{uncounted_note}
use Rattle.answer_parts.specs.Parts.{Then}
use Rattle.program_sources.specs.Sources.{sources_of}
use Rattle.scaler.specs.Rewritten.{IsRewrittenProgram}

-- the machine with another number of cycles of slack from which on an edge gets a switch
abbrev pub with_gain : PowerModel → ℕ → PowerModel
with_gain power min_gain = record power { min_gain = min_gain }

-- the notes as they are, or with no loop counted
abbrev pub notes_with : Bool → List LoopNote → List LoopNote
notes_with true notes = notes
notes_with false notes = map uncounted_note notes

-- The stored bytes and the summary, or the first refusal, in the order of what `rewrite` gives.
unfoldable pub IsRewrittenAs : (image machine loop_file : List ℕ) (min_gain : ℕ) (counters : Bool) → Result (List ℕ × Summary) Refusal →
    Type 0
IsRewrittenAs image machine loop_file min_gain counters answer =
    Then (sources_of image machine loop_file) (λ s. IsRewrittenProgram (with_gain s.power min_gain) s.view (notes_with counters s.notes))
    answer
