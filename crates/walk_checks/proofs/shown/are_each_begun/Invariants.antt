use Rattle.std.proofs.Common.{ℕ, ◌<◌, get_or, List, Some}
use Rattle.walk_areas.specs.Walking.{IsBegun}
use Rattle.walk_areas.specs.Walking.Place.{in_word}
use Rattle.walk_checks.specs.declared.tables.WordTrace.{WordTrace}
use Rattle.walk_checks.specs.Walked.{certificate_of, trace_view}
use Rattle.walk_checks.proofs.shown.are_each_begun.Given as goal

abbrev pub invariant-loop-word : goal.invariant-loop-word
invariant-loop-word l = (j : ℕ) (other : WordTrace) → j < l.word-index → (nodes : List ℕ) → IsBegun (certificate_of nodes l.table) (in_word (get_or l.row j other).number) (Some (trace_view (get_or l.row j other).trace))
