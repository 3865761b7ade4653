use Rattle.std.proofs.Common.{◌≡◌, ◌==◌, drop}
use Rattle.std.specs.List.{find}
use Rattle.walk_checks.specs.declared.tables.WordTrace.{WordTrace}
use Rattle.walk_checks.proofs.rows.word_of.Given as goal

abbrev pub invariant-loop-word : goal.invariant-loop-word
invariant-loop-word l = find (λ (x : WordTrace). x.number == l.number) (drop l.word-index l.row) ≡ find (λ (x : WordTrace). x.number == l.number) l.row
