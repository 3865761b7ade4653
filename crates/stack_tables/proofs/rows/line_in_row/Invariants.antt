use Rattle.std.proofs.Common.{◌≡◌, ◌==◌, drop}
use Rattle.std.specs.List.{find}
use Rattle.value_checks.specs.declared.tables.Line.{Line}
use Rattle.stack_tables.proofs.rows.line_in_row.Given as goal

abbrev pub invariant-loop-line : goal.invariant-loop-line
invariant-loop-line l = find (λ (x : Line). x.form == l.j) (drop l.line-index l.lines) ≡ find (λ (x : Line). x.form == l.j) l.lines
