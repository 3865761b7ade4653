use Rattle.std.proofs.Common.{◌≡◌, List, subst, sym}
use Rattle.std.specs.Prelude.{slice_get, option_map}
use Rattle.stack_tables.specs.declared.tables.Cell.{Cell}
use Rattle.stack_tables.specs.Tables.{cell_view, stacks_in}
use Rattle.stack_tables.proofs.Seen.{cells_seen}
use Rattle.stack_tables.proofs.reading.cells.Goals as goal

pub returns-clause-cells : goal.returns-clause-cells
returns-clause-cells c j = subst (λ (xs : List Cell). option_map cell_view (slice_get xs j) ≡ (stacks_in c.args.claim.now).cell j) (sym c.deref.ensures.value) (cells_seen c.args.claim.now j)
