use Rattle.std.proofs.Common.{◌∙◌, refl, sym}
use Rattle.wrapped_intervals.specs.Small.{measure_view}
use Rattle.stack_tables.specs.Tables.{address, values_in}
use Rattle.stack_tables.proofs.Public.{line_of_form}
use Rattle.stack_tables.proofs.predicates.line_if.Goals as goal

pub returns-then-is_same_form-clause-line : goal.returns-then-is_same_form-clause-line
returns-then-is_same_form-clause-line c = line_of_form (values_in c.args.claim.now) (address c.args.claim.now c.args.k) c.args.j (measure_view c.args.m) c.line.result (sym c.form.ensures.form ∙ c.if-is_same_form.ensures refl) c.line.ensures.line
