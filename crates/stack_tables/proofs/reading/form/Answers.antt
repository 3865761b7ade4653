use Rattle.std.proofs.Common.{◌∙◌}
use Rattle.stack_tables.proofs.Seen.{form_seen}
use Rattle.stack_tables.proofs.reading.form.Goals as goal

pub returns-clause-form : goal.returns-clause-form
returns-clause-form c = c.form_row.ensures.form ∙ form_seen c.args.claim.now c.args.j
