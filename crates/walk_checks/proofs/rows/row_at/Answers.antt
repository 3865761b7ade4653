use Rattle.std.proofs.Common.{◌∙◌, ap, List, Option}
use Rattle.walk_checks.specs.declared.tables.Trace.{Trace}
use Rattle.walk_checks.specs.Walked.{trace_in}
use Rattle.walk_checks.proofs.Seen.{row_seen}
use Rattle.walk_checks.proofs.rows.row_at.Goals as goal

pub returns : goal.returns
returns c = c.trace_of.ensures ∙ (ap (λ (row : List (Option Trace)). trace_in row c.args.r) c.row_of_node.ensures ∙ row_seen c.args.case.now c.requires.case c.args.k c.args.r c.requires.node)
