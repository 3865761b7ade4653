use Rattle.std.proofs.Common.{◌∙◌, sym}
use Rattle.std.proofs.lemmas.Bool.{both_ways}
use Rattle.walk_checks.specs.Walked.{at_of, cert}
use Rattle.walk_checks.proofs.Cases.{header_number}
use Rattle.walk_checks.proofs.edges.is_step_entering.Goals as goal

pub returns-then-n-case : goal.returns-then-n-case
returns-then-n-case c so same off = absurd (c.if-n-case.true (header_number c.args.case.now c.requires.case c.args.n c.requires.to same))

pub returns-then-is_body : goal.returns-then-is_body
returns-then-is_body c so same off = absurd (both_ways ((cert c.args.case.now).body (at_of c.args.case.now c.args.k)) off (sym c.is_body.ensures ∙ c.if-is_body.true))
