use Rattle.std.proofs.Common.{◌∙◌, sym}
use Rattle.std.proofs.lemmas.Bool.{both_ways}
use Rattle.walk_checks.specs.Walked.{at_of, cert}
use Rattle.walk_checks.proofs.Cases.{header_number}
use Rattle.walk_checks.proofs.edges.is_back_elsewhere.Goals as goal

pub returns-then-n-case : goal.returns-then-n-case
returns-then-n-case c so off same = c.if-n-case.true (header_number c.args.case.now c.requires.case c.args.n c.requires.to same)

pub returns : goal.returns
returns c so off same = both_ways ((cert c.args.case.now).body (at_of c.args.case.now c.args.k)) off (sym c.is_body.ensures ∙ so)
