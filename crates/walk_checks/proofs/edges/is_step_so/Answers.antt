use Rattle.std.proofs.Common.{◌∙◌}
use Rattle.std.proofs.lemmas.Bool.{both_ways, not-true}
use Rattle.walk_checks.proofs.Cases.{header_number}
use Rattle.walk_checks.proofs.edges.is_step_so.Goals as goal

pub returns-then-not-is_body : goal.returns-then-not-is_body
returns-then-not-is_body c so = record {
  turn = λ same. absurd (c.if-n-case.false (header_number c.args.case.now c.requires.case c.args.n c.requires.to same));
  over = λ other on. absurd (both_ways c.is_body.result (not-true c.is_body.result so) (c.is_body.ensures ∙ on));
}

pub returns-else-not-is_body : goal.returns-else-not-is_body
returns-else-not-is_body c so = record {
  turn = λ same. absurd (c.if-n-case.false (header_number c.args.case.now c.requires.case c.args.n c.requires.to same));
  over = λ other on. c.are_over.ensures so;
}
