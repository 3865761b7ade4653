use Rattle.std.proofs.Common.{◌∙◌}
use Rattle.std.proofs.lemmas.Bool.{both_ways, not-true}
use Rattle.walk_checks.proofs.Cases.{header_number}
use Rattle.walk_checks.proofs.edges.is_led_so.Goals as goal

pub returns : goal.returns
returns c so = record {
  counted = λ same inside. absurd (c.if-n-case.false (header_number c.args.case.now c.requires.case c.args.n c.requires.to same));
  entered = λ other on. absurd (both_ways c.is_body-2.result (not-true c.is_body-2.result so) (c.is_body-2.ensures ∙ on));
}
