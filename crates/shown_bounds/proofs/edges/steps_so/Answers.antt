use Rattle.std.proofs.Common.{◌∙◌, sym}
use Rattle.shown_bounds.proofs.Cases.{step_outside, step_so}
use Rattle.shown_bounds.proofs.edges.steps_so.Goals as goal

pub returns-then-not-is_body : goal.returns-then-not-is_body
returns-then-not-is_body c so = step_outside c.args.case.now c.requires.case c.args.e c.source-k.result c.source-k.ensures.node (sym c.is_body.ensures ∙ c.if-not-is_body.true)

pub returns-in-None-Some : goal.returns-in-None-Some
returns-in-None-Some c so = step_so c.args.case.now c.requires.case c.args.e c.source-k.result c.source-k.ensures.node (c.is_counted.ensures so)
