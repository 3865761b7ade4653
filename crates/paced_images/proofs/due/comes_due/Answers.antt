use Rattle.std.proofs.Common.{arith, ◌∙◌}
use Rattle.marked_images.specs.Markings.{test_of}
use Rattle.paced_images.proofs.DueFacts.{due_off, due_on}
use Rattle.paced_images.proofs.due.comes_due.Goals as goal

pub returns-then-marked-gt0 : goal.returns-then-marked-gt0
returns-then-marked-gt0 c = due_on c.args.power.now (test_of c.args.power.now c.args.marked.now.marking) c.args.marked.now.start c.args.bound c.args.iteration c.args.told.now c.from.result c.tally_shift.result
    (let t = c.if-marked-gt0.true in omega (arith, t)) (c.from.ensures ∙ c.tally_from_within-from.ensures.from) c.tally_shift.ensures.shift

pub returns-else-marked-gt0 : goal.returns-else-marked-gt0
returns-else-marked-gt0 c = due_off c.args.power.now (test_of c.args.power.now c.args.marked.now.marking) c.args.marked.now.start c.args.bound c.args.iteration c.args.told.now (let t = c.if-marked-gt0.false in omega (arith, t))
