use Rattle.stack_tables.specs.Tables.{told_view}
use Rattle.stack_checks.proofs.Tellings.{both_of, either_of}
use Rattle.stack_checks.proofs.telling.is_handed_of.Goals as goal

pub returns-then-are_both : goal.returns-then-are_both
returns-then-are_both c so v a = both_of v a c.args.op c.args.rs1 c.args.rs2 (told_view c.args.z.now) (told_view c.args.y.now) c.in-And.is (c.is_one_of.ensures so) (c.are_both.ensures.z c.if-are_both.true) (c.are_both.ensures.y c.if-are_both.true)

pub returns-then-are_both-2 : goal.returns-then-are_both-2
returns-then-are_both-2 c so v a =
    either_of v a c.args.op c.args.rs1 c.args.rs2 (told_view c.args.z.now) (told_view c.args.y.now) c.in-Or.is (c.is_one_of-then-are_both-2.ensures so) (c.are_both-in-Or.ensures.z c.if-are_both-2.true) (c.are_both-in-Or.ensures.y c.if-are_both-2.true)
