use Rattle.std.proofs.Common.{rules, ◌≡◌, ◌<◌, length, subst}
use Rattle.loop_tree.specs.Backs.{ArePlacedHeaders}
use Rattle.loop_tree.proofs.BackLaws.{placed_more}
use Rattle.loop_tree.proofs.backs.loops_by_header.Goals as goal

pub loop-number-preserved : goal.loop-number-preserved
loop-number-preserved c =
    let lt : c.loop-number.number < length c.args.headers.now = search rules in
    placed_more c.args.headers.now c.loop-number.number c.args.count c.loop-number.heads.items c.requires lt c.loop-number.invariant

pub returns : goal.returns
returns c =
    let e : c.loop-number.number ≡ length c.args.headers.now = search rules in
    subst (λ n. ArePlacedHeaders c.args.headers.now n c.args.count c.loop-number.heads.items) e c.loop-number.invariant
