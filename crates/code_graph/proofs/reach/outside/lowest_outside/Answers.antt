use Rattle.std.proofs.Common.{◌≡◌, length, ◌∙◌, sym, subst, arith}
use Rattle.code_graph.specs.Outside.{IsLowest, IsOutsideOf, IsComeTo}
use Rattle.code_graph.proofs.OutsideLaws.{first_least, next_marked, next_unmarked}
use Rattle.code_graph.proofs.reach.outside.lowest_outside.Goals as goal
use Rattle.code_graph.proofs.reach.outside.lowest_outside.Goals.{then-is_reached, else-is_reached}

pub loop-k-init : goal.loop-k-init
loop-k-init c = first_least c.args.words.now c.args.returning.now c.args.marks.now c.args.entry c.if_outside-lowest.result c.if_outside-lowest.ensures

pub loop-k-preserved : goal.loop-k-preserved
loop-k-preserved c =
    elim c.if-is_reached.branch [
      | then-is_reached w ↦
          next_marked c.args.words.now c.args.returning.now c.args.marks.now c.args.entry c.loop-k.k c.loop-k.lowest w.left_from.result c.if-is_reached.lowest (sym c.is_reached.ensures ∙ w.if-is_reached.true) c.loop-k.invariant w.left_from.ensures (w.lowest-is ∙ w.lower-lowest.ensures)
      | else-is_reached w ↦
          next_unmarked c.args.words.now c.args.returning.now c.args.marks.now c.args.entry c.loop-k.k c.loop-k.lowest c.if-is_reached.lowest (sym c.is_reached.ensures ∙ w.if-is_reached.false) c.loop-k.invariant w.lowest-is
    ]

pub returns : goal.returns
returns c =
    let end = c.loop-k-test.false in
    let most = c.loop-k.auto.k-end in
    let count = c.count-k-end.ensures.addresses in
    let all : c.loop-k.k ≡ length c.args.words.now.addresses = omega (arith, end, most, count) in
    subst (λ n. IsLowest (λ u. IsComeTo c.args.words.now c.args.returning.now c.args.marks.now c.args.entry n u × IsOutsideOf c.args.words.now u) c.loop-k.lowest) all c.loop-k.invariant
