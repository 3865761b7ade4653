use Rattle.std.proofs.Common.{arith, below_more}
use Rattle.std.proofs.lemmas.Option.{slice_get_within, slice_get-get_or}
use Rattle.jump_drafts.proofs.Listed.{listed_at}
use Rattle.jump_drafts.proofs.listing.are_listed.Goals as goal

pub loop-k-preserved : goal.loop-k-preserved
loop-k-preserved c =
    let k = c.loop-k.k in
    let tables = c.args.tables.now in
    below_more _ _ c.loop-k.invariant
    (listed_at c.args.view.now c.args.notes.now tables k c.get.result.now _ c.get.ensures.note (slice_get-get_or tables k _ (omega arith)) (c.in_ok-is_listed.ensures c.if-not-branch.false))

pub returns : goal.returns
returns c so = record {
  size = omega arith;
  each = λ k note table ne te. c.loop-k.invariant k (omega (arith, slice_get_within c.args.tables.now k table te)) note table ne te;
}
