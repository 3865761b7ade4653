use Rattle.std.proofs.Common.{◌≡◌, ◌<◌, length, get_or, refl, subst, ap, arith}
use Rattle.flat_memory.proofs.UsedLaws.{unused_more, used_block, used_stack}
use Rattle.flat_memory.proofs.page_loading.is_used.Goals as goal

pub loop-block-preserved : goal.loop-block-preserved
loop-block-preserved c =
    let same = c.deref-block-items.ensures.value in
    unused_more c.args.list.now.blocks.items c.args.from c.args.last c.loop-block.block-index c.block-item.result c.touches.result
    (subst (λ bs. c.loop-block.block-index < length bs) same c.loop-block-test.true)
    (subst (λ bs. c.block-item.result ≡ get_or bs c.loop-block.block-index c.block-item.result) same c.block-item.is) c.touches.ensures c.if-touches.false c.loop-block.invariant

pub returns-then-touches : goal.returns-then-touches
returns-then-touches c =
    let same = c.deref-block-items.ensures.value in (
      λ yes. used_block c.args.list.now.blocks.items c.args.from c.args.last c.loop-block.block-index c.block-item.result
          (subst (λ bs. c.loop-block.block-index < length bs) same c.loop-block-test.true)
          (subst (λ bs. c.block-item.result ≡ get_or bs c.loop-block.block-index c.block-item.result) same c.block-item.is) (c.touches.ensures.0 c.if-touches.true),
      λ some. refl,
    )

pub returns : goal.returns
returns c =
    let same : length c.deref-block-items.result.now ≡ length c.args.list.now.blocks.items = ap length c.deref-block-items.ensures.value in
    used_stack c.args.list.now.blocks.items c.args.from c.args.last c.loop-block.block-index c.is_off_stack.result c.requires (omega (arith, same)) c.loop-block.invariant c.is_off_stack.ensures
