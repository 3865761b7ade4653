use Rattle.std.proofs.Common.{◌≡◌, ◌+◌, ◌*◌, length, sym, ap, subst, arith}
use Rattle.flat_memory.specs.Lists.{list_bytes}
use Rattle.image_check.specs.LastRows.{words_from, AreLastBefore, AreBlocks}
use Rattle.image_check.proofs.LastLaws.{one_block_more}
use Rattle.image_check.proofs.last_rows.blocks_of.Goals as goal

pub loop-b-init : goal.loop-b-init
loop-b-init c = record {
  blocks = (ap length c.in_ok-blocks.ensures.items, λ b other lt. absurd (omega (arith, lt)));
  places = c.none-places.ensures (words_from (list_bytes c.args.memory.now) c.args.first);
}

pub loop-b-preserved : goal.loop-b-preserved
loop-b-preserved c =
    let words = words_from (list_bytes c.args.memory.now) c.args.first in
    record {
      blocks = subst (AreBlocks words (c.loop-b.b + 1)) (sym c.in_ok-push.ensures.items) (one_block_more words c.loop-b.b c.loop-b.blocks.items c.loop-b.places c.loop-b.invariant.blocks c.loop-b.invariant.places);
      places = let next : 64 * c.loop-b.b + 64 ≡ 64 * (c.loop-b.b + 1) = omega arith in subst (λ n. AreLastBefore words n c.with_words-places.result) next c.with_words-places.ensures;
    }
