use Rattle.image_maker.proofs.WordLaws.{assembled-short}
use Rattle.image_maker.proofs.maker.make_image.Goals as goal

pub plain_image-requires : goal.plain_image-requires
plain_image-requires c = rw c.deref.ensures.value (assembled-short c.args.lines.now c.in-Ok.words.items c.requires.few c.in-Ok.ensures.words)

pub unreachable-requires : goal.unreachable-requires
unreachable-requires c = c.in_default.not-Memory (c.requires.assemble c.in-Err.error c.in-Err.ensures.refused)
