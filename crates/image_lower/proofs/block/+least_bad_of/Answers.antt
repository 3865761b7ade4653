use Rattle.std.proofs.Common.{sym, ap, Some, ◌∙◌}
use Rattle.image_lower.specs.Block.{is_bad}
use Rattle.image_lower.proofs.Places.{least_first, least_rest}
use Rattle.image_lower.proofs.block.+least_bad_of.Goals as goal

pub returns-then-is_bad : goal.returns-then-is_bad
returns-then-is_bad n c =
    ap Some c.lesser.ensures ∙ least_first (is_bad c.args.view.now c.args.notes.now) c.args.some.now c.first-item.result c.least_bad_of-later.result c.in-len1-up.len_at_least c.first-item.is c.least_bad_of-later.ensures (sym c.is_bad.ensures ∙ c.if-is_bad.true)

pub returns-else-is_bad : goal.returns-else-is_bad
returns-else-is_bad n c =
    least_rest (is_bad c.args.view.now c.args.notes.now) c.args.some.now c.first-item.result c.least_bad_of-later.result c.in-len1-up.len_at_least c.first-item.is c.least_bad_of-later.ensures (sym c.is_bad.ensures ∙ c.if-is_bad.false)
