use Rattle.std.proofs.Common.{sym, ap, refl, ◌∙◌}
use Rattle.scale_base.proofs.Laws.{has_table}
use Rattle.image_lower.specs.Lowered.{is_full}
use Rattle.image_lower.proofs.LoweringLaws.{too_far, too_full, made, told}
use Rattle.image_lower.proofs.lowering.lower_at.Goals as goal

pub returns-in-Some : goal.returns-in-Some
returns-in-Some c = too_far c.args.view.now c.args.trees.now.base c.args.notes.now _ c.in-Some.at c.requires.some c.requires.sorted (sym c.in-Some.is ∙ c.in_ok-at.ensures)

pub is_full-requires : goal.is_full-requires
is_full-requires c = rw c.file.ensures.bytes (has_table _ _ c.file.ensures.image).long

pub returns-then-is_full : goal.returns-then-is_full
returns-then-is_full c =
    too_full c.args.view.now c.args.trees.now.base c.args.notes.now _ c.requires.some c.requires.sorted (sym c.in_default.is ∙ c.in_ok-at.ensures) (ap is_full (sym c.file.ensures.bytes) ∙ (sym c.is_full.ensures ∙ c.if-is_full.true))

pub returns : goal.returns
returns c =
    rw (made c.args.view.now c.args.trees.now.base c.args.notes.now _ c.args.near.now c.in_ok-file.file.items _ c.requires.some c.requires.sorted (sym c.in_default.is ∙ c.in_ok-at.ensures) (ap is_full (sym c.file.ensures.bytes) ∙ (sym c.is_full.ensures ∙ c.if-is_full.false))
    c.requires.near c.in_ok-file.ensures (told c.args.view.now c.args.notes.now c.args.near.now c.args.trees.now.len c.in_ok-depth.depth _ refl c.requires.near c.requires.len c.in_ok-depth.ensures.depth))
    c.finish.ensures
