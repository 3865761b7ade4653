use Rattle.std.proofs.Common.{get_or, refl, sym, ◌∙◌, ap, not}
use Rattle.image_maker.specs.declared.line.Line.TheVariants.{Label}
use Rattle.image_maker.proofs.LabelLaws.{word_placed, first_placed, again_placed, item, not_label, none_of, some_of}
use Rattle.image_maker.proofs.labels.Labels.add.Goals as goal

pub returns-in_default : goal.returns-in_default
returns-in_default c =
    let lines = c.args.lines.now in
    let k = c.args.k in
    let other = not_label (get_or lines k (Label 0)) c.in_default.not-Label in
    record {
      placed = word_placed lines k (get_or lines k (Label 0)) _ _ _ c.requires.within (item lines k (Label 0) _ c.requires.within refl) other.0 other.1 c.requires.placed;
      memory = tt;
    }

pub returns-then-is_none-clause-placed : goal.returns-then-is_none-clause-placed
returns-then-is_none-clause-placed c =
    let gone = none_of c.in_ok-before.before (c.is_none.ensures ∙ ap not c.if-is_none.true) in
    first_placed c.args.lines.now c.args.k c.in-Label.label _ _ _ _ c.requires.within (item _ _ _ _ c.requires.within c.in-Label.is) (sym c.in_ok-before.ensures.old ∙ gone) c.in_ok-before.ensures.updates c.requires.placed

pub returns-clause-placed : goal.returns-clause-placed
returns-clause-placed c =
    let had = some_of c.in_ok-before.before (c.is_none.ensures ∙ ap not c.if-is_none.false) in
    rw c.lesser.ensures (again_placed c.args.lines.now c.args.k c.in-Label.label _ had.0 _ _ _ c.requires.within (item _ _ _ _ c.requires.within c.in-Label.is) (sym c.in_ok-before.ensures.old ∙ had.1) c.in_ok-before.ensures.updates c.requires.placed)
