use Rattle.std.proofs.Common.{◌≡◌, ◌∙◌, true, false, sym, ap, arith}
use Rattle.std.proofs.lemmas.Bool.{or_right, or_from}
use Rattle.std.proofs.lemmas.Option.{get_or_from_slice_get}
use Rattle.std.proofs.lemmas.List.Folds.{list_any_more, list_any_at}
use Rattle.scale_base.specs.Image.{is_in}
use Rattle.loop_file.proofs.extent.in_extent.Goals as goal

pub returns-then-contains : goal.returns-then-contains
returns-then-contains c =
    let at = get_or_from_slice_get c.args.note.now.ranges c.loop-k.k c.get.result.now c.get.result.now c.get.ensures in
    let here : is_in c.args.at c.get.result.now ≡ true = sym c.contains.ensures ∙ c.if-contains.true in
    sym (or_right _ _ (list_any_at (is_in c.args.at) c.args.note.now.ranges c.loop-k.k c.get.result.now (omega (arith, c.count-k-end.ensures)) (ap (is_in c.args.at) at ∙ here)))

pub loop-k-preserved : goal.loop-k-preserved
loop-k-preserved c =
    let at = get_or_from_slice_get c.args.note.now.ranges c.loop-k.k c.get.result.now c.get.result.now c.get.ensures in
    let here : is_in c.args.at c.get.result.now ≡ false = sym c.contains.ensures ∙ c.if-contains.false in
    list_any_more (is_in c.args.at) c.args.note.now.ranges c.loop-k.k c.get.result.now (omega (arith, c.count-k-end.ensures)) ∙
    or_from _ _ c.loop-k.invariant (ap (is_in c.args.at) at ∙ here)
