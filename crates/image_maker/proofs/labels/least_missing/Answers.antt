use Rattle.std.proofs.Common.{get_or, refl}
use Rattle.std.proofs.lemmas.Option.{slice_get-get_or}
use Rattle.image_maker.specs.declared.line.Line.TheVariants.{Label}
use Rattle.image_maker.proofs.LabelLaws.{item, missing_more, missing_all}
use Rattle.image_maker.proofs.labels.least_missing.Goals as goal

pub loop-k-preserved : goal.loop-k-preserved
loop-k-preserved c =
    let lines = c.args.lines.now in
    let k = c.loop-k.k in
    let x = get_or lines k (Label 0) in
    let at = rw (slice_get-get_or lines k (Label 0) c.loop-k-test.true) at c.missing_at.ensures in
    rw c.least_of-missing.ensures (missing_more lines k x c.loop-k.missing c.missing_at.result c.loop-k-test.true (item lines k (Label 0) x c.loop-k-test.true refl) at c.loop-k.invariant)

pub returns : goal.returns
returns c = missing_all c.args.lines.now c.loop-k.k c.loop-k.missing c.loop-k-test.false c.loop-k.invariant
