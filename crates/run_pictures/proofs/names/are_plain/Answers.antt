use Rattle.std.proofs.Common.{sym, ◌∙◌}
use Rattle.run_pictures.specs.PictureTexts.{is_plain}
use Rattle.run_pictures.proofs.TextLoops.{all-true, all-false, all-done}
use Rattle.run_pictures.proofs.names.are_plain.Goals as goal

pub loop-b-preserved : goal.loop-b-preserved
loop-b-preserved c = all-true is_plain c.args.bytes.now c.loop-b.b-index _ c.loop-b-test.true (sym c.is_plain.ensures ∙ c.if-not-is_plain.false) c.loop-b.invariant

pub returns-then-not-is_plain : goal.returns-then-not-is_plain
returns-then-not-is_plain c = all-false is_plain c.args.bytes.now c.loop-b.b-index _ c.loop-b-test.true (sym c.is_plain.ensures ∙ c.if-not-is_plain.true) c.loop-b.invariant

pub returns : goal.returns
returns c = all-done is_plain c.args.bytes.now c.loop-b.b-index c.loop-b-test.false c.loop-b.invariant
