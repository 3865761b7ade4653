use Rattle.std.proofs.Common.{string_bytes, append-nil, sym}
use Rattle.run_pictures.specs.PictureTexts.{escaped_byte}
use Rattle.run_pictures.proofs.TextLoops.{bytes-more, bytes-all}
use Rattle.run_pictures.proofs.names.push_bytes.Goals as goal

pub loop-b-init : goal.loop-b-init
loop-b-init c = sym (append-nil (string_bytes c.args.text.now))

pub loop-b-preserved : goal.loop-b-preserved
loop-b-preserved c =
    bytes-more escaped_byte c.args.bytes.now c.loop-b.b-index _ _ (string_bytes c.loop-b.text) (string_bytes c.push_byte.new.text) c.loop-b-test.true c.in_ok-push_byte.ensures c.loop-b.invariant

pub returns : goal.returns
returns c = bytes-all escaped_byte c.args.bytes.now c.loop-b.b-index _ (string_bytes c.loop-b.text) c.loop-b-test.false c.loop-b.invariant
