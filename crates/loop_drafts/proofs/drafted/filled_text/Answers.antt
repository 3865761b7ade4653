use Rattle.std.proofs.Common.{string_bytes, ap, take_all, ◌∙◌}
use Rattle.loop_drafts.specs.Pieces.{filled_piece, filled}
use Rattle.loop_drafts.proofs.Lines.{pieces_more}
use Rattle.loop_drafts.proofs.drafted.filled_text.Goals as goal

pub loop-piece-preserved : goal.loop-piece-preserved
loop-piece-preserved c =
    pieces_more (filled_piece c.args.bound) (string_bytes c.loop-piece.text) (string_bytes c.push_filled.new.text) c.args.pieces.now c.loop-piece.piece-index c.piece-item.result c.loop-piece-test.true c.piece-item.is
    c.in_ok-push_filled.ensures c.loop-piece.invariant

pub returns : goal.returns
returns c = c.loop-piece.invariant ∙ ap (filled c.args.bound) (take_all c.loop-piece.piece-index c.args.pieces.now c.loop-piece-test.false)
