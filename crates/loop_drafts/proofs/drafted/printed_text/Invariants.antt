use Rattle.std.proofs.Common.{◌≡◌, take, string_bytes}
use Rattle.loop_drafts.specs.Pieces.{printed}
use Rattle.loop_drafts.proofs.drafted.printed_text.Given as goal

abbrev pub invariant-loop-piece : goal.invariant-loop-piece
invariant-loop-piece l = string_bytes l.text ≡ printed (take l.piece-index l.pieces)
