use Rattle.std.proofs.Common.{◌≡◌, take, string_bytes}
use Rattle.loop_drafts.specs.Pieces.{filled}
use Rattle.loop_drafts.proofs.drafted.filled_text.Given as goal

abbrev pub invariant-loop-piece : goal.invariant-loop-piece
invariant-loop-piece l = string_bytes l.text ≡ filled l.bound (take l.piece-index l.pieces)
