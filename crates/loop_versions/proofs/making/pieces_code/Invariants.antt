use Rattle.std.proofs.Common.{◌≡◌, ◌≤◌, ◌+◌, ◌*◌, ◌++◌, drop}
use Rattle.loop_versions.specs.Pieces.{pieces_code}
use Rattle.loop_versions.proofs.making.pieces_code.Given as goal

abbrev pub invariant-loop-piece : goal.invariant-loop-piece
invariant-loop-piece l = record {
  code : l.made.items ++ pieces_code l.view l.place (drop l.piece-index l.pieces) ≡ pieces_code l.view l.fn.base l.pieces;
  low : l.place ≤ l.fn.base + 36 * l.piece-index;
}
