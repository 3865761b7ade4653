-- A draft as it is printed is no longer than with bounds filled in, which is short enough to be loaded.
use Rattle.std.proofs.Common.{◌≡◌, ◌≤◌, ◌+◌, ℕ, List, [], ◌∷◌, ◌++◌, length, arith, length-append}
use Rattle.std.specs.Prelude.{if◌then◌else◌, Option, Ok}
use Rattle.loop_drafts.specs.declared.drafted.Piece.{Piece}
use Rattle.loop_drafts.specs.declared.drafted.LoopDraft.{LoopDraft}
use Rattle.loop_drafts.specs.Bounds.{most_turns}
use Rattle.loop_drafts.specs.Drafted.{IsDraftOf, IsDrafted, filled_most}
use Rattle.loop_drafts.specs.Pieces.{bound_line, filled, filled_piece, printed, printed_piece}

pub printed_shorter : (bound : ℕ) (pieces : List Piece) → length (printed pieces) ≤ length (filled bound pieces)
printed_shorter bound [] = omega arith
printed_shorter bound (piece ∷ pieces) =
    let rest = printed_shorter bound pieces in
    let line : List ℕ = if piece.is_open then bound_line bound else [] in
    let one : length (printed_piece piece ++ printed pieces) ≡ length (printed_piece piece) + length (printed pieces) = length-append (printed_piece piece) (printed pieces) in
    let all : length (filled_piece bound piece ++ filled bound pieces) ≡ length (filled_piece bound piece) + length (filled bound pieces) = length-append (filled_piece bound piece) (filled bound pieces) in
    let its : length (filled_piece bound piece) ≡ length (printed_piece piece) + length line = length-append (printed_piece piece) line in
    omega arith

-- a drafted file isn't too long to be loaded
pub printed_short : (image : List ℕ) (most : Option ℕ) (draft : LoopDraft) → IsDrafted image most (Ok draft) → length (printed draft.pieces.items) ≤ 1048576
printed_short image most draft drafted =
    let of : IsDraftOf drafted.0 most draft = drafted.2.1 in
    let shorter = printed_shorter most_turns draft.pieces.items in
    let low : length (filled_most draft.pieces.items) ≤ 1048576 = of.pieces.file.short in
    omega arith
