use Rattle.std.proofs.Common.{List, subst, sym}
use Rattle.loop_drafts.specs.declared.drafted.Piece.{Piece}
use Rattle.loop_drafts.specs.Pieces.{HasFirstLines, printed}
use Rattle.loop_drafts.specs.Trusting.{trusted_stores}
use Rattle.loop_drafts.proofs.Lines.{first_begins}
use Rattle.loop_drafts.proofs.texts.pieces_of.Goals as goal

pub returns : goal.returns
returns c =
    subst (λ (items : List Piece). HasFirstLines c.args.first.most c.args.first.returns (trusted_stores c.args.first.trusted.trust.now) (printed items)) (sym c.in_ok-insert.ensures.items)
    (first_begins c.args.first.most c.args.first.returns (trusted_stores c.args.first.trusted.trust.now) c.in_ok-begins.begins c.in_ok-pieces.pieces.items c.in_ok-begins.ensures)
