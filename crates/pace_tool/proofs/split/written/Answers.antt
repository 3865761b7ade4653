use Rattle.std.proofs.Common.{refl}
use Rattle.std.proofs.lemmas.Result.{err_from_is_err_and}
use Rattle.split_images.specs.Splits.{Splits, split_view}
use Rattle.pace_tool.specs.Answer.{SplitsImage}
use Rattle.pace_tool.specs.Texts.{split_text}
use Rattle.pace_tool.specs.Told.{FileOf, written_view}
use Rattle.pace_tool.proofs.Told.{stopped}
use Rattle.pace_tool.proofs.split.written.Goals as goal

pub returns-in_err-split : goal.returns-in_err-split
returns-in_err-split c =
    let p = err_from_is_err_and c.from_residual.result c.from_residual.ensures.1 in
    rw (p.1, p.2) (stopped split_view written_view c.in_err-split.field-0.0 (Splits c.args.image.now) (FileOf (SplitsImage c.args.image.now) split_text) c.in_err-split.ensures (λ r h. h))

pub returns : goal.returns
returns c = (c.in_ok-split.split, (c.in_ok-split.ensures, refl), c.in_ok-text.ensures)
