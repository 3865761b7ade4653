use Rattle.std.proofs.Common.{inl, inr}
use Rattle.std.proofs.lemmas.Result.{err_from_is_err_and}
use Rattle.scale_base.specs.Image.{image_of}
use Rattle.split_images.specs.Splits.{IsImageSplit, Splits, split_view}
use Rattle.split_images.proofs.Stopping.{stops_as, answers_by}
use Rattle.split_images.proofs.splitting.split_image.Goals as goal

pub returns-in_err-view : goal.returns-in_err-view
returns-in_err-view c =
    let p = err_from_is_err_and c.from_residual.result c.from_residual.ensures.1 in
    rw (p.1, p.2) (stops_as split_view c.in_err-view.field-0.0 (image_of c.args.image.now) (Splits c.args.image.now) c.in_err-view.ensures (λ r e. inl e))

pub returns : goal.returns
returns c =
    answers_by split_view c.split_read.result (Splits c.args.image.now) (IsImageSplit c.in_ok-view.view) c.split_read.ensures (λ x h. (c.in_ok-view.view, c.in_ok-view.ensures, h))
    (λ r h. inr (c.in_ok-view.view, c.in_ok-view.ensures, h))
