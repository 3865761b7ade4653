use Rattle.std.proofs.Common.{ℕ, ap, ◌∙◌}
use Rattle.std.specs.Prelude.{Vec}
use Rattle.std.specs.declared.alloc.Global.{Global}
use Rattle.std.proofs.lemmas.Result.{err_from_is_err_and}
use Rattle.run_pictures.specs.declared.picture.RunPicture.{RunPicture}
use Rattle.run_pictures.specs.Pictures.{AreRunsDrawn}
use Rattle.run_pictures.specs.PictureTexts.{picture_text}
use Rattle.pace_tool.specs.Drawn.{AreDrawn}
use Rattle.pace_tool.specs.Told.{FileOf, written_view}
use Rattle.pace_tool.proofs.Told.{stopped}
use Rattle.pace_tool.proofs.draw_run.drawn.Goals as goal

pub returns-in_err-picture : goal.returns-in_err-picture
returns-in_err-picture g c =
    let p = err_from_is_err_and c.from_residual.result c.from_residual.ensures.1 in
    rw (p.1, p.2) (stopped (λ (x : RunPicture). x) written_view c.in_err-picture.field-0.0 (AreRunsDrawn c.args.machine.now c.args.runs.now)
    (FileOf (AreDrawn c.args.machine.now c.args.runs.now) picture_text) c.in_err-picture.ensures (λ r h. h))

pub returns : goal.returns
returns g c = (c.in_ok-picture.picture, (c.in_ok-picture.ensures, ap (λ (v : Vec ℕ Global). v.items) c.into_bytes.ensures.value ∙ c.in_ok-file.ensures), c.in_ok-text.ensures)
