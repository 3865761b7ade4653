use Rattle.std.specs.Prelude.{String, string_bytes}
use Rattle.std.specs.declared.alloc.Global.{Global}
use Rattle.std.proofs.lemmas.Result.{err_from_is_err_and}
use Rattle.level_reasons.specs.declared.shown.Shown.{Shown}
use Rattle.level_reasons.specs.Program.{AreReasons}
use Rattle.level_reasons.specs.ReasonTexts.{reasons_text}
use Rattle.pace_tool.specs.Told.{TextOf}
use Rattle.pace_tool.proofs.Told.{stopped}
use Rattle.pace_tool.proofs.show.shown.Goals as goal

pub returns-in_err-shown : goal.returns-in_err-shown
returns-in_err-shown c =
    let files = c.args.files.now in
    let p = err_from_is_err_and c.from_residual.result c.from_residual.ensures.1 in
    rw (p.1, p.2) (stopped (λ (x : Shown). x) (λ (text : String Global). string_bytes text) c.in_err-shown.field-0.0 (AreReasons files.image.now files.machine.now files.loops.now)
    (TextOf (AreReasons files.image.now files.machine.now files.loops.now) reasons_text) c.in_err-shown.ensures (λ r h. h))

pub returns : goal.returns
returns c = (c.in_ok-shown.shown, c.in_ok-shown.ensures, c.in_ok-reasons_text.ensures)
