use Rattle.std.specs.Prelude.{String, string_bytes}
use Rattle.std.specs.declared.alloc.Global.{Global}
use Rattle.std.proofs.lemmas.Result.{err_from_is_err_and}
use Rattle.worst_reports.specs.declared.explained.Explained.{Explained}
use Rattle.worst_reports.specs.Explained.{AreExplained}
use Rattle.worst_reports.specs.ExplainedTexts.{explained_text}
use Rattle.pace_tool.specs.Told.{TextOf}
use Rattle.pace_tool.proofs.Told.{stopped}
use Rattle.pace_tool.proofs.explain.explained.Goals as goal

pub returns-in_err-explained : goal.returns-in_err-explained
returns-in_err-explained c =
    let files = c.args.files.now in
    let p = err_from_is_err_and c.from_residual.result c.from_residual.ensures.1 in
    rw (p.1, p.2) (stopped (λ (x : Explained). x) (λ (text : String Global). string_bytes text) c.in_err-explained.field-0.0 (AreExplained files.image.now files.machine.now files.loops.now)
    (TextOf (AreExplained files.image.now files.machine.now files.loops.now) explained_text) c.in_err-explained.ensures (λ r h. h))

pub returns : goal.returns
returns c = (c.in_ok-explained.explained, c.in_ok-explained.ensures, c.in_ok-explained_text.ensures)
