use Rattle.std.proofs.Common.{List, Err}
use Rattle.std.proofs.lemmas.Result.{err_from_is_err_and}
use Rattle.scale_base.specs.declared.refusal.Stop.{Stop}
use Rattle.scale_base.specs.declared.refusal.Stop.TheVariants.{Refused, Memory}
use Rattle.scale_base.specs.Answer.{AnswersBy}
use Rattle.scale_base.specs.Image.{Image}
use Rattle.power_model.specs.Numbers.{PowerModel}
use Rattle.loop_file.specs.declared.notes.LoopNote.{LoopNote}
use Rattle.marked_images.specs.declared.stubs.Marked.{Marked}
use Rattle.scaler.specs.Rewritten.{IsRewrittenProgram}
use Rattle.scaler.specs.Scalings.{IsMarkedFound}
use Rattle.marked_images.proofs.Laws.{HoldAnswers}
use Rattle.scaler.proofs.rewriting.rewrite_program.Goals as goal

marked_stops : (power : PowerModel) (image : Image) (notes : List LoopNote) (stop : Stop) → AnswersBy {X = Marked} {Y = Marked} (λ m. m) (Err stop) (IsMarkedFound power image notes) → HoldAnswers (Err stop) (IsRewrittenProgram power image notes)
marked_stops power image notes (Refused refusal) h = h
marked_stops power image notes Memory h = tt

pub rewrite_marked-requires-clause-marked : goal.rewrite_marked-requires-clause-marked
rewrite_marked-requires-clause-marked c = (c.args.notes.now, c.in_ok-marked.ensures)

pub returns-in_err-marked : goal.returns-in_err-marked
returns-in_err-marked c =
    let p = err_from_is_err_and c.from_residual.result c.from_residual.ensures.1 in
    rw (p.1, p.2) (marked_stops c.args.power.now c.args.view.now c.args.notes.now c.in_err-marked.field-0.0 c.in_err-marked.ensures)

pub returns : goal.returns
returns c = c.rewrite_marked.ensures c.args.notes.now c.in_ok-marked.ensures
