use Rattle.std.proofs.Common.{List, Ok, Err}
use Rattle.std.proofs.lemmas.Result.{err_from_is_err_and}
use Rattle.scale_base.specs.declared.refusal.Stop.{Stop}
use Rattle.scale_base.specs.declared.refusal.Stop.TheVariants.{Refused, Memory}
use Rattle.scale_base.specs.Answer.{AnswersBy}
use Rattle.scale_base.specs.Image.{Image}
use Rattle.power_model.specs.Numbers.{PowerModel}
use Rattle.cost_theory.specs.Worst.{Numbers}
use Rattle.flow_graph.specs.FlowGraph.{FlowGraph}
use Rattle.loop_file.specs.declared.notes.LoopNote.{LoopNote}
use Rattle.loop_forest.specs.Tree.{LoopView}
use Rattle.marked_images.specs.declared.scaling.Scaling.{Scaling}
use Rattle.marked_images.specs.Scalings.{IsScalingFound}
use Rattle.marked_images.specs.Stored.{by_deadline}
use Rattle.marked_images.proofs.Laws.{HoldAnswers, stubbed_of}
use Rattle.scaler.specs.Rewritten.{IsRewrittenProgram}
use Rattle.scaler.specs.Scalings.{ArePlain, wanted_by_slack}
use Rattle.scaler.proofs.ScalingFacts.{rewritten_of}
use Rattle.scaler.proofs.rewriting.rewrite_marked.Goals as goal

scaling_stops : (power : PowerModel) (image : Image) (notes : List LoopNote) (v : FlowGraph) (t : LoopView) (plain : Numbers) → ArePlain power image v t plain → (stop : Stop)
    → AnswersBy {X = Scaling} {Y = Scaling} (λ s. s) (Err stop) (IsScalingFound power image notes v t (wanted_by_slack power image v t plain) (by_deadline power)) → HoldAnswers (Err stop) (IsRewrittenProgram power image notes)
scaling_stops power image notes v t plain are (Refused refusal) h = rewritten_of power image notes v t plain (Err refusal) are h
scaling_stops power image notes v t plain are Memory h = tt

pub scaling_of-requires-clause-marked : goal.scaling_of-requires-clause-marked
scaling_of-requires-clause-marked c = let m = c.requires.marked in (m.0, _, _, m.1.2)

pub stored_file-requires-clause-scaled : goal.stored_file-requires-clause-scaled
stored_file-requires-clause-scaled c = let m = c.requires.marked in (c.args.power.now, m.0, _, _, _, _, c.requires.power, c.in_ok-scaling.ensures m.0 _ _ m.1.2)

pub returns-in_err-scaling : goal.returns-in_err-scaling
returns-in_err-scaling c = λ notes m.
    let p = err_from_is_err_and c.from_residual.result c.from_residual.ensures.1 in
    rw (p.1, p.2) (scaling_stops c.args.power.now c.args.view.now notes c.args.marked.now.graph c.args.marked.now.tree m.0 m.1 c.in_err-scaling.field-0.0 (c.in_err-scaling.ensures notes _ _ m.2))

pub returns : goal.returns
returns c = λ notes m.
    let v = c.args.marked.now.graph in
    let t = c.args.marked.now.tree in
    let power = c.args.power.now in
    let image = c.args.view.now in
    rewritten_of power image notes v t m.0 (Ok ((c.in_ok-bytes.bytes.items, c.in_ok-scaling.scaling.summary))) m.1
    (stubbed_of power image notes v t (wanted_by_slack power image v t m.0) (by_deadline power) c.in_ok-scaling.scaling c.in_ok-bytes.bytes.items (c.in_ok-scaling.ensures notes _ _ m.2) c.in_ok-bytes.ensures)
