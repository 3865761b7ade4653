use Rattle.std.proofs.Common.{◌≡◌, ℕ, List, Ok, Err}
use Rattle.std.proofs.lemmas.Result.{err_from_is_err_and}
use Rattle.scale_base.specs.declared.refusal.Stop.{Stop}
use Rattle.scale_base.specs.declared.refusal.Stop.TheVariants.{Refused, Memory}
use Rattle.scale_base.specs.Answer.{AnswersBy}
use Rattle.cost_theory.specs.Worst.{Numbers}
use Rattle.flow_graph.specs.FlowGraph.{FlowGraph}
use Rattle.loop_forest.specs.Tree.{LoopView}
use Rattle.marked_images.specs.declared.stubs.Marked.{Marked}
use Rattle.marked_images.specs.declared.scaling.Program.{Program}
use Rattle.marked_images.specs.declared.scaling.Scaling.{Scaling}
use Rattle.marked_images.specs.Scalings.{IsScalingFound}
use Rattle.marked_images.specs.Stored.{by_deadline}
use Rattle.marked_images.proofs.Laws.{HoldAnswers, read_again}
use Rattle.program_sources.specs.declared.reading.Sources.{Sources}
use Rattle.program_sources.specs.Sources.{sources_of}
use Rattle.program_sources.proofs.Laws.{sources_parts}
use Rattle.scaler.specs.Rewritten.{IsRewritten}
use Rattle.scaler.specs.Scalings.{ArePlain, IsMarkedFound, IsProgramFound, wanted_by_slack}
use Rattle.scaler.proofs.Given.{rewritten_answer, rewritten_stops}
use Rattle.scaler.proofs.ScalingFacts.{rewritten_of}
use Rattle.scaler.proofs.rewriting.program_of.Goals as goal

-- what is refused of the files is refused of their program
stopped : (image machine loops : List ℕ) (stop : Stop) → HoldAnswers (Err stop) (IsRewritten image machine loops) → AnswersBy {X = Program} {Y = Program} (λ p. p) (Err stop) (IsProgramFound image machine loops)
stopped image machine loops (Refused refusal) h = h
stopped image machine loops Memory h = tt

marked_stops : (image machine loops : List ℕ) (s : Sources) (stop : Stop) → sources_of image machine loops ≡ Ok s → AnswersBy {X = Marked} {Y = Marked} (λ m. m) (Err stop) (IsMarkedFound s.power s.view s.notes)
    → AnswersBy {X = Program} {Y = Program} (λ p. p) (Err stop) (IsProgramFound image machine loops)
marked_stops image machine loops s (Refused refusal) e h = rewritten_answer image machine loops s (Err refusal) e h
marked_stops image machine loops s Memory e h = tt

scaling_stops : (image machine loops : List ℕ) (s : Sources) (v : FlowGraph) (t : LoopView) (plain : Numbers) → ArePlain s.power s.view v t plain → (stop : Stop) → sources_of image machine loops ≡ Ok s
    → AnswersBy {X = Scaling} {Y = Scaling} (λ x. x) (Err stop) (IsScalingFound s.power s.view s.notes v t (wanted_by_slack s.power s.view v t plain) (by_deadline s.power))
    → AnswersBy {X = Program} {Y = Program} (λ p. p) (Err stop) (IsProgramFound image machine loops)
scaling_stops image machine loops s v t plain are (Refused refusal) e h = rewritten_answer image machine loops s (Err refusal) e (rewritten_of s.power s.view s.notes v t plain (Err refusal) are h)
scaling_stops image machine loops s v t plain are Memory e h = tt

-- ---- the calls

pub scaling_of-requires-clause-image : goal.scaling_of-requires-clause-image
scaling_of-requires-clause-image c = read_again c.args.image.now c.in_ok-sources.sources.view (sources_parts c.args.image.now c.args.machine.now c.args.loops.now c.in_ok-sources.sources c.in_ok-sources.ensures.sources).view_is

pub marked_of-requires-clause-image : goal.marked_of-requires-clause-image
marked_of-requires-clause-image c = read_again c.args.image.now c.in_ok-sources.sources.view (sources_parts c.args.image.now c.args.machine.now c.args.loops.now c.in_ok-sources.sources c.in_ok-sources.ensures.sources).view_is

pub scaling_of-requires-clause-marked : goal.scaling_of-requires-clause-marked
scaling_of-requires-clause-marked c = (c.in_ok-sources.sources.notes, _, _, c.in_ok-marked.ensures.2)

pub returns-in_err-sources : goal.returns-in_err-sources
returns-in_err-sources c =
    let p = err_from_is_err_and c.from_residual.result c.from_residual.ensures.1 in
    rw (p.1, p.2) (stopped c.args.image.now c.args.machine.now c.args.loops.now c.in_err-sources.field-0.0 (rewritten_stops c.args.image.now c.args.machine.now c.args.loops.now c.in_err-sources.field-0.0 c.in_err-sources.ensures.sources))

pub returns-in_err-marked : goal.returns-in_err-marked
returns-in_err-marked c =
    let p = err_from_is_err_and c.from_residual-in_err-marked.result c.from_residual-in_err-marked.ensures.1 in
    rw (p.1, p.2) (marked_stops c.args.image.now c.args.machine.now c.args.loops.now c.in_ok-sources.sources c.in_err-marked.field-0.0 c.in_ok-sources.ensures.sources c.in_err-marked.ensures)

pub returns-in_err-scaling : goal.returns-in_err-scaling
returns-in_err-scaling c =
    let p = err_from_is_err_and c.from_residual-in_err-scaling.result c.from_residual-in_err-scaling.ensures.1 in
    rw (p.1, p.2) (scaling_stops c.args.image.now c.args.machine.now c.args.loops.now c.in_ok-sources.sources c.in_ok-marked.marked.graph c.in_ok-marked.marked.tree c.in_ok-marked.ensures.0 c.in_ok-marked.ensures.1 c.in_err-scaling.field-0.0
    c.in_ok-sources.ensures.sources (c.in_err-scaling.ensures c.in_ok-sources.sources.notes _ _ c.in_ok-marked.ensures.2))

pub returns : goal.returns
returns c =
    let s = sources_parts c.args.image.now c.args.machine.now c.args.loops.now c.in_ok-sources.sources c.in_ok-sources.ensures.sources in
    record {
      power_is = s.power_is;
      in_range = c.in_ok-sources.ensures.in_range;
      view_is = s.view_is;
      unscaled = s.unscaled;
      notes = c.in_ok-sources.sources.notes;
      notes_are = s.notes_are;
      plain = c.in_ok-marked.ensures.0;
      plain_are = c.in_ok-marked.ensures.1;
      marked = c.in_ok-marked.ensures.2;
      scaled = c.in_ok-scaling.ensures c.in_ok-sources.sources.notes _ _ c.in_ok-marked.ensures.2;
    }
