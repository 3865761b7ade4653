use Rattle.std.proofs.Common.{◌≡◌, ℕ, Bool, List, Ok, Err, subst}
use Rattle.std.proofs.lemmas.Result.{err_from_is_err_and}
use Rattle.scale_base.specs.declared.refusal.Stop.{Stop}
use Rattle.scale_base.specs.declared.refusal.Stop.TheVariants.{Refused, Memory}
use Rattle.scale_base.specs.Answer.{AnswersBy}
use Rattle.loop_file.specs.declared.notes.LoopNote.{LoopNote}
use Rattle.flow_graph.specs.FlowGraph.{FlowGraph}
use Rattle.loop_forest.specs.Tree.{LoopView}
use Rattle.program_sources.specs.declared.reading.Sources.{Sources}
use Rattle.program_sources.specs.Sources.{sources_of}
use Rattle.program_sources.proofs.Laws.{sources_parts}
use Rattle.marked_images.proofs.Laws.{HoldAnswers, read_again}
use Rattle.marked_images.specs.declared.scaling.Program.{Program}
use Rattle.marked_images.specs.declared.stubs.Marked.{Marked}
use Rattle.marked_images.specs.declared.scaling.Scaling.{Scaling}
use Rattle.marked_images.specs.Scalings.{IsScaled, IsScalingFound}
use Rattle.paced_images.specs.declared.wanted.SwitchSite.{SwitchSite}
use Rattle.paced_images.specs.Paced.{IsPaced, paced_rule}
use Rattle.paced_images.specs.Programs.{IsMarkedAs, IsMarkedFound, IsProgramFound}
use Rattle.paced_images.specs.Wanted.{notes_by, wanted_of}
use Rattle.paced_images.proofs.ProgramFacts.{paced_with}
use Rattle.paced_images.proofs.PacedFiles.{files_answer, files_stop}
use Rattle.paced_images.proofs.programs.program_of.Goals as goal

module _ (image machine loops : List ℕ) (sites : List SwitchSite) (counted : Bool) (tallied : List ℕ) (share : ℕ) where
  abbrev ProgramAnswers : Stop → Type 0
  ProgramAnswers stop = AnswersBy {X = Program} {Y = Program} (λ p. p) (Err stop) (IsProgramFound image machine loops sites counted tallied share)

  -- what is refused of the files is refused of their program
  stopped : (stop : Stop) → HoldAnswers (Err stop) (IsPaced image machine loops sites counted tallied share) → ProgramAnswers stop
  stopped (Refused refusal) h = h
  stopped Memory h = tt

  marked_stops : (s : Sources) (stop : Stop) → sources_of image machine loops ≡ Ok s → AnswersBy {X = Marked} {Y = Marked} (λ m. m) (Err stop) (IsMarkedFound s.power s.view (notes_by counted tallied s.notes) sites tallied share)
      → ProgramAnswers stop
  marked_stops s (Refused refusal) e h = files_answer image machine loops sites counted tallied share s (Err refusal) e h
  marked_stops s Memory e h = tt

  scaling_stops : (s : Sources) (v : FlowGraph) (t : LoopView) (stop : Stop) → sources_of image machine loops ≡ Ok s
      → AnswersBy {X = Scaling} {Y = Scaling} (λ x. x) (Err stop) (IsScalingFound s.power s.view (notes_by counted tallied s.notes) v t (wanted_of v t sites tallied) (paced_rule s.power share)) → ProgramAnswers stop
  scaling_stops s v t (Refused refusal) e h =
      files_answer image machine loops sites counted tallied share s (Err refusal) e (paced_with s.power s.view (notes_by counted tallied s.notes) sites tallied share v t (Err refusal) h)
  scaling_stops s v t Memory e h = tt

-- ---- the calls

pub scaling_of-requires-clause-image : goal.scaling_of-requires-clause-image
scaling_of-requires-clause-image c = read_again c.args.image.now c.in_ok-sources.sources.view (sources_parts c.args.image.now c.args.machine.now c.args.loops.now c.in_ok-sources.sources c.in_ok-sources.ensures.sources).view_is

pub marked_of-requires-clause-image : goal.marked_of-requires-clause-image
marked_of-requires-clause-image c = read_again c.args.image.now c.in_ok-sources.sources.view (sources_parts c.args.image.now c.args.machine.now c.args.loops.now c.in_ok-sources.sources c.in_ok-sources.ensures.sources).view_is

pub scaling_of-requires-clause-marked : goal.scaling_of-requires-clause-marked
scaling_of-requires-clause-marked c = (c.in_ok-notes.notes, _, _, c.in_ok-marked.ensures)

pub returns-in_err-sources : goal.returns-in_err-sources
returns-in_err-sources c =
    let p = err_from_is_err_and c.from_residual.result c.from_residual.ensures.1 in
    rw (p.1, p.2) (stopped c.args.image.now c.args.machine.now c.args.loops.now c.args.marks.now.sites.now c.args.marks.now.counted c.args.marks.now.tallied.now c.args.marks.now.share c.in_err-sources.field-0.0 (files_stop c.args.image.now c.args.machine.now c.args.loops.now c.args.marks.now.sites.now c.args.marks.now.counted c.args.marks.now.tallied.now c.args.marks.now.share c.in_err-sources.field-0.0 c.in_err-sources.ensures.sources))

pub returns-in_err-marked : goal.returns-in_err-marked
returns-in_err-marked c =
    let p = err_from_is_err_and c.from_residual-in_err-marked.result c.from_residual-in_err-marked.ensures.1 in
    let s = c.in_ok-sources.sources in
    let stop = c.in_err-marked.field-0.0 in
    rw (p.1, p.2) (marked_stops c.args.image.now c.args.machine.now c.args.loops.now c.args.marks.now.sites.now c.args.marks.now.counted c.args.marks.now.tallied.now c.args.marks.now.share s stop c.in_ok-sources.ensures.sources
    (subst (λ (ns : List LoopNote). AnswersBy {X = Marked} {Y = Marked} (λ m. m) (Err c.in_err-marked.field-0.0) (IsMarkedFound s.power s.view ns c.args.marks.now.sites.now c.args.marks.now.tallied.now c.args.marks.now.share)) c.in_ok-notes.ensures c.in_err-marked.ensures))

pub returns-in_err-scaling : goal.returns-in_err-scaling
returns-in_err-scaling c =
    let p = err_from_is_err_and c.from_residual-in_err-scaling.result c.from_residual-in_err-scaling.ensures.1 in
    let s = c.in_ok-sources.sources in
    let m = c.in_ok-marked.marked in
    let stop = c.in_err-scaling.field-0.0 in
    rw (p.1, p.2) (scaling_stops c.args.image.now c.args.machine.now c.args.loops.now c.args.marks.now.sites.now c.args.marks.now.counted c.args.marks.now.tallied.now c.args.marks.now.share s m.graph m.tree stop c.in_ok-sources.ensures.sources
    (subst (λ (ns : List LoopNote). AnswersBy {X = Scaling} {Y = Scaling} (λ x. x) (Err c.in_err-scaling.field-0.0) (IsScalingFound s.power s.view ns m.graph m.tree (wanted_of m.graph m.tree c.args.marks.now.sites.now c.args.marks.now.tallied.now) (paced_rule s.power c.args.marks.now.share))) c.in_ok-notes.ensures
    (c.in_err-scaling.ensures c.in_ok-notes.notes _ _ c.in_ok-marked.ensures)))

pub returns : goal.returns
returns c =
    let s = c.in_ok-sources.sources in
    let m = c.in_ok-marked.marked in
    let are = sources_parts c.args.image.now c.args.machine.now c.args.loops.now s c.in_ok-sources.ensures.sources in
    record {
      power_is = are.power_is;
      in_range = c.in_ok-sources.ensures.in_range;
      view_is = are.view_is;
      unscaled = are.unscaled;
      notes = s.notes;
      notes_are = are.notes_are;
      marked = subst (λ (ns : List LoopNote). IsMarkedAs s.power s.view ns c.args.marks.now.sites.now c.args.marks.now.tallied.now c.args.marks.now.share m) c.in_ok-notes.ensures c.in_ok-marked.ensures;
      scaled = subst (λ (ns : List LoopNote). IsScaled s.power s.view ns m.graph m.tree (wanted_of m.graph m.tree c.args.marks.now.sites.now c.args.marks.now.tallied.now) (paced_rule s.power c.args.marks.now.share) c.in_ok-scaling.scaling) c.in_ok-notes.ensures
          (c.in_ok-scaling.ensures c.in_ok-notes.notes _ _ c.in_ok-marked.ensures);
    }
