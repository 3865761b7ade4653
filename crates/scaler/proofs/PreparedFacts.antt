-- A program that stands ready: its marks by slack, and what is given of them.
use Rattle.std.proofs.Common.{◌≡◌, ◌≤◌, ℕ, Bool, List, length, map, None, Result, Ok, Err, refl, sym, ap, ◌∙◌, subst, inr, inl}
use Rattle.std.specs.Prelude.{IfOk, Vec}
use Rattle.std.specs.declared.alloc.Global.{Global}
use Rattle.scale_base.specs.declared.refusal.Stop.{Stop}
use Rattle.scale_base.specs.declared.refusal.Stop.TheVariants.{Refused, Memory}
use Rattle.scale_base.specs.declared.summary.Summary.{Summary}
use Rattle.scale_base.specs.Answer.{AnswersBy, Stops}
use Rattle.scale_base.specs.Image.{Image, image_of}
use Rattle.power_model.specs.Numbers.{PowerModel}
use Rattle.cost_theory.specs.Graph.{Loops}
use Rattle.flow_graph.specs.FlowGraph.{graph}
use Rattle.loop_file.specs.declared.notes.LoopNote.{LoopNote}
use Rattle.loop_file.specs.Notes.{uncounted_note}
use Rattle.worst_cycles.specs.Worst.{WorstView, by_edge, IsLeftOf, IsWorstFound}
use Rattle.scale_sites.specs.Counters.{AreCounters, counted_loops}
use Rattle.scale_sites.specs.Sites.{SitesView, AreSites}
use Rattle.marked_images.specs.declared.stubs.Marking.{Marking}
use Rattle.marked_images.proofs.Laws.{counted_as, file_is, HoldAnswers, read_again}
use Rattle.program_sources.specs.declared.reading.Sources.{Sources}
use Rattle.program_sources.specs.Sources.{sources_of}
use Rattle.program_sources.proofs.Laws.{no_key, sources_parts}
use Rattle.scaler.specs.declared.preparing.LoopedGraph.{LoopedGraph}
use Rattle.scaler.specs.declared.preparing.PreparedProgram.{PreparedProgram}
use Rattle.scaler.specs.declared.timing.TimedProgram.{TimedProgram}
use Rattle.scaler.specs.Held.{IsHeld, IsHeldProgram}
use Rattle.scaler.specs.Prepared.{IsMarkingFrom, IsPrepared, IsPreparedFound, IsReady}
use Rattle.scaler.specs.Rewritten.{IsRewrittenProgram}
use Rattle.scaler.specs.RewrittenAs.{IsRewrittenAs, notes_with, with_gain}
use Rattle.scaler.specs.Scalings.{AreSitesFound, IsMarkedBySlack, IsMarkingBySlack}
use Rattle.scaler.specs.Timed.{IsTimedFound}
use Rattle.scaler.proofs.Given.{held_answer, held_stops, rewritten_as_goes}
use Rattle.scaler.proofs.ScalingFacts.{marking_stops}
use Rattle.scaler.proofs.SiteFacts.{sites_found}
use Rattle.scaler.proofs.Uncounted.{loops_kept}

-- ---- the marks

module _ (power : PowerModel) (image : Image) (notes : List LoopNote) (p : LoopedGraph) (x : WorstView) (h : IsReady power image notes p x) where
  pub counters_stop : (stop : Stop) → AnswersBy {X = List ℕ} {Y = List ℕ} (λ c. c) (Err stop) (AreCounters p.graph p.tree) → AnswersBy {X = Marking × ℕ} {Y = Marking × ℕ} (λ m. m) (Err stop) (IsMarkingFrom power image notes p)
  counters_stop Memory why = tt
  counters_stop (Refused refusal) why = inr (inr (inl (record { code = p.graph; tree = p.tree; refusal = refusal; code_is = h.code_is; tree_is = h.tree_is; why = why; answer_is = refl })))

  pub marking_given : AreCounters p.graph p.tree (Ok (counted_loops p.tree)) → (result : Result (Marking × ℕ) Stop) → AnswersBy {X = Marking × ℕ} {Y = Marking × ℕ} (λ m. m) result (IsMarkingBySlack power image p.graph p.tree)
      → AnswersBy {X = Marking × ℕ} {Y = Marking × ℕ} (λ m. m) result (IsMarkingFrom power image notes p)
  marking_given counts (Ok m) found = (counts, found)
  marking_given counts (Err (Refused refusal)) found = marking_stops power image notes p.graph p.tree h.code_is h.tree_is counts (Refused refusal) found
  marking_given counts (Err Memory) found = tt

  -- the counters are those of the counted loops
  pub counts_are : (counted : List ℕ) → AreCounters p.graph p.tree (Ok counted) → AreCounters p.graph p.tree (Ok (counted_loops p.tree))
  counts_are counted counts = counted_as p.graph p.tree counted counts

  pub sites_are : (counted : List ℕ) (s : SitesView) → AreCounters p.graph p.tree (Ok counted) → AreSites p.graph p.tree counted x.slacks power.min_gain s → AreSitesFound power image p.graph p.tree (Ok s)
  sites_are counted s counts are = sites_found power image p.graph p.tree h.weights h.code_is h.weights_are x counted s counts.1 h.worst_is h.left are

  pub marked_is : (marking : Marking) (start : ℕ) → IsMarkingFrom power image notes p (Ok ((marking, start))) → IsMarkedBySlack power image notes (record { graph = p.graph; tree = p.tree; marking = marking; start = start })
  marked_is marking start m = (m.1.0, m.1.1, record { code_is = h.code_is; tree_is = h.tree_is; counters = m.0; found = m.1.2 })

-- where the marks stop, the image does
pub marking_stopped : (power : PowerModel) (image : Image) (notes : List LoopNote) (p : LoopedGraph) (stop : Stop) → AnswersBy {X = Marking × ℕ} {Y = Marking × ℕ} (λ m. m) (Err stop) (IsMarkingFrom power image notes p) → HoldAnswers (Err stop) (IsRewrittenProgram power image notes)
marking_stopped power image notes p (Refused refusal) h = h
marking_stopped power image notes p Memory h = tt

-- ---- the program of three files

module _ (image machine loop_file : List ℕ) where
  pub sources_stop : (stop : Stop) → Stops stop (sources_of image machine loop_file) → AnswersBy {X = PreparedProgram} {Y = PreparedProgram} (λ p. p) (Err stop) (IsPreparedFound image machine loop_file)
  sources_stop (Refused refusal) why = held_stops image machine loop_file (Refused refusal) why
  sources_stop Memory why = tt

  pub program_stops : (s : Sources) (stop : Stop) → sources_of image machine loop_file ≡ Ok s → AnswersBy {X = TimedProgram} {Y = TimedProgram} (λ q. q) (Err stop) (IsTimedFound s.power s.view s.notes)
      → AnswersBy {X = PreparedProgram} {Y = PreparedProgram} (λ p. p) (Err stop) (IsPreparedFound image machine loop_file)
  program_stops s (Refused refusal) e why = held_answer image machine loop_file s (Err refusal) e why
  program_stops s Memory e why = tt

module _ (image machine loop_file : List ℕ) (p : PreparedProgram) (h : IsPrepared image machine loop_file p) where
  abbrev sources : Sources
  sources = record { power = p.power; view = p.view; notes = h.notes }

  view_is : image_of image ≡ Ok p.view
  view_is = (sources_parts image machine loop_file sources h.sources_are).view_is

  pub prepared_read : image_of p.view.file ≡ Ok p.view
  prepared_read = read_again image p.view view_is

  pub prepared_short : length image ≤ 4194304 → length p.view.file ≤ 4194304
  prepared_short short = subst (λ (f : List ℕ). length f ≤ 4194304) (sym (file_is image p.view view_is)) short

  pub prepared_unkeyed : p.view.keyed_segment ≡ None
  prepared_unkeyed = no_key p.view.keyed_segment (sources_parts image machine loop_file sources h.sources_are).unscaled

  pub held_given : {E : Type 0} (result : Result (Vec ℕ Global × Summary) E) → IfOk result (λ g. IsHeldProgram p.power p.view h.notes (Ok ((g.0.items, g.1)))) → IfOk result (λ g. IsHeld image machine loop_file (Ok ((g.0.items, g.1))))
  held_given (Ok g) is = held_answer image machine loop_file sources (Ok ((g.0.items, g.1))) h.sources_are is
  held_given (Err e) is = tt

module _ (image machine loop_file : List ℕ) (p : PreparedProgram) (h : IsPrepared image machine loop_file p) (min_gain : ℕ) where
  pub ready_noted : IsReady (with_gain p.power min_gain) p.view h.notes (record { graph = p.program.graph; tree = p.program.tree }) p.program.worst
  ready_noted = record {
    code_is = h.timed.code_is;
    tree_is = h.timed.tree_is;
    weights = p.program.weights;
    weights_are = h.timed.weights_are;
    worst_is = h.timed.worst_is;
    sizes = h.timed.sizes;
    left = h.timed.left;
  }

  pub ready_uncounted : IsReady (with_gain p.power min_gain) p.view (map uncounted_note h.notes) (record { graph = p.program.graph; tree = p.uncounted }) p.program.worst
  ready_uncounted =
      let v = p.program.graph in
      let x = p.program.worst in
      let same = loops_kept v h.notes p.program.tree h.timed.tree_is p.view h.timed.code_is p.uncounted h.uncounted in
      record {
        code_is = h.timed.code_is;
        tree_is = h.uncounted;
        weights = p.program.weights;
        weights_are = h.timed.weights_are;
        worst_is = subst (λ (l : Loops). IsWorstFound (graph v) l (by_edge p.program.weights) (Ok x)) same h.timed.worst_is;
        sizes = h.timed.sizes;
        left = subst (λ (l : Loops). IsLeftOf v l (by_edge p.program.weights) x) same h.timed.left;
      }

  pub prepared_given : (counters : Bool) (result : Result (Vec ℕ Global × Summary) Stop) → HoldAnswers result (IsRewrittenProgram (with_gain p.power min_gain) p.view (notes_with counters h.notes)) → HoldAnswers result (IsRewrittenAs image machine loop_file min_gain counters)
  prepared_given counters result is = rewritten_as_goes image machine loop_file min_gain counters (sources image machine loop_file p h) result h.sources_are is

-- a least gain that is put back
pub power_back : (power first last : PowerModel) (min_gain own : ℕ) → own ≡ power.min_gain → first ≡ with_gain power min_gain → last ≡ with_gain first own → last ≡ power
power_back power first last min_gain own e there back = back ∙ (ap (λ (q : PowerModel). with_gain q own) there ∙ ap (with_gain (with_gain power min_gain)) e)
