-- Where the marks by slack stop, their numbers do.
use Rattle.std.proofs.Common.{ℕ, List, Result, Ok, Err, arith, inl}
use Rattle.scale_base.specs.declared.refusal.Refusal.{Refusal}
use Rattle.scale_base.specs.declared.refusal.Stop.{Stop}
use Rattle.scale_base.specs.declared.refusal.Stop.TheVariants.{Refused, Memory}
use Rattle.scale_base.specs.Answer.{AnswersBy}
use Rattle.scale_base.specs.Image.{Image}
use Rattle.power_model.specs.Numbers.{PowerModel}
use Rattle.cost_theory.specs.Worst.{Numbers}
use Rattle.code_text.specs.Text.{text_of}
use Rattle.flow_graph.specs.FlowGraph.{FlowGraph, graph, IsGraphOf}
use Rattle.loop_file.specs.declared.notes.LoopNote.{LoopNote}
use Rattle.loop_forest.specs.Tree.{LoopView, loops, IsTreeOf}
use Rattle.scale_sites.specs.Counters.{AreCounters, counted_loops}
use Rattle.scale_sites.specs.Sites.{SitesView}
use Rattle.rewritten_runs.specs.Stubs.{plain_weights, stored_weights}
use Rattle.rewritten_runs.proofs.Laws.{worst_grows}
use Rattle.marked_images.specs.declared.stubs.Marking.{Marking}
use Rattle.marked_images.specs.Wanted.{marked_where}
use Rattle.marked_images.proofs.Laws.{numbers_of}
use Rattle.marked_images.specs.Scalings.{IsMarkingFound}
use Rattle.marked_images.specs.Stored.{by_deadline}
use Rattle.scaler.specs.Scalings.{ArePlain, AreSitesFound, IsMarkingBySlack, wanted_by_slack}

module _ (power : PowerModel) (image : Image) (notes : List LoopNote) (v : FlowGraph) (t : LoopView) (is : IsGraphOf (text_of image) v) (tree : IsTreeOf v notes t) (counts : AreCounters v t (Ok (counted_loops t))) where
  -- too long under the plain weights is too long under the stored ones
  long_before : (refusal : Refusal) → AreSitesFound power image v t (Err refusal) → IsMarkingBySlack power image v t (Err refusal)
  long_before refusal h =
      let plain = h.1.0 in
      let weights = stored_weights power image v (marked_where v t (wanted_by_slack power image v t plain)) in
      let s = numbers_of power image notes v t is tree counts weights in
      let le = worst_grows (graph v) (loops v t) is.flow.program (plain_weights power image v) weights plain s.0 h.1.1.worst s.1.worst (λ e lt. omega arith) 0 is.flow.program.main in
      let long = h.1.2 in
      (plain, h.1.1, (s.0, record { stored_are = s.1; why = inl ((omega (arith, le, long)), h.0) }))

  pub sites_stopped : (stop : Stop) → AnswersBy {X = SitesView} {Y = SitesView} (λ s. s) (Err stop) (AreSitesFound power image v t) → AnswersBy {X = Marking × ℕ} {Y = Marking × ℕ} (λ x. x) (Err stop) (IsMarkingBySlack power image v t)
  sites_stopped Memory h = tt
  sites_stopped (Refused refusal) h = long_before refusal h

-- the marking of the marks by slack
pub marks_found : (power : PowerModel) (image : Image) (v : FlowGraph) (t : LoopView) (plain : Numbers) → ArePlain power image v t plain → (result : Result (Marking × ℕ) Stop)
    → AnswersBy {X = Marking × ℕ} {Y = Marking × ℕ} (λ x. x) result (IsMarkingFound power image v t (wanted_by_slack power image v t plain) (by_deadline power)) → AnswersBy {X = Marking × ℕ} {Y = Marking × ℕ} (λ x. x) result (IsMarkingBySlack power image v t)
marks_found power image v t plain are (Ok x) h = (plain, are, h)
marks_found power image v t plain are (Err (Refused refusal)) h = (plain, are, h)
marks_found power image v t plain are (Err Memory) h = tt
