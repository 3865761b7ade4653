-- The marks of a program, from the slacks under the plain weights.
use Rattle.std.proofs.Common.{◌≡◌, ℕ, ◌<◌, List, [], length, Ok, Err, sym, ap, ◌∙◌, subst, arith}
use Rattle.std.specs.Prelude.{slice_index}
use Rattle.std.proofs.lemmas.Option.{get_or_from_slice_get}
use Rattle.scale_base.specs.declared.refusal.Stop.{Stop}
use Rattle.scale_base.specs.declared.refusal.Stop.TheVariants.{Refused, Memory}
use Rattle.scale_base.specs.Answer.{AnswersBy}
use Rattle.scale_base.specs.Image.{Image}
use Rattle.power_model.specs.Numbers.{PowerModel}
use Rattle.power_model.specs.Price.{cycles_of}
use Rattle.cost_theory.specs.Worst.{Numbers, AreNumbers}
use Rattle.code_text.specs.Text.{text_of}
use Rattle.flow_graph.specs.FlowGraph.{FlowGraph, graph, IsGraphOf}
use Rattle.loop_forest.specs.Tree.{LoopView, loops}
use Rattle.worst_cycles.specs.Worst.{WorstView, by_edge, slack_at, HoldsLeft, IsWorstFound}
use Rattle.scale_sites.specs.Counters.{counted_loops}
use Rattle.scale_sites.specs.Marks.{marks_of}
use Rattle.scale_sites.specs.Sites.{SitesView, AreSites, is_branch, marks_at_edge, marks_by}
use Rattle.scale_sites.specs.Weights.{jumps_of}
use Rattle.rewritten_runs.specs.Stubs.{plain_weights, marks_by_slack}
use Rattle.rewritten_runs.proofs.Laws.{listed_weights, weights_listed}
use Rattle.marked_images.specs.Wanted.{marked_where}
use Rattle.marked_images.proofs.Laws.{jumps_same}
use Rattle.scaler.specs.Scalings.{AreSitesFound, wanted_by_slack}
use Rattle.scaler.proofs.SlackMarks.{chooses, marks_at_are}

module _ (power : PowerModel) (image : Image) (v : FlowGraph) (t : LoopView) (ws : List ℕ) (is : IsGraphOf (text_of image) v) (listed : ws ≡ listed_weights v (cycles_of power.costs)) where
  pub plain_is : by_edge ws ≡ plain_weights power image v
  plain_is = ap by_edge listed ∙ weights_listed (text_of image) v (cycles_of power.costs) is

  pub plain_numbers : (n : Numbers) → AreNumbers (graph v) (loops v t) (by_edge ws) n → AreNumbers (graph v) (loops v t) (plain_weights power image v) n
  plain_numbers n h = subst (λ (w : ℕ → ℕ). AreNumbers (graph v) (loops v t) w n) plain_is h

  -- where the numbers stop, the marks do
  pub sites_stop : (stop : Stop) → AnswersBy {X = WorstView} {Y = WorstView} (λ n. n) (Err stop) (IsWorstFound (graph v) (loops v t) (by_edge ws)) → AnswersBy {X = SitesView} {Y = SitesView} (λ s. s) (Err stop) (AreSitesFound power image v t)
  sites_stop (Refused refusal) h = (h.0, (h.1.0, plain_numbers h.1.0 h.1.1, omega (arith, h.1.2)))
  sites_stop Memory h = tt

  pub sites_found : (x : WorstView) (counted : List ℕ) (s : SitesView) → counted ≡ counted_loops t → IsWorstFound (graph v) (loops v t) (by_edge ws) (Ok x) → ((n : Numbers) → AreNumbers (graph v) (loops v t) (by_edge ws) n → HoldsLeft v (loops v t) (by_edge ws) n x)
      → AreSites v t counted x.slacks power.min_gain s → AreSitesFound power image v t (Ok s)
  sites_found x counted s same found left are =
      (n, plain_numbers n found.numbers.1, record { kinds = chooses power image v t n; size = are.marks_size; marks = wanted_marks; jumps = jumps })
    where
      n : Numbers
      n = found.numbers.0

      slack_is : (e : ℕ) → e < length v.code.edges → slice_index x.slacks e ≡ slack_at (graph v) (loops v t) (plain_weights power image v) n e
      slack_is e lt = get_or_from_slice_get x.slacks e (slack_at (graph v) (loops v t) (by_edge ws) n e) 0 ((left n found.numbers.1).slack e lt) ∙ ap (λ w. slack_at (graph v) (loops v t) w n e) plain_is

      marks : (e : ℕ) → e < length v.code.edges → marks_at_edge s e ≡ marks_by_slack power image v t n e
      marks e lt =
          get_or_from_slice_get s.marks e (marks_by v t counted x.slacks power.min_gain e) [] (are.marks e lt)
          ∙ (ap (λ cs. marks_of (graph v) (loops v t) cs (is_branch v e) (slice_index x.slacks e) power.min_gain e) same
          ∙ ap (λ q. marks_of (graph v) (loops v t) (counted_loops t) (is_branch v e) q power.min_gain e) (slack_is e lt))

      wanted_marks : (e : ℕ) → e < length v.code.edges → marks_at_edge s e ≡ marked_where v t (wanted_by_slack power image v t n) e
      wanted_marks e lt = marks e lt ∙ sym (marks_at_are power image v t n e)

      jumps : (e : ℕ) → e < length v.code.edges → slice_index s.jumps e ≡ jumps_of (graph v) (is_branch v) (marked_where v t (wanted_by_slack power image v t n)) e
      jumps e lt = get_or_from_slice_get s.jumps e (jumps_of (graph v) (is_branch v) (marks_at_edge s) e) 0 (are.jumps e lt) ∙ jumps_same (graph v) (is_branch v) (marks_at_edge s) (marked_where v t (wanted_by_slack power image v t n)) e wanted_marks
