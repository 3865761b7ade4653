-- The numbers of a program, and what stops them.
use Rattle.std.proofs.Common.{◌≡◌, ℕ, ◌<◌, ◌≤◌, true, cond, List, length, slice_get, Option, Some, None, Result, Ok, Err, inr, refl, sym, ap, ◌∙◌, subst, arith}
use Rattle.std.specs.Prelude.{nat_lt}
use Rattle.std.specs.Global.{Vec}
use Rattle.std.proofs.lemmas.Bool.{lt-ltb, le-ltb}
use Rattle.std.proofs.lemmas.Option.{get_or_from_slice_get}
use Rattle.scale_base.specs.declared.refusal.Refusal.{Refusal}
use Rattle.scale_base.specs.declared.refusal.Refusal.TheVariants.{DeadlineMissed, TooLong}
use Rattle.scale_base.specs.declared.refusal.Stop.{Stop}
use Rattle.scale_base.specs.declared.refusal.Stop.TheVariants.{Refused, Memory}
use Rattle.scale_base.specs.Answer.{AnswersBy}
use Rattle.scale_base.specs.Image.{Image}
use Rattle.power_model.specs.Numbers.{PowerModel}
use Rattle.power_model.specs.Price.{cycles_of, time_at}
use Rattle.power_model.specs.Slowest.{slowest_of, fastest}
use Rattle.cost_theory.specs.Accepted.{AreWeights}
use Rattle.cost_theory.specs.Worst.{Numbers, AreNumbers}
use Rattle.code_text.specs.Text.{text_of}
use Rattle.flow_graph.specs.FlowGraph.{FlowGraph, graph, IsGraphOf}
use Rattle.loop_file.specs.declared.notes.LoopNote.{LoopNote}
use Rattle.loop_forest.specs.Tree.{LoopView, loops, IsTreeOf}
use Rattle.worst_cycles.specs.Worst.{WorstView, by_edge, IsWorstFound}
use Rattle.worst_walks.specs.Whole.{AreWorstOf}
use Rattle.rewritten_runs.specs.Stubs.{plain_weights}
use Rattle.rewritten_runs.proofs.Laws.{listed_weights, weights_listed, weights_hold, numbers_listed}
use Rattle.scaler.specs.declared.timing.TimedProgram.{TimedProgram}
use Rattle.scaler.specs.Timed.{IsTimed}
use Rattle.scaler.proofs.Laws.{timed_plain, timed_total}
use Rattle.marked_images.specs.Scalings.{chosen_level, starting_of}
use Rattle.worst_reports.specs.declared.explained.Explained.{Explained}
use Rattle.worst_lines.specs.declared.shown.Line.{Line}
use Rattle.worst_reports.specs.Explained.{IsExplainedProgram, AreLinesIfFound}

module _ (power : PowerModel) (image : Image) (notes : List LoopNote) (p : TimedProgram) (h : IsTimed power image notes p) where
  abbrev v : FlowGraph
  v = p.graph

  abbrev t : LoopView
  t = p.tree

  abbrev ws : List ℕ
  ws = p.weights

  abbrev x : WorstView
  x = p.worst

  abbrev n : Numbers
  n = h.worst_is.numbers.0

  plain_is : by_edge ws ≡ plain_weights power image v
  plain_is = timed_plain power image notes p h

  pub tops : AreWorstOf (graph v) (loops v t) (by_edge ws) x.worst
  tops = record { numbers = n; are = h.worst_is.numbers.1; each = h.worst_is.numbers.2 }

  module _ (total : ℕ) (total_is : slice_get x.worst 0 ≡ Some total) where
    total_worst : total ≡ n.worst 0
    total_worst = timed_total power image notes p h total total_is

    pub plain_lines : (file : List ℕ) (o : Option (Vec Line)) → AreLinesIfFound file (graph v) (loops v t) (by_edge ws) total o → AreLinesIfFound file (graph v) (loops v t) (plain_weights power image v) (n.worst 0) o
    plain_lines file o h =
        subst (λ (f : ℕ → ℕ). AreLinesIfFound file (graph v) (loops v t) f (n.worst 0) o) plain_is (subst (λ k. AreLinesIfFound file (graph v) (loops v t) (by_edge ws) k o) total_worst h)
