-- The numbers of a program, and what stops them.
use Rattle.std.proofs.Common.{◌≡◌, ℕ, ◌<◌, List, length, slice_get, Some, ◌∙◌, subst, arith}
use Rattle.std.proofs.lemmas.List.{length-map}
use Rattle.scale_base.specs.Image.{Image}
use Rattle.power_model.specs.Numbers.{PowerModel}
use Rattle.graph_algorithms.specs.Arcs.{number_in_place}
use Rattle.cost_theory.specs.Worst.{Numbers}
use Rattle.cycle_laws.specs.Charged.{Charged, AreCharged}
use Rattle.flow_graph.specs.FlowGraph.{FlowGraph, graph}
use Rattle.loop_file.specs.declared.notes.LoopNote.{LoopNote}
use Rattle.loop_forest.specs.Noted.{node_address}
use Rattle.loop_forest.specs.Tree.{LoopView, loops}
use Rattle.worst_cycles.specs.Worst.{WorstView, by_edge, HoldsLeft}
use Rattle.least_cycles.specs.Found.{HasWorstInRange}
use Rattle.rewritten_runs.specs.Stubs.{plain_weights}
use Rattle.scaler.specs.declared.timing.TimedProgram.{TimedProgram}
use Rattle.scaler.specs.Timed.{IsTimed}
use Rattle.scaler.proofs.Laws.{timed_plain, timed_short}

module _ (power : PowerModel) (image : Image) (notes : List LoopNote) (p : TimedProgram) (h : IsTimed power image notes p) where
  abbrev v : FlowGraph
  v = p.graph

  abbrev t : LoopView
  t = p.tree

  abbrev ws : List ℕ
  ws = p.weights

  abbrev x : WorstView
  x = p.worst

  abbrev n : Numbers
  n = h.worst_is.numbers.0

  plain_is : by_edge ws ≡ plain_weights power image v
  plain_is = timed_plain power image notes p h

  pub plain_least : (n : Charged) → AreCharged (graph v) (loops v t) (number_in_place ws) n → AreCharged (graph v) (loops v t) (plain_weights power image v) n
  plain_least n h = subst (λ (f : ℕ → ℕ). AreCharged (graph v) (loops v t) f n) plain_is h

  pub plain_left : (n : Numbers) (x : WorstView) → HoldsLeft v (loops v t) (by_edge ws) n x → HoldsLeft v (loops v t) (plain_weights power image v) n x
  plain_left n x h = subst (λ (f : ℕ → ℕ). HoldsLeft v (loops v t) f n x) plain_is h

  pub in_range : HasWorstInRange v (loops v t) (number_in_place ws)
  in_range = (n, h.worst_is.numbers.1, timed_short power image notes p h)

  count : (loops v t).loops ≡ length t.headers
  count = length-map t.headers (node_address v)

  pub turns_size : length x.iteration ≡ length t.headers
  turns_size = h.worst_is.loops_size ∙ count

  pub turn_at : (k : ℕ) → k < length t.headers → slice_get x.iteration k ≡ Some (n.iteration k)
  turn_at k lt = h.worst_is.numbers.3 k (let c = count in omega (arith, c, lt))
