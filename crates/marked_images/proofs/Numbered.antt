-- The numbers of a program, which are there for any weights.
use Rattle.std.proofs.Common.{ℕ, ◌≤◌, List, length, Ok, refl, subst}
use Rattle.scale_base.specs.Image.{Image}
use Rattle.power_model.specs.Numbers.{PowerModel}
use Rattle.cost_theory.proofs.Laws.{call_order, plain_order}
use Rattle.cost_theory.proofs.Laws as theory
use Rattle.cost_theory.specs.Worst.{Numbers, AreNumbers}
use Rattle.code_text.specs.Text.{text_of}
use Rattle.flow_graph.specs.FlowGraph.{FlowGraph, graph, IsGraphOf}
use Rattle.loop_file.specs.declared.notes.LoopNote.{LoopNote}
use Rattle.loop_file.specs.Kept.{noted_loops}
use Rattle.loop_forest.specs.Tree.{LoopView, loops, IsTreeOf}
use Rattle.scale_sites.specs.Counters.{AreCounters, counted_loops}
use Rattle.scale_base.specs.declared.fragments.Mark.{Mark}
use Rattle.rewritten_runs.specs.Stubs.{IsWeighed, marks_by_slack, plain_weights, stored_weights}

pub counted_as : (v : FlowGraph) (t : LoopView) (counted : List ℕ) → AreCounters v t (Ok counted) → AreCounters v t (Ok (counted_loops t))
counted_as v t counted h = (h.0, refl, subst (λ (l : List ℕ). length l ≤ 509) h.1 h.2)

module _ (power : PowerModel) (image : Image) (notes : List LoopNote) (v : FlowGraph) (t : LoopView) (is : IsGraphOf (text_of image) v) (tree : IsTreeOf v notes t) (counts : AreCounters v t (Ok (counted_loops t))) where
  abbrev marked : Numbers → ℕ → List Mark
  marked plain = marks_by_slack power image v t plain

  pub numbers_of : (w : ℕ → ℕ) → (n : Numbers) × AreNumbers (graph v) (loops v t) w n
  numbers_of w =
      let prog = is.flow.program in
      let acc = tree.tree.accepted in
      let p = plain_order (graph v) prog (loops v t) (noted_loops notes).inside acc in
      let o = call_order (graph v) prog in
      theory.numbers_exist (graph v) (loops v t) (noted_loops notes).inside w prog acc p.0 p.1.0 p.1.1 o.0 o.1

  pub weighed_by : (plain stored : Numbers) → AreNumbers (graph v) (loops v t) (plain_weights power image v) plain → AreNumbers (graph v) (loops v t) (stored_weights power image v (marked plain)) stored → IsWeighed power image notes v t plain stored
  weighed_by plain stored p s = record { code_is = is; tree_is = tree; counters = counts; plain_are = p; stored_are = s }
