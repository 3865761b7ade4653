-- The numbers, the marks and the walk of a program, and what stops them.
use Rattle.std.proofs.Common.{◌≡◌, ℕ, ◌<◌, ◌≤◌, true, cond, List, [], length, slice_get, Option, Some, None, Result, Ok, Err, inr, refl, sym, ap, ◌∙◌, subst, arith}
use Rattle.std.specs.Prelude.{nat_lt, slice_index, is_some, IfSome, IfOk}
use Rattle.std.proofs.lemmas.Bool.{lt-ltb, le-ltb}
use Rattle.std.proofs.lemmas.List.{length-map}
use Rattle.std.proofs.lemmas.Option.{get_or_from_slice_get}
use Rattle.scale_base.specs.declared.refusal.Refusal.{Refusal}
use Rattle.scale_base.specs.declared.refusal.Refusal.TheVariants.{DeadlineMissed, TooLong}
use Rattle.scale_base.specs.declared.refusal.NoMemory.{NoMemory}
use Rattle.scale_base.specs.declared.refusal.Stop.{Stop}
use Rattle.scale_base.specs.declared.refusal.Stop.TheVariants.{Refused, Memory}
use Rattle.scale_base.specs.Answer.{AnswersBy}
use Rattle.scale_base.specs.Image.{Image}
use Rattle.scale_base.specs.declared.fragments.Mark.{Mark}
use Rattle.power_model.specs.Numbers.{PowerModel}
use Rattle.power_model.specs.Price.{cycles_of, time_at}
use Rattle.power_model.specs.Slowest.{slowest_of, fastest}
use Rattle.cost_theory.specs.Accepted.{AreWeights}
use Rattle.cost_theory.specs.Worst.{Numbers, AreNumbers}
use Rattle.code_text.specs.Text.{text_of}
use Rattle.flow_graph.specs.FlowGraph.{FlowGraph, graph, IsGraphOf}
use Rattle.loop_file.specs.declared.notes.LoopNote.{LoopNote}
use Rattle.loop_forest.specs.Noted.{node_address}
use Rattle.loop_forest.specs.Tree.{LoopView, loops, IsTreeOf}
use Rattle.worst_cycles.specs.Worst.{WorstView, by_edge, slack_at, HoldsLeft, IsWorstFound}
use Rattle.scale_sites.specs.Counters.{AreCounters, counted_loops}
use Rattle.scale_sites.specs.Marks.{marks_of}
use Rattle.scale_sites.specs.Sites.{SitesView, is_branch, marks_by, marks_at_edge, AreSites}
use Rattle.rewritten_runs.specs.Stubs.{plain_weights, marks_by_slack}
use Rattle.rewritten_runs.proofs.Laws.{listed_weights, weights_listed, weights_hold, numbers_listed}
use Rattle.scaler.specs.declared.timing.TimedProgram.{TimedProgram}
use Rattle.scaler.specs.Timed.{IsTimed}
use Rattle.scaler.proofs.Laws.{timed_plain, timed_total}
use Rattle.marked_images.specs.Scalings.{chosen_level, starting_of}
use Rattle.worst_walks.specs.declared.counts.WalkCounts.{WalkCounts}
use Rattle.worst_walks.specs.declared.search.Known.{Known}
use Rattle.worst_walks.specs.Explained.{IsWorstWalk}
use Rattle.plan_graphs.specs.declared.plan.PlanGraph.{PlanGraph}
use Rattle.plan_graphs.specs.declared.sketch.Marked.{Marked}
use Rattle.plan_graphs.specs.Drawn.{Told}
use Rattle.plan_graphs.specs.Sketched.{AreMarksKept, AreMarkedBy, IsSketched, HoldsTold, ArePartsDrawn, AreKnownDrawn, marks_kept, taken_kept, calls_kept, turns_kept}
use Rattle.plan_graphs.specs.Program.{AreMarksDrawn, IsWalkDrawn, IsDrawnProgram}

-- what is drawn of a sketch is what is drawn of the program that is known
pub known_drawn : (x : Known) (marked : Option Marked) (worst : ℕ) (walk : Option WalkCounts) (result : Result PlanGraph NoMemory)
    → IfSome walk (λ y. IsWorstWalk (graph x.graph.now) (loops x.graph.now x.tree.now) (by_edge x.weights.now) worst y)
    → IfOk result (λ plan. plan.walked ≡ is_some walk) → IfOk result (λ plan. plan.countable ≡ is_some marked)
    → IfOk result (λ plan. (told : Told) → HoldsTold x.graph.now x.tree.now x.worst.now marked walk told → ArePartsDrawn x.graph.now x.tree.now x.worst.now told plan)
    → IfOk result (λ plan. AreKnownDrawn x marked worst plan)
known_drawn x marked worst walk (Ok plan) is_walk walked countable drawn = record { walk = walk; is_walk = is_walk; walked = walked; countable = countable; drawn = drawn }
known_drawn x marked worst walk (Err stop) is_walk walked countable drawn = tt

-- all that is told of a program
abbrev pub told_of : Numbers → Option Marked → Option WalkCounts → Told
told_of n marked walk = record { numbers = n; marks = marks_kept marked; taken = taken_kept walk; calls = calls_kept walk; turns = turns_kept walk }

module _ (power : PowerModel) (image : Image) (notes : List LoopNote) (p : TimedProgram) (h : IsTimed power image notes p) where
  abbrev v : FlowGraph
  v = p.graph

  abbrev t : LoopView
  t = p.tree

  abbrev ws : List ℕ
  ws = p.weights

  abbrev x : WorstView
  x = p.worst

  abbrev n : Numbers
  n = h.worst_is.numbers.0

  plain_is : by_edge ws ≡ plain_weights power image v
  plain_is = timed_plain power image notes p h

  count : (loops v t).loops ≡ length t.headers
  count = length-map t.headers (node_address v)

  pub turns_size : length x.iteration ≡ length t.headers
  turns_size = h.worst_is.loops_size ∙ count

  turn_at : (k : ℕ) → k < length t.headers → slice_get x.iteration k ≡ Some (n.iteration k)
  turn_at k lt = h.worst_is.numbers.3 k (let c = count in omega (arith, c, lt))

  -- ---- what is kept

  pub marks_kept_at : (slacks : List ℕ) (min_gain : ℕ) (marked : Option Marked) → AreMarkedBy v t slacks min_gain marked → AreMarksKept v t marked
  marks_kept_at slacks min_gain None are = tt
  marks_kept_at slacks min_gain (Some m) are = (are.0.1, are.1.marks_size)

  pub holds : (marked : Option Marked) (walk : Option WalkCounts) → HoldsLeft v (loops v t) (by_edge ws) n x → HoldsTold v t x marked walk (told_of n marked walk)
  holds marked walk left = record {
    rest = left.rest;
    context = left.context;
    worst = h.worst_is.numbers.2;
    turn = turn_at;
    marks = λ e. refl;
    taken = λ e. refl;
    calls = λ f. refl;
    turns = λ k. refl;
  }

  -- ---- what is drawn

  pub marks_drawn : (marked : Option Marked) → HoldsLeft v (loops v t) (by_edge ws) n x → AreMarkedBy v t x.slacks power.min_gain marked → AreMarksDrawn power image v t n (is_some marked) (marks_kept marked)
  marks_drawn None left are = (are, λ e. refl)
  marks_drawn (Some m) left are = (
    subst (λ c. AreCounters v t (Ok c)) are.0.1 are.0,
    λ e lt.
        get_or_from_slice_get m.sites.marks e (marks_by v t m.counters x.slacks power.min_gain e) [] (are.1.marks e lt)
        ∙ (ap (λ cs. marks_of (graph v) (loops v t) cs (is_branch v e) (slice_index x.slacks e) power.min_gain e) are.0.1
        ∙ ap (λ q. marks_of (graph v) (loops v t) (counted_loops t) (is_branch v e) q power.min_gain e) (slack_is e lt)),
  )
    where
      slack_is : (e : ℕ) → e < length v.code.edges → slice_index x.slacks e ≡ slack_at (graph v) (loops v t) (plain_weights power image v) n e
      slack_is e lt = get_or_from_slice_get x.slacks e (slack_at (graph v) (loops v t) (by_edge ws) n e) 0 (left.slack e lt) ∙ ap (λ w. slack_at (graph v) (loops v t) w n e) plain_is

  module _ (total : ℕ) (total_is : slice_get x.worst 0 ≡ Some total) where
    total_worst : total ≡ n.worst 0
    total_worst = timed_total power image notes p h total total_is

    pub walk_drawn : (marked : Option Marked) (walk : Option WalkCounts) → IfSome walk (λ y. IsWorstWalk (graph v) (loops v t) (by_edge ws) total y)
        → IsWalkDrawn v t (plain_weights power image v) (n.worst 0) (is_some walk) (told_of n marked walk)
    walk_drawn marked None is_walk = (λ e. refl, λ f. refl, λ k. refl)
    walk_drawn marked (Some y) is_walk = (
      y,
      subst (λ w. IsWorstWalk (graph v) (loops v t) w (n.worst 0) y) plain_is (subst (λ m. IsWorstWalk (graph v) (loops v t) (by_edge ws) m y) total_worst is_walk),
      λ e. refl,
      λ f. refl,
      λ k. refl,
    )
