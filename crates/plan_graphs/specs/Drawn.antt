-- What is drawn of a program: its basic blocks (Aho, Lam, Sethi and Ullman, Compilers, section 8.4.1), its functions and its loops.
use Rattle.std.specs.Prelude.{◌≡◌, ℕ, ◌+◌, ◌-◌, ◌<◌, ◌≤◌, ◌↔◌, true, false, cond, List, [], ◌∷◌, map, length, slice_get, option_map, Option, Some, None}
use Rattle.scale_base.specs.declared.ranges.Range.{Range}
use Rattle.scale_base.specs.declared.fragments.Mark.{Mark}
use Rattle.scale_base.specs.declared.fragments.Mark.TheVariants as marks
use Rattle.cost_theory.specs.Graph.{Graph, Loops}
use Rattle.cost_theory.specs.Accepted.{IsWithin}
use Rattle.cost_theory.specs.Lists.{is_among}
use Rattle.cost_theory.specs.Worst.{Numbers}
use Rattle.worst_cycles.specs.Worst.{rest_at}
use Rattle.flow_graph.specs.FlowGraph.{FlowGraph, graph}
use Rattle.flow_graph.specs.Blocks.{IsInBlock}
use Rattle.loop_forest.specs.Tree.{LoopView, loops}
use Rattle.scale_sites.specs.Counters.{counted_loops}
use Rattle.scale_sites.specs.Marks.{first_counter}
use Rattle.plan_graphs.specs.declared.plan.Leads.{Leads}
use Rattle.plan_graphs.specs.declared.plan.Leads.TheVariants as leads
use Rattle.plan_graphs.specs.declared.plan.DrawnMark.{DrawnMark}
use Rattle.plan_graphs.specs.declared.plan.DrawnEdge.{DrawnEdge}
use Rattle.plan_graphs.specs.declared.plan.DrawnCall.{DrawnCall}
use Rattle.plan_graphs.specs.declared.plan.DrawnBlock.{DrawnBlock}
use Rattle.plan_graphs.specs.declared.plan.DrawnFunction.{DrawnFunction}
use Rattle.plan_graphs.specs.declared.plan.DrawnLoop.{DrawnLoop}

-- So many things are drawn, each number below as one of them, in their order.
pub record AreDrawn {A : Type 0} (Is : ℕ → A → Type 0) (count : ℕ) (items : List A) : Type 0 where
  pub size : length items ≡ count
  pub each : (k : ℕ) (x : A) → slice_get items k ≡ Some x → Is k x

-- What of a program is drawn besides its graph and its loops: its numbers, by edge its marks and how often a walk takes it, by function how often the walk calls it, and by
-- loop how many turns it takes.
pub record Told : Type 0 where
  pub numbers : Numbers
  pub marks : ℕ → List Mark
  pub taken : ℕ → ℕ
  pub calls : ℕ → ℕ
  pub turns : ℕ → ℕ

-- ---- edges

-- Where an edge leads: to a node, or to none; then it is a return of its function, an exit of the program, or neither.
abbrev pub IsLedTo : Graph → ℕ → Leads → Type 0
IsLedTo g e (leads.Block at) = g.target e ≡ Some at
IsLedTo g e leads.Return = (g.target e ≡ None) × (g.returns e ≡ true)
IsLedTo g e leads.Exit = (g.target e ≡ None) × (g.returns e ≡ false) × (g.exits e ≡ true)
IsLedTo g e leads.Nowhere = (g.target e ≡ None) × (g.returns e ≡ false) × (g.exits e ≡ false)

-- The cycles that are left at most of the program behind an edge: behind a return those that its function's callers have left, and none where a run ends.
abbrev pub left_behind : Graph → Loops → Numbers → ℕ → ℕ
left_behind g l n e = cond (g.returns e) (n.context (g.owner (g.source e))) (rest_at g l n e)

-- a mark, with the loop of its counter
abbrev pub counted_of : List ℕ → Mark → Option ℕ
counted_of counted marks.Switch = None
counted_of counted marks.Lowest = None
counted_of counted (marks.Exit counter) = slice_get counted (counter - first_counter)
counted_of counted (marks.Reset counter) = slice_get counted (counter - first_counter)
counted_of counted (marks.Count counter) = slice_get counted (counter - first_counter)
counted_of counted (marks.Tally counter) = slice_get counted (counter - first_counter)

abbrev pub drawn_mark : List ℕ → Mark → DrawnMark
drawn_mark counted mark = record { mark = mark; counted = counted_of counted mark }

pub record IsEdgeDrawn (v : FlowGraph) (t : LoopView) (told : Told) (e : ℕ) (x : DrawnEdge) : Type 0 where
  pub edge : slice_get v.code.edges e ≡ Some x.edge
  pub leads : IsLedTo (graph v) e x.leads
  pub left : x.left ≡ left_behind (graph v) (loops v t) told.numbers e
  pub marks : x.marks.items ≡ map (drawn_mark (counted_loops t)) (told.marks e)
  pub taken : x.taken ≡ told.taken e

-- All edges that start at a node, each once and in their order, from one number on.
pub record AreEdgesFrom (v : FlowGraph) (t : LoopView) (told : Told) (at : ℕ) (xs : List DrawnEdge) : Type 0 where
  pub first : ℕ
  pub each : (k : ℕ) (x : DrawnEdge) → slice_get xs k ≡ Some x → IsEdgeDrawn v t told (first + k) x
  pub all : (e : ℕ) → e < length v.code.edges → ((graph v).source e ≡ at) ↔ ((first ≤ e) × (e < first + length xs))

-- ---- blocks

-- the most that is left behind one of some edges, of which there is one
pub record IsMostLeft (xs : List DrawnEdge) (left : ℕ) : Type 0 where
  pub above : (k : ℕ) (x : DrawnEdge) → slice_get xs k ≡ Some x → x.left ≤ left
  pub one : (k : ℕ) × (x : DrawnEdge) × (slice_get xs k ≡ Some x) × (x.left ≡ left)

-- loops that lie within loop k
abbrev pub AreWithin : Loops → ℕ → List ℕ → Type 0
AreWithin l k [] = Unit {0}
AreWithin l k (j ∷ js) = IsWithin l j k × AreWithin l k js

-- each loop lies within those before it
abbrev pub AreNestedIn : Loops → List ℕ → Type 0
AreNestedIn l [] = Unit {0}
AreNestedIn l (k ∷ ks) = AreWithin l k ks × AreNestedIn l ks

-- The loops round a node, exactly those whose body holds it, the outermost first. None is there twice, since no loop lies within itself.
pub record AreLoopsRound (l : Loops) (at : ℕ) (ks : List ℕ) : Type 0 where
  pub within : (k : ℕ) → is_among k ks ≡ true → (k < l.loops) × (l.inside k at ≡ true)
  pub whole : (k : ℕ) → k < l.loops → l.inside k at ≡ true → is_among k ks ≡ true
  pub nested : AreNestedIn l ks

-- the function that is called at a node, by the edges that start there
abbrev pub IsCalledAt : FlowGraph → ℕ → Option DrawnCall → Type 0
IsCalledAt v at call = (e : ℕ) → e < length v.code.edges → (graph v).source e ≡ at →
    call ≡ option_map (λ f. record { function = f; entry = (graph v).entry f }) ((graph v).callee e)

-- Block b: its last instruction is the one before its end.
pub record IsBlockDrawn (v : FlowGraph) (t : LoopView) (told : Told) (b : ℕ) (x : DrawnBlock) : Type 0 where
  pub range : slice_get v.blocks b ≡ Some x.range
  pub function : x.function ≡ (graph v).owner x.range.from
  pub around : (at : ℕ) → IsInBlock x.range at → AreLoopsRound (loops v t) at x.around.items
  pub edges : AreEdgesFrom v t told (x.range.to - 4) x.edges.items
  pub left : IsMostLeft x.edges.items x.left
  pub call : IsCalledAt v (x.range.to - 4) x.call

-- ---- functions and loops

pub record IsFunctionDrawn (v : FlowGraph) (told : Told) (f : ℕ) (x : DrawnFunction) : Type 0 where
  pub number : x.number ≡ f
  pub entry : x.entry ≡ (graph v).entry f
  pub worst : x.worst ≡ told.numbers.worst f
  pub calls : x.calls ≡ told.calls f

pub record IsLoopDrawn (v : FlowGraph) (t : LoopView) (told : Told) (l : ℕ) (x : DrawnLoop) : Type 0 where
  pub number : x.number ≡ l
  pub header : x.header ≡ (loops v t).header l
  pub bound : x.bound ≡ (loops v t).bound l
  pub turn : x.turn ≡ told.numbers.iteration l
  pub function : x.function ≡ (graph v).owner ((loops v t).header l)
  pub around : AreLoopsRound (loops v t) ((loops v t).header l) x.around.items
  pub turns : x.turns ≡ told.turns l
