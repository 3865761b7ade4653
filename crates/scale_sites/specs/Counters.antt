-- The counted loops of a program, which take the shadow counters in their order.
use Rattle.std.specs.Prelude.{◌≡◌, ℕ, ◌+◌, ◌<◌, ◌≤◌, ◌⊎◌, Bool, true, false, List, [], ◌∷◌, length, slice_get, Option, Some, None, Result, Ok, Err}
use Rattle.scale_base.specs.declared.refusal.Refusal.{Refusal}
use Rattle.scale_base.specs.declared.refusal.Refusal.TheVariants.{Uncountable, TooManyCounters}
use Rattle.scale_base.specs.declared.edges.Edge.{Edge}
use Rattle.scale_base.specs.declared.edges.EdgeKind.{EdgeKind}
use Rattle.scale_base.specs.declared.edges.EdgeKind.TheVariants.{Taken, Untaken, Jump, Next, CallNext, End}
use Rattle.cost_theory.specs.Graph.{is_back}
use Rattle.flow_graph.specs.FlowGraph.{FlowGraph, graph}
use Rattle.loop_forest.specs.Tree.{LoopView, loops}

-- the numbers of the flags that are set, from a number on
abbrev pub set_from : ℕ → List Bool → List ℕ
set_from i [] = []
set_from i (true ∷ flags) = i ∷ set_from (i + 1) flags
set_from i (false ∷ flags) = set_from (i + 1) flags

-- the counted loops, in the loops' order
abbrev pub counted_loops : LoopView → List ℕ
counted_loops t = set_from 0 t.counted

-- whether an edge goes on to the next instruction, so that its instruction can't be patched
abbrev pub goes_on : EdgeKind → Bool
goes_on Next = true
goes_on CallNext = true
goes_on Taken = false
goes_on Untaken = false
goes_on Jump = false
goes_on End = false

abbrev pub edge_goes_on : Option Edge → Bool
edge_goes_on None = false
edge_goes_on (Some e) = goes_on e.kind

-- edge e is a back edge of loop k, which is counted, and goes on to the next instruction
pub record IsUncountable (v : FlowGraph) (t : LoopView) (k e : ℕ) : Type 0 where
  pub edge : e < length v.code.edges
  pub within : k < length t.headers
  pub back : is_back (graph v) (loops v t) k e ≡ true
  pub counted : slice_get t.counted k ≡ Some true
  pub on : edge_goes_on (slice_get v.code.edges e) ≡ true

-- the least such loop, and the least such edge of it
pub record IsFirstUncountable (v : FlowGraph) (t : LoopView) (k e : ℕ) : Type 0 where
  pub is : IsUncountable v t k e
  pub least : (j d : ℕ) → IsUncountable v t j d → (k < j) ⊎ ((k ≡ j) × (e ≤ d))

abbrev pub HasNone : FlowGraph → LoopView → Type 0
HasNone v t = (k e : ℕ) → IsUncountable v t k e → ⊥

abbrev pub edge_address : FlowGraph → ℕ → ℕ
edge_address v e = (graph v).source e

-- why the counters are refused: loops are numbered from 1 on in refusals
abbrev pub AreRefused : FlowGraph → LoopView → Refusal → Type 0
AreRefused v t refusal =
    ((k : ℕ) × (e : ℕ) × IsFirstUncountable v t k e × (refusal ≡ Uncountable (k + 1) (edge_address v e))) ⊎
    (HasNone v t × (509 < length (counted_loops t)) × (refusal ≡ TooManyCounters (length (counted_loops t))))

-- what finding them answers
abbrev pub AreCounters : FlowGraph → LoopView → Result (List ℕ) Refusal → Type 0
AreCounters v t (Ok list) = HasNone v t × (list ≡ counted_loops t) × (length list ≤ 509)
AreCounters v t (Err refusal) = AreRefused v t refusal
