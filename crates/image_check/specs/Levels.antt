-- Scaffold: the least level for which an entry is not safe, of an edge, of the edges of a node, and of all.
use Rattle.std.specs.Prelude.{◌≡◌, ℕ, ◌<◌, Bool, true, false, List, ◌∷◌, length, slice_get, slice_index, Option, Some, None}
use Rattle.scale_base.specs.Image.{Image, loaded_byte}
use Rattle.scale_base.specs.declared.edges.Edge.{Edge}
use Rattle.scale_base.specs.declared.edges.EdgeKind.{EdgeKind}
use Rattle.scale_base.specs.declared.edges.EdgeKind.TheVariants.{Taken, Untaken, Jump, Next, CallNext, End}
use Rattle.power_model.specs.declared.power.Costs.{Costs}
use Rattle.power_model.specs.Price.{cycles_of}
use Rattle.power_model.specs.Switches.{costs_of}
use Rattle.cost_theory.specs.Graph.{Loops}
use Rattle.cost_theory.specs.Worst.{Numbers}
use Rattle.cycle_laws.specs.Charged.{Charged}
use Rattle.flow_graph.specs.FlowGraph.{graph}
use Rattle.level_tables.specs.declared.edge_numbers.EdgeNumbers.{EdgeNumbers}
use Rattle.loop_forest.specs.Tree.{loops}
use Rattle.stored_runs.specs.Marks.{tail_cycles}
use Rattle.paid_runs.specs.Tabled.{told_on}
use Rattle.flat_memory.specs.Lists.{list_bytes}
use Rattle.foreign_scan.specs.declared.fragment.ForeignFragment.{ForeignFragment}
use Rattle.foreign_scan.specs.Scanned.{Found}
use Rattle.image_check.specs.Safe.{Owner, all_with_rows}
use Rattle.image_check.specs.Causes.{IsBadLevel}
use Rattle.image_check.specs.Known.{owner_by, AreKnown, IsLevelsAnswer}
use Rattle.image_check.specs.Uses.{on_edge}
use Rattle.image_check.specs.LastRows.{first_of_key, count_of_key}
use Rattle.image_check.specs.Entries.{IsLeastIn}
use Rattle.image_check.specs.declared.levels.Known.{Known}

-- the cycles behind the store of an edge with these fragments, whatever rows their tables have
abbrev pub IsTailOf : Costs → List ForeignFragment → ℕ → Type 0
IsTailOf costs fs tail = (image : Image) (l : Loops) (owner : Owner) → tail ≡ tail_cycles (cycles_of costs) (all_with_rows image l owner fs)

-- what is known, of an image that loads the bytes of the memory
pub record AreKnownBy (x : Known) (original foreign : Image) (found : Found) (w : ℕ → ℕ) (n : Numbers) (least : Charged) : Type 0 where
  pub known : AreKnown original foreign x.graph.now x.tree.now x.sites.now x.owners.now x.worst.now x.least.now found w n least
  pub bytes : list_bytes x.rows.now.memory ≡ loaded_byte foreign
  pub first : x.rows.now.first ≡ first_of_key foreign.keyed_segment
  pub count : x.rows.now.count ≡ count_of_key foreign.keyed_segment

abbrev pub IsKnown : Known → Type 0
IsKnown x = (original foreign : Image) × (found : Found) × (w : ℕ → ℕ) × (n : Numbers) × (least : Charged) ×
    AreKnownBy x original foreign found w n least

-- what is so, whatever the image and the numbers
abbrev pub ForAllKnown : Known → (Image → Found → (ℕ → ℕ) → Numbers → Charged → Type 0) → Type 0
ForAllKnown x P = (original foreign : Image) (found : Found) (w : ℕ → ℕ) (n : Numbers) (least : Charged) →
    AreKnownBy x original foreign found w n least → P foreign found w n least

-- an edge of the graph, which leads to a node
abbrev pub LeadsOn : Known → ℕ → Type 0
LeadsOn x e = (e < length x.graph.now.code.edges) × ((to : ℕ) × ((graph x.graph.now).target e ≡ Some to))

-- its first fragment
abbrev pub IsFirstOn : Known → ℕ → ForeignFragment → Type 0
IsFirstOn x e f = (rest : List ForeignFragment) × (on_edge x.sites.now e ≡ f ∷ rest)

abbrev pub IsToldOn : Known → ℕ → EdgeNumbers → Type 0
IsToldOn x e told = ForAllKnown x (λ foreign found w n least. told
    ≡ told_on (graph x.graph.now) (loops x.graph.now x.tree.now) w n least e (tail_cycles (costs_of x.power.now)
    (all_with_rows foreign (loops x.graph.now x.tree.now) (owner_by x.owners.now) (on_edge x.sites.now e))))

-- an entry of edge e for level i isn't safe
abbrev pub IsBadAt : Known → Image → Found → (ℕ → ℕ) → Numbers → Charged → (e i : ℕ) → Type 0
IsBadAt x foreign found w n least e i = (edge : Edge) × (slice_get x.graph.now.code.edges e ≡ Some edge)
    × IsBadLevel x.power.now foreign (graph x.graph.now) (loops x.graph.now x.tree.now) (owner_by x.owners.now) w n least found e edge i

-- the least level for which one isn't
abbrev pub IsEdgeLevel : Known → ℕ → Option ℕ → Type 0
IsEdgeLevel x e level = ForAllKnown x (λ foreign found w n least. IsLeastIn (IsBadAt x foreign found w n least e) level)

abbrev pub is_taken_edge : EdgeKind → Bool
is_taken_edge Taken = true
is_taken_edge Untaken = false
is_taken_edge Jump = false
is_taken_edge Next = false
is_taken_edge CallNext = false
is_taken_edge End = false

-- the same of an edge that is of a sort
abbrev pub IsSortLevelBy : Known → Bool → (e : ℕ) → Image → Found → (ℕ → ℕ) → Numbers → Charged → Option ℕ → Type 0
IsSortLevelBy x taken e foreign found w n least None = (i : ℕ) (edge : Edge) → slice_get x.graph.now.code.edges e ≡ Some edge →
    is_taken_edge edge.kind ≡ taken → IsBadAt x foreign found w n least e i → ⊥
IsSortLevelBy x taken e foreign found w n least (Some i) = (edge : Edge) × (slice_get x.graph.now.code.edges e ≡ Some edge) ×
    (is_taken_edge edge.kind ≡ taken) × IsLeastIn (IsBadAt x foreign found w n least e) (Some i)

abbrev pub IsSortLevel : Known → Bool → (e : ℕ) → Option ℕ → Type 0
IsSortLevel x taken e level = ForAllKnown x (λ foreign found w n least. IsSortLevelBy x taken e foreign found w n least level)

-- an edge of node k of this sort
abbrev pub IsSortAt : Known → (k : ℕ) → Bool → (e : ℕ) → Edge → Type 0
IsSortAt x k taken e edge = (slice_get x.graph.now.code.edges e ≡ Some edge) × (edge.at ≡ slice_index x.graph.now.code.nodes k) ×
    (is_taken_edge edge.kind ≡ taken)

-- of the edges of a node of one sort, the first that has such an entry, and there the least level
abbrev pub IsNodeLevelBy : Known → (k : ℕ) → Bool → Image → Found → (ℕ → ℕ) → Numbers → Charged → Option ℕ → Type 0
IsNodeLevelBy x k taken foreign found w n least None = (e i : ℕ) (edge : Edge) → IsSortAt x k taken e edge →
    IsBadAt x foreign found w n least e i → ⊥
IsNodeLevelBy x k taken foreign found w n least (Some i) = (e : ℕ) × (edge : Edge) × IsSortAt x k taken e edge ×
    IsLeastIn (IsBadAt x foreign found w n least e) (Some i)

abbrev pub IsNodeLevel : Known → (k : ℕ) → Bool → Option ℕ → Type 0
IsNodeLevel x k taken level = ForAllKnown x (λ foreign found w n least. IsNodeLevelBy x k taken foreign found w n least level)

-- of the edges of a node, the taken one last
abbrev pub IsBothLevelBy : Known → (k : ℕ) → Image → Found → (ℕ → ℕ) → Numbers → Charged → Option ℕ → Type 0
IsBothLevelBy x k foreign found w n least None = IsNodeLevelBy x k false foreign found w n least None ×
    IsNodeLevelBy x k true foreign found w n least None
IsBothLevelBy x k foreign found w n least (Some i) = (taken : Bool) × (taken ≡ true → IsNodeLevelBy x k false foreign found w n least None)
    × IsNodeLevelBy x k taken foreign found w n least (Some i)

abbrev pub IsBothLevel : Known → (k : ℕ) → Option ℕ → Type 0
IsBothLevel x k level = ForAllKnown x (λ foreign found w n least. IsBothLevelBy x k foreign found w n least level)

abbrev pub IsFirstLevel : Known → Option (ℕ × ℕ) → Type 0
IsFirstLevel x first = ForAllKnown x (λ foreign found w n least. IsLevelsAnswer x.power.now foreign x.graph.now
    (loops x.graph.now x.tree.now) (owner_by x.owners.now) w n least found first)
