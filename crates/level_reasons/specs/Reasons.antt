-- What keeps a level from being lowered: at each edge of a branch or of a jump on which cycles of the worst case fall away, and in each loop.
-- The program stays as it is: its numbers are those of the original image, without the cycles of a stub.
-- That the slack of an edge pays for a slower speed behind it is intra-task voltage scheduling (Shin, Kim and Lee, IEEE Design & Test of Computers, 2001).
use Rattle.std.specs.Prelude.{◌≡◌, ℕ, ◌+◌, ◌-◌, ◌*◌, ◌/◌, ◌<◌, ◌≤◌, ◌⊎◌, Bool, true, false, ◌&&◌, nat_lt, List, [], ◌∷◌, length, slice_get, slice_index, Option, Some, None}
use Rattle.std.specs.List.{filter, range_with_len}
use Rattle.std.specs.Int.{div_ceil}
use Rattle.scale_base.specs.declared.edges.Edge.{Edge}
use Rattle.scale_base.specs.declared.edges.EdgeKind.{EdgeKind}
use Rattle.scale_base.specs.declared.edges.EdgeKind.TheVariants as kinds
use Rattle.power_model.specs.Numbers.{PowerModel}
use Rattle.cost_theory.specs.Graph.{leaves}
use Rattle.level_tables.specs.Tables.{is_switch_in_time, pays, entry_of}
use Rattle.level_tables.specs.declared.edge_numbers.EdgeNumbers.{EdgeNumbers}
use Rattle.flow_graph.specs.FlowGraph.{FlowGraph, graph}
use Rattle.loop_forest.specs.Tree.{LoopView, loops}
use Rattle.level_reasons.specs.declared.shown.EdgeReason.{EdgeReason}
use Rattle.level_reasons.specs.declared.shown.EdgeReason.TheVariants as edge
use Rattle.level_reasons.specs.declared.shown.EdgeLine.{EdgeLine}
use Rattle.level_reasons.specs.declared.shown.LoopReason.{LoopReason}
use Rattle.level_reasons.specs.declared.shown.LoopReason.TheVariants as turns
use Rattle.level_reasons.specs.declared.shown.LoopLine.{LoopLine}

-- The numbers of a program that the reasons speak of, in cycles: by edge its slack, and the most and the least that are left behind it; by loop those of one turn.
pub record ProgramNumbers : Type 0 where
  pub told : ℕ → EdgeNumbers
  pub turn : ℕ → ℕ

-- ---- what an edge lacks

-- the same edge with more slack
abbrev pub with_more : ℕ → EdgeNumbers → EdgeNumbers
with_more cycles told = record told { slack = told.slack + cycles }

-- whether a switch from a level to the next lower one is in time
abbrev pub goes_down : PowerModel → ℕ → EdgeNumbers → Bool
goes_down power level told = is_switch_in_time power told level (level - 1)

-- What the slack of an edge lacks for that: the least number of cycles that is enough besides. It is 0 where the switch is in time.
pub record IsLack (power : PowerModel) (level : ℕ) (told : EdgeNumbers) (lack : ℕ) : Type 0 where
  pub enough : goes_down power level (with_more lack told) ≡ true
  pub least : (x : ℕ) → x < lack → goes_down power level (with_more x told) ≡ false

-- Slack as percent of the cycles that may be left before an edge, which are its slack and those that are left at most behind it: rounded down, as is told of
-- the slack that is there, and rounded up, as is told of that which is needed. So a slack that isn't enough never shows the percent that are needed.
abbrev pub percent_down : (slack left : ℕ) → ℕ
percent_down slack left = 100 * slack / (left + slack)

abbrev pub percent_up : (slack left : ℕ) → ℕ
percent_up slack left = div_ceil (100 * slack) (left + slack)

-- ---- the reason of an edge

-- Why a job at a level stays there on an edge, or to which level it goes. Where it stays the reason is that of the next lower level: that a switch to it isn't in
-- time, or that it is and doesn't pay.
abbrev pub IsEdgeReason : PowerModel → ℕ → EdgeNumbers → EdgeReason → Type 0
IsEdgeReason power level told edge.AlreadySlowest = level ≡ 0
IsEdgeReason power level told (edge.GoesTo to) = (to < level) × (to ≡ entry_of power told level)
IsEdgeReason power level told (edge.FallsShort falls needed) =
    (0 < level) × (entry_of power told level ≡ level) × (goes_down power level told ≡ false) × (falls ≡ percent_down told.slack told.left)
    × ((lack : ℕ) × IsLack power level told lack × (needed ≡ percent_up (told.slack + lack) told.left))
IsEdgeReason power level told (edge.PaysNot least) =
    (0 < level) × (entry_of power told level ≡ level) × (goes_down power level told ≡ true) ×
    (pays power told.least level (level - 1) ≡ false) × (least ≡ told.least)

-- ---- the reason of a loop

-- the edges of branches and of jumps, at which stubs can stand
abbrev pub can_switch : EdgeKind → Bool
can_switch kinds.Taken = true
can_switch kinds.Untaken = true
can_switch kinds.Jump = true
can_switch kinds.Next = false
can_switch kinds.CallNext = false
can_switch kinds.End = false

-- A way out of a loop: such an edge that leaves it.
pub record IsWayOut (v : FlowGraph) (t : LoopView) (k e : ℕ) : Type 0 where
  pub edge : Edge
  pub there : slice_get v.code.edges e ≡ Some edge
  pub stub : can_switch edge.kind ≡ true
  pub leaves : leaves (loops v t) k ((graph v).source e) ((graph v).target e) ≡ true

-- a way out has the slack of the turns that weren't taken besides its own
abbrev pub with_turns : (turns turn : ℕ) → EdgeNumbers → EdgeNumbers
with_turns turns turn told = with_more (turns * turn) told

-- Of some edges one that lacks the fewest cycles, and of those that lack as few one with the fewest left behind it.
pub record IsNearest (power : PowerModel) (level : ℕ) (told : ℕ → EdgeNumbers) (Way : ℕ → Type 0) (e lack : ℕ) : Type 0 where
  pub way : Way e
  pub lacks : IsLack power level (told e) lack
  pub nearest : (d x : ℕ) → Way d → IsLack power level (told d) x → (lack < x) ⊎ ((lack ≡ x) × ((told e).left ≤ (told d).left))

-- How many turns a loop of a bound has to have left, where a turn takes so many cycles, for a job at a level to go to the next lower one on a way out of it: the
-- least number with which a switch is in time on some way out. Where even all turns aren't enough, the percent are those of the nearest way out.
abbrev pub IsLoopReason : PowerModel → ℕ → (ℕ → EdgeNumbers) → (ℕ → Type 0) → (bound turn : ℕ) → LoopReason → Type 0
IsLoopReason power level told Way bound turn turns.AlreadySlowest = level ≡ 0
IsLoopReason power level told Way bound turn turns.NoWayOut = (0 < level) × ((e : ℕ) → Way e → ⊥)
IsLoopReason power level told Way bound turn (turns.NeedsTurns needed most) =
    (0 < level) × (most ≡ bound) × (needed ≤ bound)
    × ((e : ℕ) × Way e × (goes_down power level (with_turns needed turn (told e)) ≡ true))
    × ((e fewer : ℕ) → Way e → fewer < needed → goes_down power level (with_turns fewer turn (told e)) ≡ false)
IsLoopReason power level told Way bound turn (turns.Never most gives needed) =
    (0 < level) × (most ≡ bound)
    × ((e : ℕ) → Way e → goes_down power level (with_turns bound turn (told e)) ≡ false)
    × ((e : ℕ) × (lack : ℕ) × IsNearest power level told Way e lack
    × (gives ≡ percent_down ((told e).slack + bound * turn) (told e).left)
    × (needed ≡ percent_up ((told e).slack + lack) (told e).left))

-- ---- the lines

-- a line for each of some numbers, in their order
abbrev pub AreLinesOf : {A : Type 0} → (ℕ → A → Type 0) → List ℕ → List A → Type 0
AreLinesOf Is [] [] = Unit {0}
AreLinesOf Is [] (line ∷ lines) = ⊥
AreLinesOf Is (n ∷ ns) [] = ⊥
AreLinesOf Is (n ∷ ns) (line ∷ lines) = Is n line × AreLinesOf Is ns lines

-- the edges that have a line: those of branches and of jumps with slack
abbrev pub edge_can_switch : Option Edge → Bool
edge_can_switch None = false
edge_can_switch (Some x) = can_switch x.kind

abbrev pub has_line : FlowGraph → (ℕ → EdgeNumbers) → ℕ → Bool
has_line v told e = edge_can_switch (slice_get v.code.edges e) && nat_lt 0 (told e).slack

-- the line of an edge
pub record IsEdgeLine (power : PowerModel) (v : FlowGraph) (n : ProgramNumbers) (level e : ℕ) (line : EdgeLine) : Type 0 where
  pub edge : slice_get v.code.edges e ≡ Some line.edge
  pub slack : line.slack ≡ (n.told e).slack
  pub reason : IsEdgeReason power level (n.told e) line.reason

-- the line of a loop, which is numbered from 1 on as in the loop file
pub record IsLoopLine (power : PowerModel) (v : FlowGraph) (t : LoopView) (n : ProgramNumbers) (level k : ℕ) (line : LoopLine)
    : Type 0 where
  pub number : line.number ≡ k + 1
  pub header : line.header ≡ slice_index v.code.nodes (slice_index t.headers k)
  pub turn : line.turn ≡ n.turn k
  pub reason : IsLoopReason power level n.told (IsWayOut v t k) (slice_index t.bounds k) (n.turn k) line.reason

abbrev pub AreEdgeLines : PowerModel → FlowGraph → ProgramNumbers → ℕ → List EdgeLine → Type 0
AreEdgeLines power v n level lines = AreLinesOf (IsEdgeLine power v n level) (filter (has_line v n.told)
    (range_with_len 0 (length v.code.edges))) lines

abbrev pub AreLoopLines : PowerModel → FlowGraph → LoopView → ProgramNumbers → ℕ → List LoopLine → Type 0
AreLoopLines power v t n level lines = AreLinesOf (IsLoopLine power v t n level) (range_with_len 0 (length t.headers)) lines
