-- The reasons of edges on which a job stays at its level.
use Rattle.std.proofs.Common.{◌≡◌, ℕ, ◌+◌, ◌-◌, ◌*◌, ◌<◌, Bool, true, false, ◌&&◌, nat_le, nat_lt, slice_get, Option, Some, sym, ap, ◌∙◌, subst, arith, ⊎_elim}
use Rattle.std.proofs.lemmas.Bool.{and_cases, both_ways}
use Rattle.power_model.specs.Levels.{level}
use Rattle.power_model.specs.Numbers.{PowerModel}
use Rattle.power_model.specs.Price.{switch_time}
use Rattle.level_tables.specs.Tables.{pays, entry_of}
use Rattle.level_tables.specs.declared.edge_numbers.EdgeNumbers.{EdgeNumbers}
use Rattle.level_tables.proofs.Laws.{entry-is}
use Rattle.scale_base.specs.declared.edges.Edge.{Edge}
use Rattle.flow_graph.specs.FlowGraph.{FlowGraph}
use Rattle.level_reasons.specs.declared.shown.EdgeReason.{EdgeReason}
use Rattle.level_reasons.specs.Reasons.{ProgramNumbers, IsLack, goes_down, with_more, IsEdgeReason, IsEdgeLine, can_switch, edge_can_switch, has_line}

-- nothing more is nothing more
pub none_more : (power : PowerModel) (i : ℕ) (told : EdgeNumbers) → goes_down power i (with_more 0 told) ≡ goes_down power i told
none_more power i told =
    let e : told.slack + 0 ≡ told.slack = omega arith in
    ap (λ s. nat_le (told.left * (level power.levels (i - 1)).period + switch_time power i (i - 1)) ((told.left + s) * (level power.levels i).period)) e

pub lacks_none : (power : PowerModel) (i : ℕ) (told : EdgeNumbers) (lack : ℕ) → IsLack power i told lack → lack ≡ 0 → goes_down power i told ≡ true
lacks_none power i told lack is none = sym (none_more power i told) ∙ subst (λ x. goes_down power i (with_more x told) ≡ true) none is.enough

pub lacks_some : (power : PowerModel) (i : ℕ) (told : EdgeNumbers) (lack : ℕ) → IsLack power i told lack → 0 < lack → goes_down power i told ≡ false
lacks_some power i told lack is some = sym (none_more power i told) ∙ is.least 0 some

-- a job that stays where a switch to the next lower level is in time has none that pays
pub stays_unpaid : (power : PowerModel) (i : ℕ) (told : EdgeNumbers) → 0 < i → entry_of power told i ≡ i → goes_down power i told ≡ true → pays power told.least i (i - 1) ≡ false
stays_unpaid power i told pos stays down =
    let none = (entry-is power told i).least (i - 1) (let h : i - 1 < entry_of power told i = omega (arith, stays, pos) in h) in
    ⊎_elim
    (λ (late : goes_down power i told ≡ false). absurd (both_ways (goes_down power i told) late down))
    (λ (unpaid : pays power told.least i (i - 1) ≡ false). unpaid)
    (and_cases (goes_down power i told) (pays power told.least i (i - 1)) none)

-- ---- lines

-- the test of an edge by what it tells
pub line_test : (v : FlowGraph) (told : ℕ → EdgeNumbers) (e : ℕ) (edge : Edge) (x : EdgeNumbers) (b : Bool) → slice_get v.code.edges e ≡ Some edge → x ≡ told e → b ≡ (can_switch edge.kind && nat_lt 0 x.slack) → has_line v told e ≡ b
line_test v told e edge x b at same is =
    ap (λ (o : Option Edge). edge_can_switch o && nat_lt 0 (told e).slack) at ∙ ap (λ (y : EdgeNumbers). can_switch edge.kind && nat_lt 0 y.slack) (sym same) ∙ sym is

pub line_is : (power : PowerModel) (v : FlowGraph) (n : ProgramNumbers) (i e : ℕ) (edge : Edge) (x : EdgeNumbers) (reason : EdgeReason) → slice_get v.code.edges e ≡ Some edge → x ≡ n.told e → IsEdgeReason power i x reason
    → IsEdgeLine power v n i e (record { edge = edge; slack = x.slack; reason = reason })
line_is power v n i e edge x reason at same is = record { edge = at; slack = ap (λ (y : EdgeNumbers). y.slack) same; reason = subst (λ (y : EdgeNumbers). IsEdgeReason power i y reason) same is }
