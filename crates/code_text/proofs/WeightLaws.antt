-- The costs of edges are weights: all edges of a call cost the same.
use Rattle.std.proofs.Common.{◌≡◌, ◌≢◌, ℕ, ◌<◌, length, slice_get, refl, sym, ap, ◌∙◌, Some}
use Rattle.scale_base.specs.declared.instruction.Instr.{Instr}
use Rattle.scale_base.specs.declared.instruction.Instr.TheVariants as instr
use Rattle.scale_base.specs.declared.stepping.Class.{Class}
use Rattle.cost_theory.specs.Accepted.{AreWeights}
use Rattle.scale_base.specs.declared.edges.Edge.{Edge}
use Rattle.scale_base.specs.declared.edges.EdgeKind.{EdgeKind}
use Rattle.cost_theory.specs.Reached.{Code, graph_of, edge_at}
use Rattle.cost_theory.specs.declared.flow.Flow.TheVariants as flow
use Rattle.cost_theory.proofs.Laws.{some_get, callee-call, callee_word}
use Rattle.code_text.specs.Text.{Text, instr_at, instr_kind, kind_at}
use Rattle.code_text.specs.EdgeCosts.{class_by, edge_class, cost_of, weights}
use Rattle.code_text.proofs.KindFacts.{kind_facts}

-- all edges of a call are of one class
call_class : (t : Text) (v f : ℕ) (i : Instr) (j k : EdgeKind) → instr_kind t v i ≡ flow.Call f → class_by (Some i) j ≡ class_by (Some i) k
call_class t v f (instr.Lui rd imm) j k h = refl
call_class t v f (instr.Auipc rd imm) j k h = refl
call_class t v f (instr.Jal rd offset) j k h = refl
call_class t v f (instr.Jalr rd rs1 offset) j k h = refl
call_class t v f (instr.Branch op rs1 rs2 offset) j k h = let bad : ⊥ = cc in absurd bad
call_class t v f (instr.Load op rd rs1 offset) j k h = refl
call_class t v f (instr.Store op rs1 rs2 offset) j k h = refl
call_class t v f (instr.Imm op rd rs1 imm) j k h = refl
call_class t v f (instr.Reg op rd rs1 rs2) j k h = refl
call_class t v f (instr.Fence rd rs1 imm) j k h = refl
call_class t v f instr.Ecall j k h = refl
call_class t v f instr.Ebreak j k h = refl

call_ok : (t : Text) (v f : ℕ) → kind_at t v ≡ flow.Call f → kind_at t v ≢ flow.Refused
call_ok t v f e b = let bad : ⊥ = cc in bad

-- so the costs are weights
pub weights_are : (t : Text) (code : Code) (costs : Class → ℕ) → AreWeights (graph_of (kind_at t) code) (weights t code costs)
weights_are t code costs d e f dl el same callee =
    let x : (x : Edge) × (slice_get code.edges d ≡ Some x) = some_get code.edges d dl in
    let y : (y : Edge) × (slice_get code.edges e ≡ Some y) = some_get code.edges e el in
    let c : (h : ℕ) × (kind_at t (edge_at (slice_get code.edges d)) ≡ flow.Call h) × (f < length code.functions) × _ = callee-call code.functions (kind_at t (edge_at (slice_get code.edges d))) f (sym (callee_word (kind_at t) code.functions code.edges d dl) ∙ callee) in
    let at : edge_at (slice_get code.edges d) ≡ x.0.at = ap edge_at x.1 in
    let to : x.0.at ≡ y.0.at = sym at ∙ (same ∙ ap edge_at y.1) in
    let k : kind_at t x.0.at ≡ flow.Call c.0 = sym (ap (kind_at t) at) ∙ c.1 in
    let i = kind_facts t x.0.at (call_ok t x.0.at c.0 k) in
    let one : class_by (instr_at t x.0.at) x.0.kind ≡ class_by (instr_at t y.0.at) y.0.kind =
    ap (λ o. class_by o x.0.kind) i.2.1 ∙ (call_class t x.0.at c.0 i.2.0 x.0.kind y.0.kind (sym i.2.2 ∙ k) ∙ (sym (ap (λ o. class_by o y.0.kind) i.2.1) ∙ ap (λ v. class_by (instr_at t v) y.0.kind) to)) in
    ap (λ o. cost_of costs (edge_class t o)) x.1 ∙ (ap (cost_of costs) one ∙ sym (ap (λ o. cost_of costs (edge_class t o)) y.1))
