-- The word of a call is not patched, so all edges of one call take the same with the stubs.
use Rattle.std.proofs.Common.{◌≡◌, ℕ, ◌+◌, ◌*◌, ◌<◌, Bool, true, false, List, length, refl, sym, ap, ◌∙◌, subst, slice_get, Option, Some, None, arith}
use Rattle.std.specs.Prelude.{◌==◌, ◌%◌}
use Rattle.std.specs.List.{sum_by, list_any}
use Rattle.std.proofs.lemmas.Bool.{and_from, eq-eqb}
use Rattle.scale_base.specs.declared.instruction.Instr.{Instr}
use Rattle.scale_base.specs.declared.instruction.Instr.TheVariants as instr
use Rattle.scale_base.specs.declared.stepping.Class.{Class}
use Rattle.scale_base.specs.declared.stepping.Class.TheVariants as classes
use Rattle.scale_base.specs.Image.{Image, is_in, is_word_address}
use Rattle.cost_theory.specs.declared.flow.Flow.TheVariants as flow
use Rattle.cost_theory.specs.Accepted.{AreWeights}
use Rattle.cost_theory.specs.Graph.{Loops}
use Rattle.cost_theory.specs.Reached.{Code, edge_at, callee_of}
use Rattle.cost_theory.proofs.Laws.{callee-call, callee_word}
use Rattle.code_text.specs.Text.{Text, text_of, instr_at, instr_kind, kind_at, is_text_address}
use Rattle.code_text.specs.EdgeCosts.{edge_class}
use Rattle.code_text.specs.TextGraph.{text_graph, IsReachedCode}
use Rattle.code_text.proofs.Laws.{kind_facts, weights_are}
use Rattle.stub_writer.specs.Stubs.{Site}
use Rattle.stored_runs.specs.Cycles.{fragment_cost}
use Rattle.stored_runs.specs.Marks.{place_at, fragments_of_class, jumps_by}
use Rattle.paid_runs.specs.Marked.{extra_by, extra_site_weights, stored_site_weights}
use Rattle.foreign_scan.specs.Scanned.{Found, is_changed, CanBePatched, IsScanned}
use Rattle.image_check.specs.Safe.{Owner, sites_of}
use Rattle.image_check.proofs.OnEdges.{same_place}

-- no stub takes nothing
pub none_more : (costs : Class → ℕ) (sites : List Site) (at : ℕ) (o : Option Class) → place_at sites at ≡ None → extra_by costs sites at o ≡ 0
none_more costs sites at None none = refl
none_more costs sites at (Some class) none = subst (λ p. jumps_by p * costs classes.Jump + sum_by (fragment_cost costs) (fragments_of_class p class) ≡ 0) (sym none) (omega arith)

module _ (original foreign : Image) (code : Code) (l : Loops) (owner : Owner) (found : Found) (reached : IsReachedCode (text_of original) code) (scanned : IsScanned original foreign code l found) where
  abbrev t : Text
  t = text_of original

  abbrev sites : List Site
  sites = sites_of original foreign code l owner found

  unmarked : (u h : ℕ) → kind_at t u ≡ flow.Call h → place_at sites u ≡ None
  unmarked u h calls = by_change (is_changed original foreign u) refl
    where
      facts : (u % 4 ≡ 0) × (is_text_address t u ≡ true) × ((i : Instr) × (instr_at t u ≡ Some i) × (kind_at t u ≡ instr_kind t u i))
      facts = kind_facts t u (λ bad. let never : ⊥ = cc in never)

      no_call : (i : Instr) → CanBePatched i → instr_kind t u i ≡ flow.Call h → ⊥
      no_call (instr.Branch op rs1 rs2 offset) can q = cc
      no_call (instr.Jal rd offset) can q = let there : instr_kind t u (instr.Jal 0 offset) ≡ flow.Call h = subst (λ d. instr_kind t u (instr.Jal d offset) ≡ flow.Call h) can q in cc
      no_call (instr.Lui rd imm) can q = absurd can
      no_call (instr.Auipc rd imm) can q = absurd can
      no_call (instr.Jalr rd rs1 offset) can q = absurd can
      no_call (instr.Load op rd rs1 offset) can q = absurd can
      no_call (instr.Store op rs1 rs2 offset) can q = absurd can
      no_call (instr.Imm op rd rs1 imm) can q = absurd can
      no_call (instr.Reg op rd rs1 rs2) can q = absurd can
      no_call (instr.Fence rd rs1 imm) can q = absurd can
      no_call instr.Ecall can q = absurd can
      no_call instr.Ebreak can q = absurd can

      by_change : (b : Bool) → is_changed original foreign u ≡ b → place_at sites u ≡ None
      by_change false off = same_place original foreign code l owner found reached scanned u off
      by_change true on =
          let word : is_word_address original u ≡ true = and_from (u % 4 == 0) (list_any (is_in u) original.text) (eq-eqb (u % 4) 0 facts.0) facts.1 in
          let p = scanned.patches u (word, on) in
          let same : facts.2.0 ≡ p.old_instr = (let a = facts.2.1 in let b = p.old in cc) in
          absurd (no_call p.old_instr p.can_be (sym (ap (instr_kind t u) same) ∙ (sym facts.2.2 ∙ calls)))

  call_takes_none : (costs : Class → ℕ) (e f : ℕ) → e < length code.edges → (text_graph t code).callee e ≡ Some f → extra_site_weights t code costs sites e ≡ 0
  call_takes_none costs e f lt callee =
      let g = text_graph t code in
      let c = callee-call code.functions (kind_at t (g.source e)) f (sym (callee_word (kind_at t) code.functions code.edges e lt) ∙ callee) in
      none_more costs sites (g.source e) (edge_class t (slice_get code.edges e)) (unmarked (g.source e) c.0 c.1)

  same_callee : (d e : ℕ) → d < length code.edges → e < length code.edges → edge_at (slice_get code.edges d) ≡ edge_at (slice_get code.edges e) → (text_graph t code).callee d ≡ (text_graph t code).callee e
  same_callee d e dl el same =
      callee_word (kind_at t) code.functions code.edges d dl ∙ (ap (λ u. callee_of code.functions (kind_at t u)) same ∙ sym (callee_word (kind_at t) code.functions code.edges e el))

  pub extra_are_weights : (costs : Class → ℕ) → AreWeights (text_graph t code) (extra_site_weights t code costs sites)
  extra_are_weights costs d e f dl el same callee =
      let other : (text_graph t code).callee e ≡ Some f = sym (same_callee d e dl el same) ∙ callee in
      call_takes_none costs d f dl callee ∙ sym (call_takes_none costs e f el other)

  pub stored_are_weights : (costs : Class → ℕ) → AreWeights (text_graph t code) (stored_site_weights t code costs sites)
  stored_are_weights costs d e f dl el same callee =
      let a = weights_are t code costs d e f dl el same callee in
      let b = extra_are_weights costs d e f dl el same callee in
      omega (arith, a, b)
