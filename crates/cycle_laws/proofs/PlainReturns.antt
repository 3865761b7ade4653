-- In the graph over reached code a call comes back to one node, and nothing leads on from a return.
use Rattle.std.proofs.Common.{◌≡◌, ℕ, ◌+◌, ◌<◌, true, ⊎_elim, length, slice_get, Option, Some, None, refl, sym, ap, ◌∙◌, subst}
use Rattle.cost_theory.specs.declared.flow.Flow.{Flow}
use Rattle.cost_theory.specs.declared.flow.Flow.TheVariants as flow
use Rattle.cost_theory.specs.Reached.{LeadsTo, Code, IsCodeOf, HasNoBadWord, edge_at, edge_to, callee_of, edge_callee, is_return_word, edge_returns, call_returns}
use Rattle.cost_theory.proofs.Laws.{edge_leads, edge_word, callee-call, back-word}
use Rattle.cycle_laws.specs.LeastLaws.{ReachedCodeHasPlainReturns}

module _ (word : ℕ → Flow) (first : ℕ) (code : Code) (is : IsCodeOf word first code) (fine : HasNoBadWord word first) where
  callee_at : (e : ℕ) → e < length code.edges → edge_callee word code.functions (slice_get code.edges e) ≡ callee_of code.functions (word (edge_at (slice_get code.edges e)))
  callee_at e lt =
      let x = edge_word word first code is fine e lt in
      ap (edge_callee word code.functions) x.1 ∙ ap (λ v. callee_of code.functions (word v)) (sym (ap edge_at x.1))

  returns_at : (e : ℕ) → e < length code.edges → edge_returns word (slice_get code.edges e) ≡ is_return_word (word (edge_at (slice_get code.edges e)))
  returns_at e lt =
      let x = edge_word word first code is fine e lt in
      ap (edge_returns word) x.1 ∙ ap (λ v. is_return_word (word v)) (sym (ap edge_at x.1))

  -- an edge that leads on from a call leads to the next word
  call_target : (e h v : ℕ) → e < length code.edges → word (edge_at (slice_get code.edges e)) ≡ flow.Call h → edge_to (slice_get code.edges e) ≡ Some v → v ≡ edge_at (slice_get code.edges e) + 4
  call_target e h v lt call to =
      let x = edge_word word first code is fine e lt in
      ⊎_elim
      (λ leads. absurd (subst (λ w. LeadsTo w (edge_at (slice_get code.edges e)) v) call leads))
      (λ (m : (h : ℕ) × (word (edge_at (slice_get code.edges e)) ≡ flow.Call h) × (call_returns code (word (edge_at (slice_get code.edges e))) ≡ true) × (v ≡ edge_at (slice_get code.edges e) + 4)). m.3)
      (edge_leads (word (edge_at (slice_get code.edges e))) (edge_at (slice_get code.edges e)) (call_returns code (word (edge_at (slice_get code.edges e)))) x.0 v x.2 (sym (ap edge_to x.1) ∙ to))

  return_target : (e v : ℕ) → e < length code.edges → word (edge_at (slice_get code.edges e)) ≡ flow.Return → edge_to (slice_get code.edges e) ≡ Some v → ⊥
  return_target e v lt back to =
      let x = edge_word word first code is fine e lt in
      ⊎_elim
      (λ leads. subst (λ w. LeadsTo w (edge_at (slice_get code.edges e)) v) back leads)
      (λ (m : (h : ℕ) × (word (edge_at (slice_get code.edges e)) ≡ flow.Call h) × (call_returns code (word (edge_at (slice_get code.edges e))) ≡ true) × (v ≡ edge_at (slice_get code.edges e) + 4)).
      let clash : flow.Return ≡ flow.Call m.0 = sym back ∙ m.1 in let bad : ⊥ = cc in bad)
      (edge_leads (word (edge_at (slice_get code.edges e))) (edge_at (slice_get code.edges e)) (call_returns code (word (edge_at (slice_get code.edges e)))) x.0 v x.2 (sym (ap edge_to x.1) ∙ to))

pub plain_returns : ReachedCodeHasPlainReturns
plain_returns word first code is fine = record {
  one_return = λ d e f u v dl el same calls to_u to_v.
      let c = callee-call code.functions (word (edge_at (slice_get code.edges d))) f (sym (callee_at word first code is fine d dl) ∙ calls) in
      call_target word first code is fine d c.0 u dl c.1 to_u ∙ (ap (λ a. a + 4) same ∙ sym (call_target word first code is fine e c.0 v el (ap word (sym same) ∙ c.1) to_v));
  return_last = λ d e dl el same returns.
      let back : word (edge_at (slice_get code.edges d)) ≡ flow.Return = back-word (word (edge_at (slice_get code.edges d))) (sym (returns_at word first code is fine d dl) ∙ returns) in
      none (edge_to (slice_get code.edges e)) (edge_to (slice_get code.edges e)) refl (λ v to. return_target word first code is fine e v el (ap word (sym same) ∙ back) to);
}
  where
    none : (o p : Option ℕ) → p ≡ o → ((v : ℕ) → p ≡ Some v → ⊥) → p ≡ None
    none None p e never = e
    none (Some v) p e never = absurd (never v e)
