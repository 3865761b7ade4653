-- Refusals of code: there is none where it has a graph, and two are alike.
use Rattle.std.proofs.Common.{◌≡◌, ℕ, ◌<◌, ◌≤◌, Some, None, sym, ap, ◌∙◌, subst, arith, ⊎_elim, ◌⊎◌, inl, inr}
use Rattle.scale_base.specs.declared.refusal.Refusal.{Refusal}
use Rattle.scale_base.specs.declared.refusal.Refusal.TheVariants.{SharedCode}
use Rattle.cost_theory.specs.Accepted.{IsCall, IsProgram, IsCallOrder}
use Rattle.cost_theory.specs.declared.flow.Flow.TheVariants as flow
use Rattle.cost_theory.specs.Reached.{Reached, owner_of, callee_of, HasNoBadWord, HasNoSharedCode}
use Rattle.cost_theory.specs.Reached.Reached.{called}
use Rattle.cost_theory.proofs.Laws.{some_same, end_edge, callee_word, callee-is, same_owner}
use Rattle.cost_theory.proofs.Laws as theory
use Rattle.code_text.specs.Text.{Text, kind_at}
use Rattle.code_text.specs.TextGraph.{text_graph}
use Rattle.flow_graph.specs.FlowGraph.{FlowGraph, IsGraphOf}
use Rattle.flow_graph.specs.Refused.{cause_at, IsLeastRefused, IsLeastShared, Calls, IsRecursion, IsRefusedBy}
use Rattle.flow_graph.proofs.Laws.{fine_cause, less_same_more, some_is, entry_reached}
use Rattle.answer_laws.specs.Laws.{GraphIsNotRefused, CodeRefusalsAgree}
use Rattle.answer_laws.specs.Alike.{AreAlikeRefusals}
use Rattle.answer_laws.proofs.Numbers.{no_cycle}

-- ---- one cause excludes another

bad_reached : (t : Text) (refusal : Refusal) → IsLeastRefused t refusal → HasNoBadWord (kind_at t) t.entry → ⊥
bad_reached t refusal is fine =
    let clash : Some refusal ≡ None = sym is.cause ∙ fine_cause t is.at (fine is.reached.0 is.at is.reached.1) in
    let bad : ⊥ = cc in bad

shared_reached : (t : Text) (refusal : Refusal) → IsLeastShared t refusal → HasNoSharedCode (kind_at t) t.entry → ⊥
shared_reached t refusal is apart = let s = is.shared in s.2 (apart s.0 s.1 is.at s.3 s.4)

-- ---- calls go by the order of the functions

module _ (t : Text) (v : FlowGraph) (is : IsGraphOf t v) where
  program : IsProgram (text_graph t v.code)
  program = subst IsProgram (sym is.graph_is) is.flow.program

  call_is : (f h u : ℕ) → Reached (kind_at t) t.entry f u → kind_at t u ≡ flow.Call h → IsCall (text_graph t v.code) u (owner_of v.code h)
  call_is f h u reached calls =
      let word = kind_at t in
      let lists = is.reached.lists in
      let e = end_edge word t.entry v.code lists is.reached.words f u h reached calls in
      let entry : Reached word t.entry h h = called h reached calls in (
        e.0,
        e.1,
        e.2,
        callee_word word v.code.functions v.code.edges e.0 e.1 ∙ ap (λ x. callee_of v.code.functions (word x)) e.2 ∙ ap (callee_of v.code.functions) calls ∙
            callee-is word t.entry v.code lists is.reached.words (owner_of v.code h) h (lists.owner h h entry),
      )

  no_recursion : (refusal : Refusal) → IsRecursion t refusal → ⊥
  no_recursion refusal r =
      let order : (order : ℕ → ℕ) × IsCallOrder (text_graph t v.code) order = theory.call_order (text_graph t v.code) program in
      let by : ℕ → ℕ = λ f. order.0 (owner_of v.code f) in
      no_cycle (Calls t) (λ f h. by h < by f) r.cycle
      (λ f h c.
      let falls : order.0 (owner_of v.code h) < order.0 (owner_of v.code c.0) = order.1.falls c.0 (owner_of v.code h) (call_is f h c.0 c.1 c.2) in
      let own : owner_of v.code c.0 ≡ owner_of v.code f = same_owner (kind_at t) t.entry v.code is.reached.lists is.reached.words f c.0 f c.1 (entry_reached c.1) in
      subst (λ x. order.0 (owner_of v.code h) < order.0 x) own falls)
      (λ a b c ab bc. let r : by c < by a = omega arith in r)
      (λ a aa. let bad : ⊥ = omega arith in bad)
      r.calls

pub graph_is_not_refused : GraphIsNotRefused
graph_is_not_refused t v refusal is refused = ⊎_elim
    (λ (one : IsLeastRefused t refusal). bad_reached t refusal one is.reached.words)
    (λ (more : IsLeastShared t refusal ⊎ IsRecursion t refusal). ⊎_elim
    (λ (two : IsLeastShared t refusal). shared_reached t refusal two (λ f h u in_f in_h. some_same f h (sym (is.reached.lists.owner f u in_f) ∙ is.reached.lists.owner h u in_h)))
    (λ (three : IsRecursion t refusal). no_recursion t v is refusal three)
    more)
    refused

-- ---- two of one cause

module _ (t : Text) (refusal refusal' : Refusal) where
  earlier : (r r' : Refusal) (one : IsLeastRefused t r) (two : IsLeastRefused t r') → one.at < two.at → ⊥
  earlier r r' one two lt = let clash : Some r ≡ None = sym one.cause ∙ two.least one.at one.reached lt in let bad : ⊥ = cc in bad

  both_refused : IsLeastRefused t refusal → IsLeastRefused t refusal' → refusal ≡ refusal'
  both_refused one two = ⊎_elim
      (λ (lt : one.at < two.at). absurd (earlier refusal refusal' one two lt))
      (λ (more : (one.at ≡ two.at) ⊎ (two.at < one.at)). ⊎_elim
      (λ (e : one.at ≡ two.at). some_is refusal refusal' (sym one.cause ∙ ap (cause_at t) e ∙ two.cause))
      (λ (gt : two.at < one.at). absurd (earlier refusal' refusal two one gt)) more)
      (less_same_more one.at two.at)

  both_shared : IsLeastShared t refusal → IsLeastShared t refusal' → refusal ≡ refusal'
  both_shared one two =
      let a : one.at ≤ two.at = one.least two.at two.shared in
      let b : two.at ≤ one.at = two.least one.at one.shared in
      let e : one.at ≡ two.at = omega arith in
      one.named ∙ ap (λ x. SharedCode x) e ∙ sym two.named

  refusals_alike : IsRefusedBy t refusal → IsRefusedBy t refusal' → AreAlikeRefusals refusal refusal'
  refusals_alike (inl one) (inl two) = inl (both_refused one two)
  refusals_alike (inl one) (inr (inl two)) = absurd (bad_reached t refusal one two.no_bad_word)
  refusals_alike (inl one) (inr (inr two)) = absurd (bad_reached t refusal one two.no_bad_word)
  refusals_alike (inr (inl one)) (inl two) = absurd (bad_reached t refusal' two one.no_bad_word)
  refusals_alike (inr (inl one)) (inr (inl two)) = inl (both_shared one two)
  refusals_alike (inr (inl one)) (inr (inr two)) = absurd (shared_reached t refusal one two.no_shared_code)
  refusals_alike (inr (inr one)) (inl two) = absurd (bad_reached t refusal' two one.no_bad_word)
  refusals_alike (inr (inr one)) (inr (inl two)) = absurd (shared_reached t refusal' two one.no_shared_code)
  refusals_alike (inr (inr one)) (inr (inr two)) = inr (inl (record { cycle = one.cycle; cycle' = two.cycle; named = one.named; named' = two.named }))

pub code_refusals_agree : CodeRefusalsAgree
code_refusals_agree t refusal refusal' one two = refusals_alike t refusal refusal' one two
