-- A program has an order of its functions, callees first, and with accepted loops an order of its nodes along plain edges.
use Rattle.std.proofs.Common.{◌≡◌, ℕ, suc, ◌-◌, ◌<◌, Bool, true, ◌&&◌, nat_eq, List, [], ◌∷◌, Option, Some, is_some, refl, sym, ap, ◌∙◌, subst, arith, eqb-true, eq-eqb}
use Rattle.cost_theory.specs.Graph.{Graph, Loops, end_of, find_below, IsPlainPath}
use Rattle.cost_theory.specs.Reached.{number_or_0}
use Rattle.cost_theory.specs.Accepted.{IsNode, AreCalls, IsProgram, AreAccepted, IsCallOrder, IsPlainOrder}
use Rattle.cost_theory.proofs.Basics.{and_left, and_right, and_both, some_value, find-holds, find-some}
use Rattle.cost_theory.proofs.Nesting.{some_same}
use Rattle.cost_theory.proofs.Exists.{plain_test, test-plain, plain-test}
use Rattle.cost_theory.proofs.Acyclic.{AreSteps, rank, rank-lt, rank-falls}

-- the calls as a graph of functions
abbrev pub calls_of : Graph → Graph
calls_of g = record g { source = λ e. g.owner (g.source e); target = g.callee }

abbrev pub call_test : Graph → ℕ → Bool
call_test g e = is_some (g.callee e)

pub steps_call : (g : Graph) (es : List ℕ) (f last : ℕ) → AreSteps (calls_of g) (call_test g) (Some f) es → end_of (calls_of g) (Some f) es ≡ Some last → (fs : List ℕ) × AreCalls g f fs last
steps_call g [] f last are ends = ([], some_same _ _ ends)
steps_call g (e ∷ es) f last are ends =
    let t : (t : ℕ) × (g.callee e ≡ Some t) = some_value (g.callee e) are.2 in
    let more : (fs : List ℕ) × AreCalls g t.0 fs last = steps_call g es t.0 last (subst (λ o. AreSteps (calls_of g) (call_test g) o es) t.1 are.3)
    (ap (λ o. end_of (calls_of g) o es) (sym t.1) ∙ ends) in
    (t.0 ∷ more.0, ((g.source e, sym (some_same _ _ are.1), (e, are.0, refl, t.1)), more.1))

module _ (g : Graph) (prog : IsProgram g) where
  no_call_cycle : (f e : ℕ) (es : List ℕ) → AreSteps (calls_of g) (call_test g) (Some f) (e ∷ es) → end_of (calls_of g) (Some f) (e ∷ es) ≡ Some f → ⊥
  no_call_cycle f e es are ends =
      let t : (t : ℕ) × (g.callee e ≡ Some t) = some_value (g.callee e) are.2 in
      let more : (fs : List ℕ) × AreCalls g t.0 fs f = steps_call g es t.0 f (subst (λ o. AreSteps (calls_of g) (call_test g) o es) t.1 are.3)
      (ap (λ o. end_of (calls_of g) o es) (sym t.1) ∙ ends) in
      prog.no_recursion f t.0 more.0 ((g.source e, sym (some_same _ _ are.1), (e, are.0, refl, t.1)), more.1)

  starts : (e : ℕ) → e < g.edges → call_test g e ≡ true → g.owner (g.source e) < g.functions
  starts e lt passes = prog.owner_function e lt

  leads : (e : ℕ) → e < g.edges → call_test g e ≡ true → (f : ℕ) × (g.callee e ≡ Some f) × (f < g.functions)
  leads e lt passes = let t : (t : ℕ) × (g.callee e ≡ Some t) = some_value (g.callee e) passes in (t.0, t.1, prog.callee_function e t.0 lt t.1)

  pub call_order : (order : ℕ → ℕ) × IsCallOrder g order
  call_order = (
    rank (calls_of g) (call_test g) g.functions (λ f. f) (λ f. f < g.functions) starts leads (λ f lt. lt) (λ f h a b e. e) no_call_cycle,
    record {
      below = λ f lt. rank-lt (calls_of g) (call_test g) g.functions (λ f. f) (λ f. f < g.functions) starts leads (λ f lt. lt) (λ f h a b e. e) no_call_cycle f lt;
      falls = λ u f call. subst (λ v. rank (calls_of g) (call_test g) g.functions (λ f. f) (λ f. f < g.functions) starts leads (λ f lt. lt) (λ f h a b e. e) no_call_cycle f <
          rank (calls_of g) (call_test g) g.functions (λ f. f) (λ f. f < g.functions) starts leads (λ f lt. lt) (λ f h a b e. e) no_call_cycle (g.owner v)) call.2
          (rank-falls (calls_of g) (call_test g) g.functions (λ f. f) (λ f. f < g.functions) starts leads (λ f lt. lt) (λ f h a b e. e) no_call_cycle call.0 f call.1 (ap is_some call.3) call.3);
    },
  )

  module _ (l : Loops) (extent : ℕ → ℕ → Bool) (acc : AreAccepted g l extent) where
    abbrev pub way_test : ℕ → Bool
    way_test e = plain_test g l e && is_some (g.target e)

    -- a node's number: that of its first edge
    abbrev pub first_edge_of : ℕ → ℕ
    first_edge_of v = number_or_0 (find_below g.edges (λ e. nat_eq (g.source e) v))

    pub first-is : (v : ℕ) → IsNode g v → (first_edge_of v < g.edges) × (g.source (first_edge_of v) ≡ v)
    first-is v node =
        let found : (k : ℕ) × (find_below g.edges (λ e. nat_eq (g.source e) v) ≡ Some k) =
        some_value (find_below g.edges (λ e. nat_eq (g.source e) v)) (find-some g.edges (λ e. nat_eq (g.source e) v) node.0 node.1 (eq-eqb (g.source node.0) v node.2)) in
        let holds : (found.0 < g.edges) × (nat_eq (g.source found.0) v ≡ true) = find-holds g.edges (λ e. nat_eq (g.source e) v) found.0 found.1 in
        let same : found.0 ≡ first_edge_of v = sym (ap number_or_0 found.1) in
        (subst (λ k. k < g.edges) same holds.0, ap g.source (sym same) ∙ eqb-true (g.source found.0) v holds.1)

    steps_plain : (es : List ℕ) (p : Option ℕ) → AreSteps g way_test p es → IsPlainPath g l p es
    steps_plain [] p are = tt
    steps_plain (e ∷ es) p are = (are.0, are.1, test-plain g l e (and_left (plain_test g l e) (is_some (g.target e)) are.2), steps_plain es (g.target e) are.3)

    no_plain_cycle : (v e : ℕ) (es : List ℕ) → AreSteps g way_test (Some v) (e ∷ es) → end_of g (Some v) (e ∷ es) ≡ Some v → ⊥
    no_plain_cycle v e es are ends = acc.no_cycle v (e ∷ es) ((λ q. let bad : ⊥ = cc in bad), steps_plain (e ∷ es) (Some v) are, ends)

    way_starts : (e : ℕ) → e < g.edges → way_test e ≡ true → IsNode g (g.source e)
    way_starts e lt passes = (e, lt, refl)

    way_leads : (e : ℕ) → e < g.edges → way_test e ≡ true → (u : ℕ) × (g.target e ≡ Some u) × IsNode g u
    way_leads e lt passes =
        let u : (u : ℕ) × (g.target e ≡ Some u) = some_value (g.target e) (and_right (plain_test g l e) (is_some (g.target e)) passes) in
        (u.0, u.1, (prog.stays e u.0 lt u.1).0)

    fits : (v : ℕ) → IsNode g v → first_edge_of v < g.edges
    fits v node = (first-is v node).0

    apart : (u v : ℕ) → IsNode g u → IsNode g v → first_edge_of u ≡ first_edge_of v → u ≡ v
    apart u v a b e = sym (first-is u a).1 ∙ ap g.source e ∙ (first-is v b).1

    way_rank : ℕ → ℕ
    way_rank v = rank g way_test g.edges first_edge_of (IsNode g) way_starts way_leads fits apart no_plain_cycle v

    pub plain_order : (count : ℕ) × ((place : ℕ → ℕ) × IsPlainOrder g l count place)
    unfolding way_rank
    plain_order = (
      suc g.edges,
      (
        λ v. g.edges - way_rank v,
        record {
          below = λ v node. (let r : g.edges - way_rank v < suc g.edges = omega arith in r);
          rises = λ e v lt plain to.
              let falls : way_rank v < way_rank (g.source e) = rank-falls g way_test g.edges first_edge_of (IsNode g) way_starts way_leads fits apart no_plain_cycle e v lt
              (and_both (plain_test g l e) (is_some (g.target e)) (plain-test g l e plain) (ap is_some to)) to in
              let most : way_rank (g.source e) < g.edges = rank-lt g way_test g.edges first_edge_of (IsNode g) way_starts way_leads fits apart no_plain_cycle (g.source e) (e, lt, refl) in
              (let r : g.edges - way_rank (g.source e) < g.edges - way_rank v = omega arith in r);
        },
      ),
    )
