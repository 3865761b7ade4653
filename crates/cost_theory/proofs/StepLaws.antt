-- The step law at the states of kept runs.
use Rattle.std.proofs.Common.{◌≡◌, ℕ, ◌+◌, ◌<◌, ◌≤◌, Bool, List, ◌∷◌, Some, None, IsSome, ap, ◌∙◌, subst, arith}
use Rattle.cost_theory.specs.Graph.{Graph, Loops, count_step, AreWithin, next_edge}
use Rattle.cost_theory.specs.Worst.{Numbers, cost, slack, left_behind, turns_taken, rest}
use Rattle.cost_theory.specs.Accepted.{IsNode, IsCallOrder}
use Rattle.cost_theory.specs.Steps.{GraphState, Transition, edge_of, go_back, after_return, after, IsKept, AreKept, after_all, graph_start, state_after, cycles, left_at_node, cycles_left}
use Rattle.cost_theory.specs.Steps.Transition.{Along, Call, Return}
use Rattle.cost_theory.specs.Laws.{IsAnalyzed}
use Rattle.cost_theory.proofs.Basics.{some_value}
use Rattle.cost_theory.proofs.Law.{IsChain, Stands, IsSound, along_law, call_law, next-is}
use Rattle.cost_theory.proofs.Runs as runs
use Rattle.cost_theory.proofs.Runs.{sound_run, sound_after, left_here, chain_here, left_start, run_law, sound_start}
use Rattle.cost_theory.proofs.Rest.{left_after-rest}

module _ (g : Graph) (l : Loops) (extent : ℕ → ℕ → Bool) (w : ℕ → ℕ) (n : Numbers) (is : IsAnalyzed g l extent w n) where
  pub step-lowers : (ms : List Transition) (m : Transition) → AreKept g l (graph_start g) ms → IsKept g l (state_after g l ms) m →
      w (edge_of m) + cycles_left g l w n (after g l (state_after g l ms) m) ≤ cycles_left g l w n (state_after g l ms)
  step-lowers ms m kept step = runs.step_law g l extent w n is.program is.accepted is.weights is.numbers (state_after g l ms) m (sound_run g l extent is.program ms kept) step

  -- along an edge, from any sound state
  pub along_at : (s : GraphState) (e : ℕ) → IsSound g l s → IsKept g l s (Along e) →
      cycles_left g l w n s ≡ w e + slack g l n (cost g n w) e + cycles_left g l w n (after g l s (Along e)) + left_behind g l n s.counts e
  along_at s e sound kept =
      let v : (v : ℕ) × (g.target e ≡ Some v) = some_value (g.target e) kept.move.1 in
      let within : AreWithin l (count_step l (Some (g.source e)) (Some v.0) s.counts) = subst (λ o. AreWithin l (count_step l (Some (g.source e)) o s.counts)) v.1 kept.within in
      let law : left_at_node g l w n (Some (g.source e)) s.calls s.counts ≡
      w e + slack g l n (cost g n w) e + left_at_node g l w n (Some v.0) s.calls (count_step l (Some (g.source e)) (Some v.0) s.counts) + left_behind g l n s.counts e =
      along_law g l extent w n is.program is.accepted is.weights is.numbers e v.0 s.calls s.counts kept.edge kept.move.0 v.1 within
      (chain_here g l extent w n is.program is.accepted is.weights is.numbers s (g.source e) kept.from sound) in
      let before : cycles_left g l w n s ≡ left_at_node g l w n (Some (g.source e)) s.calls s.counts =
      left_here g l extent w n is.program is.accepted is.weights is.numbers s (g.source e) kept.from in
      let behind : left_at_node g l w n (g.target e) s.calls (count_step l (Some (g.source e)) (g.target e) s.counts) ≡ left_at_node g l w n (Some v.0) s.calls (count_step l (Some (g.source e)) (Some v.0) s.counts) =
      ap (λ o. left_at_node g l w n o s.calls (count_step l (Some (g.source e)) o s.counts)) v.1 in
      omega arith

  pub step-along : (ms : List Transition) (e : ℕ) → AreKept g l (graph_start g) ms → IsKept g l (state_after g l ms) (Along e) →
      cycles_left g l w n (state_after g l ms) ≡
      w e + slack g l n (cost g n w) e + cycles_left g l w n (after g l (state_after g l ms) (Along e)) + left_behind g l n (state_after g l ms).counts e
  step-along ms e kept step = along_at (state_after g l ms) e (sound_run g l extent is.program ms kept) step

  -- a call that comes back, from any sound state
  pub call_at : (s : GraphState) (e f : ℕ) → IsSound g l s → IsKept g l s (Call e f) → IsSome (next_edge g (g.source e)) →
      cycles_left g l w n s ≡ w e + cycles_left g l w n (after g l s (Call e f))
  call_at s e f sound kept comes =
      let d : (d : ℕ) × (next_edge g (g.source e) ≡ Some d) = some_value (next_edge g (g.source e)) comes in
      let law : left_at_node g l w n (Some (g.source e)) s.calls s.counts ≡ w e + left_at_node g l w n (Some (g.entry f)) (g.source e ∷ s.calls) (count_step l None (Some (g.entry f)) s.counts) =
      call_law g l extent w n is.program is.accepted is.weights is.numbers e f d.0 s.calls s.counts kept.edge kept.move.0 kept.move.1 d.1
      (chain_here g l extent w n is.program is.accepted is.weights is.numbers s (g.source e) kept.from sound) in
      left_here g l extent w n is.program is.accepted is.weights is.numbers s (g.source e) kept.from ∙ law

  pub step-call : (ms : List Transition) (e f : ℕ) → AreKept g l (graph_start g) ms → IsKept g l (state_after g l ms) (Call e f) → IsSome (next_edge g (g.source e)) →
      cycles_left g l w n (state_after g l ms) ≡ w e + cycles_left g l w n (after g l (state_after g l ms) (Call e f))
  step-call ms e f kept step comes = call_at (state_after g l ms) e f (sound_run g l extent is.program ms kept) step comes

  pub run-within : (ms : List Transition) → AreKept g l (graph_start g) ms → cycles w ms + cycles_left g l w n (state_after g l ms) ≤ n.worst 0
  run-within ms kept =
      let law : cycles w ms + cycles_left g l w n (after_all g l (graph_start g) ms) ≤ cycles_left g l w n (graph_start g) =
      run_law g l extent w n is.program is.accepted is.weights is.numbers ms (graph_start g) (sound_start g l extent is.program) kept in
      let at : cycles_left g l w n (graph_start g) ≡ n.worst 0 = left_start g l extent w n is.program is.accepted is.weights is.numbers in
      omega arith

  module _ (order : ℕ → ℕ) (falls : IsCallOrder g order) where
    -- a state behind an edge
    pub behind-turns : (s : GraphState) (e v : ℕ) → IsSound g l s → e < g.edges → g.target e ≡ Some v → s.node ≡ Some v → cycles_left g l w n s + turns_taken l n s.counts (g.target e) ≤ rest g l n e
    behind-turns s e v sound lt to at =
        let here : IsNode g v × IsChain g (g.owner v) s.calls = subst (λ p. Stands g p s.calls) at sound.stands in
        let h : left_at_node g l w n (Some v) s.calls s.counts + turns_taken l n s.counts (Some v) ≤ rest g l n e =
        left_after-rest g l extent w n is.program is.accepted is.weights is.numbers order falls e v s.calls s.counts lt to here.1 sound.within in
        let q : cycles_left g l w n s ≡ left_at_node g l w n (Some v) s.calls s.counts = left_here g l extent w n is.program is.accepted is.weights is.numbers s v at in
        let t : turns_taken l n s.counts (g.target e) ≡ turns_taken l n s.counts (Some v) = ap (turns_taken l n s.counts) to in
        omega arith

    pub behind-rest : (s : GraphState) (e v : ℕ) → IsSound g l s → e < g.edges → g.target e ≡ Some v → s.node ≡ Some v → cycles_left g l w n s ≤ rest g l n e
    behind-rest s e v sound lt to at = let h = behind-turns s e v sound lt to at in omega (arith, h)

    pub along-turns : (ms : List Transition) (e : ℕ) → AreKept g l (graph_start g) ms → IsKept g l (state_after g l ms) (Along e) →
        cycles_left g l w n (after g l (state_after g l ms) (Along e)) + turns_taken l n (after g l (state_after g l ms) (Along e)).counts (g.target e) ≤ rest g l n e
    along-turns ms e kept step =
        let v : (v : ℕ) × (g.target e ≡ Some v) = some_value (g.target e) step.move.1 in
        behind-turns (after g l (state_after g l ms) (Along e)) e v.0
        (sound_after g l extent is.program (state_after g l ms) (Along e) (sound_run g l extent is.program ms kept) step) step.edge v.1 v.1

    pub along-rest : (ms : List Transition) (e : ℕ) → AreKept g l (graph_start g) ms → IsKept g l (state_after g l ms) (Along e) →
        cycles_left g l w n (after g l (state_after g l ms) (Along e)) ≤ rest g l n e
    along-rest ms e kept step =
        let v : (v : ℕ) × (g.target e ≡ Some v) = some_value (g.target e) step.move.1 in
        behind-rest (after g l (state_after g l ms) (Along e)) e v.0
        (sound_after g l extent is.program (state_after g l ms) (Along e) (sound_run g l extent is.program ms kept) step) step.edge v.1 v.1

    pub return-rest : (ms : List Transition) (e u d : ℕ) (calls : List ℕ) → AreKept g l (graph_start g) ms → IsKept g l (state_after g l ms) (Return e) →
        (state_after g l ms).calls ≡ u ∷ calls → next_edge g u ≡ Some d →
        cycles_left g l w n (after g l (state_after g l ms) (Return e)) ≤ rest g l n d
    return-rest ms e u d calls kept step are next =
        let found : (d < g.edges) × (g.source d ≡ u) × ((f : ℕ) × (g.callee d ≡ Some f)) × ((v : ℕ) × (g.target d ≡ Some v)) = next-is g u d next in
        let at : (after g l (state_after g l ms) (Return e)).node ≡ g.target d =
        ap (λ cs. (after_return g l cs (state_after g l ms).counts).node) are ∙ ap (λ o. (go_back g l u o calls (state_after g l ms).counts).node) next in
        behind-rest (after g l (state_after g l ms) (Return e)) d found.3.0
        (sound_after g l extent is.program (state_after g l ms) (Return e) (sound_run g l extent is.program ms kept) step) found.0 found.3.1 (at ∙ found.3.1)
