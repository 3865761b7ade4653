-- The step law over whole runs.
use Rattle.std.proofs.Common.{◌≡◌, ℕ, ◌+◌, ◌*◌, ◌-◌, ◌<◌, ◌≤◌, Bool, true, List, [], ◌∷◌, Option, Some, None, is_some, refl, sym, ap, ◌∙◌, subst, arith}
use Rattle.cost_theory.specs.Graph.{Graph, Loops, sum_below, only, count_step, AreWithin, next_edge}
use Rattle.cost_theory.specs.Worst.{Numbers, cost, AreNumbers, all_of, turns, turns_round, left_behind, slack}
use Rattle.cost_theory.specs.Accepted.{IsNode, IsCall, IsProgram, AreWeights, AreAccepted}
use Rattle.cost_theory.specs.Steps.{GraphState, Transition, edge_of, go_back, after_return, after, ComesBack, IsKept, AreKept, after_all, graph_start, state_after, cycles, left_at_node, cycles_left}
use Rattle.cost_theory.specs.Steps.Transition.{Along, Call, Return, Exit}
use Rattle.cost_theory.proofs.Basics.{some_value, sum-same}
use Rattle.cost_theory.proofs.Law.{IsChain, Stands, IsSound, worst_equation, along_law, call_law, last_call_law, return_law, exit_law, next-is}

module _ (g : Graph) (l : Loops) (extent : ℕ → ℕ → Bool) (prog : IsProgram g) where
  -- a run stands in the chain of its calls
  pub stands_after : (s : GraphState) (m : Transition) → IsSound g l s → IsKept g l s m → Stands g (after g l s m).node (after g l s m).calls
  stands_after s (Along e) sound kept = go (g.target e) refl
    where
      here : IsNode g (g.source e) × IsChain g (g.owner (g.source e)) s.calls
      here = subst (λ p. Stands g p s.calls) kept.from sound.stands

      go : (o : Option ℕ) → g.target e ≡ o → Stands g (g.target e) s.calls
      go None to = subst (λ o. Stands g o s.calls) (sym to) tt
      go (Some v) to = subst (λ o. Stands g o s.calls) (sym to)
          ((prog.stays e v kept.edge to).0, subst (λ f. IsChain g f s.calls) (sym (prog.stays e v kept.edge to).1) here.1)
  stands_after s (Call e f) sound kept =
      let here : IsNode g (g.source e) × IsChain g (g.owner (g.source e)) s.calls = subst (λ p. Stands g p s.calls) kept.from sound.stands in
      let fl : f < g.functions = prog.callee_function e f kept.edge kept.move.0 in
      (prog.entry_node f fl, (subst (λ i. IsCall g (g.source e) i) (sym (prog.entry_owner f fl)) (e, kept.edge, refl, kept.move.0), here.1))
  stands_after s (Return e) sound kept = go s.calls (subst (λ p. Stands g p s.calls) kept.from sound.stands) kept.move.1
    where
      back : (u : ℕ) (calls : List ℕ) → IsChain g (g.owner u) calls → (o : Option ℕ) → next_edge g u ≡ o → Stands g (go_back g l u o calls s.counts).node (go_back g l u o calls s.counts).calls
      back u calls chain None is = tt
      back u calls chain (Some d) is = on (g.target d) refl
        where
          found : (d < g.edges) × (g.source d ≡ u) × ((f : ℕ) × (g.callee d ≡ Some f)) × ((v : ℕ) × (g.target d ≡ Some v))
          found = next-is g u d is

          on : (o : Option ℕ) → g.target d ≡ o → Stands g (g.target d) calls
          on None to = subst (λ o. Stands g o calls) (sym to) tt
          on (Some v) to = subst (λ o. Stands g o calls) (sym to)
              ((prog.stays d v found.0 to).0, subst (λ f. IsChain g f calls) (sym ((prog.stays d v found.0 to).1 ∙ ap g.owner found.1)) chain)

      go : (calls : List ℕ) → IsNode g (g.source e) × IsChain g (g.owner (g.source e)) calls → ComesBack g calls → Stands g (after_return g l calls s.counts).node (after_return g l calls s.counts).calls
      go [] here comes = absurd comes
      go (u ∷ calls) here comes = back u calls here.1.1 (next_edge g u) refl
  stands_after s (Exit e) sound kept = tt

  pub sound_after : (s : GraphState) (m : Transition) → IsSound g l s → IsKept g l s m → IsSound g l (after g l s m)
  sound_after s m sound kept = record { stands = stands_after s m sound kept; within = kept.within }

  pub sound_after_all : (ms : List Transition) (s : GraphState) → IsSound g l s → AreKept g l s ms → IsSound g l (after_all g l s ms)
  sound_after_all [] s sound kept = sound
  sound_after_all (m ∷ ms) s sound kept = sound_after_all ms (after g l s m) (sound_after s m sound kept.0) kept.1

  -- at the start
  pub sound_start : IsSound g l (graph_start g)
  sound_start = record { stands = (prog.entry_node 0 prog.main, tt); within = λ k kl. omega arith }

  -- and after each kept run
  pub sound_run : (ms : List Transition) → AreKept g l (graph_start g) ms → IsSound g l (state_after g l ms)
  sound_run ms kept = sound_after_all ms (graph_start g) sound_start kept

module _ (g : Graph) (l : Loops) (extent : ℕ → ℕ → Bool) (w : ℕ → ℕ) (n : Numbers)
    (prog : IsProgram g) (acc : AreAccepted g l extent) (weights : AreWeights g w) (nums : AreNumbers g l w n) where
  -- where a run stands at an edge, what is left there is what is left at its node
  pub left_here : (s : GraphState) (u : ℕ) → s.node ≡ Some u → cycles_left g l w n s ≡ left_at_node g l w n (Some u) s.calls s.counts
  left_here s u at = ap (λ p. left_at_node g l w n p s.calls s.counts) at

  pub chain_here : (s : GraphState) (u : ℕ) → s.node ≡ Some u → IsSound g l s → IsChain g (g.owner u) s.calls
  chain_here s u at sound = let here : IsNode g u × IsChain g (g.owner u) s.calls = subst (λ p. Stands g p s.calls) at sound.stands in here.1

  -- each kept step lowers the cycles left by at least its weight
  pub step_law : (s : GraphState) (m : Transition) → IsSound g l s → IsKept g l s m →
      w (edge_of m) + cycles_left g l w n (after g l s m) ≤ cycles_left g l w n s
  step_law s (Along e) sound kept =
      let v : (v : ℕ) × (g.target e ≡ Some v) = some_value (g.target e) kept.move.1 in
      let within : AreWithin l (count_step l (Some (g.source e)) (Some v.0) s.counts) = subst (λ o. AreWithin l (count_step l (Some (g.source e)) o s.counts)) v.1 kept.within in
      let law : left_at_node g l w n (Some (g.source e)) s.calls s.counts ≡
      w e + slack g l n (cost g n w) e + left_at_node g l w n (Some v.0) s.calls (count_step l (Some (g.source e)) (Some v.0) s.counts) + left_behind g l n s.counts e =
      along_law g l extent w n prog acc weights nums e v.0 s.calls s.counts kept.edge kept.move.0 v.1 within (chain_here s (g.source e) kept.from sound) in
      let before : cycles_left g l w n s ≡ left_at_node g l w n (Some (g.source e)) s.calls s.counts = left_here s (g.source e) kept.from in
      let behind : left_at_node g l w n (g.target e) s.calls (count_step l (Some (g.source e)) (g.target e) s.counts) ≡ left_at_node g l w n (Some v.0) s.calls (count_step l (Some (g.source e)) (Some v.0) s.counts) =
      ap (λ o. left_at_node g l w n o s.calls (count_step l (Some (g.source e)) o s.counts)) v.1 in
      omega arith
  step_law s (Call e f) sound kept = go (next_edge g (g.source e)) refl
    where
      go : (o : Option ℕ) → next_edge g (g.source e) ≡ o →
          w e + left_at_node g l w n (Some (g.entry f)) (g.source e ∷ s.calls) (count_step l None (Some (g.entry f)) s.counts) ≤ cycles_left g l w n s
      go None next =
          let law : w e + left_at_node g l w n (Some (g.entry f)) (g.source e ∷ s.calls) (count_step l None (Some (g.entry f)) s.counts) ≤ left_at_node g l w n (Some (g.source e)) s.calls s.counts =
          last_call_law g l extent w n prog acc weights nums e f s.calls s.counts kept.edge kept.move.0 kept.move.1 next in
          let before : cycles_left g l w n s ≡ left_at_node g l w n (Some (g.source e)) s.calls s.counts = left_here s (g.source e) kept.from in
          omega arith
      go (Some d) next =
          let law : left_at_node g l w n (Some (g.source e)) s.calls s.counts ≡ w e + left_at_node g l w n (Some (g.entry f)) (g.source e ∷ s.calls) (count_step l None (Some (g.entry f)) s.counts) =
          call_law g l extent w n prog acc weights nums e f d s.calls s.counts kept.edge kept.move.0 kept.move.1 next (chain_here s (g.source e) kept.from sound) in
          let before : cycles_left g l w n s ≡ left_at_node g l w n (Some (g.source e)) s.calls s.counts = left_here s (g.source e) kept.from in
          omega arith
  step_law s (Return e) sound kept = go s.calls refl (chain_here s (g.source e) kept.from sound) kept.move.1 kept.within
    where
      back : (u : ℕ) (calls : List ℕ) → s.calls ≡ u ∷ calls → IsChain g (g.owner u) calls → (o : Option ℕ) → next_edge g u ≡ o → is_some o ≡ true →
          AreWithin l (go_back g l u o calls s.counts).counts →
          w e + cycles_left g l w n (go_back g l u o calls s.counts) ≤ cycles_left g l w n s
      back u calls are chain None next comes within = let bad : ⊥ = cc in absurd bad
      back u calls are chain (Some d) next comes within =
          let v : (v : ℕ) × (g.target d ≡ Some v) = (next-is g u d next).3 in
          let w' : AreWithin l (count_step l (Some u) (Some v.0) s.counts) = subst (λ o. AreWithin l (count_step l (Some u) o s.counts)) v.1 within in
          let law : w e + left_at_node g l w n (Some v.0) calls (count_step l (Some u) (Some v.0) s.counts) ≤ left_at_node g l w n (Some (g.source e)) (u ∷ calls) s.counts =
          return_law g l extent w n prog acc weights nums e u d v.0 calls s.counts kept.edge kept.move.0 next v.1 w' chain in
          let behind : left_at_node g l w n (g.target d) calls (count_step l (Some u) (g.target d) s.counts) ≡ left_at_node g l w n (Some v.0) calls (count_step l (Some u) (Some v.0) s.counts) =
          ap (λ o. left_at_node g l w n o calls (count_step l (Some u) o s.counts)) v.1 in
          let before : cycles_left g l w n s ≡ left_at_node g l w n (Some (g.source e)) s.calls s.counts = left_here s (g.source e) kept.from in
          let opened : left_at_node g l w n (Some (g.source e)) s.calls s.counts ≡ left_at_node g l w n (Some (g.source e)) (u ∷ calls) s.counts =
          ap (λ cs. left_at_node g l w n (Some (g.source e)) cs s.counts) are in
          omega arith

      go : (calls : List ℕ) → s.calls ≡ calls → IsChain g (g.owner (g.source e)) calls → ComesBack g calls → AreWithin l (after_return g l calls s.counts).counts →
          w e + cycles_left g l w n (after_return g l calls s.counts) ≤ cycles_left g l w n s
      go [] are chain comes within = absurd comes
      go (u ∷ calls) are chain comes within = back u calls are chain.1 (next_edge g u) refl comes within
  step_law s (Exit e) sound kept =
      let law : w e ≤ left_at_node g l w n (Some (g.source e)) s.calls s.counts = exit_law g l extent w n prog acc weights nums e s.calls s.counts kept.edge kept.move in
      let before : cycles_left g l w n s ≡ left_at_node g l w n (Some (g.source e)) s.calls s.counts = left_here s (g.source e) kept.from in
      omega arith

  -- a kept run's cycles and those left after it are at most those left before it
  pub run_law : (ms : List Transition) (s : GraphState) → IsSound g l s → AreKept g l s ms →
      cycles w ms + cycles_left g l w n (after_all g l s ms) ≤ cycles_left g l w n s
  run_law [] s sound kept = omega arith
  run_law (m ∷ ms) s sound kept =
      let ih : cycles w ms + cycles_left g l w n (after_all g l (after g l s m) ms) ≤ cycles_left g l w n (after g l s m) =
      run_law ms (after g l s m) (sound_after g l extent prog s m sound kept.0) kept.1 in
      let step : w (edge_of m) + cycles_left g l w n (after g l s m) ≤ cycles_left g l w n s = step_law s m sound kept.0 in
      omega arith

  -- at the start the worst cycles are left
  pub left_start : cycles_left g l w n (graph_start g) ≡ n.worst 0
  left_start =
      let eq : n.worst 0 ≡ n.left (g.entry 0) + turns_round l n (Some (g.entry 0)) = worst_equation g l extent w n prog acc weights nums 0 prog.main in
      let sums : sum_below l.loops (λ k. only (l.inside k (g.entry 0)) (turns l n (λ k. 0) k)) ≡ sum_below l.loops (λ k. only (l.inside k (g.entry 0)) (all_of l n k)) =
      sum-same l.loops (λ k. only (l.inside k (g.entry 0)) (turns l n (λ k. 0) k)) (λ k. only (l.inside k (g.entry 0)) (all_of l n k))
      (λ k kl. ap (λ x. only (l.inside k (g.entry 0)) (x * n.iteration k)) (let m : l.bound k - 0 ≡ l.bound k = omega arith in m)) in
      omega arith

  -- so a kept run has at most the worst cycles
  pub run-worst : (ms : List Transition) → AreKept g l (graph_start g) ms → cycles w ms ≤ n.worst 0
  run-worst ms kept =
      let law : cycles w ms + cycles_left g l w n (after_all g l (graph_start g) ms) ≤ cycles_left g l w n (graph_start g) = run_law ms (graph_start g) (sound_start g l extent prog) kept in
      let at : cycles_left g l w n (graph_start g) ≡ n.worst 0 = left_start in
      omega arith
