-- The step law: each kept step lowers the cycles left by at least its cost.
use Rattle.std.proofs.Common.{◌≡◌, ℕ, ◌+◌, ◌*◌, ◌-◌, ◌<◌, ◌≤◌, Bool, true, false, ◌&&◌, nat_eq, List, [], ◌∷◌, Option, Some, None, is_some, refl, sym, ap, ◌∙◌, subst, arith, eqb-true, eq-eqb, ne_eqb}
use Rattle.cost_theory.specs.Graph.{Graph, Loops, sum_below, only, is_header, count_step, AreWithin, next_edge}
use Rattle.cost_theory.specs.Worst.{Numbers, IsGreatest, all_of, at_some, cost, charged, AreNumbers, turns, turns_round, left_from, left_behind, slack}
use Rattle.cost_theory.specs.Accepted.{IsNode, IsCall, AreCalls, IsProgram, AreWeights, AreAccepted}
use Rattle.cost_theory.specs.Steps.{GraphState, left_call, add_call, left_calls, left_at_node}
use Rattle.cost_theory.proofs.Basics.{and_left, and_right, sum-same, some_value, find-holds}
use Rattle.cost_theory.proofs.Append.{count_same, count_anew}
use Rattle.cost_theory.proofs.Slack.{AreEnteredAtHeaders, plain-left}
use Rattle.cost_theory.proofs.Potential.{left_step, end-plain}
use Rattle.cost_theory.proofs.Equation.{worst_is}
use Rattle.cost_theory.proofs.Nesting.{nested, entered_at_headers, entry_header, accepted_entered}

pub greatest_same : {A : Type 0} (P : A → Type 0) (value : A → ℕ) (a b : ℕ) → IsGreatest P value a → IsGreatest P value b → a ≡ b
greatest_same P value a b one two =
    let le : a ≤ b = subst (λ x. x ≤ b) one.reached.2 (two.most one.reached.0 one.reached.1) in
    let ge : b ≤ a = subst (λ x. x ≤ a) two.reached.2 (one.most two.reached.0 two.reached.1) in
    omega arith

-- what next_edge finds
pub next-is : (g : Graph) (u d : ℕ) → next_edge g u ≡ Some d → (d < g.edges) × (g.source d ≡ u) × ((f : ℕ) × (g.callee d ≡ Some f)) × ((v : ℕ) × (g.target d ≡ Some v))
next-is g u d e =
    let p : (d < g.edges) × ((nat_eq (g.source d) u && (is_some (g.callee d) && is_some (g.target d))) ≡ true) = find-holds g.edges (λ e. nat_eq (g.source e) u && (is_some (g.callee e) && is_some (g.target e))) d e in
    let q : (is_some (g.callee d) && is_some (g.target d)) ≡ true = and_right (nat_eq (g.source d) u) (is_some (g.callee d) && is_some (g.target d)) p.1 in (
      p.0,
      eqb-true (g.source d) u (and_left (nat_eq (g.source d) u) (is_some (g.callee d) && is_some (g.target d)) p.1),
      some_value (g.callee d) (and_left (is_some (g.callee d)) (is_some (g.target d)) q),
      some_value (g.target d) (and_right (is_some (g.callee d)) (is_some (g.target d)) q),
    )

-- each suspended call is a call of the function in which the run goes on within it
abbrev pub IsChain : Graph → ℕ → List ℕ → Type 0
IsChain g f [] = Unit {0}
IsChain g f (u ∷ calls) = IsCall g u f × IsChain g (g.owner u) calls

abbrev pub Stands : Graph → Option ℕ → List ℕ → Type 0
Stands g None calls = Unit {0}
Stands g (Some v) calls = IsNode g v × IsChain g (g.owner v) calls

pub record IsSound (g : Graph) (l : Loops) (s : GraphState) : Type 0 where
  pub stands : Stands g s.node s.calls
  pub within : AreWithin l s.counts

module _ (g : Graph) (l : Loops) (extent : ℕ → ℕ → Bool) (w : ℕ → ℕ) (n : Numbers)
    (prog : IsProgram g) (acc : AreAccepted g l extent) (weights : AreWeights g w) (nums : AreNumbers g l w n) where
  ways : AreEnteredAtHeaders g l
  ways = entered_at_headers g l extent prog (accepted_entered acc)

  -- the equation of the worst cycles
  pub worst_equation : (f : ℕ) → f < g.functions → n.worst f ≡ n.left (g.entry f) + turns_round l n (Some (g.entry f))
  worst_equation f fl = greatest_same _ _ _ _ (nums.worst f fl)
      (worst_is g l (cost g n w) n (nested g l extent prog (accepted_entered acc)) nums.loops (g.entry f) (λ k kl r. entry_header g l extent prog (accepted_entered acc) f k fl kl r))

  -- a step to a node of one function leaves the loops round the nodes of another alone
  pub other_count : (k u v : ℕ) (from : Option ℕ) (counts : ℕ → ℕ) → k < l.loops → l.inside k u ≡ true → (g.owner u ≡ g.owner v → ⊥) →
      count_step l from (Some v) counts k ≡ counts k
  other_count k u v from counts kl in_u apart = count_same g l k from (Some v) counts (ne_eqb v (l.header k) (λ e.
      apart (((acc.bodies k u kl).0 in_u).0 ∙ ap g.owner (sym e))))

  -- and what is left of its calls
  pub left_calls_same : (calls : List ℕ) (f v : ℕ) (fs : List ℕ) (from : Option ℕ) (counts : ℕ → ℕ) → IsChain g f calls → AreCalls g f fs (g.owner v) →
      left_calls g l w n (count_step l from (Some v) counts) calls ≡ left_calls g l w n counts calls
  left_calls_same [] f v fs from counts chain path = refl
  left_calls_same (u ∷ calls) f v fs from counts chain path =
      go (next_edge g u) (left_calls_same calls (g.owner u) v (f ∷ fs) from counts chain.1 ((u, refl, chain.0), path))
    where
      apart : g.owner u ≡ g.owner v → ⊥
      apart e = prog.no_recursion (g.owner u) f fs ((u, refl, chain.0), subst (λ i. AreCalls g f fs i) (sym e) path)

      each : (k : ℕ) → k < l.loops → (b : Bool) → l.inside k u ≡ b → only b (turns l n (count_step l from (Some v) counts) k) ≡ only b (turns l n counts k)
      each k kl false is = refl
      each k kl true is = ap (λ x. (l.bound k - x) * n.iteration k) (other_count k u v from counts kl is apart)

      sums : sum_below l.loops (λ k. only (l.inside k u) (turns l n (count_step l from (Some v) counts) k)) ≡ sum_below l.loops (λ k. only (l.inside k u) (turns l n counts k))
      sums = sum-same l.loops (λ k. only (l.inside k u) (turns l n (count_step l from (Some v) counts) k)) (λ k. only (l.inside k u) (turns l n counts k))
          (λ k kl. each k kl (l.inside k u) refl)

      go : (o : Option ℕ) → left_calls g l w n (count_step l from (Some v) counts) calls ≡ left_calls g l w n counts calls →
          add_call g l w n (count_step l from (Some v) counts) u o (left_calls g l w n (count_step l from (Some v) counts) calls) ≡ add_call g l w n counts u o (left_calls g l w n counts calls)
      go None ih = refl
      go (Some e) ih = let q : sum_below l.loops (λ k. only (l.inside k u) (turns l n (count_step l from (Some v) counts) k)) ≡ sum_below l.loops (λ k. only (l.inside k u) (turns l n counts k)) = sums in omega arith

  -- what is left before an end
  pub cost-le : (e : ℕ) → e < g.edges → g.target e ≡ None → cost g n w e ≤ n.left (g.source e)
  cost-le e lt to =
      let h : charged g l n (cost g n w) e + 0 ≤ n.left (g.source e) = plain-left g l (cost g n w) n nums.loops ways e lt (end-plain g l (cost g n w) n nums.loops ways e to) [] tt in
      omega arith

  -- 1. a local step
  pub along_law : (e v : ℕ) (calls : List ℕ) (counts : ℕ → ℕ) → e < g.edges → g.callee e ≡ None → g.target e ≡ Some v →
      AreWithin l (count_step l (Some (g.source e)) (Some v) counts) → IsChain g (g.owner (g.source e)) calls →
      left_at_node g l w n (Some (g.source e)) calls counts ≡
      w e + slack g l n (cost g n w) e + left_at_node g l w n (Some v) calls (count_step l (Some (g.source e)) (Some v) counts) + left_behind g l n counts e
  along_law e v calls counts lt no_call to within chain =
      let step : left_from l n (Some (g.source e)) counts ≡ cost g n w e + slack g l n (cost g n w) e + left_from l n (Some v) (count_step l (Some (g.source e)) (Some v) counts) + left_behind g l n counts e =
      left_step g l (cost g n w) n nums.loops ways e v counts lt to within in
      let price : cost g n w e ≡ w e + 0 = ap (λ o. w e + at_some o n.worst) no_call in
      let same : left_calls g l w n (count_step l (Some (g.source e)) (Some v) counts) calls ≡ left_calls g l w n counts calls =
      left_calls_same calls (g.owner (g.source e)) v [] (Some (g.source e)) counts chain (sym (prog.stays e v lt to).1) in
      omega arith

  -- the cycles left at a function's entry, as it is called, are its worst cycles
  pub left_entry : (f : ℕ) (counts : ℕ → ℕ) → f < g.functions →
      left_from l n (Some (g.entry f)) (count_step l None (Some (g.entry f)) counts) ≡ n.worst f
  left_entry f counts fl =
      let sums : sum_below l.loops (λ k. only (l.inside k (g.entry f)) (turns l n (count_step l None (Some (g.entry f)) counts) k)) ≡ sum_below l.loops (λ k. only (l.inside k (g.entry f)) (all_of l n k)) =
      sum-same l.loops (λ k. only (l.inside k (g.entry f)) (turns l n (count_step l None (Some (g.entry f)) counts) k)) (λ k. only (l.inside k (g.entry f)) (all_of l n k))
      (λ k kl. each k kl (l.inside k (g.entry f)) refl) in
      let eq : n.worst f ≡ n.left (g.entry f) + turns_round l n (Some (g.entry f)) = worst_equation f fl in
      omega arith
    where
      each : (k : ℕ) → k < l.loops → (b : Bool) → l.inside k (g.entry f) ≡ b → only b (turns l n (count_step l None (Some (g.entry f)) counts) k) ≡ only b (all_of l n k)
      each k kl false is = refl
      each k kl true is =
          let at : is_header l k (Some (g.entry f)) ≡ true = eq-eqb (g.entry f) (l.header k) (entry_header g l extent prog (accepted_entered acc) f k fl kl is) in
          let z : count_step l None (Some (g.entry f)) counts k ≡ 0 = count_anew g l k None (Some (g.entry f)) counts at refl in
          ap (λ x. (l.bound k - x) * n.iteration k) z ∙ ap (λ x. x * n.iteration k) (let m : l.bound k - 0 ≡ l.bound k = omega arith in m)

  -- the edges of one call have one cost
  pub same_cost : (d e f : ℕ) → d < g.edges → e < g.edges → g.source d ≡ g.source e → g.callee d ≡ Some f → cost g n w d ≡ cost g n w e
  same_cost d e f dl el same calls =
      let p : w d ≡ w e = weights d e f dl el same calls in
      let q : at_some (g.callee d) n.worst ≡ at_some (g.callee e) n.worst = ap (λ o. at_some o n.worst) (prog.one_callee d e dl el same) in
      omega arith

  -- 2. a call that comes back
  pub call_law : (e f d : ℕ) (calls : List ℕ) (counts : ℕ → ℕ) → e < g.edges → g.callee e ≡ Some f → g.target e ≡ None →
      next_edge g (g.source e) ≡ Some d → IsChain g (g.owner (g.source e)) calls →
      left_at_node g l w n (Some (g.source e)) calls counts ≡
      w e + left_at_node g l w n (Some (g.entry f)) (g.source e ∷ calls) (count_step l None (Some (g.entry f)) counts)
  call_law e f d calls counts lt calls_f to next chain =
      let fl : f < g.functions = prog.callee_function e f lt calls_f in
      let found : (d < g.edges) × (g.source d ≡ g.source e) × ((f : ℕ) × (g.callee d ≡ Some f)) × ((v : ℕ) × (g.target d ≡ Some v)) = next-is g (g.source e) d next in
      let same : left_calls g l w n (count_step l None (Some (g.entry f)) counts) (g.source e ∷ calls) ≡ left_calls g l w n counts (g.source e ∷ calls) =
      left_calls_same (g.source e ∷ calls) f (g.entry f) [] None counts ((e, lt, refl, calls_f), chain) (sym (prog.entry_owner f fl)) in
      let opened : left_calls g l w n counts (g.source e ∷ calls) ≡ left_call g l w n counts (g.source e) d + left_calls g l w n counts calls =
      ap (λ o. add_call g l w n counts (g.source e) o (left_calls g l w n counts calls)) next in
      let entry : left_from l n (Some (g.entry f)) (count_step l None (Some (g.entry f)) counts) ≡ n.worst f = left_entry f counts fl in
      let room : cost g n w e ≤ n.left (g.source e) = cost-le e lt to in
      let price : cost g n w e ≡ w e + n.worst f = ap (λ o. w e + at_some o n.worst) calls_f in
      let one : cost g n w d ≡ cost g n w e = same_cost d e found.2.0 found.0 lt found.1 found.2.1 in
      omega arith

  -- 3. a call that does not
  pub last_call_law : (e f : ℕ) (calls : List ℕ) (counts : ℕ → ℕ) → e < g.edges → g.callee e ≡ Some f → g.target e ≡ None →
      next_edge g (g.source e) ≡ None →
      w e + left_at_node g l w n (Some (g.entry f)) (g.source e ∷ calls) (count_step l None (Some (g.entry f)) counts) ≤
      left_at_node g l w n (Some (g.source e)) calls counts
  last_call_law e f calls counts lt calls_f to next =
      let opened : left_calls g l w n (count_step l None (Some (g.entry f)) counts) (g.source e ∷ calls) ≡ 0 =
      ap (λ o. add_call g l w n (count_step l None (Some (g.entry f)) counts) (g.source e) o (left_calls g l w n (count_step l None (Some (g.entry f)) counts) calls)) next in
      let entry : left_from l n (Some (g.entry f)) (count_step l None (Some (g.entry f)) counts) ≡ n.worst f = left_entry f counts (prog.callee_function e f lt calls_f) in
      let room : cost g n w e ≤ n.left (g.source e) = cost-le e lt to in
      let price : cost g n w e ≡ w e + n.worst f = ap (λ o. w e + at_some o n.worst) calls_f in
      omega arith

  -- 4. a return
  pub return_law : (e u d v : ℕ) (calls : List ℕ) (counts : ℕ → ℕ) → e < g.edges → g.returns e ≡ true → next_edge g u ≡ Some d → g.target d ≡ Some v →
      AreWithin l (count_step l (Some u) (Some v) counts) → IsChain g (g.owner u) calls →
      w e + left_at_node g l w n (Some v) calls (count_step l (Some u) (Some v) counts) ≤ left_at_node g l w n (Some (g.source e)) (u ∷ calls) counts
  return_law e u d v calls counts lt returns next to within chain =
      let found : (d < g.edges) × (g.source d ≡ u) × ((f : ℕ) × (g.callee d ≡ Some f)) × ((v : ℕ) × (g.target d ≡ Some v)) = next-is g u d next in
      let ended : (x : ℕ) × (x < g.edges) × (g.source x ≡ u) × (g.callee x ≡ Some found.2.0) × (g.target x ≡ None) = prog.call_end u found.2.0 (d, found.0, found.1, found.2.1) in
      let room : cost g n w ended.0 ≤ n.left (g.source ended.0) = cost-le ended.0 ended.1 ended.4 in
      let one : cost g n w ended.0 ≡ cost g n w d = same_cost ended.0 d found.2.0 ended.1 found.0 (ended.2 ∙ sym found.1) ended.3 in
      let at_u : n.left (g.source ended.0) ≡ n.left u = ap n.left ended.2 in
      let w' : AreWithin l (count_step l (Some (g.source d)) (Some v) counts) = subst (λ x. AreWithin l (count_step l (Some x) (Some v) counts)) (sym found.1) within in
      let step : left_from l n (Some (g.source d)) counts ≡ cost g n w d + slack g l n (cost g n w) d + left_from l n (Some v) (count_step l (Some (g.source d)) (Some v) counts) + left_behind g l n counts d =
      left_step g l (cost g n w) n nums.loops ways d v counts found.0 to w' in
      let from : left_from l n (Some (g.source d)) counts ≡ left_from l n (Some u) counts = ap (λ x. left_from l n (Some x) counts) found.1 in
      let onto : left_from l n (Some v) (count_step l (Some (g.source d)) (Some v) counts) ≡ left_from l n (Some v) (count_step l (Some u) (Some v) counts) =
      ap (λ x. left_from l n (Some v) (count_step l (Some x) (Some v) counts)) found.1 in
      let opened : left_calls g l w n counts (u ∷ calls) ≡ left_call g l w n counts u d + left_calls g l w n counts calls =
      ap (λ o. add_call g l w n counts u o (left_calls g l w n counts calls)) next in
      let owner : g.owner u ≡ g.owner v = sym ((prog.stays d v found.0 to).1 ∙ ap g.owner found.1) in
      let same : left_calls g l w n (count_step l (Some u) (Some v) counts) calls ≡ left_calls g l w n counts calls =
      left_calls_same calls (g.owner u) v [] (Some u) counts chain owner in
      let ends : (g.target e ≡ None) × (g.callee e ≡ None) = prog.return_end e lt returns in
      let price : cost g n w e ≡ w e + 0 = ap (λ o. w e + at_some o n.worst) ends.1 in
      let over : cost g n w e ≤ n.left (g.source e) = cost-le e lt ends.0 in
      omega arith

  -- 5. an exit
  pub exit_law : (e : ℕ) (calls : List ℕ) (counts : ℕ → ℕ) → e < g.edges → g.exits e ≡ true → w e ≤ left_at_node g l w n (Some (g.source e)) calls counts
  exit_law e calls counts lt exits =
      let ends : (g.target e ≡ None) × (g.callee e ≡ None) = prog.exit_end e lt exits in
      let price : cost g n w e ≡ w e + 0 = ap (λ o. w e + at_some o n.worst) ends.1 in
      let over : cost g n w e ≤ n.left (g.source e) = cost-le e lt ends.0 in
      omega arith
