-- An iteration costs at most the worst cycles and the weight of one edge: of the back edge that closes it, where that is no call.
use Rattle.std.proofs.Common.{◌≡◌, ℕ, ◌+◌, ◌<◌, ◌≤◌, Bool, true, ◌⊎◌, inl, inr, List, [], ◌∷◌, Option, Some, None, refl, sym, ap, subst, arith}
use Rattle.cost_theory.specs.Graph.{Graph, Loops, total, is_round, is_back, IsPlain, IsPlainPath, IsClosing}
use Rattle.cost_theory.specs.Worst.{Numbers, IsGreatest, IsGreatestIfAny, at_some, cost, charged, turns_round}
use Rattle.cost_theory.specs.Accepted.{IsNode, IsCallOrder}
use Rattle.cost_theory.specs.Laws.{IsAnalyzed}
use Rattle.cost_theory.proofs.Nesting.{nested, entered_at_headers, body_node, header_held, accepted_entered}
use Rattle.cost_theory.proofs.Turns.{back_charged}
use Rattle.cost_theory.proofs.Potential.{end-plain}
use Rattle.cost_theory.proofs.Law.{same_cost}
use Rattle.cost_theory.proofs.Orders.{left-worst}

module _ (g : Graph) (l : Loops) (extent : ℕ → ℕ → Bool) (w : ℕ → ℕ) (n : Numbers) (is : IsAnalyzed g l extent w n)
    (m : ℕ) (small : (e : ℕ) → e < g.edges → g.callee e ≡ None → w e ≤ m) where
  -- a plain edge before a plain path
  pub plain_before : (e u : ℕ) → e < g.edges → IsPlain g l e → g.target e ≡ Some u → charged g l n (cost g n w) e + n.plain u ≤ n.plain (g.source e)
  plain_before e u lt plain to =
      let best : IsGreatest (IsPlainPath g l (Some u)) (total (charged g l n (cost g n w))) (n.plain u) = is.numbers.loops.plain u in
      let path : IsPlainPath g l (g.target e) best.reached.0 = subst (λ o. IsPlainPath g l o best.reached.0) (sym to) best.reached.1 in
      let most : charged g l n (cost g n w) e + total (charged g l n (cost g n w)) best.reached.0 ≤ n.plain (g.source e) =
      (is.numbers.loops.plain (g.source e)).most (e ∷ best.reached.0) (lt, refl, plain, path) in
      let q : total (charged g l n (cost g n w)) best.reached.0 ≡ n.plain u = best.reached.2 in
      omega arith

  -- the edge that closes a path
  pub last-plain : (e k : ℕ) → e < g.edges → k < l.loops → is_back g l k e ≡ true → charged g l n (cost g n w) e ≤ n.plain (g.source e) + m
  last-plain e k lt kl back = go (g.callee e) refl
    where
      same : charged g l n (cost g n w) e ≡ cost g n w e
      same = back_charged g l (cost g n w) n (nested g l extent is.program (accepted_entered is.accepted)) e k lt kl back

      go : (o : Option ℕ) → g.callee e ≡ o → charged g l n (cost g n w) e ≤ n.plain (g.source e) + m
      go None no_call =
          let price : cost g n w e ≡ w e + 0 = ap (λ o. w e + at_some o n.worst) no_call in
          let le : w e ≤ m = small e lt no_call in
          let q : charged g l n (cost g n w) e ≡ cost g n w e = same in
          omega arith
      go (Some f) calls =
          let ended : (x : ℕ) × (x < g.edges) × (g.source x ≡ g.source e) × (g.callee x ≡ Some f) × (g.target x ≡ None) = is.program.call_end (g.source e) f (e, lt, refl, calls) in
          let one : cost g n w ended.0 ≡ cost g n w e = same_cost g l extent w n is.program is.accepted is.weights is.numbers ended.0 e f ended.1 lt ended.2 ended.3 in
          let most : charged g l n (cost g n w) ended.0 + 0 ≤ n.plain (g.source ended.0) =
          (is.numbers.loops.plain (g.source ended.0)).most (ended.0 ∷ []) (ended.1, refl, end-plain g l (cost g n w) n is.numbers.loops (entered_at_headers g l extent is.program (accepted_entered is.accepted)) ended.0 ended.4, tt) in
          let at : n.plain (g.source ended.0) ≡ n.plain (g.source e) = ap n.plain ended.2 in
          let q : charged g l n (cost g n w) e ≡ cost g n w e = same in
          omega arith

  -- a path that closes a loop
  pub closing-plain : (k : ℕ) → k < l.loops → (es : List ℕ) (v : ℕ) → IsClosing g l k (Some v) es → total (charged g l n (cost g n w)) es ≤ n.plain v + m
  closing-plain k kl [] v closes = absurd closes
  closing-plain k kl (e ∷ es) v closes = go closes.2 (λ u c. closing-plain k kl es u c)
    where
      here : n.plain v ≡ n.plain (g.source e)
      here = ap n.plain (let q : Some v ≡ Some (g.source e) = closes.1 in let r : v ≡ g.source e = cc in r)

      go : (((is_back g l k e ≡ true) × (es ≡ [])) ⊎ (IsPlain g l e × (is_round l k (g.target e) ≡ true) × IsClosing g l k (g.target e) es)) →
          ((u : ℕ) → IsClosing g l k (Some u) es → total (charged g l n (cost g n w)) es ≤ n.plain u + m) →
          charged g l n (cost g n w) e + total (charged g l n (cost g n w)) es ≤ n.plain v + m
      go (inl last) ih =
          let h : charged g l n (cost g n w) e ≤ n.plain (g.source e) + m = last-plain e k closes.0 kl last.0 in
          let z : total (charged g l n (cost g n w)) es ≡ 0 = ap (total (charged g l n (cost g n w))) last.1 in
          let q : n.plain v ≡ n.plain (g.source e) = here in
          omega arith
      go (inr more) ih = on (g.target e) refl
        where
          on : (o : Option ℕ) → g.target e ≡ o → charged g l n (cost g n w) e + total (charged g l n (cost g n w)) es ≤ n.plain v + m
          on None to = let bad_round : is_round l k None ≡ true = subst (λ o. is_round l k o ≡ true) to more.1 in let bad : ⊥ = cc in absurd bad
          on (Some u) to =
              let rest : total (charged g l n (cost g n w)) es ≤ n.plain u + m = ih u (subst (λ o. IsClosing g l k o es) to more.2) in
              let step : charged g l n (cost g n w) e + n.plain u ≤ n.plain (g.source e) = plain_before e u closes.0 more.0 to in
              let q : n.plain v ≡ n.plain (g.source e) = here in
              omega arith

  module _ (order : ℕ → ℕ) (falls : IsCallOrder g order) where
    pub plain-worst : (v : ℕ) → IsNode g v → n.plain v ≤ n.worst 0
    plain-worst v node =
        let a : n.left v + turns_round l n (Some v) ≤ n.worst 0 = left-worst g l extent w n is.program is.accepted is.weights is.numbers order falls v node in
        let b : n.plain v ≤ n.left v = (is.numbers.loops.left v).over_plain in
        omega arith

    pub iteration-worst : (k : ℕ) → k < l.loops → n.iteration k ≤ n.worst 0 + m
    iteration-worst k kl =
        let best : IsGreatest (IsClosing g l k (Some (l.header k))) (total (charged g l n (cost g n w))) (n.iteration k) = is.numbers.loops.iteration k kl in
        let a : total (charged g l n (cost g n w)) best.reached.0 ≤ n.plain (l.header k) + m = closing-plain k kl best.reached.0 (l.header k) best.reached.1 in
        let q : total (charged g l n (cost g n w)) best.reached.0 ≡ n.iteration k = best.reached.2 in
        let b : n.plain (l.header k) ≤ n.worst 0 = plain-worst (l.header k) (body_node g l extent is.program (accepted_entered is.accepted) k (l.header k) kl (header_held g l extent is.program (accepted_entered is.accepted) k kl)) in
        omega arith

    pub closing-worst : (k v b : ℕ) → k < l.loops → l.inside k v ≡ true → n.closing k v ≡ Some b → b ≤ n.worst 0 + m
    closing-worst k v b kl in_v at =
        let best : IsGreatest (IsClosing g l k (Some v)) (total (charged g l n (cost g n w))) b =
        subst (λ o. IsGreatestIfAny (IsClosing g l k (Some v)) (total (charged g l n (cost g n w))) o) at (is.numbers.loops.closing k v kl in_v) in
        let a : total (charged g l n (cost g n w)) best.reached.0 ≤ n.plain v + m = closing-plain k kl best.reached.0 v best.reached.1 in
        let q : total (charged g l n (cost g n w)) best.reached.0 ≡ b = best.reached.2 in
        let c : n.plain v ≤ n.worst 0 = plain-worst v (body_node g l extent is.program (accepted_entered is.accepted) k v kl in_v) in
        omega arith
