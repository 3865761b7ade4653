-- Orders of the functions and nodes leave no recursion and no cycle; numbers that are at most the worst cycles; a stable table is the least.
use Rattle.std.proofs.Common.{◌≡◌, ℕ, ◌+◌, ◌*◌, ◌<◌, ◌≤◌, Bool, true, List, [], ◌∷◌, Option, Some, None, is_some, refl, sym, ap, ◌∙◌, subst, arith, ⊎_elim}
use Rattle.cost_theory.specs.Graph.{Graph, Loops, end_of, total, only, IsPlainPath}
use Rattle.cost_theory.specs.Worst.{Numbers, AreNumbers, all_of, turns_round}
use Rattle.cost_theory.specs.Accepted.{IsNode, AreCalls, IsProgram, AreWeights, IsTooDeep, AreEntered, AreAccepted, IsCallOrder, IsPlainOrder, IsPlainCycle}
use Rattle.cost_theory.specs.Least.{IsLeastIfAny, EndsWith}
use Rattle.cost_theory.proofs.Basics.{term-le-sum, only_true}
use Rattle.cost_theory.proofs.Nesting.{some_same, header_held, body_node, no_crossing, accepted_entered}
use Rattle.cost_theory.proofs.Rest.{node-worst, context-worst}

-- a call order leaves no recursion
pub calls_fall : (g : Graph) (order : ℕ → ℕ) → IsCallOrder g order → (fs : List ℕ) (f next last : ℕ) → AreCalls g f (next ∷ fs) last → order last < order f
calls_fall g order falls [] f next last calls =
    let a : order next < order (g.owner calls.0.0) = falls.falls calls.0.0 next calls.0.2 in
    let b : order (g.owner calls.0.0) ≡ order f = ap order calls.0.1 in
    let c : order next ≡ order last = ap order calls.1 in
    omega arith
calls_fall g order falls (h ∷ fs) f next last calls =
    let ih : order last < order next = calls_fall g order falls fs next h last calls.1 in
    let a : order next < order (g.owner calls.0.0) = falls.falls calls.0.0 next calls.0.2 in
    let b : order (g.owner calls.0.0) ≡ order f = ap order calls.0.1 in
    omega arith

pub order-no_recursion : (g : Graph) (order : ℕ → ℕ) → IsCallOrder g order → (f next : ℕ) (fs : List ℕ) → AreCalls g f (next ∷ fs) f → ⊥
order-no_recursion g order falls f next fs calls = let lt : order f < order f = calls_fall g order falls fs f next f calls in let bad : ⊥ = omega arith in bad

-- an order along plain edges leaves no plain cycle
pub path_rises : (g : Graph) (l : Loops) (count : ℕ) (place : ℕ → ℕ) → IsPlainOrder g l count place → (es : List ℕ) (e v : ℕ) (p : Option ℕ) →
    IsPlainPath g l p (e ∷ es) → end_of g p (e ∷ es) ≡ Some v → place (g.source e) < place v
path_rises g l count place order [] e v p path ends = order.rises e v path.0 path.2 ends
path_rises g l count place order (d ∷ es) e v p path ends =
    let ih : place (g.source d) < place v = path_rises g l count place order es d v (g.target e) path.3 ends in
    let step : place (g.source e) < place (g.source d) = order.rises e (g.source d) path.0 path.2 path.3.1 in
    omega arith

pub order-no_cycle : (g : Graph) (l : Loops) (count : ℕ) (place : ℕ → ℕ) → IsPlainOrder g l count place → (v : ℕ) (es : List ℕ) → IsPlainCycle g l v es → ⊥
order-no_cycle g l count place order v [] cycle = cycle.0 refl
order-no_cycle g l count place order v (e ∷ es) cycle =
    let up : place (g.source e) < place v = path_rises g l count place order es e v (Some v) cycle.1 cycle.2 in
    let same : place v ≡ place (g.source e) = ap place (some_same _ _ cycle.1.1) in
    let bad : ⊥ = omega arith in bad

-- a table whose values are reached and that no edge improves is the least
pub stable_least : (g : Graph) (last : ℕ → Type 0) (c : ℕ → ℕ) (t : ℕ → Option ℕ) →
    ((v x : ℕ) → t v ≡ Some x → (es : List ℕ) × EndsWith g last (Some v) es × (total c es ≡ x)) →
    ((e : ℕ) → e < g.edges → last e → (x : ℕ) × (t (g.source e) ≡ Some x) × (x ≤ c e)) →
    ((e u y : ℕ) → e < g.edges → g.target e ≡ Some u → t u ≡ Some y → (x : ℕ) × (t (g.source e) ≡ Some x) × (x ≤ c e + y)) →
    (v : ℕ) → IsLeastIfAny (EndsWith g last (Some v)) (total c) (t v)
stable_least g last c t reached ends steps v = go (t v) refl
  where
    up_to : (es : List ℕ) (v : ℕ) → EndsWith g last (Some v) es → (x : ℕ) × (t v ≡ Some x) × (x ≤ total c es)
    up_to [] v walk = absurd walk
    up_to (e ∷ es) v walk = ⊎_elim
        (λ (l : (es ≡ []) × last e). let r : (x : ℕ) × (t (g.source e) ≡ Some x) × (x ≤ c e) = ends e walk.0 l.1 in
        (r.0, ap t here ∙ r.1, (let le : r.0 ≤ c e = r.2 in let w : r.0 ≤ c e + total c es = omega arith in w)))
        (λ (m : (is_some (g.target e) ≡ true) × EndsWith g last (g.target e) es). on (g.target e) refl m.0 (λ u to. up_to es u (subst (λ o. EndsWith g last o es) to m.1))) walk.2
      where
        here : v ≡ g.source e
        here = some_same _ _ walk.1

        on : (o : Option ℕ) → g.target e ≡ o → is_some o ≡ true → ((u : ℕ) → g.target e ≡ Some u → (x : ℕ) × (t u ≡ Some x) × (x ≤ total c es)) → (x : ℕ) × (t v ≡ Some x) × (x ≤ c e + total c es)
        on None to some ih = let bad : ⊥ = cc in absurd bad
        on (Some u) to some ih =
            let y : (x : ℕ) × (t u ≡ Some x) × (x ≤ total c es) = ih u to in
            let r : (x : ℕ) × (t (g.source e) ≡ Some x) × (x ≤ c e + y.0) = steps e u y.0 walk.0 to y.1 in
            (r.0, ap t here ∙ r.1, (let a : r.0 ≤ c e + y.0 = r.2 in let b : y.0 ≤ total c es = y.2 in let w : r.0 ≤ c e + total c es = omega arith in w))

    go : (o : Option ℕ) → t v ≡ o → IsLeastIfAny (EndsWith g last (Some v)) (total c) o
    go None is = λ es walk. (let r : (x : ℕ) × (t v ≡ Some x) × (x ≤ total c es) = up_to es v walk in let q : None ≡ Some r.0 = sym is ∙ r.1 in let bad : ⊥ = cc in bad)
    go (Some x) is = record {
      reached = reached v x is;
      least = λ es walk. (let r : (x : ℕ) × (t v ≡ Some x) × (x ≤ total c es) = up_to es v walk in let q : Some x ≡ Some r.0 = sym is ∙ r.1 in let eq : x ≡ r.0 = cc in let le : r.0 ≤ total c es = r.2 in let w : x ≤ total c es = omega arith in w);
    }

-- loops that are entered at their headers alone are accepted where none is too deep and the nodes have an order along plain edges
pub entered-accepted : (g : Graph) (l : Loops) (extent : ℕ → ℕ → Bool) → IsProgram g → AreEntered g l extent → ((k : ℕ) → k < l.loops → IsTooDeep l k → ⊥) →
    (count : ℕ) (place : ℕ → ℕ) → IsPlainOrder g l count place → AreAccepted g l extent
entered-accepted g l extent prog ent shallow count place rises = record {
  bodies = ent.bodies;
  header_reached = ent.header_reached;
  distinct = ent.distinct;
  back_edge = ent.back_edge;
  no_side = ent.no_side;
  no_crossing = λ j k jl kl cross. no_crossing g l extent prog ent j k jl kl cross;
  not_deep = shallow;
  no_cycle = λ v es cycle. order-no_cycle g l count place rises v es cycle;
}

-- without loops nothing else is asked
pub no_loops-accepted : (g : Graph) (l : Loops) (extent : ℕ → ℕ → Bool) (count : ℕ) (place : ℕ → ℕ) → l.loops ≡ 0 → IsPlainOrder g l count place → AreAccepted g l extent
no_loops-accepted g l extent count place none rises = record {
  bodies = λ k v kl. absurd (no_loop k kl);
  header_reached = λ k kl h. no_loop k kl;
  distinct = λ j k kl h. no_loop k kl;
  back_edge = λ k kl h. no_loop k kl;
  no_side = λ k from to kl h. no_loop k kl;
  no_crossing = λ j k jl kl h. no_loop k kl;
  not_deep = λ k kl h. no_loop k kl;
  no_cycle = λ v es h. order-no_cycle g l count place rises v es h;
}
  where
    no_loop : (k : ℕ) → k < l.loops → ⊥
    no_loop k kl = let bad : ⊥ = omega arith in bad

module _ (g : Graph) (l : Loops) (extent : ℕ → ℕ → Bool) (w : ℕ → ℕ) (n : Numbers)
    (prog : IsProgram g) (acc : AreAccepted g l extent) (weights : AreWeights g w) (nums : AreNumbers g l w n) (order : ℕ → ℕ) (falls : IsCallOrder g order) where
  -- all parts are at most the worst cycles
  pub function-worst : (f : ℕ) → f < g.functions → n.worst f + n.context f ≤ n.worst 0
  function-worst f fl = context-worst g l extent w n prog acc weights nums order falls g.functions f fl (omega arith)

  pub left-worst : (v : ℕ) → IsNode g v → n.left v + turns_round l n (Some v) ≤ n.worst 0
  left-worst v node =
      let fl : g.owner v < g.functions = subst (λ u. g.owner u < g.functions) node.2 (prog.owner_function node.0 node.1) in
      let a : n.left v + turns_round l n (Some v) ≤ n.worst (g.owner v) = node-worst g l extent w n prog acc weights nums v node in
      let b : n.worst (g.owner v) + n.context (g.owner v) ≤ n.worst 0 = function-worst (g.owner v) fl in
      omega arith

  pub turns-worst : (k : ℕ) → k < l.loops → l.bound k * n.iteration k ≤ n.worst 0
  turns-worst k kl =
      let held : l.inside k (l.header k) ≡ true = header_held g l extent prog (accepted_entered acc) k kl in
      let a : n.left (l.header k) + turns_round l n (Some (l.header k)) ≤ n.worst 0 = left-worst (l.header k) (body_node g l extent prog (accepted_entered acc) k (l.header k) kl held) in
      let t : only (l.inside k (l.header k)) (all_of l n k) ≤ turns_round l n (Some (l.header k)) = term-le-sum l.loops (λ j. only (l.inside j (l.header k)) (all_of l n j)) k kl in
      let q : only (l.inside k (l.header k)) (all_of l n k) ≡ all_of l n k = only_true (l.inside k (l.header k)) (all_of l n k) held in
      omega arith
