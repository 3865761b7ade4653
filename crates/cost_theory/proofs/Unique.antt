-- The numbers of an accepted program are determined.
use Rattle.std.proofs.Common.{◌≡◌, ◌≢◌, ℕ, zero, suc, ◌+◌, ◌*◌, ◌<◌, ◌≤◌, Bool, true, ◌⊎◌, inl, inr, List, [], ◌∷◌, Option, Some, None, unwrap_or, refl, sym, ap, ◌∙◌, subst, arith, ⊎_elim}
use Rattle.cost_theory.specs.Graph.{Graph, Loops, IsWalk, total, sum_below, only, is_round, enters, is_back, IsPlain, IsPlainPath, IsClosing}
use Rattle.cost_theory.specs.Worst.{Numbers, IsGreatestIfAny, at_some, cost, all_of, charged, AreLoopNumbers, AreNumbers, IsBoundedWalk, IsLeft, IsReturningCall, turns_round, context_of, IsContext}
use Rattle.cost_theory.specs.Accepted.{IsCall, IsProgram, AreAccepted, IsCallOrder}
use Rattle.cost_theory.specs.Laws.{AreSameNumbers}
use Rattle.cost_theory.proofs.Nesting.{some_same, header_held, size, accepted_entered}
use Rattle.cost_theory.proofs.Law.{greatest_same}
use Rattle.cost_theory.proofs.Tables.{charged_same, greatest_value}
use Rattle.cost_theory.proofs.Lefts.{depth, depth-lt}
use Rattle.cost_theory.proofs.Basics.{sum-same}

pub greatest_some : {A : Type 0} (P : A → Type 0) (value : A → ℕ) (o o' : Option ℕ) → IsGreatestIfAny P value o → IsGreatestIfAny P value o' → o ≡ o'
greatest_some P value None None p q = refl
greatest_some P value None (Some b) p q = absurd (p q.reached.0 q.reached.1)
greatest_some P value (Some a) None p q = absurd (q p.reached.0 p.reached.1)
greatest_some P value (Some a) (Some b) p q = ap Some (greatest_same P value a b p q)

pub greatest_value_some : {A : Type 0} (P : A → Type 0) (f f' : A → ℕ) (o : Option ℕ) → ((x : A) → P x → f x ≡ f' x) → IsGreatestIfAny P f o → IsGreatestIfAny P f' o
greatest_value_some P f f' None same best = best
greatest_value_some P f f' (Some m) same best = greatest_value P f f' m same best

-- what is left by the one numbers is at most what is left by the other, where all else agrees
pub left-le : (l : Loops) (n n' : Numbers) (v : ℕ) → n.plain v ≡ n'.plain v → ((k : ℕ) → k < l.loops → n.iteration k ≡ n'.iteration k) →
    ((k : ℕ) → k < l.loops → l.inside k v ≡ true → n.closing k v ≡ n'.closing k v) →
    ((k : ℕ) → k < l.loops → l.inside k v ≡ true → l.header k ≢ v → n.left (l.header k) ≡ n'.left (l.header k)) → IsLeft l n v → IsLeft l n' v → n.left v ≤ n'.left v
left-le l n n' v plain turn closing heads is is' = ⊎_elim
    (λ (e : n.left v ≡ n.plain v). (let h : n'.plain v ≤ n'.left v = is'.over_plain in let r : n.left v ≤ n'.left v = omega arith in r))
    (λ (m : (k : ℕ) × (b : ℕ) × (k < l.loops) × (l.inside k v ≡ true) × (l.header k ≢ v) × (n.closing k v ≡ Some b) × (n.left v + n.iteration k ≡ b + n.left (l.header k))).
    let h : m.1 + n'.left (l.header m.0) ≤ n'.left v + n'.iteration m.0 = is'.over_closing m.0 m.1 m.2 m.3 m.4 (sym (closing m.0 m.2 m.3) ∙ m.5) in
    let q : n.left (l.header m.0) ≡ n'.left (l.header m.0) = heads m.0 m.2 m.3 m.4 in
    let t : n.iteration m.0 ≡ n'.iteration m.0 = turn m.0 m.2 in
    let e : n.left v + n.iteration m.0 ≡ m.1 + n.left (l.header m.0) = m.6 in
    let r : n.left v ≤ n'.left v = omega arith in r)
    is.attained

module _ (g : Graph) (l : Loops) (extent : ℕ → ℕ → Bool) (prog : IsProgram g) (acc : AreAccepted g l extent) where
  -- two costs that agree on a function's edges agree on its walks
  pub costs-same : (c c' : ℕ → ℕ) (f : ℕ) → ((e : ℕ) → e < g.edges → g.owner (g.source e) ≡ f → c e ≡ c' e) →
      (es : List ℕ) (p : Option ℕ) → ((v : ℕ) → p ≡ Some v → g.owner v ≡ f) → IsWalk g p es → total c es ≡ total c' es
  costs-same c c' f same [] p owned walk = refl
  costs-same c c' f same (e ∷ es) p owned walk =
      let here : g.owner (g.source e) ≡ f = owned (g.source e) walk.1 in
      let a : c e ≡ c' e = same e walk.0 here in
      let b : total c es ≡ total c' es = costs-same c c' f same es (g.target e) (λ v to. (prog.stays e v walk.0 to).1 ∙ here) walk.2 in
      omega arith

  -- edges that cost the same cost the same along a path
  pub closing_costs : (c c' : ℕ → ℕ) → ((e : ℕ) → e < g.edges → c e ≡ c' e) → (k : ℕ) (es : List ℕ) (p : Option ℕ) → IsClosing g l k p es → total c es ≡ total c' es
  closing_costs c c' same k [] p closes = refl
  closing_costs c c' same k (e ∷ es) p closes = go closes.2 (λ cl. closing_costs c c' same k es (g.target e) cl)
    where
      go : (((is_back g l k e ≡ true) × (es ≡ [])) ⊎ (IsPlain g l e × (is_round l k (g.target e) ≡ true) × IsClosing g l k (g.target e) es)) →
          (IsClosing g l k (g.target e) es → total c es ≡ total c' es) → c e + total c es ≡ c' e + total c' es
      go (inl last) ih = let a : c e ≡ c' e = same e closes.0 in let b : total c es ≡ total c' es = ap (total c) last.1 ∙ sym (ap (total c') last.1) in omega arith
      go (inr more) ih = let a : c e ≡ c' e = same e closes.0 in let b : total c es ≡ total c' es = ih more.2 in omega arith

  pub path_costs : (c c' : ℕ → ℕ) → ((e : ℕ) → e < g.edges → c e ≡ c' e) → (es : List ℕ) (p : Option ℕ) → IsPlainPath g l p es → total c es ≡ total c' es
  path_costs c c' same [] p path = refl
  path_costs c c' same (e ∷ es) p path =
      let a : c e ≡ c' e = same e path.0 in
      let b : total c es ≡ total c' es = path_costs c c' same es (g.target e) path.3 in
      omega arith

  module _ (c c' : ℕ → ℕ) (same : (e : ℕ) → e < g.edges → c e ≡ c' e) (n n' : Numbers) (nums : AreLoopNumbers g l c n) (nums' : AreLoopNumbers g l c' n') where
    pub charged_costs : (e : ℕ) → e < g.edges → charged g l n' c e ≡ charged g l n' c' e
    charged_costs e lt = ap (λ x. x + sum_below l.loops (λ k. only (enters l k (g.source e) (g.target e)) (all_of l n' k))) (same e lt)

    -- iterations
    pub iteration-same : (m k : ℕ) → k < l.loops → size g l k < m → n.iteration k ≡ n'.iteration k
    iteration-same zero k kl low = let bad : ⊥ = omega arith in absurd bad
    iteration-same (suc m) k kl low = greatest_same (IsClosing g l k (Some (l.header k))) (total (charged g l n' c')) (n.iteration k) (n'.iteration k)
        (greatest_value (IsClosing g l k (Some (l.header k))) (total (charged g l n c)) (total (charged g l n' c')) (n.iteration k)
        (λ es closes. charged_same g l extent prog acc c n.iteration n'.iteration k kl (λ j jl less. iteration-same m j jl (omega arith)) es (Some (l.header k)) (header_held g l extent prog (accepted_entered acc) k kl) closes ∙
        closing_costs (charged g l n' c) (charged g l n' c') charged_costs k es (Some (l.header k)) closes)
        (nums.iteration k kl))
        (nums'.iteration k kl)

    pub iteration_is : (k : ℕ) → k < l.loops → n.iteration k ≡ n'.iteration k
    iteration_is k kl = iteration-same (suc (size g l k)) k kl (omega arith)

    pub charged_is : (e : ℕ) → e < g.edges → charged g l n c e ≡ charged g l n' c' e
    charged_is e lt =
        let a : sum_below l.loops (λ k. only (enters l k (g.source e) (g.target e)) (all_of l n k)) ≡ sum_below l.loops (λ k. only (enters l k (g.source e) (g.target e)) (all_of l n' k)) =
        sum-same l.loops (λ k. only (enters l k (g.source e) (g.target e)) (all_of l n k)) (λ k. only (enters l k (g.source e) (g.target e)) (all_of l n' k))
        (λ k kl. ap (λ x. only (enters l k (g.source e) (g.target e)) (l.bound k * x)) (iteration_is k kl)) in
        let b : c e ≡ c' e = same e lt in
        omega arith

    -- plain and closing paths
    pub plain_is : (v : ℕ) → n.plain v ≡ n'.plain v
    plain_is v = greatest_same (IsPlainPath g l (Some v)) (total (charged g l n' c')) (n.plain v) (n'.plain v)
        (greatest_value (IsPlainPath g l (Some v)) (total (charged g l n c)) (total (charged g l n' c')) (n.plain v)
        (λ es path. path_costs (charged g l n c) (charged g l n' c') charged_is es (Some v) path) (nums.plain v)) (nums'.plain v)

    pub closing_is : (k v : ℕ) → k < l.loops → l.inside k v ≡ true → n.closing k v ≡ n'.closing k v
    closing_is k v kl in_v = greatest_some (IsClosing g l k (Some v)) (total (charged g l n' c')) (n.closing k v) (n'.closing k v)
        (greatest_value_some (IsClosing g l k (Some v)) (total (charged g l n c)) (total (charged g l n' c')) (n.closing k v)
        (λ es closes. closing_costs (charged g l n c) (charged g l n' c') charged_is k es (Some v) closes) (nums.closing k v kl in_v)) (nums'.closing k v kl in_v)

    -- what is left
    pub left_is-below : (m v : ℕ) → depth g l extent prog acc v < m → n.left v ≡ n'.left v
    left_is-below zero v low = let bad : ⊥ = omega arith in absurd bad
    left_is-below (suc m) v low = go (λ k kl in_v ne. left_is-below m (l.header k) (let d : depth g l extent prog acc (l.header k) < depth g l extent prog acc v = depth-lt g l extent prog acc k v kl in_v ne in omega arith))
      where
        go : ((k : ℕ) → k < l.loops → l.inside k v ≡ true → l.header k ≢ v → n.left (l.header k) ≡ n'.left (l.header k)) → n.left v ≡ n'.left v
        go heads =
            let a : n.left v ≤ n'.left v = left-le l n n' v (plain_is v) iteration_is (λ k kl in_v. closing_is k v kl in_v) heads (nums.left v) (nums'.left v) in
            let b : n'.left v ≤ n.left v = left-le l n' n v (sym (plain_is v)) (λ k kl. sym (iteration_is k kl)) (λ k kl in_v. sym (closing_is k v kl in_v)) (λ k kl in_v ne. sym (heads k kl in_v ne)) (nums'.left v) (nums.left v) in
            omega arith

    pub left_is : (v : ℕ) → n.left v ≡ n'.left v
    left_is v = left_is-below (suc (depth g l extent prog acc v)) v (omega arith)

  module _ (w order : ℕ → ℕ) (falls : IsCallOrder g order) (n n' : Numbers) (nums : AreNumbers g l w n) (nums' : AreNumbers g l w n') where
    -- worst cycles
    pub worst-same : (m f : ℕ) → f < g.functions → order f < m → n.worst f ≡ n'.worst f
    worst-same zero f fl low = let bad : ⊥ = omega arith in absurd bad
    worst-same (suc m) f fl low = greatest_same (IsBoundedWalk g l (g.entry f)) (total (cost g n' w)) (n.worst f) (n'.worst f)
        (greatest_value (IsBoundedWalk g l (g.entry f)) (total (cost g n w)) (total (cost g n' w)) (n.worst f)
        (λ es walk. edges_same (λ h hl less. worst-same m h hl (omega arith)) es walk) (nums.worst f fl)) (nums'.worst f fl)
      where
        edges_same : ((h : ℕ) → h < g.functions → order h < order f → n.worst h ≡ n'.worst h) → (es : List ℕ) → IsBoundedWalk g l (g.entry f) es → total (cost g n w) es ≡ total (cost g n' w) es
        edges_same below es walk = costs-same (cost g n w) (cost g n' w) f
            (λ e lt owner. callee (g.callee e) e lt owner refl below) es (Some (g.entry f)) (λ v e. ap g.owner (sym (some_same (g.entry f) v e)) ∙ prog.entry_owner f fl) walk.0
          where
            callee : (o : Option ℕ) (e : ℕ) → e < g.edges → g.owner (g.source e) ≡ f → g.callee e ≡ o → ((h : ℕ) → h < g.functions → order h < order f → n.worst h ≡ n'.worst h) → cost g n w e ≡ cost g n' w e
            callee None e lt owner is below = ap (λ o. w e + at_some o n.worst) is ∙ sym (ap (λ o. w e + at_some o n'.worst) is)
            callee (Some h) e lt owner is below =
                let low : order h < order (g.owner (g.source e)) = falls.falls (g.source e) h (e, lt, refl, is) in
                let eq : order (g.owner (g.source e)) ≡ order f = ap order owner in
                ap (λ o. w e + at_some o n.worst) is ∙ ap (λ x. w e + x) (below h (prog.callee_function e h lt is) (omega arith)) ∙ sym (ap (λ o. w e + at_some o n'.worst) is)

    pub worst_unique : (f : ℕ) → f < g.functions → n.worst f ≡ n'.worst f
    worst_unique f fl = worst-same (suc (order f)) f fl (omega arith)

    pub cost_unique : (e : ℕ) → e < g.edges → cost g n w e ≡ cost g n' w e
    cost_unique e lt = go (g.callee e) refl
      where
        go : (o : Option ℕ) → g.callee e ≡ o → cost g n w e ≡ cost g n' w e
        go None is = ap (λ o. w e + at_some o n.worst) is ∙ sym (ap (λ o. w e + at_some o n'.worst) is)
        go (Some h) is = ap (λ o. w e + at_some o n.worst) is ∙ ap (λ x. w e + x) (worst_unique h (prog.callee_function e h lt is)) ∙ sym (ap (λ o. w e + at_some o n'.worst) is)

    pub iteration_unique : (k : ℕ) → k < l.loops → n.iteration k ≡ n'.iteration k
    iteration_unique k kl = iteration_is (cost g n w) (cost g n' w) cost_unique n n' nums.loops nums'.loops k kl

    pub left_unique : (v : ℕ) → n.left v ≡ n'.left v
    left_unique v = left_is (cost g n w) (cost g n' w) cost_unique n n' nums.loops nums'.loops v

    -- the context, from the callers downwards
    pub context-same : (m f : ℕ) → f < g.functions → g.functions ≤ order f + m → n.context f ≡ n'.context f
    context-same zero f fl far = let lt : order f < g.functions = falls.below f fl in let bad : ⊥ = omega arith in absurd bad
    context-same (suc m) f fl far = go (λ u call. context-same m (g.owner u) (subst (λ x. g.owner x < g.functions) call.2 (prog.owner_function call.0 call.1))
        (let r : order f < order (g.owner u) = falls.falls u f call in omega arith)) (nums.context f fl) (nums'.context f fl)
      where
        go : ((u : ℕ) → IsCall g u f → n.context (g.owner u) ≡ n'.context (g.owner u)) → IsContext g l w n f → IsContext g l w n' f → n.context f ≡ n'.context f
        go up (inl a) (inl b) = a.1 ∙ sym b.1
        go up (inl a) (inr b) = absurd (b.0 a.0)
        go up (inr a) (inl b) = absurd (a.0 b.0)
        go up (inr a) (inr b) = a.1.2 ∙ ap (λ o. unwrap_or o 0) both ∙ sym b.1.2
          where
            same : (e : ℕ) → IsReturningCall g f e → context_of g l w n e ≡ context_of g l w n' e
            same e r =
                let p : n.left (g.source e) ≡ n'.left (g.source e) = left_unique (g.source e) in
                let q : cost g n w e ≡ cost g n' w e = cost_unique e r.edge in
                let t : turns_round l n (Some (g.source e)) ≡ turns_round l n' (Some (g.source e)) =
                sum-same l.loops (λ k. only (l.inside k (g.source e)) (all_of l n k)) (λ k. only (l.inside k (g.source e)) (all_of l n' k))
                (λ k kl. ap (λ x. only (l.inside k (g.source e)) (l.bound k * x)) (iteration_unique k kl)) in
                let c : n.context (g.owner (g.source e)) ≡ n'.context (g.owner (g.source e)) = up (g.source e) (e, r.edge, refl, r.calls) in
                omega arith

            both : a.1.0 ≡ b.1.0
            both = greatest_some (IsReturningCall g f) (context_of g l w n') a.1.0 b.1.0
                (greatest_value_some (IsReturningCall g f) (context_of g l w n) (context_of g l w n') a.1.0 same a.1.1) b.1.1

    pub context_unique : (f : ℕ) → f < g.functions → n.context f ≡ n'.context f
    context_unique f fl = context-same g.functions f fl (omega arith)

    pub same_numbers : AreSameNumbers g l n n'
    same_numbers = record {
      worst = worst_unique;
      iteration = iteration_unique;
      plain = plain_is (cost g n w) (cost g n' w) cost_unique n n' nums.loops nums'.loops;
      closing = closing_is (cost g n w) (cost g n' w) cost_unique n n' nums.loops nums'.loops;
      left = left_unique;
      context = context_unique;
    }
