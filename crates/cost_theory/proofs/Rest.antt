-- The rest of an edge is at most the worst cycles, and the cycles left after it are at most its rest.
use Rattle.std.proofs.Common.{◌≡◌, ◌≢◌, ℕ, zero, suc, ◌+◌, ◌-◌, ◌*◌, ◌<◌, ◌≤◌, Bool, true, false, not, ◌&&◌, List, [], ◌∷◌, ◌++◌, Option, Some, None, unwrap_or, refl, sym, ap, ◌∙◌, subst, arith, ⊎_elim, le_refl}
use native.Mathlib.Decide.{ℕ_discrete}
use Rattle.cost_theory.specs.Graph.{Graph, Loops, IsWalk, end_of, sum_below, only, is_round, is_header, enters, is_back, IsPlain, IsPlainPath, AreWithin, next_edge}
use Rattle.cost_theory.specs.Worst.{Numbers, IsGreatestIfAny, cost, charged, AreNumbers, all_of, at_some, turns, turns_round, turns_taken, left_at, rest, IsReturningCall, context_of}
use Rattle.cost_theory.specs.Accepted.{IsNode, IsCall, IsProgram, AreWeights, AreAccepted, IsCallOrder}
use Rattle.cost_theory.specs.Steps.{add_call, left_calls, left_at_node}
use Rattle.cost_theory.proofs.Basics.{search_below, only-turns, sum-add, sum-le, and_left}
use Rattle.cost_theory.proofs.Slack.{slack_plain}
use Rattle.cost_theory.proofs.Append.{leads_to_header}
use Rattle.cost_theory.proofs.Nesting.{entered_at_headers, IsAtHeader, step_at_header, entry_at_header, accepted_entered}
use Rattle.cost_theory.proofs.Law.{IsChain, worst_equation, next-is, cost-le, same_cost}

module _ (g : Graph) (l : Loops) (extent : ℕ → ℕ → Bool) (prog : IsProgram g) (acc : AreAccepted g l extent) where
  pub path_snoc : (es : List ℕ) (p : Option ℕ) (e : ℕ) → IsPlainPath g l p es → end_of g p es ≡ Some (g.source e) → e < g.edges → IsPlain g l e →
      IsPlainPath g l p (es ++ e ∷ []) × (end_of g p (es ++ e ∷ []) ≡ g.target e)
  path_snoc [] p e path ends lt plain = ((lt, ends, plain, tt), refl)
  path_snoc (x ∷ es) p e path ends lt plain =
      let ih : IsPlainPath g l (g.target x) (es ++ e ∷ []) × (end_of g (g.target x) (es ++ e ∷ []) ≡ g.target e) = path_snoc es (g.target x) e path.3 ends lt plain in
      ((path.0, path.1, path.2, ih.0), ih.1)

  -- a plain path into a body passes its header
  pub path_to_header : (k : ℕ) → k < l.loops → (es : List ℕ) (p : Option ℕ) (v : ℕ) → IsAtHeader l k p → IsPlainPath g l p es → end_of g p es ≡ Some v → l.inside k v ≡ true →
      (xs : List ℕ) × IsPlainPath g l p xs × (end_of g p xs ≡ Some (l.header k))
  path_to_header k kl [] p v at path ends in_v =
      let r : is_round l k p ≡ true = subst (λ o. is_round l k o ≡ true) (sym ends) in_v in
      ([], tt, at r)
  path_to_header k kl (e ∷ es) p v at path ends in_v = go (is_round l k p) refl
      (λ out. path_to_header k kl es (g.target e) v (step_at_header g l extent prog (accepted_entered acc) e k path.0 kl out) path.3 ends in_v)
    where
      go : (b : Bool) → is_round l k p ≡ b →
          (l.inside k (g.source e) ≡ false → (xs : List ℕ) × IsPlainPath g l (g.target e) xs × (end_of g (g.target e) xs ≡ Some (l.header k))) →
          (xs : List ℕ) × IsPlainPath g l p xs × (end_of g p xs ≡ Some (l.header k))
      go true r ih = ([], tt, at r)
      go false r ih =
          let more : (xs : List ℕ) × IsPlainPath g l (g.target e) xs × (end_of g (g.target e) xs ≡ Some (l.header k)) = ih (subst (λ o. is_round l k o ≡ false) path.1 r) in
          (e ∷ more.0, (path.0, path.1, path.2, more.1), more.2)

  -- what a walk reaches a plain path reaches
  pub plain_reach : (p : Option ℕ) → ((k : ℕ) → k < l.loops → IsAtHeader l k p) → (es xs : List ℕ) (q : Option ℕ) (v : ℕ) →
      IsPlainPath g l p xs → end_of g p xs ≡ q → IsWalk g q es → end_of g q es ≡ Some v →
      (xs : List ℕ) × IsPlainPath g l p xs × (end_of g p xs ≡ Some v)
  plain_reach p at [] xs q v path ends walk to = (xs, path, ends ∙ to)
  plain_reach p at (e ∷ es) xs q v path ends walk to = ⊎_elim
      (λ (b : (k : ℕ) × (k < l.loops) × (is_back g l k e ≡ true)).
      let in_u : l.inside b.0 (g.source e) ≡ true = and_left (l.inside b.0 (g.source e)) (is_header l b.0 (g.target e)) b.2 in
      let way : (xs : List ℕ) × IsPlainPath g l p xs × (end_of g p xs ≡ Some (l.header b.0)) = path_to_header b.0 b.1 xs p (g.source e) (at b.0 b.1) path (ends ∙ walk.1) in_u in
      plain_reach p at es way.0 (g.target e) v way.1 (way.2 ∙ sym (to_header b.0 b.2)) walk.2 to)
      (λ (plain : IsPlain g l e).
      let more : IsPlainPath g l p (xs ++ e ∷ []) × (end_of g p (xs ++ e ∷ []) ≡ g.target e) = path_snoc xs p e path (ends ∙ walk.1) walk.0 plain in
      plain_reach p at es (xs ++ e ∷ []) (g.target e) v more.0 more.1 walk.2 to)
      (search_below l.loops (λ k. is_back g l k e))
    where
      to_header : (k : ℕ) → is_back g l k e ≡ true → g.target e ≡ Some (l.header k)
      to_header k back = leads_to_header g l e k back

  -- so each node of a function is reached by a plain path from its entry
  pub plain_from_entry : (e : ℕ) → e < g.edges →
      (xs : List ℕ) × IsPlainPath g l (Some (g.entry (g.owner (g.source e)))) xs × (end_of g (Some (g.entry (g.owner (g.source e)))) xs ≡ Some (g.source e))
  plain_from_entry e lt =
      let way : (es : List ℕ) × IsWalk g (Some (g.entry (g.owner (g.source e)))) es × (end_of g (Some (g.entry (g.owner (g.source e)))) es ≡ Some (g.source e)) = prog.reached e lt in
      plain_reach (Some (g.entry (g.owner (g.source e)))) (λ k kl. entry_at_header g l extent prog (accepted_entered acc) (g.owner (g.source e)) k (prog.owner_function e lt) kl) way.0 []
      (Some (g.entry (g.owner (g.source e)))) (g.source e) tt refl way.1 way.2

module _ (g : Graph) (l : Loops) (extent : ℕ → ℕ → Bool) (w : ℕ → ℕ) (n : Numbers)
    (prog : IsProgram g) (acc : AreAccepted g l extent) (weights : AreWeights g w) (nums : AreNumbers g l w n) where
  -- along a plain edge what is left and all turns round the node do not grow
  pub edge-rest : (e : ℕ) → e < g.edges → IsPlain g l e →
      cost g n w e + left_at n (g.target e) + turns_round l n (g.target e) ≤ n.left (g.source e) + turns_round l n (Some (g.source e))
  edge-rest e lt plain =
      let a : charged g l n (cost g n w) e + left_at n (g.target e) ≤ n.left (g.source e) =
      slack_plain g l (cost g n w) n nums.loops (entered_at_headers g l extent prog (accepted_entered acc)) e lt plain in
      let t : turns_round l n (g.target e) ≤ sum_below l.loops (λ k. only (l.inside k (g.source e)) (all_of l n k) + only (enters l k (g.source e) (g.target e)) (all_of l n k)) =
      sum-le l.loops (λ k. only (is_round l k (g.target e)) (all_of l n k)) (λ k. only (l.inside k (g.source e)) (all_of l n k) + only (enters l k (g.source e) (g.target e)) (all_of l n k))
      (λ k kl. each (l.inside k (g.source e)) (is_round l k (g.target e)) (all_of l n k)) in
      let s : sum_below l.loops (λ k. only (l.inside k (g.source e)) (all_of l n k) + only (enters l k (g.source e) (g.target e)) (all_of l n k)) ≡
      sum_below l.loops (λ k. only (l.inside k (g.source e)) (all_of l n k)) + sum_below l.loops (λ k. only (enters l k (g.source e) (g.target e)) (all_of l n k)) =
      sum-add l.loops (λ k. only (l.inside k (g.source e)) (all_of l n k)) (λ k. only (enters l k (g.source e) (g.target e)) (all_of l n k)) in
      omega arith
    where
      each : (a b : Bool) (x : ℕ) → only b x ≤ only a x + only (not a && b) x
      each true true x = omega arith
      each true false x = omega arith
      each false b x = omega arith

  pub path-rest : (es : List ℕ) (p : Option ℕ) → IsPlainPath g l p es →
      left_at n (end_of g p es) + turns_round l n (end_of g p es) ≤ left_at n p + turns_round l n p
  path-rest [] p path = le_refl _
  path-rest (e ∷ es) p path =
      let ih : left_at n (end_of g (g.target e) es) + turns_round l n (end_of g (g.target e) es) ≤ left_at n (g.target e) + turns_round l n (g.target e) = path-rest es (g.target e) path.3 in
      let step : cost g n w e + left_at n (g.target e) + turns_round l n (g.target e) ≤ n.left (g.source e) + turns_round l n (Some (g.source e)) = edge-rest e path.0 path.2 in
      let at : left_at n p + turns_round l n p ≡ n.left (g.source e) + turns_round l n (Some (g.source e)) = ap (λ o. left_at n o + turns_round l n o) path.1 in
      omega arith

  -- at each node they are at most its function's worst cycles
  pub node-worst : (v : ℕ) → IsNode g v → n.left v + turns_round l n (Some v) ≤ n.worst (g.owner v)
  node-worst v node = subst (λ u. n.left u + turns_round l n (Some u) ≤ n.worst (g.owner u)) node.2 (at node.0 node.1)
    where
      at : (e : ℕ) → e < g.edges → n.left (g.source e) + turns_round l n (Some (g.source e)) ≤ n.worst (g.owner (g.source e))
      at e lt =
          let f : ℕ = g.owner (g.source e) in
          let way : (xs : List ℕ) × IsPlainPath g l (Some (g.entry (g.owner (g.source e)))) xs × (end_of g (Some (g.entry (g.owner (g.source e)))) xs ≡ Some (g.source e)) = plain_from_entry g l extent prog acc e lt in
          let along : left_at n (end_of g (Some (g.entry (g.owner (g.source e)))) way.0) + turns_round l n (end_of g (Some (g.entry (g.owner (g.source e)))) way.0) ≤
          n.left (g.entry (g.owner (g.source e))) + turns_round l n (Some (g.entry (g.owner (g.source e)))) = path-rest way.0 (Some (g.entry (g.owner (g.source e)))) way.1 in
          let to : left_at n (end_of g (Some (g.entry (g.owner (g.source e)))) way.0) + turns_round l n (end_of g (Some (g.entry (g.owner (g.source e)))) way.0) ≡ n.left (g.source e) + turns_round l n (Some (g.source e)) =
          ap (λ o. left_at n o + turns_round l n o) way.2 in
          let eq : n.worst (g.owner (g.source e)) ≡ n.left (g.entry (g.owner (g.source e))) + turns_round l n (Some (g.entry (g.owner (g.source e)))) =
          worst_equation g l extent w n prog acc weights nums (g.owner (g.source e)) (prog.owner_function e lt) in
          omega arith

  module _ (order : ℕ → ℕ) (falls : IsCallOrder g order) where
    -- a called function's worst cycles are at most what is left at the call
    pub site-le : (u f : ℕ) → IsCall g u f → n.worst f ≤ n.left u
    site-le u f call =
        let ended : (x : ℕ) × (x < g.edges) × (g.source x ≡ u) × (g.callee x ≡ Some f) × (g.target x ≡ None) = prog.call_end u f call in
        let room : cost g n w ended.0 ≤ n.left (g.source ended.0) = cost-le g l extent w n prog acc weights nums ended.0 ended.1 ended.4 in
        let price : cost g n w ended.0 ≡ w ended.0 + n.worst f = ap (λ o. w ended.0 + at_some o n.worst) ended.3 in
        let at_u : n.left (g.source ended.0) ≡ n.left u = ap n.left ended.2 in
        omega arith

    -- a function's worst cycles with its context are at most the program's
    pub context-worst : (m f : ℕ) → f < g.functions → g.functions ≤ order f + m → n.worst f + n.context f ≤ n.worst 0
    context-worst zero f fl far = let lt : order f < g.functions = falls.below f fl in let bad : ⊥ = omega arith in absurd bad
    context-worst (suc m) f fl far = split (λ u call. context-worst m (g.owner u) (site_function u call)
        (let r : order f < order (g.owner u) = falls.falls u f call in omega arith))
      where
        site_function : (u : ℕ) → IsCall g u f → (g.owner u < g.functions)
        site_function u call = subst (λ x. g.owner x < g.functions) call.2 (prog.owner_function call.0 call.1)

        go : f ≢ 0 → (o : Option ℕ) → IsGreatestIfAny (IsReturningCall g f) (context_of g l w n) o → n.context f ≡ unwrap_or o 0 →
            ((u : ℕ) → IsCall g u f → n.worst (g.owner u) + n.context (g.owner u) ≤ n.worst 0) → n.worst f + n.context f ≤ n.worst 0
        go ne None best is up =
            let c : (u : ℕ) × IsCall g u f = prog.called f fl ne in
            let h : n.worst f ≤ n.left c.0 = site-le c.0 f c.1 in
            let a : n.left c.0 + turns_round l n (Some c.0) ≤ n.worst (g.owner c.0) = node-worst c.0 (c.1.0, c.1.1, c.1.2) in
            let b : n.worst (g.owner c.0) + n.context (g.owner c.0) ≤ n.worst 0 = up c.0 c.1 in
            let z : n.context f ≡ 0 = is in
            omega arith
        go ne (Some x) best is up =
            let r : (e : ℕ) × IsReturningCall g f e × (context_of g l w n e ≡ x) = best.reached in
            let call : IsCall g (g.source r.0) f = (r.0, r.1.edge, refl, r.1.calls) in
            let ended : (d : ℕ) × (d < g.edges) × (g.source d ≡ g.source r.0) × (g.callee d ≡ Some f) × (g.target d ≡ None) = prog.call_end (g.source r.0) f call in
            let room : cost g n w ended.0 ≤ n.left (g.source ended.0) = cost-le g l extent w n prog acc weights nums ended.0 ended.1 ended.4 in
            let at_u : n.left (g.source ended.0) ≡ n.left (g.source r.0) = ap n.left ended.2 in
            let one : cost g n w ended.0 ≡ cost g n w r.0 = same_cost g l extent w n prog acc weights nums ended.0 r.0 f ended.1 r.1.edge ended.2 ended.3 in
            let price : cost g n w r.0 ≡ w r.0 + n.worst f = ap (λ o. w r.0 + at_some o n.worst) r.1.calls in
            let a : n.left (g.source r.0) + turns_round l n (Some (g.source r.0)) ≤ n.worst (g.owner (g.source r.0)) = node-worst (g.source r.0) (r.0, r.1.edge, refl) in
            let b : n.worst (g.owner (g.source r.0)) + n.context (g.owner (g.source r.0)) ≤ n.worst 0 = up (g.source r.0) call in
            let q : context_of g l w n r.0 ≡ x = r.2 in
            let z : n.context f ≡ x = is in
            omega arith

        split : ((u : ℕ) → IsCall g u f → n.worst (g.owner u) + n.context (g.owner u) ≤ n.worst 0) → n.worst f + n.context f ≤ n.worst 0
        split up = ⊎_elim
            (λ (first : (f ≡ 0) × (n.context f ≡ 0)).
            let eq : n.worst f ≡ n.worst 0 = ap n.worst first.0 in
            let z : n.context f ≡ 0 = first.1 in
            omega arith)
            (λ (other : (f ≢ 0) × ((o : Option ℕ) × IsGreatestIfAny (IsReturningCall g f) (context_of g l w n) o × (n.context f ≡ unwrap_or o 0))).
            go other.0 other.1.0 other.1.1 other.1.2 up)
            (nums.context f fl)

    -- the first function is called by none
    pub order-first : (m f : ℕ) → f < g.functions → g.functions ≤ order f + m → order f ≤ order 0
    order-first zero f fl far = let lt : order f < g.functions = falls.below f fl in let bad : ⊥ = omega arith in absurd bad
    order-first (suc m) f fl far = go (ℕ_discrete f 0) (λ u call. order-first m (g.owner u) (site_function u call)
        (let r : order f < order (g.owner u) = falls.falls u f call in omega arith))
      where
        site_function : (u : ℕ) → IsCall g u f → (g.owner u < g.functions)
        site_function u call = subst (λ x. g.owner x < g.functions) call.2 (prog.owner_function call.0 call.1)

        go : Dec (f ≡ 0) → ((u : ℕ) → IsCall g u f → order (g.owner u) ≤ order 0) → order f ≤ order 0
        go (yes e) up = let q : order f ≡ order 0 = ap order e in omega arith
        go (no ne) up =
            let c : (u : ℕ) × IsCall g u f = prog.called f fl ne in
            let r : order f < order (g.owner c.0) = falls.falls c.0 f c.1 in
            let h : order (g.owner c.0) ≤ order 0 = up c.0 c.1 in
            omega arith

    pub first_uncalled : (u f : ℕ) → IsCall g u f → f ≢ 0
    first_uncalled u f call e =
        let r : order f < order (g.owner u) = falls.falls u f call in
        let q : order f ≡ order 0 = ap order e in
        let lt : g.owner u < g.functions = subst (λ x. g.owner x < g.functions) call.2 (prog.owner_function call.0 call.1) in
        let h : order (g.owner u) ≤ order 0 = order-first g.functions (g.owner u) lt (omega arith) in
        let bad : ⊥ = omega arith in absurd bad

    -- what is left of the calls that a function runs in is at most its context
    pub calls-context : (calls : List ℕ) (f : ℕ) (counts : ℕ → ℕ) → f < g.functions → IsChain g f calls → left_calls g l w n counts calls ≤ n.context f
    calls-context [] f counts fl chain = omega arith
    calls-context (u ∷ calls) f counts fl chain = go (next_edge g u) refl (calls-context calls (g.owner u) counts (subst (λ x. g.owner x < g.functions) chain.0.2 (prog.owner_function chain.0.0 chain.0.1)) chain.1)
      where
        some_context : (e : ℕ) → IsReturningCall g f e → context_of g l w n e ≤ n.context f
        some_context e returning = ⊎_elim
            (λ (first : (f ≡ 0) × (n.context f ≡ 0)). absurd (first_uncalled (g.source e) f (e, returning.edge, refl, returning.calls) first.0))
            (λ (other : (f ≢ 0) × ((o : Option ℕ) × IsGreatestIfAny (IsReturningCall g f) (context_of g l w n) o × (n.context f ≡ unwrap_or o 0))).
            pick other.1.0 other.1.1 other.1.2)
            (nums.context f fl)
          where
            pick : (o : Option ℕ) → IsGreatestIfAny (IsReturningCall g f) (context_of g l w n) o → n.context f ≡ unwrap_or o 0 → context_of g l w n e ≤ n.context f
            pick None best is = absurd (best e returning)
            pick (Some x) best is = let h : context_of g l w n e ≤ x = best.most e returning in let q : n.context f ≡ x = is in omega arith

        go : (o : Option ℕ) → next_edge g u ≡ o → left_calls g l w n counts calls ≤ n.context (g.owner u) → add_call g l w n counts u o (left_calls g l w n counts calls) ≤ n.context f
        go None is ih = omega arith
        go (Some d) is ih =
            let found : (d < g.edges) × (g.source d ≡ u) × ((f : ℕ) × (g.callee d ≡ Some f)) × ((v : ℕ) × (g.target d ≡ Some v)) = next-is g u d is in
            let calls_f : g.callee d ≡ Some f = prog.one_callee d chain.0.0 found.0 chain.0.1 (found.1 ∙ sym chain.0.2) ∙ chain.0.3 in
            let h : context_of g l w n d ≤ n.context f = some_context d (record { edge = found.0; calls = calls_f; returns = found.3 }) in
            let q : context_of g l w n d ≡ n.left u - cost g n w d + turns_round l n (Some u) + n.context (g.owner u) =
            ap (λ x. n.left x - cost g n w d + turns_round l n (Some x) + n.context (g.owner x)) found.1 in
            let t : sum_below l.loops (λ k. only (l.inside k u) (turns l n counts k)) ≤ turns_round l n (Some u) =
            sum-le l.loops (λ k. only (l.inside k u) (turns l n counts k)) (λ k. only (l.inside k u) (all_of l n k))
            (λ k kl. only-turns (l.inside k u) (l.bound k) (counts k) (n.iteration k)) in
            omega arith

    -- the cycles left at a node, with what the turns cost that are taken, are at most what is left there, all turns round it and the context
    pub left-rest : (v : ℕ) (calls : List ℕ) (counts : ℕ → ℕ) → IsNode g v → IsChain g (g.owner v) calls → AreWithin l counts →
        left_at_node g l w n (Some v) calls counts + turns_taken l n counts (Some v) ≤ n.left v + turns_round l n (Some v) + n.context (g.owner v)
    left-rest v calls counts node chain within =
        let fl : g.owner v < g.functions = subst (λ x. g.owner x < g.functions) node.2 (prog.owner_function node.0 node.1) in
        let h : left_calls g l w n counts calls ≤ n.context (g.owner v) = calls-context calls (g.owner v) counts fl chain in
        let s : sum_below l.loops (λ k. only (l.inside k v) (turns l n counts k) + only (l.inside k v) (counts k * n.iteration k)) ≡
        sum_below l.loops (λ k. only (l.inside k v) (turns l n counts k)) + turns_taken l n counts (Some v) =
        sum-add l.loops (λ k. only (l.inside k v) (turns l n counts k)) (λ k. only (l.inside k v) (counts k * n.iteration k)) in
        let t : sum_below l.loops (λ k. only (l.inside k v) (turns l n counts k) + only (l.inside k v) (counts k * n.iteration k)) ≤ turns_round l n (Some v) =
        sum-le l.loops (λ k. only (l.inside k v) (turns l n counts k) + only (l.inside k v) (counts k * n.iteration k)) (λ k. only (l.inside k v) (all_of l n k))
        (λ k kl. all_turns (l.inside k v) (l.bound k) (counts k) (n.iteration k) (within k kl)) in
        omega arith
      where
        all_turns : (b : Bool) (bound count turn : ℕ) → count ≤ bound → only b ((bound - count) * turn) + only b (count * turn) ≤ only b (bound * turn)
        all_turns false bound count turn most = omega arith
        all_turns true bound count turn most =
            let parts : bound - count + count ≡ bound = omega (arith, most) in
            let all : (bound - count + count) * turn ≡ bound * turn = ap (λ x. x * turn) parts in
            omega (arith, all)

    -- so after a local step they are at most the edge's rest
    pub left_after-rest : (e v : ℕ) (calls : List ℕ) (counts : ℕ → ℕ) → e < g.edges → g.target e ≡ Some v → IsChain g (g.owner v) calls → AreWithin l counts →
        left_at_node g l w n (Some v) calls counts + turns_taken l n counts (Some v) ≤ rest g l n e
    left_after-rest e v calls counts lt to chain within =
        let h : left_at_node g l w n (Some v) calls counts + turns_taken l n counts (Some v) ≤ n.left v + turns_round l n (Some v) + n.context (g.owner v) = left-rest v calls counts (prog.stays e v lt to).0 chain within in
        let q : n.context (g.owner v) ≡ n.context (g.owner (g.source e)) = ap n.context (prog.stays e v lt to).1 in
        let t : left_at n (g.target e) + turns_round l n (g.target e) ≡ n.left v + turns_round l n (Some v) = ap (λ o. left_at n o + turns_round l n o) to in
        omega arith

    -- and the rest is at most the worst cycles
    pub rest-worst : (e v : ℕ) → e < g.edges → g.target e ≡ Some v → rest g l n e ≤ n.worst 0
    rest-worst e v lt to =
        let f : g.owner (g.source e) < g.functions = prog.owner_function e lt in
        let a : n.left v + turns_round l n (Some v) ≤ n.worst (g.owner v) = node-worst v (prog.stays e v lt to).0 in
        let q : n.worst (g.owner v) ≡ n.worst (g.owner (g.source e)) = ap n.worst (prog.stays e v lt to).1 in
        let t : left_at n (g.target e) + turns_round l n (g.target e) ≡ n.left v + turns_round l n (Some v) = ap (λ o. left_at n o + turns_round l n o) to in
        let c : n.worst (g.owner (g.source e)) + n.context (g.owner (g.source e)) ≤ n.worst 0 = context-worst g.functions (g.owner (g.source e)) f (omega arith) in
        omega arith
