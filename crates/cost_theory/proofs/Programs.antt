-- The graph over accepted reached code is a program.
use Rattle.std.proofs.Common.{◌≡◌, ◌≢◌, ℕ, zero, suc, ◌+◌, ◌<◌, Bool, true, false, ◌⊎◌, inl, inr, nat_eq, List, [], ◌∷◌, length, slice_get, Some, None, refl, sym, ap, ◌∙◌, subst, arith, ⊎_elim, eqb-true, eq-eqb}
use Rattle.std.proofs.lemmas.Option.{slice_get_within}
use Rattle.cost_theory.specs.Graph.{IsWalk, end_of, find_below}
use Rattle.cost_theory.specs.Accepted.{IsNode, IsCall, AreCalls, IsProgram}
use Rattle.cost_theory.specs.declared.flow.Flow.{Flow}
use Rattle.scale_base.specs.declared.edges.EdgeKind.{EdgeKind}
use Rattle.scale_base.specs.declared.edges.Edge.{Edge}
use Rattle.cost_theory.specs.Reached.{LeadsTo, Reached, DoesReturn, edges_of, Code, place_after, edge_at, edge_to, number_or_0, owner_of, returns_of, call_returns, callee_of, edge_callee, is_return_word, edge_returns, is_exit, edge_exits, graph_of, IsCodeOf, HasNoBadWord}
use Rattle.cost_theory.specs.declared.flow.Flow.TheVariants as flow
use Rattle.scale_base.specs.declared.edges.EdgeKind.TheVariants.{Taken, Jump, Next, CallNext, End}
use Rattle.cost_theory.specs.Reached.Reached.{main, onward, back, called}
use Rattle.cost_theory.proofs.Basics.{find-holds, find-some, some_value}
use Rattle.cost_theory.proofs.Nesting.{some_same}
use Rattle.cost_theory.proofs.Reaching.{Within, edge_of_word, word_edge, reached_walk}

pub some_get : {X : Type 0} (xs : List X) (i : ℕ) → i < length xs → (x : X) × (slice_get xs i ≡ Some x)
some_get [] i lt = let bad : ⊥ = omega arith in absurd bad
some_get (y ∷ ys) zero lt = (y, refl)
some_get (y ∷ ys) (suc i) lt = some_get ys i (omega arith)

-- a word that is not refused has an edge
pub first_edge : (w : Flow) (v : ℕ) (b : Bool) → w ≢ flow.Refused → (x : Edge) × Within x (edges_of w v b)
first_edge (flow.Branch to) v b ok = (record { at = v; kind = Taken; to = to }, inl refl)
first_edge (flow.Jump to) v b ok = (record { at = v; kind = Jump; to = to }, inl refl)
first_edge (flow.Call to) v true ok = (record { at = v; kind = CallNext; to = v + 4 }, inl refl)
first_edge (flow.Call to) v false ok = (record { at = v; kind = End; to = v }, inl refl)
first_edge flow.Return v b ok = (record { at = v; kind = End; to = v }, inl refl)
first_edge flow.Exit v b ok = (record { at = v; kind = End; to = v }, inl refl)
first_edge flow.MayExit v b ok = (record { at = v; kind = Next; to = v + 4 }, inl refl)
first_edge flow.Breakpoint v b ok = (record { at = v; kind = End; to = v }, inl refl)
first_edge flow.Next v b ok = (record { at = v; kind = Next; to = v + 4 }, inl refl)
first_edge flow.Refused v b ok = absurd (ok refl)

-- an edge to a node goes where its word leads, or it is the way on behind a call
pub edge_leads : (w : Flow) (u : ℕ) (b : Bool) (x : Edge) (v : ℕ) → Within x (edges_of w u b) → place_after x.kind x.to ≡ Some v →
    LeadsTo w u v ⊎ ((h : ℕ) × (w ≡ flow.Call h) × (b ≡ true) × (v ≡ u + 4))
edge_leads (flow.Branch to) u b x v h e = ⊎_elim
    (λ q. let t : Some to ≡ Some v = ap (λ y. place_after y.kind y.to) q ∙ e in let r : v ≡ to = cc in inl (inl r))
    (λ m. ⊎_elim (λ q. let t : Some (u + 4) ≡ Some v = ap (λ y. place_after y.kind y.to) q ∙ e in let r : v ≡ u + 4 = cc in inl (inr r)) (λ n. absurd n) m) h
edge_leads (flow.Jump to) u b x v h e = ⊎_elim (λ q. let t : Some to ≡ Some v = ap (λ y. place_after y.kind y.to) q ∙ e in let r : v ≡ to = cc in inl r) (λ n. absurd n) h
edge_leads (flow.Call to) u true x v h e = ⊎_elim
    (λ q. let t : Some (u + 4) ≡ Some v = ap (λ y. place_after y.kind y.to) q ∙ e in let r : v ≡ u + 4 = cc in inr (to, refl, refl, r))
    (λ m. ⊎_elim (λ q. let t : None ≡ Some v = ap (λ y. place_after y.kind y.to) q ∙ e in let bad : ⊥ = cc in absurd bad) (λ n. absurd n) m) h
edge_leads (flow.Call to) u false x v h e = ⊎_elim (λ q. let t : None ≡ Some v = ap (λ y. place_after y.kind y.to) q ∙ e in let bad : ⊥ = cc in absurd bad) (λ n. absurd n) h
edge_leads flow.Return u b x v h e = ⊎_elim (λ q. let t : None ≡ Some v = ap (λ y. place_after y.kind y.to) q ∙ e in let bad : ⊥ = cc in absurd bad) (λ n. absurd n) h
edge_leads flow.Exit u b x v h e = ⊎_elim (λ q. let t : None ≡ Some v = ap (λ y. place_after y.kind y.to) q ∙ e in let bad : ⊥ = cc in absurd bad) (λ n. absurd n) h
edge_leads flow.MayExit u b x v h e = ⊎_elim
    (λ q. let t : Some (u + 4) ≡ Some v = ap (λ y. place_after y.kind y.to) q ∙ e in let r : v ≡ u + 4 = cc in inl r)
    (λ m. ⊎_elim (λ q. let t : None ≡ Some v = ap (λ y. place_after y.kind y.to) q ∙ e in let bad : ⊥ = cc in absurd bad) (λ n. absurd n) m) h
edge_leads flow.Breakpoint u b x v h e = ⊎_elim (λ q. let t : None ≡ Some v = ap (λ y. place_after y.kind y.to) q ∙ e in let bad : ⊥ = cc in absurd bad) (λ n. absurd n) h
edge_leads flow.Next u b x v h e = ⊎_elim (λ q. let t : Some (u + 4) ≡ Some v = ap (λ y. place_after y.kind y.to) q ∙ e in let r : v ≡ u + 4 = cc in inl r) (λ n. absurd n) h
edge_leads flow.Refused u b x v h e = absurd h

-- which words call, return and exit
pub callee-call : (fs : List ℕ) (w : Flow) (f : ℕ) → callee_of fs w ≡ Some f → (h : ℕ) × (w ≡ flow.Call h) × (f < length fs) × (number_or_0 (slice_get fs f) ≡ h)
callee-call fs (flow.Call to) f e =
    let p : (f < length fs) × (nat_eq (number_or_0 (slice_get fs f)) to ≡ true) = find-holds (length fs) (λ i. nat_eq (number_or_0 (slice_get fs i)) to) f e in
    (to, refl, p.0, eqb-true (number_or_0 (slice_get fs f)) to p.1)
callee-call fs (flow.Branch to) f e = let bad : ⊥ = cc in absurd bad
callee-call fs (flow.Jump to) f e = let bad : ⊥ = cc in absurd bad
callee-call fs flow.Return f e = let bad : ⊥ = cc in absurd bad
callee-call fs flow.Exit f e = let bad : ⊥ = cc in absurd bad
callee-call fs flow.MayExit f e = let bad : ⊥ = cc in absurd bad
callee-call fs flow.Breakpoint f e = let bad : ⊥ = cc in absurd bad
callee-call fs flow.Next f e = let bad : ⊥ = cc in absurd bad
callee-call fs flow.Refused f e = let bad : ⊥ = cc in absurd bad

pub back-word : (w : Flow) → is_return_word w ≡ true → w ≡ flow.Return
back-word flow.Return e = refl
back-word (flow.Call to) e = let bad : ⊥ = cc in absurd bad
back-word (flow.Branch to) e = let bad : ⊥ = cc in absurd bad
back-word (flow.Jump to) e = let bad : ⊥ = cc in absurd bad
back-word flow.Exit e = let bad : ⊥ = cc in absurd bad
back-word flow.MayExit e = let bad : ⊥ = cc in absurd bad
back-word flow.Breakpoint e = let bad : ⊥ = cc in absurd bad
back-word flow.Next e = let bad : ⊥ = cc in absurd bad
back-word flow.Refused e = let bad : ⊥ = cc in absurd bad

pub exit-kind : (w : Flow) (k : EdgeKind) → is_exit w k ≡ true → (k ≡ End) × ((fs : List ℕ) → callee_of fs w ≡ None)
exit-kind flow.Exit End e = (refl, λ fs. refl)
exit-kind flow.MayExit End e = (refl, λ fs. refl)
exit-kind w k e = let bad : ⊥ = cc in absurd bad

-- a return's only edge is its End edge
pub back_ends : (v : ℕ) (b : Bool) (x : Edge) → Within x (edges_of flow.Return v b) → x.kind ≡ End
back_ends v b x h = ⊎_elim (λ q. sym (ap (λ y. y.kind) q)) (λ n. absurd n) h

-- the number of an edge has the callee of the edge's word, and returns where the word does
pub callee_word : (word : ℕ → Flow) (fs : List ℕ) (es : List Edge) (e : ℕ) → e < length es → edge_callee word fs (slice_get es e) ≡ callee_of fs (word (edge_at (slice_get es e)))
callee_word word fs es e lt = let x : (x : Edge) × (slice_get es e ≡ Some x) = some_get es e lt in ap (edge_callee word fs) x.1 ∙ sym (ap (λ o. callee_of fs (word (edge_at o))) x.1)

pub returns_word : (word : ℕ → Flow) (es : List Edge) (e : ℕ) → e < length es → edge_returns word (slice_get es e) ≡ is_return_word (word (edge_at (slice_get es e)))
returns_word word es e lt = let x : (x : Edge) × (slice_get es e ≡ Some x) = some_get es e lt in ap (edge_returns word) x.1 ∙ sym (ap (λ o. is_return_word (word (edge_at o))) x.1)

module _ (word : ℕ → Flow) (first : ℕ) (code : Code) (is : IsCodeOf word first code) (fine : HasNoBadWord word first) where
  callee_at : (e : ℕ) → e < length code.edges → edge_callee word code.functions (slice_get code.edges e) ≡ callee_of code.functions (word (edge_at (slice_get code.edges e)))
  callee_at e lt = callee_word word code.functions code.edges e lt

  returns_at : (e : ℕ) → e < length code.edges → edge_returns word (slice_get code.edges e) ≡ is_return_word (word (edge_at (slice_get code.edges e)))
  returns_at e lt = returns_word word code.edges e lt

  -- the function of an edge's node
  pub source_reached : (e : ℕ) → e < length code.edges → (f : ℕ) × Reached word first f (edge_at (slice_get code.edges e))
  source_reached e lt =
      let x : (x : Edge) × (slice_get code.edges e ≡ Some x) = some_get code.edges e lt in
      let r : (v : ℕ) × ((f : ℕ) × Reached word first f v) × Within x.0 (edges_of (word v) v (call_returns code (word v))) × (x.0.at ≡ v) = edge_of_word word first code is e x.0 x.1 in
      (r.1.0, subst (λ v. Reached word first r.1.0 v) (sym (ap edge_at x.1 ∙ r.3)) r.1.1)

  pub reached_node : (f v : ℕ) → Reached word first f v → IsNode (graph_of word code) v
  reached_node f v r =
      let x : (x : Edge) × Within x (edges_of (word v) v (call_returns code (word v))) = first_edge (word v) v (call_returns code (word v)) (fine f v r) in
      node_of f v x.0 r x.1
    where
      node_of : (f v : ℕ) (x : Edge) → Reached word first f v → Within x (edges_of (word v) v (call_returns code (word v))) → IsNode (graph_of word code) v
      node_of f v x r h =
          let e : (e : ℕ) × (e < length code.edges) × (slice_get code.edges e ≡ Some x) = word_edge word first code is f v x r h in
          (e.0, e.1, ap edge_at e.2 ∙ at v x h)
        where
          at : (v : ℕ) (x : Edge) → Within x (edges_of (word v) v (call_returns code (word v))) → x.at ≡ v
          at v x h = Rattle.cost_theory.proofs.Reaching.edges-at (word v) v (call_returns code (word v)) x h

  -- nodes of one function have one owner
  pub same_owner : (f u v : ℕ) → Reached word first f u → Reached word first f v → owner_of code u ≡ owner_of code v
  same_owner f u v a b = is.once (owner_of code u) (owner_of code v) f (is.owner f u a) (is.owner f v b)

  pub edge_reaches : (e v : ℕ) → e < length code.edges → edge_to (slice_get code.edges e) ≡ Some v → (f : ℕ) × Reached word first f (edge_at (slice_get code.edges e)) × Reached word first f v
  edge_reaches e v lt to =
      let x : (x : Edge) × (slice_get code.edges e ≡ Some x) = some_get code.edges e lt in
      let r : (v : ℕ) × ((f : ℕ) × Reached word first f v) × Within x.0 (edges_of (word v) v (call_returns code (word v))) × (x.0.at ≡ v) = edge_of_word word first code is e x.0 x.1 in
      let here : Reached word first r.1.0 (edge_at (slice_get code.edges e)) = subst (λ u. Reached word first r.1.0 u) (sym (ap edge_at x.1 ∙ r.3)) r.1.1 in (
        r.1.0,
        here,
        ⊎_elim
            (λ leads. onward v r.1.1 leads)
            (λ (m : (h : ℕ) × (word r.0 ≡ flow.Call h) × (call_returns code (word r.0) ≡ true) × (v ≡ r.0 + 4)).
            let b : returns_of code m.0 ≡ true = sym (ap (call_returns code) m.1) ∙ m.2 in
            let d : DoesReturn word first m.0 = (is.returns m.0).0 b in
            subst (λ u. Reached word first r.1.0 u) (sym m.3) (back m.0 d.0 r.1.1 m.1 d.1 d.2))
            (edge_leads (word r.0) r.0 (call_returns code (word r.0)) x.0 v r.2 (sym (ap edge_to x.1) ∙ to)),
      )

  -- the number of a function in the list is what a call of it has as callee
  pub callee-is : (f h : ℕ) → slice_get code.functions f ≡ Some h → callee_of code.functions (flow.Call h) ≡ Some f
  callee-is f h at =
      let lt : f < length code.functions = slice_get_within code.functions f h at in
      let test : nat_eq (number_or_0 (slice_get code.functions f)) h ≡ true = eq-eqb (number_or_0 (slice_get code.functions f)) h (ap number_or_0 at) in
      let found : (j : ℕ) × (find_below (length code.functions) (λ i. nat_eq (number_or_0 (slice_get code.functions i)) h) ≡ Some j) =
      some_value (find_below (length code.functions) (λ i. nat_eq (number_or_0 (slice_get code.functions i)) h)) (find-some (length code.functions) (λ i. nat_eq (number_or_0 (slice_get code.functions i)) h) f lt test) in
      let holds : (found.0 < length code.functions) × (nat_eq (number_or_0 (slice_get code.functions found.0)) h ≡ true) =
      find-holds (length code.functions) (λ i. nat_eq (number_or_0 (slice_get code.functions i)) h) found.0 found.1 in
      let there : (x : ℕ) × (slice_get code.functions found.0 ≡ Some x) = some_get code.functions found.0 holds.0 in
      let eq : there.0 ≡ h = sym (ap number_or_0 there.1) ∙ eqb-true (number_or_0 (slice_get code.functions found.0)) h holds.1 in
      found.1 ∙ ap Some (is.once found.0 f h (there.1 ∙ ap Some eq) at)

  -- each reached function but the first is called
  pub caller : {f v : ℕ} → Reached word first f v → (f ≡ first) ⊎ ((g : ℕ) × (u : ℕ) × Reached word first g u × (word u ≡ flow.Call f))
  caller main = inl refl
  caller (onward u r leads) = caller r
  caller (back h r rv calls rr returns) = caller rv
  caller (called {f = g} {v = u} h r calls) = inr (g, u, r, calls)

  pub end_edge : (g u h : ℕ) → Reached word first g u → word u ≡ flow.Call h → (e : ℕ) × (e < length code.edges) × (edge_at (slice_get code.edges e) ≡ u) × (edge_to (slice_get code.edges e) ≡ None)
  end_edge g u h r calls =
      let x : Edge = record { at = u; kind = End; to = u } in
      let here : Within x (edges_of (word u) u (call_returns code (word u))) = subst (λ w. Within x (edges_of w u (call_returns code w))) (sym calls) (either (returns_of code h)) in
      let e : (e : ℕ) × (e < length code.edges) × (slice_get code.edges e ≡ Some x) = word_edge word first code is g u x r here in
      (e.0, e.1, ap edge_at e.2, ap edge_to e.2)
    where
      either : (b : Bool) → Within (record { at = u; kind = End; to = u }) (edges_of (flow.Call h) u b)
      either true = inr (inl refl)
      either false = inl refl

  -- the function with a number
  pub function_at : (f h : ℕ) → f < length code.functions → number_or_0 (slice_get code.functions f) ≡ h → slice_get code.functions f ≡ Some h
  function_at f h lt e = let x : (x : ℕ) × (slice_get code.functions f ≡ Some x) = some_get code.functions f lt in x.1 ∙ ap Some (sym (ap number_or_0 x.1) ∙ e)

  pub edge_word : (e : ℕ) → e < length code.edges → (x : Edge) × (slice_get code.edges e ≡ Some x) ×
      Within x (edges_of (word (edge_at (slice_get code.edges e))) (edge_at (slice_get code.edges e)) (call_returns code (word (edge_at (slice_get code.edges e)))))
  edge_word e lt =
      let x : (x : Edge) × (slice_get code.edges e ≡ Some x) = some_get code.edges e lt in
      let r : (v : ℕ) × ((f : ℕ) × Reached word first f v) × Within x.0 (edges_of (word v) v (call_returns code (word v))) × (x.0.at ≡ v) = edge_of_word word first code is e x.0 x.1 in
      (x.0, x.1, subst (λ v. Within x.0 (edges_of (word v) v (call_returns code (word v)))) (sym (ap edge_at x.1 ∙ r.3)) r.2)

  pub comes_back_edge : (u f r : ℕ) → IsCall (graph_of word code) u f → r < length code.edges → edge_returns word (slice_get code.edges r) ≡ true → owner_of code (edge_at (slice_get code.edges r)) ≡ f →
      (e : ℕ) × (v : ℕ) × (e < length code.edges) × (edge_at (slice_get code.edges e) ≡ u) × (edge_callee word code.functions (slice_get code.edges e) ≡ Some f) × (edge_to (slice_get code.edges e) ≡ Some v)
  comes_back_edge u f r call rl returns owner =
      let c : (h : ℕ) × (word (edge_at (slice_get code.edges call.0)) ≡ flow.Call h) × (f < length code.functions) × (number_or_0 (slice_get code.functions f) ≡ h) = callee-call code.functions (word (edge_at (slice_get code.edges call.0))) f (sym (callee_at call.0 call.1) ∙ call.3) in
      let fh : slice_get code.functions f ≡ Some c.0 = function_at f c.0 c.2 c.3 in
      let sr : (f : ℕ) × Reached word first f (edge_at (slice_get code.edges r)) = source_reached r rl in
      let same : sr.0 ≡ c.0 = some_same _ _ (sym (is.owner sr.0 (edge_at (slice_get code.edges r)) sr.1) ∙ ap (slice_get code.functions) owner ∙ fh) in
      let does : DoesReturn word first c.0 = (edge_at (slice_get code.edges r), subst (λ h. Reached word first h (edge_at (slice_get code.edges r))) same sr.1, back-word (word (edge_at (slice_get code.edges r))) (sym (returns_at r rl) ∙ returns)) in
      let yes_it : returns_of code c.0 ≡ true = (is.returns c.0).1 does in
      let su : (f : ℕ) × Reached word first f (edge_at (slice_get code.edges call.0)) = source_reached call.0 call.1 in
      let at : ℕ = edge_at (slice_get code.edges call.0) in
      let x : Edge = record { at = edge_at (slice_get code.edges call.0); kind = CallNext; to = edge_at (slice_get code.edges call.0) + 4 } in
      let b : call_returns code (word (edge_at (slice_get code.edges call.0))) ≡ true = ap (call_returns code) c.1 ∙ yes_it in
      let here : Within x (edges_of (word (edge_at (slice_get code.edges call.0))) (edge_at (slice_get code.edges call.0)) (call_returns code (word (edge_at (slice_get code.edges call.0))))) =
      subst (λ t. Within x (edges_of (word (edge_at (slice_get code.edges call.0))) (edge_at (slice_get code.edges call.0)) t)) (sym b) (subst (λ w. Within x (edges_of w (edge_at (slice_get code.edges call.0)) true)) (sym c.1) (inl refl)) in
      let e : (e : ℕ) × (e < length code.edges) × (slice_get code.edges e ≡ Some x) = word_edge word first code is su.0 (edge_at (slice_get code.edges call.0)) x su.1 here in
      (e.0, edge_at (slice_get code.edges call.0) + 4, e.1, ap edge_at e.2 ∙ call.2, ap (edge_callee word code.functions) e.2 ∙ (sym (callee_at call.0 call.1) ∙ call.3), ap edge_to e.2)

  pub returns_only : (e f v : ℕ) → e < length code.edges → edge_callee word code.functions (slice_get code.edges e) ≡ Some f → edge_to (slice_get code.edges e) ≡ Some v →
      (r : ℕ) × (r < length code.edges) × (edge_returns word (slice_get code.edges r) ≡ true) × (owner_of code (edge_at (slice_get code.edges r)) ≡ f)
  returns_only e f v lt calls to =
      let c : (h : ℕ) × (word (edge_at (slice_get code.edges e)) ≡ flow.Call h) × (f < length code.functions) × (number_or_0 (slice_get code.functions f) ≡ h) = callee-call code.functions (word (edge_at (slice_get code.edges e))) f (sym (callee_at e lt) ∙ calls) in
      let x : (x : Edge) × (slice_get code.edges e ≡ Some x) ×
      Within x (edges_of (word (edge_at (slice_get code.edges e))) (edge_at (slice_get code.edges e)) (call_returns code (word (edge_at (slice_get code.edges e))))) = edge_word e lt in
      ⊎_elim
      (λ leads. let none : LeadsTo (flow.Call c.0) (edge_at (slice_get code.edges e)) v = subst (λ w. LeadsTo w (edge_at (slice_get code.edges e)) v) c.1 leads in absurd none)
      (λ (m : (h : ℕ) × (word (edge_at (slice_get code.edges e)) ≡ flow.Call h) × (call_returns code (word (edge_at (slice_get code.edges e))) ≡ true) × (v ≡ edge_at (slice_get code.edges e) + 4)).
      let b : returns_of code c.0 ≡ true = sym (ap (call_returns code) c.1) ∙ m.2 in
      let d : DoesReturn word first c.0 = (is.returns c.0).0 b in
      let y : Edge = record { at = d.0; kind = End; to = d.0 } in
      let here : Within y (edges_of (word d.0) d.0 (call_returns code (word d.0))) = subst (λ w. Within y (edges_of w d.0 (call_returns code w))) (sym d.2) (inl refl) in
      let r : (r : ℕ) × (r < length code.edges) × (slice_get code.edges r ≡ Some y) = word_edge word first code is c.0 d.0 y d.1 here in (
        r.0,
        r.1,
        ap (edge_returns word) r.2 ∙ ap is_return_word d.2,
        ap (λ o. owner_of code (edge_at o)) r.2 ∙ is.once (owner_of code d.0) f c.0 (is.owner c.0 d.0 d.1) (function_at f c.0 c.2 c.3),
      ))
      (edge_leads (word (edge_at (slice_get code.edges e))) (edge_at (slice_get code.edges e)) (call_returns code (word (edge_at (slice_get code.edges e)))) x.0 v x.2 (sym (ap edge_to x.1) ∙ to))

  pub return_ends : (e : ℕ) → e < length code.edges → edge_returns word (slice_get code.edges e) ≡ true → (edge_to (slice_get code.edges e) ≡ None) × (edge_callee word code.functions (slice_get code.edges e) ≡ None)
  return_ends e lt returns =
      let w : word (edge_at (slice_get code.edges e)) ≡ flow.Return = back-word (word (edge_at (slice_get code.edges e))) (sym (returns_at e lt) ∙ returns) in
      let x : (x : Edge) × (slice_get code.edges e ≡ Some x) ×
      Within x (edges_of (word (edge_at (slice_get code.edges e))) (edge_at (slice_get code.edges e)) (call_returns code (word (edge_at (slice_get code.edges e))))) = edge_word e lt in
      let k : x.0.kind ≡ End = back_ends (edge_at (slice_get code.edges e)) (call_returns code flow.Return) x.0 (subst (λ v. Within x.0 (edges_of v (edge_at (slice_get code.edges e)) (call_returns code v))) w x.2) in
      (ap edge_to x.1 ∙ ap (λ k. place_after k x.0.to) k, callee_at e lt ∙ ap (callee_of code.functions) w)

  pub exit_ends : (e : ℕ) → e < length code.edges → edge_exits word (slice_get code.edges e) ≡ true → (edge_to (slice_get code.edges e) ≡ None) × (edge_callee word code.functions (slice_get code.edges e) ≡ None)
  exit_ends e lt exits =
      let x : (x : Edge) × (slice_get code.edges e ≡ Some x) = some_get code.edges e lt in
      let k : (x.0.kind ≡ End) × ((fs : List ℕ) → callee_of fs (word x.0.at) ≡ None) = exit-kind (word x.0.at) x.0.kind (sym (ap (edge_exits word) x.1) ∙ exits) in
      (ap edge_to x.1 ∙ ap (λ k. place_after k x.0.to) k.0, ap (edge_callee word code.functions) x.1 ∙ k.1 code.functions)

  pub is_program : ((f next : ℕ) (fs : List ℕ) → AreCalls (graph_of word code) f (next ∷ fs) f → ⊥) → IsProgram (graph_of word code)
  is_program no_recursion = record {
    main = slice_get_within code.functions 0 first is.first_function;
    entry_owner = λ f fl. (let h : (h : ℕ) × (slice_get code.functions f ≡ Some h) = some_get code.functions f fl in
        let r : Reached word first h.0 h.0 = (is.functions h.0).0 (f, h.1) in
        ap (owner_of code) (ap number_or_0 h.1) ∙ is.once (owner_of code h.0) f h.0 (is.owner h.0 h.0 r) h.1);
    owner_function = λ e lt. (let r : (f : ℕ) × Reached word first f (edge_at (slice_get code.edges e)) = source_reached e lt in
        slice_get_within code.functions (owner_of code (edge_at (slice_get code.edges e))) r.0 (is.owner r.0 (edge_at (slice_get code.edges e)) r.1));
    reached = λ e lt. (let r : (f : ℕ) × Reached word first f (edge_at (slice_get code.edges e)) = source_reached e lt in
        let at : number_or_0 (slice_get code.functions (owner_of code (edge_at (slice_get code.edges e)))) ≡ r.0 = ap number_or_0 (is.owner r.0 (edge_at (slice_get code.edges e)) r.1) in
        subst (λ f. (es : List ℕ) × IsWalk (graph_of word code) (Some f) es × (end_of (graph_of word code) (Some f) es ≡ Some (edge_at (slice_get code.edges e)))) (sym at)
        (reached_walk word first code is r.1));
    stays = λ e v lt to. (let r : (f : ℕ) × Reached word first f (edge_at (slice_get code.edges e)) × Reached word first f v = edge_reaches e v lt to in
        (reached_node r.0 v r.2, same_owner r.0 v (edge_at (slice_get code.edges e)) r.2 r.1));
    entry_node = λ f fl. (let h : (h : ℕ) × (slice_get code.functions f ≡ Some h) = some_get code.functions f fl in
        subst (λ v. IsNode (graph_of word code) v) (sym (ap number_or_0 h.1)) (reached_node h.0 h.0 ((is.functions h.0).0 (f, h.1))));
    callee_function = λ e f lt calls. (callee-call code.functions (word (edge_at (slice_get code.edges e))) f (sym (callee_at e lt) ∙ calls)).2;
    one_callee = λ d e dl el same. callee_at d dl ∙ (ap (λ v. callee_of code.functions (word v)) same ∙ sym (callee_at e el));
    call_end = λ u f call. (let c : (h : ℕ) × (word (edge_at (slice_get code.edges call.0)) ≡ flow.Call h) × (f < length code.functions) × (number_or_0 (slice_get code.functions f) ≡ h) = callee-call code.functions (word (edge_at (slice_get code.edges call.0))) f (sym (callee_at call.0 call.1) ∙ call.3) in
        let r : (g : ℕ) × Reached word first g (edge_at (slice_get code.edges call.0)) = source_reached call.0 call.1 in
        let e : (e : ℕ) × (e < length code.edges) × (edge_at (slice_get code.edges e) ≡ edge_at (slice_get code.edges call.0)) × (edge_to (slice_get code.edges e) ≡ None) = end_edge r.0 (edge_at (slice_get code.edges call.0)) c.0 r.1 c.1 in
        (e.0, e.1, e.2 ∙ call.2, callee_at e.0 e.1 ∙ (ap (λ v. callee_of code.functions (word v)) e.2 ∙ (sym (callee_at call.0 call.1) ∙ call.3)), e.3));
    comes_back = λ u f r call rl returns owner. comes_back_edge u f r call rl returns owner;
    comes_back_only = λ e f v lt calls to. returns_only e f v lt calls to;
    called = λ f fl ne. (let h : (h : ℕ) × (slice_get code.functions f ≡ Some h) = some_get code.functions f fl in
        ⊎_elim
        (λ q. absurd (ne (is.once f 0 first (h.1 ∙ ap Some q) is.first_function)))
        (λ (m : (g : ℕ) × (u : ℕ) × Reached word first g u × (word u ≡ flow.Call h.0)).
        let e : (e : ℕ) × (e < length code.edges) × (edge_at (slice_get code.edges e) ≡ m.1) × (edge_to (slice_get code.edges e) ≡ None) = end_edge m.0 m.1 h.0 m.2 m.3 in
        (m.1, (e.0, e.1, e.2, callee_at e.0 e.1 ∙ ap (λ v. callee_of code.functions (word v)) e.2 ∙ ap (callee_of code.functions) m.3 ∙ callee-is f h.0 h.1)))
        (caller ((is.functions h.0).0 (f, h.1))));
    return_end = λ e lt returns. return_ends e lt returns;
    exit_end = λ e lt exits. exit_ends e lt exits;
    no_recursion = no_recursion;
  }
