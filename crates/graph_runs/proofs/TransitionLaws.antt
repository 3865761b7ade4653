-- A completed step that keeps the rules on returns is a transition of the graph.
use Rattle.std.proofs.Common.{◌≡◌, ◌≢◌, ℕ, ◌+◌, ◌<◌, ◌%◌, Bool, true, false, List, [], ◌∷◌, length, slice_get, map, nat_eq, refl, sym, ap, ◌∙◌, subst, arith, Option, Some, None, IsSome, is_some, inl, inr, ⊎_elim}
use Rattle.std.specs.Prelude.{ℤ, pos, ◌==◌, ◌||◌, ◌&&◌}
use Rattle.std.specs.Ordering.{int_eq}
use Rattle.std.proofs.lemmas.Bool.{and_parts, and_from, eqb-true, eq-eqb, cond-true, cond-false, both_ways}
use Rattle.scale_base.specs.declared.instruction.Instr.{Instr}
use Rattle.scale_base.specs.declared.instruction.Instr.TheVariants as instr
use Rattle.scale_base.specs.declared.stepping.Move.{Move as Moved}
use Rattle.scale_base.specs.declared.stepping.Move.TheVariants as moves
use Rattle.scale_base.specs.declared.stepping.Class.{Class}
use Rattle.scale_base.specs.declared.stepping.Stepped.{Stepped}
use Rattle.scale_base.specs.declared.stepping.StepEnd.TheVariants.{Went, Exited}
use Rattle.scale_base.specs.Class.{class_of}
use Rattle.scale_base.specs.Reading.{instr_of}
use Rattle.scale_base.specs.Arith.{plus, moved_by}
use Rattle.scale_base.specs.State.{Setting, State, reg, word_at}
use Rattle.scale_base.specs.Step.{step, move_of}
use Rattle.cost_theory.specs.Graph.{find_below, next_edge}
use Rattle.cost_theory.specs.Steps as steps
use Rattle.cost_theory.specs.Steps.Transition.{Along, Call, Return, Exit}
use Rattle.cost_theory.specs.declared.flow.Flow.{Flow}
use Rattle.scale_base.specs.declared.edges.EdgeKind.{EdgeKind}
use Rattle.scale_base.specs.declared.edges.Edge.{Edge}
use Rattle.cost_theory.specs.Reached.{LeadsTo, Reached, edges_of, Code, place_after, edge_at, edge_to, number_or_0, call_returns, callee_of, edge_callee, is_return_word, edge_returns, is_exit, edge_exits, graph_of, IsCodeOf, HasNoBadWord}
use Rattle.cost_theory.specs.declared.flow.Flow.TheVariants as flow
use Rattle.scale_base.specs.declared.edges.EdgeKind.TheVariants.{Taken, Untaken, Jump, Next, CallNext, End}
use Rattle.cost_theory.specs.Reached.Reached.{onward as reach_onward, back as reach_back, called as reach_called}
use Rattle.std.proofs.lemmas.Option.{slice_get_within}
use Rattle.cost_theory.proofs.Laws.{find-holds, find-some, some_value, Within, word_edge, edge_of_word, edge_leads}
use Rattle.code_text.specs.Text.{Text, is_text_address, instr_at, jump_of, puts17, leaves17, known, ecall_kind, jal_kind, jalr_kind, instr_kind, word_kind, kind_at}
use Rattle.graph_runs.specs.TextStates.{IsTextOf, IsOverText}
use Rattle.graph_runs.specs.ReturnAddresses.{returned, returns_by, returns_after}
use Rattle.graph_runs.proofs.StepTransitions.{IsTransitionKind, IsTransitionOf}
use Rattle.code_text.specs.EdgeCosts.{class_by, edge_class}
use Rattle.graph_runs.specs.RunTransitions.{after_call, IsStack}
use Rattle.graph_runs.proofs.StepFacts.{IsStep, IsExit, EndsBy, WayOf, IsDone, IsTrap, step_done}
use Rattle.graph_runs.proofs.TextFacts.{word_same, word_bound}
use Rattle.graph_runs.proofs.KnownLaws.{IsWay, over_next}
use Rattle.graph_runs.proofs.KnownLaws.IsWay.{jump as way_jump, after as way_after, back as way_back}
use Rattle.code_text.proofs.Laws.{kind_facts}

-- a call puts nothing into x17, and is no word that leaves it
call_17 : (t : Text) (v f : ℕ) (i : Instr) → instr_kind t v i ≡ flow.Call f → (puts17 i ≡ None) × (leaves17 i ≡ false)
call_17 t v f (instr.Lui rd imm) h = let bad : ⊥ = cc in absurd bad
call_17 t v f (instr.Auipc rd imm) h = let bad : ⊥ = cc in absurd bad
call_17 t v f (instr.Jal rd offset) h = (refl, refl)
call_17 t v f (instr.Jalr rd rs1 offset) h = (refl, refl)
call_17 t v f (instr.Branch op rs1 rs2 offset) h = (refl, refl)
call_17 t v f (instr.Load op rd rs1 offset) h = let bad : ⊥ = cc in absurd bad
call_17 t v f (instr.Store op rs1 rs2 offset) h = let bad : ⊥ = cc in absurd bad
call_17 t v f (instr.Imm op rd rs1 imm) h = let bad : ⊥ = cc in absurd bad
call_17 t v f (instr.Reg op rd rs1 rs2) h = let bad : ⊥ = cc in absurd bad
call_17 t v f (instr.Fence rd rs1 imm) h = let bad : ⊥ = cc in absurd bad
call_17 t v f instr.Ecall h = (refl, refl)
call_17 t v f instr.Ebreak h = (refl, refl)

returned_parts : (r : ℕ) (rs out : List ℕ) (next : ℕ) → returned (r ∷ rs) next ≡ Some out → (r ≡ next) × (rs ≡ out)
returned_parts r rs out next h = go (r == next) refl
  where
    go : (b : Bool) → (r == next) ≡ b → (r ≡ next) × (rs ≡ out)
    go true e = let q : returned (r ∷ rs) next ≡ Some rs = cond-true _ _ _ e in (eqb-true r next e, (let o : rs ≡ out = cc in o))
    go false e = let q : returned (r ∷ rs) next ≡ None = cond-false _ _ _ e in let bad : ⊥ = cc in absurd bad

end_edge : (to v : ℕ) (b : Bool) → Within (record { at = v; kind = End; to = v }) (edges_of (flow.Call to) v b)
end_edge to v true = inr (inl refl)
end_edge to v false = inl refl

-- where a step that goes on leads
pub record Goes (t : Text) (env : Setting) (code : Code) (s u : State) (calls rs : List ℕ) (class : Class) (moved : Moved) : Type 0 where
  pub move : steps.Transition
  pub function : ℕ
  pub calls_after : List ℕ
  pub is : IsTransitionOf t code s.pc calls class move (Some u.pc) calls_after
  pub returns : rs ≡ map after_call calls_after
  pub reached : Reached (kind_at t) t.entry function u.pc
  pub stack : IsStack (kind_at t) t.entry function calls_after
  pub over : IsOverText t u
  pub kind : IsTransitionKind move moved

module _ (t : Text) (env : Setting) (ok : IsTextOf t env) (code : Code) (is : IsCodeOf (kind_at t) t.entry code) (fine : HasNoBadWord (kind_at t) t.entry) where
  -- the number of a called function
  function_of : (f : ℕ) → Reached (kind_at t) t.entry f f → (k : ℕ) × (callee_of code.functions (flow.Call f) ≡ Some k) × (number_or_0 (slice_get code.functions k) ≡ f)
  function_of f reached =
      let at : (i : ℕ) × (slice_get code.functions i ≡ Some f) = (is.functions f).1 reached in
      let here : nat_eq (number_or_0 (slice_get code.functions at.0)) f ≡ true = eq-eqb (number_or_0 (slice_get code.functions at.0)) f (ap number_or_0 at.1) in
      let p : ℕ → Bool = λ j. nat_eq (number_or_0 (slice_get code.functions j)) f in
      let some : is_some (find_below (length code.functions) p) ≡ true = find-some (length code.functions) p at.0 (slice_get_within code.functions at.0 f at.1) here in
      let k : (k : ℕ) × (find_below (length code.functions) p ≡ Some k) = some_value (find_below (length code.functions) p) some in
      let holds : (k.0 < length code.functions) × (p k.0 ≡ true) = find-holds (length code.functions) p k.0 k.1 in
      (k.0, k.1, eqb-true (number_or_0 (slice_get code.functions k.0)) f holds.1)

  -- the edge by which the call at a site comes back
  comes_back : (h u f r : ℕ) → Reached (kind_at t) t.entry h u → kind_at t u ≡ flow.Call f → Reached (kind_at t) t.entry f r → kind_at t r ≡ flow.Return →
      (d : ℕ) × (next_edge (graph_of (kind_at t) code) u ≡ Some d) × (edge_to (slice_get code.edges d) ≡ Some (u + 4))
  comes_back h u f r at call reached back =
      let b : call_returns code (kind_at t u) ≡ true = ap (call_returns code) call ∙ (is.returns f).1 (r, reached, back) in
      let x : Edge = record { at = u; kind = CallNext; to = u + 4 } in
      let within : Within x (edges_of (kind_at t u) u (call_returns code (kind_at t u))) = subst (λ c. Within x (edges_of (kind_at t u) u c)) (sym b) (subst (λ w. Within x (edges_of w u true)) (sym call) (inl refl)) in
      let e : (e : ℕ) × (e < length code.edges) × (slice_get code.edges e ≡ Some x) = word_edge (kind_at t) t.entry code is h u x at within in
      let k : (k : ℕ) × (callee_of code.functions (flow.Call f) ≡ Some k) × (number_or_0 (slice_get code.functions k) ≡ f) = function_of f (reach_called f at call) in
      let p : ℕ → Bool = λ j. nat_eq (edge_at (slice_get code.edges j)) u && (is_some (edge_callee (kind_at t) code.functions (slice_get code.edges j)) && is_some (edge_to (slice_get code.edges j))) in
      let source : edge_at (slice_get code.edges e.0) ≡ u = ap edge_at e.2 in
      let callee : is_some (edge_callee (kind_at t) code.functions (slice_get code.edges e.0)) ≡ true = ap (λ o. is_some (edge_callee (kind_at t) code.functions o)) e.2 ∙ (ap (λ w. is_some (callee_of code.functions w)) call ∙ ap is_some k.1) in
      let target : is_some (edge_to (slice_get code.edges e.0)) ≡ true = ap (λ o. is_some (edge_to o)) e.2 in
      let here : p e.0 ≡ true = and_from _ _ (eq-eqb (edge_at (slice_get code.edges e.0)) u source) (and_from _ _ callee target) in
      let some : is_some (find_below (length code.edges) p) ≡ true = find-some (length code.edges) p e.0 e.1 here in
      let d : (d : ℕ) × (find_below (length code.edges) p ≡ Some d) = some_value (find_below (length code.edges) p) some in
      let holds : (d.0 < length code.edges) × (p d.0 ≡ true) = find-holds (length code.edges) p d.0 d.1 in
      let parts = and_parts (nat_eq (edge_at (slice_get code.edges d.0)) u)
      (is_some (edge_callee (kind_at t) code.functions (slice_get code.edges d.0)) && is_some (edge_to (slice_get code.edges d.0))) holds.1 in
      let more = and_parts (is_some (edge_callee (kind_at t) code.functions (slice_get code.edges d.0))) (is_some (edge_to (slice_get code.edges d.0))) parts.1 in
      (d.0, d.1, leads d.0 (slice_get code.edges d.0) (refl {a = slice_get code.edges d.0}) (eqb-true (edge_at (slice_get code.edges d.0)) u parts.0) more.1)
    where
      leads : (d : ℕ) (o : Option Edge) → slice_get code.edges d ≡ o → edge_at (slice_get code.edges d) ≡ u → is_some (edge_to (slice_get code.edges d)) ≡ true → edge_to (slice_get code.edges d) ≡ Some (u + 4)
      leads d None e source target = let q : edge_to (slice_get code.edges d) ≡ None = ap edge_to e in let z : is_some (edge_to (slice_get code.edges d)) ≡ false = ap is_some q in absurd (both_ways (is_some (edge_to (slice_get code.edges d))) z target)
      leads d (Some y) e source target =
          let w : (v : ℕ) × ((f : ℕ) × Reached (kind_at t) t.entry f v) × Within y (edges_of (kind_at t v) v (call_returns code (kind_at t v))) × (y.at ≡ v) = edge_of_word (kind_at t) t.entry code is d y e in
          let v : w.0 ≡ u = sym w.3 ∙ (sym (ap edge_at e) ∙ source) in
          let some : is_some (place_after y.kind y.to) ≡ true = sym (ap (λ o. is_some (edge_to o)) e) ∙ target in
          let to : (z : ℕ) × (place_after y.kind y.to ≡ Some z) = some_value (place_after y.kind y.to) some in
          ap edge_to e ∙ (to.1 ∙ ap Some (⊎_elim
          (λ (l : LeadsTo (kind_at t w.0) w.0 to.0). absurd (subst (λ k. LeadsTo k w.0 to.0) (ap (kind_at t) v ∙ call) l))
          (λ (q : (h : ℕ) × (kind_at t w.0 ≡ flow.Call h) × (call_returns code (kind_at t w.0) ≡ true) × (to.0 ≡ w.0 + 4)). q.3 ∙ ap (λ a. a + 4) v)
          (edge_leads (kind_at t w.0) w.0 (call_returns code (kind_at t w.0)) y to.0 w.2 to.1)))

  module _ (s : State) (f : ℕ) (calls rs : List ℕ) (over : IsOverText t s) (reached : Reached (kind_at t) t.entry f s.pc) (stack : IsStack (kind_at t) t.entry f calls)
      (x : Stepped) (i : Instr) (done : IsDone env s i (step env s).end (step env s).state) (at : instr_at t s.pc ≡ Some i)
      (here : is_text_address t s.pc ≡ true) (aligned : s.pc % 4 ≡ 0) where
    -- a step along an edge within the function
    along : (kind : EdgeKind) (to : ℕ) (w : Flow) → kind_at t s.pc ≡ w → ((b : Bool) → Within (record { at = s.pc; kind = kind; to = to }) (edges_of w s.pc b)) →
        place_after kind to ≡ Some (step env s).state.pc → LeadsTo w s.pc (step env s).state.pc → callee_of code.functions w ≡ None →
        returns_after (map after_call calls) x ≡ Some rs → x.moved ≡ moves.Local → class_by (Some i) kind ≡ Some x.class → IsWay t s.pc (step env s).state.pc →
        Goes t env code s (step env s).state calls rs x.class x.moved
    along kind to w is_kind edge leads way no_call returns local class comes =
        let y : Edge = record { at = s.pc; kind = kind; to = to } in
        let within : Within y (edges_of (kind_at t s.pc) s.pc (call_returns code (kind_at t s.pc))) = subst (λ k. Within y (edges_of k s.pc (call_returns code (kind_at t s.pc)))) (sym is_kind) (edge (call_returns code (kind_at t s.pc))) in
        let e : (e : ℕ) × (e < length code.edges) × (slice_get code.edges e ≡ Some y) = word_edge (kind_at t) t.entry code is f s.pc y reached within in
        let source : edge_at (slice_get code.edges e.0) ≡ s.pc = ap edge_at e.2 in
        let target : edge_to (slice_get code.edges e.0) ≡ Some (step env s).state.pc = ap edge_to e.2 ∙ leads in
        let callee : edge_callee (kind_at t) code.functions (slice_get code.edges e.0) ≡ None = ap (edge_callee (kind_at t) code.functions) e.2 ∙ (ap (callee_of code.functions) is_kind ∙ no_call) in
        let r : Some (map after_call calls) ≡ Some rs = sym (ap (λ m. returns_by m (map after_call calls) x) local) ∙ returns in
        record {
          move = Along e.0;
          function = f;
          calls_after = calls;
          is = record {
            edge = e.1;
            from = source;
            move = λ counts. (callee, subst IsSome (sym target) refl);
            leads = λ l counts. target;
            within = λ l counts. refl;
            cost = ap (edge_class t) e.2 ∙ (ap (λ o. class_by o kind) at ∙ class);
          };
          returns = (let q : rs ≡ map after_call calls = cc in q);
          reached = reach_onward (step env s).state.pc reached (subst (λ k. LeadsTo k s.pc (step env s).state.pc) (sym is_kind) way);
          stack = stack;
          over = over_next t env ok s over here aligned i done at comes;
          kind = local;
        }

    next_4 : plus s.pc 4 ≡ s.pc + 4
    next_4 = let b = word_bound t env ok s.pc here in omega arith

    -- on to the next word
    onwards : (w : Flow) → kind_at t s.pc ≡ w → ((b : Bool) → Within (record { at = s.pc; kind = Next; to = s.pc + 4 }) (edges_of w s.pc b)) → ((u : ℕ) → u ≡ s.pc + 4 → LeadsTo w s.pc u) → callee_of code.functions w ≡ None →
        returns_after (map after_call calls) x ≡ Some rs → x.moved ≡ moves.Local → class_by (Some i) Next ≡ Some x.class → (step env s).state.pc ≡ plus s.pc 4 →
        Goes t env code s (step env s).state calls rs x.class x.moved
    onwards w is_kind edge leads no_call returns local class next =
        along Next (s.pc + 4) w is_kind edge (ap Some (sym (next ∙ next_4))) (leads (step env s).state.pc (next ∙ next_4)) no_call returns local class (way_after next)

    straight : kind_at t s.pc ≡ flow.Next → returns_after (map after_call calls) x ≡ Some rs → x.moved ≡ moves.Local → class_by (Some i) Next ≡ Some x.class → (step env s).state.pc ≡ plus s.pc 4 →
        Goes t env code s (step env s).state calls rs x.class x.moved
    straight is_kind returns local class next = onwards flow.Next is_kind (λ b. inl refl) (λ u e. e) refl returns local class next

    -- a call
    calls_on : (to : ℕ) → kind_at t s.pc ≡ flow.Call to → (step env s).state.pc ≡ to → jump_of (Some i) s.pc ≡ Some to → returns_after (map after_call calls) x ≡ Some rs → x.moved ≡ moves.Call → x.pc ≡ s.pc → class_by (Some i) End ≡ Some x.class →
        Goes t env code s (step env s).state calls rs x.class x.moved
    calls_on to is_kind next jump returns call pc class =
        let y : Edge = record { at = s.pc; kind = End; to = s.pc } in
        let within : Within y (edges_of (kind_at t s.pc) s.pc (call_returns code (kind_at t s.pc))) = subst (λ k. Within y (edges_of k s.pc (call_returns code (kind_at t s.pc)))) (sym is_kind) (end_edge to s.pc (call_returns code (kind_at t s.pc))) in
        let e : (e : ℕ) × (e < length code.edges) × (slice_get code.edges e ≡ Some y) = word_edge (kind_at t) t.entry code is f s.pc y reached within in
        let source : edge_at (slice_get code.edges e.0) ≡ s.pc = ap edge_at e.2 in
        let target : edge_to (slice_get code.edges e.0) ≡ None = ap edge_to e.2 in
        let entry : Reached (kind_at t) t.entry to to = reach_called to reached is_kind in
        let k : (k : ℕ) × (callee_of code.functions (flow.Call to) ≡ Some k) × (number_or_0 (slice_get code.functions k) ≡ to) = function_of to entry in
        let callee : edge_callee (kind_at t) code.functions (slice_get code.edges e.0) ≡ Some k.0 = ap (edge_callee (kind_at t) code.functions) e.2 ∙ (ap (callee_of code.functions) is_kind ∙ k.1) in
        let r : Some (plus x.pc 4 ∷ map after_call calls) ≡ Some rs = sym (ap (λ m. returns_by m (map after_call calls) x) call) ∙ returns in
        let q : rs ≡ plus x.pc 4 ∷ map after_call calls = cc in
        record {
          move = Call e.0 k.0;
          function = to;
          calls_after = s.pc ∷ calls;
          is = record {
            edge = e.1;
            from = source;
            move = λ counts. (callee, target);
            leads = λ l counts. ap Some (k.2 ∙ sym next);
            within = λ l counts. ap (λ u. u ∷ calls) source;
            cost = ap (edge_class t) e.2 ∙ (ap (λ o. class_by o End) at ∙ class);
          };
          returns = q ∙ ap (λ p. plus p 4 ∷ map after_call calls) pc;
          reached = subst (λ u. Reached (kind_at t) t.entry to u) (sym next) entry;
          stack = (f, is_kind, reached, stack);
          over = over_next t env ok s over here aligned i done at (way_jump (ap (λ o. jump_of o s.pc) at ∙ (jump ∙ ap Some (sym next))));
          kind = call;
        }

    -- a return
    returns_on : kind_at t s.pc ≡ flow.Return → (step env s).state.pc ≡ x.next → returns_after (map after_call calls) x ≡ Some rs → x.moved ≡ moves.Return → class_by (Some i) End ≡ Some x.class →
        Goes t env code s (step env s).state calls rs x.class x.moved
    returns_on is_kind next returns moved class = by_calls calls stack (sym (ap (λ m. returns_by m (map after_call calls) x) moved) ∙ returns)
      where
        by_calls : (cs : List ℕ) → IsStack (kind_at t) t.entry f cs → returned (map after_call cs) x.next ≡ Some rs → Goes t env code s (step env s).state cs rs x.class x.moved
        by_calls [] st r = let bad : ⊥ = cc in absurd bad
        by_calls (u ∷ us) st r =
            let p : (plus u 4 ≡ x.next) × (map after_call us ≡ rs) = returned_parts (plus u 4) (map after_call us) rs x.next r in
            let facts : (u % 4 ≡ 0) × (is_text_address t u ≡ true) × ((j : Instr) × (instr_at t u ≡ Some j) × (kind_at t u ≡ instr_kind t u j)) = kind_facts t u (fine st.0 u st.2) in
            let d : (d : ℕ) × (next_edge (graph_of (kind_at t) code) u ≡ Some d) × (edge_to (slice_get code.edges d) ≡ Some (u + 4)) = comes_back st.0 u f s.pc st.2 st.1 reached is_kind in
            let bound = word_bound t env ok u facts.1 in
            let four : plus u 4 ≡ u + 4 = omega arith in
            let to : (step env s).state.pc ≡ u + 4 = next ∙ (sym p.0 ∙ four) in
            let y : Edge = record { at = s.pc; kind = End; to = s.pc } in
            let within : Within y (edges_of (kind_at t s.pc) s.pc (call_returns code (kind_at t s.pc))) = subst (λ k. Within y (edges_of k s.pc (call_returns code (kind_at t s.pc)))) (sym is_kind) (inl refl) in
            let e : (e : ℕ) × (e < length code.edges) × (slice_get code.edges e ≡ Some y) = word_edge (kind_at t) t.entry code is f s.pc y reached within in
            let source : edge_at (slice_get code.edges e.0) ≡ s.pc = ap edge_at e.2 in
            let back : edge_returns (kind_at t) (slice_get code.edges e.0) ≡ true = ap (edge_returns (kind_at t)) e.2 ∙ ap is_return_word is_kind in
            let c17 = call_17 t u f facts.2.0 (sym facts.2.2 ∙ st.1) in
            record {
              move = Return e.0;
              function = st.0;
              calls_after = us;
              is = record {
                edge = e.1;
                from = source;
                move = λ counts. (back, subst IsSome (sym d.1) refl);
                leads = λ l counts. ap (λ o. (steps.go_back (graph_of (kind_at t) code) l u o us counts).node) d.1 ∙ (d.2 ∙ ap Some (sym to));
                within = λ l counts. ap (λ o. (steps.go_back (graph_of (kind_at t) code) l u o us counts).calls) d.1;
                cost = ap (edge_class t) e.2 ∙ (ap (λ o. class_by o End) at ∙ class);
              };
              returns = sym p.1;
              reached = subst (λ v. Reached (kind_at t) t.entry st.0 v) (sym to) (reach_back f s.pc st.2 st.1 reached is_kind);
              stack = st.3;
              over = over_next t env ok s over here aligned i done at (way_back u facts.2.0 (next ∙ sym p.0) facts.1 facts.2.1 c17.0 c17.1);
              kind = moved;
            }

    jal_on : (rd : ℕ) (offset : ℤ) → i ≡ instr.Jal rd offset → kind_at t s.pc ≡ jal_kind rd (moved_by s.pc offset) → (step env s).state.pc ≡ moved_by s.pc offset →
        returns_after (map after_call calls) x ≡ Some rs → x.pc ≡ s.pc → x.moved ≡ move_of i → class_by (Some i) Jump ≡ Some x.class → class_by (Some i) End ≡ Some x.class →
        Goes t env code s (step env s).state calls rs x.class x.moved
    jal_on rd offset is_jal is_kind next returns pc moved class class_end = by_zero (rd == 0) refl
      where
        to : ℕ
        to = moved_by s.pc offset

        jump : jump_of (Some i) s.pc ≡ Some to
        jump = ap (λ j. jump_of (Some j) s.pc) is_jal

        by_one : (rd == 0) ≡ false → (b : Bool) → (rd == 1) ≡ b → Goes t env code s (step env s).state calls rs x.class x.moved
        by_one z true e = calls_on to (is_kind ∙ (cond-false _ _ _ z ∙ cond-true _ _ _ e)) next jump returns (moved ∙ (ap move_of is_jal ∙ cond-true _ _ _ e)) pc class_end
        by_one z false e = absurd (fine f s.pc reached (is_kind ∙ (cond-false _ _ _ z ∙ cond-false _ _ _ e)))

        by_zero : (b : Bool) → (rd == 0) ≡ b → Goes t env code s (step env s).state calls rs x.class x.moved
        by_zero true e =
            let z : rd ≡ 0 = eqb-true rd 0 e in
            let one : (rd == 1) ≡ false = ap (λ r. r == 1) z in
            along Jump to (flow.Jump to) (is_kind ∙ cond-true _ _ _ e) (λ b. inl refl) (ap Some (sym next)) next refl returns
            (moved ∙ (ap move_of is_jal ∙ cond-false _ _ _ one)) class (way_jump (ap (λ o. jump_of o s.pc) at ∙ (jump ∙ ap Some (sym next))))
        by_zero false e = by_one e (rd == 1) refl

    jalr_on : (rd rs1 : ℕ) (offset : ℤ) → i ≡ instr.Jalr rd rs1 offset → kind_at t s.pc ≡ jalr_kind rd rs1 offset → (step env s).state.pc ≡ x.next →
        returns_after (map after_call calls) x ≡ Some rs → x.moved ≡ move_of i → class_by (Some i) End ≡ Some x.class →
        Goes t env code s (step env s).state calls rs x.class x.moved
    jalr_on rd rs1 offset is_jalr is_kind next returns moved class = by_test ((rd == 0) && (rs1 == 1) && int_eq offset (pos 0)) refl
      where
        by_test : (b : Bool) → ((rd == 0) && (rs1 == 1) && int_eq offset (pos 0)) ≡ b → Goes t env code s (step env s).state calls rs x.class x.moved
        by_test true e = returns_on (is_kind ∙ cond-true _ _ _ e) next returns (moved ∙ (ap move_of is_jalr ∙ cond-true _ _ _ e)) class
        by_test false e = absurd (fine f s.pc reached (is_kind ∙ cond-false _ _ _ e))

    branch_on : (offset : ℤ) (taken : Bool) → kind_at t s.pc ≡ flow.Branch (moved_by s.pc offset) → jump_of (Some i) s.pc ≡ Some (moved_by s.pc offset) →
        (taken ≡ true → (step env s).state.pc ≡ moved_by s.pc offset) → (taken ≡ false → (step env s).state.pc ≡ plus s.pc 4) →
        returns_after (map after_call calls) x ≡ Some rs → x.moved ≡ moves.Local → (taken ≡ true → class_by (Some i) Taken ≡ Some x.class) → (taken ≡ false → class_by (Some i) Untaken ≡ Some x.class) →
        Goes t env code s (step env s).state calls rs x.class x.moved
    branch_on offset true is_kind jump goes stays returns local class other =
        let to = moved_by s.pc offset in
        along Taken to (flow.Branch to) is_kind (λ b. inl refl) (ap Some (sym (goes refl))) (inl (goes refl)) refl returns local (class refl) (way_jump (ap (λ o. jump_of o s.pc) at ∙ (jump ∙ ap Some (sym (goes refl)))))
    branch_on offset false is_kind jump goes stays returns local class other =
        along Untaken (s.pc + 4) (flow.Branch (moved_by s.pc offset)) is_kind (λ b. inr (inl refl)) (ap Some (sym (stays refl ∙ next_4))) (inr (stays refl ∙ next_4)) refl returns local (other refl) (way_after (stays refl))

    ecall_on : i ≡ instr.Ecall → kind_at t s.pc ≡ ecall_kind (known t s.pc) → ((reg s.regs 17 == 93) || (reg s.regs 17 == 94)) ≡ false → (step env s).state.pc ≡ plus s.pc 4 →
        returns_after (map after_call calls) x ≡ Some rs → x.moved ≡ moves.Local → class_by (Some i) Next ≡ Some x.class →
        Goes t env code s (step env s).state calls rs x.class x.moved
    ecall_on is_ecall is_kind number next returns local class = by_known (known t s.pc) refl
      where
        by_known : (o : Option ℕ) → known t s.pc ≡ o → Goes t env code s (step env s).state calls rs x.class x.moved
        by_known None e = onwards flow.MayExit (is_kind ∙ ap ecall_kind e) (λ b. inl refl) (λ u q. q) refl returns local class next
        by_known (Some k) e =
            let is17 : reg s.regs 17 ≡ k = over.known 16 k e in
            let other : ((k == 93) || (k == 94)) ≡ false = sym (ap (λ r. (r == 93) || (r == 94)) is17) ∙ number in
            straight (is_kind ∙ (ap ecall_kind e ∙ cond-false _ _ _ other)) returns local class next

    -- each instruction
    by_instr : (j : Instr) → i ≡ j → kind_at t s.pc ≡ instr_kind t s.pc i → IsStep i s x (step env s).state → returns_after (map after_call calls) x ≡ Some rs → Goes t env code s (step env s).state calls rs x.class x.moved
    by_instr (instr.Lui rd imm) e k is_step r = let p : IsStep (instr.Lui rd imm) s x (step env s).state = subst (λ y. IsStep y s x (step env s).state) e is_step in
        straight (k ∙ ap (instr_kind t s.pc) e) r (p.moved) (ap (λ y. class_by (Some y) Next) e ∙ ap Some (sym p.class)) (p.next ∙ p.way)
    by_instr (instr.Auipc rd imm) e k is_step r = let p : IsStep (instr.Auipc rd imm) s x (step env s).state = subst (λ y. IsStep y s x (step env s).state) e is_step in
        straight (k ∙ ap (instr_kind t s.pc) e) r (p.moved) (ap (λ y. class_by (Some y) Next) e ∙ ap Some (sym p.class)) (p.next ∙ p.way)
    by_instr (instr.Jal rd offset) e k is_step r = let p : IsStep (instr.Jal rd offset) s x (step env s).state = subst (λ y. IsStep y s x (step env s).state) e is_step in
        jal_on rd offset e (k ∙ ap (instr_kind t s.pc) e) (p.next ∙ p.way) r p.at is_step.moved (ap (λ y. class_by (Some y) Jump) e ∙ ap Some (sym p.class)) (ap (λ y. class_by (Some y) End) e ∙ ap Some (sym p.class))
    by_instr (instr.Jalr rd rs1 offset) e k is_step r = let p : IsStep (instr.Jalr rd rs1 offset) s x (step env s).state = subst (λ y. IsStep y s x (step env s).state) e is_step in
        jalr_on rd rs1 offset e (k ∙ ap (instr_kind t s.pc) e) p.next r is_step.moved (ap (λ y. class_by (Some y) End) e ∙ ap Some (sym p.class))
    by_instr (instr.Branch op rs1 rs2 offset) e k is_step r = let p : IsStep (instr.Branch op rs1 rs2 offset) s x (step env s).state = subst (λ y. IsStep y s x (step env s).state) e is_step in
        branch_on offset p.taken (k ∙ ap (instr_kind t s.pc) e) (ap (λ y. jump_of (Some y) s.pc) e)
        (λ h. p.next ∙ subst (λ b. WayOf (instr.Branch op rs1 rs2 offset) b s x.next) h p.way)
        (λ h. p.next ∙ subst (λ b. WayOf (instr.Branch op rs1 rs2 offset) b s x.next) h p.way)
        r p.moved
        (λ h. ap (λ y. class_by (Some y) Taken) e ∙ ap Some (sym (p.class ∙ ap (class_of (instr.Branch op rs1 rs2 offset)) h)))
        (λ h. ap (λ y. class_by (Some y) Untaken) e ∙ ap Some (sym (p.class ∙ ap (class_of (instr.Branch op rs1 rs2 offset)) h)))
    by_instr (instr.Load op rd rs1 offset) e k is_step r = let p : IsStep (instr.Load op rd rs1 offset) s x (step env s).state = subst (λ y. IsStep y s x (step env s).state) e is_step in
        straight (k ∙ ap (instr_kind t s.pc) e) r (p.moved) (ap (λ y. class_by (Some y) Next) e ∙ ap Some (sym p.class)) (p.next ∙ p.way)
    by_instr (instr.Store op rs1 rs2 offset) e k is_step r = let p : IsStep (instr.Store op rs1 rs2 offset) s x (step env s).state = subst (λ y. IsStep y s x (step env s).state) e is_step in
        straight (k ∙ ap (instr_kind t s.pc) e) r (p.moved) (ap (λ y. class_by (Some y) Next) e ∙ ap Some (sym p.class)) (p.next ∙ p.way)
    by_instr (instr.Imm op rd rs1 imm) e k is_step r = let p : IsStep (instr.Imm op rd rs1 imm) s x (step env s).state = subst (λ y. IsStep y s x (step env s).state) e is_step in
        straight (k ∙ ap (instr_kind t s.pc) e) r (p.moved) (ap (λ y. class_by (Some y) Next) e ∙ ap Some (sym p.class)) (p.next ∙ p.way)
    by_instr (instr.Reg op rd rs1 rs2) e k is_step r = let p : IsStep (instr.Reg op rd rs1 rs2) s x (step env s).state = subst (λ y. IsStep y s x (step env s).state) e is_step in
        straight (k ∙ ap (instr_kind t s.pc) e) r (p.moved) (ap (λ y. class_by (Some y) Next) e ∙ ap Some (sym p.class)) (p.next ∙ p.way)
    by_instr (instr.Fence rd rs1 imm) e k is_step r = let p : IsStep (instr.Fence rd rs1 imm) s x (step env s).state = subst (λ y. IsStep y s x (step env s).state) e is_step in
        straight (k ∙ ap (instr_kind t s.pc) e) r (p.moved) (ap (λ y. class_by (Some y) Next) e ∙ ap Some (sym p.class)) (p.next ∙ p.way)
    by_instr instr.Ecall e k is_step r = let p : IsStep instr.Ecall s x (step env s).state = subst (λ y. IsStep y s x (step env s).state) e is_step in
        ecall_on e (k ∙ ap (instr_kind t s.pc) e) p.way.1 (p.next ∙ p.way.0) r p.moved (ap (λ y. class_by (Some y) Next) e ∙ ap Some (sym p.class))
    by_instr instr.Ebreak e k is_step r = let p : IsStep instr.Ebreak s x (step env s).state = subst (λ y. IsStep y s x (step env s).state) e is_step in absurd p.way

    -- an exit
    exits_on : i ≡ instr.Ecall → kind_at t s.pc ≡ ecall_kind (known t s.pc) → ((reg s.regs 17 == 93) || (reg s.regs 17 == 94)) ≡ true → class_by (Some i) End ≡ Some x.class →
        (e : ℕ) × IsTransitionOf t code s.pc calls x.class (Exit e) None calls
    exits_on is_ecall is_kind number class = by_known (known t s.pc) refl
      where
        over_end : (w : Flow) → kind_at t s.pc ≡ w → ((b : Bool) → Within (record { at = s.pc; kind = End; to = s.pc }) (edges_of w s.pc b)) → is_exit w End ≡ true → (e : ℕ) × IsTransitionOf t code s.pc calls x.class (Exit e) None calls
        over_end w kind edge exits =
            let y : Edge = record { at = s.pc; kind = End; to = s.pc } in
            let within : Within y (edges_of (kind_at t s.pc) s.pc (call_returns code (kind_at t s.pc))) = subst (λ k. Within y (edges_of k s.pc (call_returns code (kind_at t s.pc)))) (sym kind) (edge (call_returns code (kind_at t s.pc))) in
            let e : (e : ℕ) × (e < length code.edges) × (slice_get code.edges e ≡ Some y) = word_edge (kind_at t) t.entry code is f s.pc y reached within in (
              e.0,
              record {
                edge = e.1;
                from = ap edge_at e.2;
                move = λ counts. ap (edge_exits (kind_at t)) e.2 ∙ (ap (λ k. is_exit k End) kind ∙ exits);
                leads = λ l counts. refl;
                within = λ l counts. refl;
                cost = ap (edge_class t) e.2 ∙ (ap (λ o. class_by o End) at ∙ class);
              },
            )

        by_known : (o : Option ℕ) → known t s.pc ≡ o → (e : ℕ) × IsTransitionOf t code s.pc calls x.class (Exit e) None calls
        by_known None e = over_end flow.MayExit (is_kind ∙ ap ecall_kind e) (λ b. inr (inl refl)) refl
        by_known (Some k) e =
            let is17 : reg s.regs 17 ≡ k = over.known 16 k e in
            let same : ((k == 93) || (k == 94)) ≡ true = sym (ap (λ r. (r == 93) || (r == 94)) is17) ∙ number in
            over_end flow.Exit (is_kind ∙ (ap ecall_kind e ∙ cond-true _ _ _ same)) (λ b. inl refl) refl

  -- the two theorems: a step that goes on, and one that exits
  module _ (s : State) (f : ℕ) (calls rs : List ℕ) (over : IsOverText t s) (reached : Reached (kind_at t) t.entry f s.pc) (stack : IsStack (kind_at t) t.entry f calls) where
    facts : (s.pc % 4 ≡ 0) × (is_text_address t s.pc ≡ true) × ((i : Instr) × (instr_at t s.pc ≡ Some i) × (kind_at t s.pc ≡ instr_kind t s.pc i))
    facts = kind_facts t s.pc (fine f s.pc reached)

    same_instr : (i : Instr) → instr_of (word_at s.bytes s.pc) ≡ Some i → facts.2.0 ≡ i
    same_instr i h =
        let w : word_at s.bytes s.pc ≡ word_at t.bytes s.pc = word_same t env ok s.bytes over.text s.pc facts.1 facts.0 in
        let e : Some facts.2.0 ≡ Some i = sym facts.2.1 ∙ (sym (ap instr_of w) ∙ h) in
        (let r : facts.2.0 ≡ i = cc in r)

    pub went : (x : Stepped) → (step env s).end ≡ Went x → returns_after (map after_call calls) x ≡ Some rs → Goes t env code s (step env s).state calls rs x.class x.moved
    went x end returns = ⊎_elim
        (λ (trap : IsTrap (step env s).end). absurd (subst IsTrap end trap))
        (λ (d : (i : Instr) × IsDone env s i (step env s).end (step env s).state).
        let same : facts.2.0 ≡ d.0 = same_instr d.0 d.1.instr in
        by_instr s f calls rs over reached stack x d.0 d.1 (facts.2.1 ∙ ap Some same) facts.1 facts.0 d.0 refl
        (facts.2.2 ∙ ap (instr_kind t s.pc) same) (subst (λ e. EndsBy d.0 s e (step env s).state) end d.1.ends) returns) (step_done env s)

    pub exited : (x : Stepped) (status : ℕ) → (step env s).end ≡ Exited x status → (e : ℕ) × IsTransitionOf t code s.pc calls x.class (Exit e) None calls
    exited x status end = ⊎_elim
        (λ (trap : IsTrap (step env s).end). absurd (subst IsTrap end trap))
        (λ (d : (i : Instr) × IsDone env s i (step env s).end (step env s).state).
        let same : facts.2.0 ≡ d.0 = same_instr d.0 d.1.instr in
        let exit : IsExit d.0 s x = subst (λ e. EndsBy d.0 s e (step env s).state) end d.1.ends in
        exits_on s f calls [] over reached stack x d.0 d.1 (facts.2.1 ∙ ap Some same) facts.1 facts.0 exit.exits
        (facts.2.2 ∙ (ap (instr_kind t s.pc) same ∙ ap (instr_kind t s.pc) exit.exits)) exit.number
        (ap (λ y. class_by (Some y) End) exit.exits ∙ ap Some (sym (exit.class ∙ ap (λ y. class_of y false) exit.exits)))) (step_done env s)
