-- Registers that the tables say are restored are behind a call what they were before it.
use Rattle.std.proofs.Common.{◌≡◌, ℕ, zero, suc, ◌+◌, ◌<◌, ◌≤◌, ◌%◌, ◌^◌, ◌⊎◌, inl, inr, ⊎_elim, false, List, [], ◌∷◌, ◌++◌, length, map, refl, sym, ap, ◌∙◌, subst, arith, Option, Some, None}
use Rattle.std.specs.Prelude.{All}
use Rattle.std.proofs.lemmas.Bool.{cases_lt}
use Rattle.std.proofs.lemmas.List.{length-map}
use Rattle.std.proofs.lemmas.List.Sums.{fold-append}
use Rattle.scale_base.specs.declared.stepping.Move.TheVariants.{Local, Call, Return}
use Rattle.scale_base.specs.declared.stepping.Stepped.{Stepped}
use Rattle.scale_base.specs.declared.stepping.StepEnd.{StepEnd}
use Rattle.scale_base.specs.declared.stepping.StepEnd.TheVariants.{Went, Exited, Trapped}
use Rattle.scale_base.specs.State.{Setting, State, reg}
use Rattle.scale_base.specs.Step.{step}
use Rattle.scale_base.specs.Run.{Run, Standing, GoesOn, HasExited, HasTrapped, one_more_by, ended, run}
use Rattle.cost_theory.specs.Graph.{Graph, Loops}
use Rattle.cost_theory.specs.Reached.{Code, IsCodeOf, HasNoBadWord}
use Rattle.code_text.specs.Text.{Text, kind_at}
use Rattle.code_text.specs.TextGraph.{text_graph}
use Rattle.graph_runs.specs.ReturnAddresses.{returns_after}
use Rattle.graph_runs.specs.TextStates.{IsTextOf, IsOverText}
use Rattle.graph_runs.specs.RunTransitions.{after_call, returns_more, returns_so}
use Rattle.bound_laws.specs.Turning.{unasked, Calls}
use Rattle.bound_laws.specs.Values.{IsRegister, Values, AreBytes}
use Rattle.bound_laws.proofs.Laws.{At, Way, Onward, onward, over_edge, into_call, back_to, all_returns}
use Rattle.stack_laws.specs.Areas.{IsLaidOut}
use Rattle.stack_laws.specs.Stacks.{Stacks, View, view_of, IsRestored, IsStackInvariant, AreTold}
use Rattle.stack_laws.specs.Tidy.{activations, IsTidyStep, IsTidy}
use Rattle.stack_laws.specs.Laws.{ComesBackAt, RestoredRegistersHold}
use Rattle.stack_laws.proofs.Naming.{mod_same}
use Rattle.stack_laws.proofs.Tidy.{activations_of, tidy_up_to, tidy_step, open_over, open_call, open_back}
use Rattle.stack_laws.proofs.Runs.{Holds, Returned, over_holds, call_holds, back_holds, stands_at}

-- ---- what is so of a run is so of each run before it

module _ (env : Setting) (s : State) where
  -- a step that a run went on by
  pub record StepBefore (n : ℕ) (qs : List ℕ) : Type 0 where
    pub step_is : Stepped
    pub list : List ℕ
    pub goes : (run env s n).standing ≡ GoesOn
    pub went : (step env (run env s n).state).end ≡ Went step_is
    pub returns : returns_so (run env s n).steps ≡ Some list
    pub after : returns_after list step_is ≡ Some qs
    pub state : (run env s (suc n)).state ≡ (step env (run env s n).state).state

  listed : (xs : List Stepped) (x : Stepped) (qs : List ℕ) → returns_so (xs ++ x ∷ []) ≡ Some qs → (o : Option (List ℕ)) → returns_so xs ≡ o → (ps : List ℕ) × (returns_so xs ≡ Some ps) × (returns_after ps x ≡ Some qs)
  listed xs x qs h None e = let q : returns_so (xs ++ x ∷ []) ≡ None = fold-append returns_more (Some []) xs (x ∷ []) ∙ ap (λ o. returns_more o x) e in let bad : ⊥ = cc in absurd bad
  listed xs x qs h (Some ps) e = let q : returns_so (xs ++ x ∷ []) ≡ returns_after ps x = fold-append returns_more (Some []) xs (x ∷ []) ∙ ap (λ o. returns_more o x) e in (ps, e, sym q ∙ h)

  pub step_before : (n : ℕ) (qs : List ℕ) → (run env s (suc n)).standing ≡ GoesOn → returns_so (run env s (suc n)).steps ≡ Some qs → StepBefore n qs
  unfolding run
  step_before n qs goes returns = by_standing (run env s n).standing refl
    where
      r : Run
      r = run env s n

      by_end : r.standing ≡ GoesOn → (end : StepEnd) → (step env r.state).end ≡ end → run env s (suc n) ≡ ended r.steps end (step env r.state).state → StepBefore n qs
      by_end e (Went x) q same =
          let b = listed r.steps x qs (ap (λ y. returns_so y.steps) (sym same) ∙ returns) (returns_so r.steps) refl in
          record { step_is = x; list = b.0; goes = e; went = q; returns = b.1; after = b.2; state = ap (λ y. y.state) same }
      by_end e (Exited x status) q same = let h : (ended r.steps (Exited x status) (step env r.state).state).standing ≡ GoesOn = ap (λ y. y.standing) (sym same) ∙ goes in let bad : ⊥ = cc in absurd bad
      by_end e (Trapped trap) q same = let h : (ended r.steps (Trapped trap) (step env r.state).state).standing ≡ GoesOn = ap (λ y. y.standing) (sym same) ∙ goes in let bad : ⊥ = cc in absurd bad

      by_standing : (y : Standing) → r.standing ≡ y → StepBefore n qs
      by_standing GoesOn e = by_end e (step env r.state).end refl (ap (one_more_by env r) e ∙ ap (λ y. ended r.steps y (step env r.state).state) refl)
      by_standing (HasExited status) e = let h : r.standing ≡ GoesOn = ap (λ y. y.standing) (sym (ap (one_more_by env r) e)) ∙ goes in let bad : ⊥ = cc in absurd bad
      by_standing (HasTrapped trap) e = let h : r.standing ≡ GoesOn = ap (λ y. y.standing) (sym (ap (one_more_by env r) e)) ∙ goes in let bad : ⊥ = cc in absurd bad

  abbrev pub Listed : ℕ → Type 0
  Listed n = (ps : List ℕ) × ((run env s n).standing ≡ GoesOn) × (returns_so (run env s n).steps ≡ Some ps)

  pub before : (n m : ℕ) → m ≤ n → Listed n → Listed m
  before zero m le h = subst Listed (let e : 0 ≡ m = omega arith in e) h
  before (suc n) m le h = ⊎_elim
      (λ (e : m ≡ suc n). subst Listed (sym e) h)
      (λ (lt : m ≤ n). let b = step_before n h.0 h.1 h.2 in before n m lt (b.list, b.goes, b.returns)) (last m n le)
    where
      last : (m n : ℕ) → m ≤ suc n → (m ≡ suc n) ⊎ (m ≤ n)
      last m n le = ⊎_elim (λ (b : n < m). inl (let e : m ≡ suc n = omega arith in e)) (λ (a : m ≤ n). inr a) (cases_lt n m)

-- ---- while a call is open, what its caller saw before it stays

module _ (t : Text) (env : Setting) (ok : IsTextOf t env) (code : Code) (is : IsCodeOf (kind_at t) t.entry code) (fine : HasNoBadWord (kind_at t) t.entry)
    (v : Values) (w : Stacks) (inv : IsStackInvariant t (text_graph t code) v w) (laid : IsLaidOut env.layout w.areas w.fixed) (input : All (λ x. x < 256) env.input) (s : State) where
  abbrev g : Graph
  g = text_graph t code

  -- The call at `site` is open, before which its function saw x. Those that wait for it were these, and saw the others.
  record Open (site : ℕ) (outer : List ℕ) (x : View) (others : List View) (n : ℕ) (u : State) (rs : List ℕ) : Type 0 where
    at : At t u rs
    begun : List ℕ
    sites : List ℕ
    within : List View
    holds : Holds t env ok code is fine v w inv laid input u at.calls begun (within ++ x ∷ others)
    calls : at.calls ≡ sites ++ site ∷ outer
    even : length sites ≡ length within
    deep : length within + suc (length outer) ≡ length rs
    opened : activations v env s n ≡ activations_of v u.pc at.calls begun (within ++ x ∷ others)

  lengths : (rs calls : List ℕ) → rs ≡ map after_call calls → length rs ≡ length calls
  lengths rs calls e = ap length e ∙ length-map calls after_call

  module _ (site : ℕ) (outer : List ℕ) (x : View) (others : List View) (n : ℕ) (rs qs : List ℕ) (y : Stepped) (went : (step env (run env s n).state).end ≡ Went y) (after : returns_after rs y ≡ Some qs)
      (now : Open site outer x others n (run env s n).state rs) (state : (run env s (suc n)).state ≡ (step env (run env s n).state).state) (tidy : IsTidy v w env s (suc n)) where
    abbrev u : State
    u = (run env s n).state

    abbrev next : State
    next = (step env u).state

    on : Onward t env ok code is fine u next now.at.calls qs y.moved
    on = onward t env ok code is fine u rs qs now.at y went after

    abbrev Opened : List ℕ → List ℕ → List View → Type 0
    Opened calls begun xs = activations v env s (suc n) ≡ activations_of v next.pc calls begun xs

    this : IsTidyStep w u.pc (activations_of v u.pc now.at.calls now.begun (now.within ++ x ∷ others)) u.bytes next.bytes
    this = tidy_step v w env s n (activations_of v u.pc now.at.calls now.begun (now.within ++ x ∷ others)) now.opened state tidy

    size : length rs ≡ length now.at.calls
    size = lengths rs now.at.calls now.at.returns

    size_after : length qs ≡ length on.at.calls
    size_after = lengths qs on.at.calls on.at.returns

    stays : length outer < length qs → Open site outer x others (suc n) next qs
    stays high = by_way on.way
      where
        holds_after : (calls : List ℕ) (begun : List ℕ) (xs : List View) → on.at.calls ≡ calls → Holds t env ok code is fine v w inv laid input next calls begun xs → Holds t env ok code is fine v w inv laid input next on.at.calls begun xs
        holds_after calls begun xs e h = subst (λ c. Holds t env ok code is fine v w inv laid input next c begun xs) (sym e) h

        opened_after : (calls : List ℕ) (begun : List ℕ) (xs : List View) → on.at.calls ≡ calls → Opened calls begun xs → Opened on.at.calls begun xs
        opened_after calls begun xs e h = subst (λ c. Opened c begun xs) (sym e) h

        one_more : (a b r q : ℕ) → a + suc b ≡ r → q ≡ suc r → suc a + suc b ≡ q
        one_more a b r q e f = omega arith

        low : (a b r q : ℕ) → a ≡ 0 → a + suc b ≡ r → r ≡ suc q → b < q → ⊥
        low a b r q d e f h = let bad : ⊥ = omega arith in bad

        one_less : (a c b r q : ℕ) → a ≡ suc c → a + suc b ≡ r → r ≡ suc q → c + suc b ≡ q
        one_less a c b r q d e f = omega arith

        uneven : (a b c : ℕ) → a ≡ 0 → b ≡ suc c → a ≡ b → ⊥
        uneven a b c d e f = let bad : ⊥ = omega arith in bad

        both : (a b c d : ℕ) → a ≡ suc c → b ≡ suc d → a ≡ b → c ≡ d
        both a b c d e f h = omega arith

        by_way : Way g u.pc next.pc now.at.calls on.at.calls y.moved → Open site outer x others (suc n) next qs
        by_way (over_edge leads steps same moved) =
            record {
              at = on.at;
              begun = now.begun;
              sites = now.sites;
              within = now.within;
              holds = holds_after now.at.calls now.begun (now.within ++ x ∷ others) same (over_holds t env ok code is fine v w inv laid input u rs now.at y went on.at.over now.begun (now.within ++ x ∷ others) now.holds this leads steps);
              calls = same ∙ now.calls;
              even = now.even;
              deep = now.deep ∙ (size ∙ (sym (ap length same) ∙ sym size_after));
              opened = opened_after now.at.calls now.begun (now.within ++ x ∷ others) same (open_over v env s n y now.at.calls now.begun (now.within ++ x ∷ others) went moved (inv.functions u.pc next.pc leads) now.opened);
            }
        by_way (into_call call same moved) =
            let seen : View = view_of w now.begun u.regs u.bytes in
            record {
              at = on.at;
              begun = next.regs;
              sites = u.pc ∷ now.sites;
              within = seen ∷ now.within;
              holds = holds_after (u.pc ∷ now.at.calls) next.regs (seen ∷ now.within ++ x ∷ others) same (call_holds t env ok code is fine v w inv laid input u rs now.at y went on.at.over now.begun (now.within ++ x ∷ others) now.holds this moved call);
              calls = same ∙ ap (λ c. u.pc ∷ c) now.calls;
              even = ap suc now.even;
              deep = one_more (length now.within) (length outer) (length rs) (length qs) now.deep (size_after ∙ (ap length same ∙ ap suc (sym size)));
              opened = opened_after (u.pc ∷ now.at.calls) next.regs (seen ∷ now.within ++ x ∷ others) same (open_call v env s w n y now.at.calls now.begun (now.within ++ x ∷ others) went moved now.opened);
            }
        by_way (back_to z e to us calls same lt from returns call leads moved) =
            let b = back_holds t env ok code is fine v w inv laid input u rs now.at y went on.at.over now.begun (now.within ++ x ∷ others) now.holds this z e us calls lt from returns leads in
            pop now.within refl now.sites refl b.0 b.1 b.2 (holds_after us b.0.begun b.1 same b.3)
            (opened_after us b.0.begun b.1 same (open_back v env s n y now.at.calls now.begun (now.within ++ x ∷ others) z us b.0 b.1 went moved calls b.2 (inv.functions z next.pc leads) now.opened))
          where
            shorter : length rs ≡ suc (length qs)
            shorter = size ∙ (ap length calls ∙ (ap (λ c. suc (length c)) (sym same) ∙ ap suc (sym size_after)))

            pop : (within : List View) → now.within ≡ within → (sites : List ℕ) → now.sites ≡ sites → (top : View) (rest : List View) → now.within ++ x ∷ others ≡ top ∷ rest → Holds t env ok code is fine v w inv laid input next on.at.calls top.begun rest → Opened on.at.calls top.begun rest → Open site outer x others (suc n) next qs
            pop [] e sites q top rest f h opened = absurd (low (length now.within) (length outer) (length rs) (length qs) (ap length e) now.deep shorter high)
            pop (first ∷ more) e [] q top rest f h opened = absurd (uneven (length now.sites) (length now.within) (length more) (ap length q) (ap length e) now.even)
            pop (first ∷ more) e (c ∷ cs) q top rest f h opened =
                let views : first ∷ more ++ x ∷ others ≡ top ∷ rest = ap (λ l. l ++ x ∷ others) (sym e) ∙ f in
                let tail : more ++ x ∷ others ≡ rest = cc in
                let whole : c ∷ cs ++ site ∷ outer ≡ z ∷ us = ap (λ l. l ++ site ∷ outer) (sym q) ∙ (sym now.calls ∙ calls) in
                let left : cs ++ site ∷ outer ≡ us = cc in
                record {
                  at = on.at;
                  begun = top.begun;
                  sites = cs;
                  within = more;
                  holds = subst (λ l. Holds t env ok code is fine v w inv laid input next on.at.calls top.begun l) (sym tail) h;
                  calls = same ∙ sym left;
                  even = both (length now.sites) (length now.within) (length cs) (length more) (ap length q) (ap length e) now.even;
                  deep = one_less (length now.within) (length more) (length outer) (length rs) (length qs) (ap length e) now.deep shorter;
                  opened = subst (λ l. Opened on.at.calls top.begun l) (sym tail) opened;
                }

    -- and when it comes back
    comes : length qs ≡ length outer → Returned t env ok code is fine v w inv laid input site x next
    comes even = by_way on.way
      where
        same_size : (a b r q : ℕ) → a + suc b ≡ r → r ≡ q → q ≡ b → ⊥
        same_size a b r q e f h = let bad : ⊥ = omega arith in bad

        more_size : (a b r q : ℕ) → a + suc b ≡ r → q ≡ suc r → q ≡ b → ⊥
        more_size a b r q e f h = let bad : ⊥ = omega arith in bad

        high : (a c b r q : ℕ) → a ≡ suc c → a + suc b ≡ r → r ≡ suc q → q ≡ b → ⊥
        high a c b r q d e f h = let bad : ⊥ = omega arith in bad

        uneven : (a b c : ℕ) → b ≡ 0 → a ≡ suc c → a ≡ b → ⊥
        uneven a b c d e f = let bad : ⊥ = omega arith in bad

        by_way : Way g u.pc next.pc now.at.calls on.at.calls y.moved → Returned t env ok code is fine v w inv laid input site x next
        by_way (over_edge leads steps same moved) = absurd (same_size (length now.within) (length outer) (length rs) (length qs) now.deep (size ∙ (sym (ap length same) ∙ sym size_after)) even)
        by_way (into_call call same moved) = absurd (more_size (length now.within) (length outer) (length rs) (length qs) now.deep (size_after ∙ (ap length same ∙ ap suc (sym size))) even)
        by_way (back_to z e to us calls same lt from returns call leads moved) =
            let b = back_holds t env ok code is fine v w inv laid input u rs now.at y went on.at.over now.begun (now.within ++ x ∷ others) now.holds this z e us calls lt from returns leads in
            pop now.within refl now.sites refl b.0 b.1 b.2 b.4
          where
            shorter : length rs ≡ suc (length qs)
            shorter = size ∙ (ap length calls ∙ (ap (λ c. suc (length c)) (sym same) ∙ ap suc (sym size_after)))

            pop : (within : List View) → now.within ≡ within → (sites : List ℕ) → now.sites ≡ sites → (top : View) (rest : List View) → now.within ++ x ∷ others ≡ top ∷ rest → Returned t env ok code is fine v w inv laid input z top next →
                Returned t env ok code is fine v w inv laid input site x next
            pop [] e [] q top rest f h =
                let views : x ∷ others ≡ top ∷ rest = ap (λ l. l ++ x ∷ others) (sym e) ∙ f in
                let head : x ≡ top = cc in
                let whole : site ∷ outer ≡ z ∷ us = ap (λ l. l ++ site ∷ outer) (sym q) ∙ (sym now.calls ∙ calls) in
                let place : site ≡ z = cc in
                subst (λ o. Returned t env ok code is fine v w inv laid input site o next) (sym head) (subst (λ n. Returned t env ok code is fine v w inv laid input n top next) (sym place) h)
            pop [] e (c ∷ cs) q top rest f h = absurd (uneven (length now.sites) (length now.within) (length cs) (ap length e) (ap length q) now.even)
            pop (first ∷ more) e sites q top rest f h = absurd (high (length now.within) (length more) (length outer) (length rs) (length qs) (ap length e) now.deep shorter even)

  module _ (over : IsOverText t s) (at_entry : s.pc ≡ t.entry) (starts : AreTold v w s.pc (view_of w s.regs s.regs s.bytes)) (bytes : AreBytes s.bytes) (m n : ℕ) (call : Stepped) (tidy : IsTidy v w env s n) (back : ComesBackAt env s m n call) where
    none : Loops
    none = record { loops = 0; header = λ k. 0; bound = λ k. 0; least_trips = λ k. 0; inside = λ k v. false }

    abbrev site : ℕ
    site = (run env s m).state.pc

    tidy_at : (j : ℕ) → j ≤ n → IsTidy v w env s j
    tidy_at j le = tidy_up_to v w env s n j le tidy

    listed_at : (j : ℕ) → j ≤ n → Listed env s j
    listed_at j le = before env s n j le (back.after, back.goes, back.returned)

    -- the call is open after j steps, before which the registers were those after m steps
    record Inside (j : ℕ) : Type 0 where
      outer : List ℕ
      x : View
      others : List View
      rs : List ℕ
      regs : x.regs ≡ (run env s m).state.regs
      depth : length outer ≡ length back.before
      returns : returns_so (run env s j).steps ≡ Some rs
      holds : Open site outer x others j (run env s j).state rs

    some_same : (x y : List ℕ) → Some x ≡ Some y → x ≡ y
    some_same x y e = let r : x ≡ y = cc in r

    went_same : (x y : Stepped) → Went x ≡ Went y → x ≡ y
    went_same x y e = let r : x ≡ y = cc in r

    begin : Inside (suc m)
    begin =
        let k = all_returns env s none m b.list b.returns in
        let p = stands_at t env ok code is fine v w inv laid input s over at_entry (unasked none) starts bytes m (tidy_at m (let lt : m < n = back.later in omega arith)) k.0 k.1 b.goes in
        by_list k.0.returns p.0 p.1.0 p.1.1 p.1.2 p.1.3 k.2
      where
        later : Listed env s (suc m)
        later = listed_at (suc m) (let lt : m < n = back.later in omega arith)

        b : StepBefore env s m later.0
        b = step_before env s m later.0 later.1 later.2

        u : State
        u = (run env s m).state

        by_list : (rs : List ℕ) (at : At t u rs) (begun : List ℕ) (xs : List View) → Holds t env ok code is fine v w inv laid input u at.calls begun xs → activations v env s m ≡ activations_of v u.pc at.calls begun xs → rs ≡ b.list → Inside (suc m)
        by_list rs at begun xs holds opened list = by_way on.way
          where
            this : IsTidyStep w u.pc (activations_of v u.pc at.calls begun xs) u.bytes (step env u).state.bytes
            this = tidy_step v w env s m (activations_of v u.pc at.calls begun xs) opened b.state (tidy_at (suc m) (let lt : m < n = back.later in omega arith))

            on : Onward t env ok code is fine u (step env u).state at.calls later.0 b.step_is.moved
            on = onward t env ok code is fine u rs later.0 at b.step_is b.went (subst (λ l. returns_after l b.step_is ≡ Some later.0) (sym list) b.after)

            calls : b.step_is.moved ≡ Call
            calls = ap (λ y. y.moved) (went_same b.step_is call (sym b.went ∙ back.went)) ∙ back.calls

            by_way : Way g u.pc (step env u).state.pc at.calls on.at.calls b.step_is.moved → Inside (suc m)
            by_way (over_edge leads steps same moved) = let e : Local ≡ Call = sym moved ∙ calls in let bad : ⊥ = cc in absurd bad
            by_way (back_to z e to us before after lt from returns call leads moved) = let e : Return ≡ Call = sym moved ∙ calls in let bad : ⊥ = cc in absurd bad
            by_way (into_call call same moved) = record {
              outer = at.calls;
              x = view_of w begun u.regs u.bytes;
              others = xs;
              rs = later.0;
              regs = refl;
              depth = sym (lengths rs at.calls at.returns) ∙ ap length (list ∙ some_same b.list back.before (sym b.returns ∙ back.returns));
              returns = later.2;
              holds = subst (λ y. Open site at.calls (view_of w begun u.regs u.bytes) xs (suc m) y later.0) (sym b.state) (record {
                at = on.at;
                begun = (step env u).state.regs;
                sites = [];
                within = [];
                holds = subst (λ c. Holds t env ok code is fine v w inv laid input (step env u).state c (step env u).state.regs (view_of w begun u.regs u.bytes ∷ xs)) (sym same)
                    (call_holds t env ok code is fine v w inv laid input u rs at b.step_is b.went on.at.over begun xs holds this moved call);
                calls = same;
                even = refl;
                deep = first_depth (length at.calls) (length later.0) (lengths later.0 on.at.calls on.at.returns ∙ ap length same);
                opened = subst (λ c. activations v env s (suc m) ≡ activations_of v (step env u).state.pc c (step env u).state.regs (view_of w begun u.regs u.bytes ∷ xs)) (sym same)
                    (open_call v env s w m b.step_is at.calls begun xs b.went moved opened);
              });
            }
              where
                first_depth : (a q : ℕ) → q ≡ suc a → 0 + suc a ≡ q
                first_depth a q e = omega arith

    further : (j : ℕ) → m < j → suc j < n → Inside j → Inside (suc j)
    further j late lt now =
        let next : Listed env s (suc j) = listed_at (suc j) (omega arith) in
        let b = step_before env s j next.0 next.1 next.2 in
        let list : b.list ≡ now.rs = some_same b.list now.rs (sym b.returns ∙ now.returns) in
        let high : length now.outer < length next.0 = subst (λ k. k < length next.0) (sym now.depth) (back.between (suc j) next.0 (omega arith) lt next.2) in
        record {
          outer = now.outer;
          x = now.x;
          others = now.others;
          rs = next.0;
          regs = now.regs;
          depth = now.depth;
          returns = next.2;
          holds = subst (λ u. Open site now.outer now.x now.others (suc j) u next.0) (sym b.state)
              (stays site now.outer now.x now.others j now.rs next.0 b.step_is b.went (subst (λ l. returns_after l b.step_is ≡ Some next.0) list b.after) now.holds b.state (tidy_at (suc j) (omega arith)) high);
        }

    inside : (j : ℕ) → m < j → j < n → Inside j
    inside zero late lt = let bad : ⊥ = omega arith in absurd bad
    inside (suc i) late lt = ⊎_elim (λ (l : m < i). further i l lt (inside i l (omega arith))) (λ (h : i ≤ m). let e : m ≡ i = omega arith in subst (λ k. Inside (suc k)) e begin) (cases_lt m i)

    -- it doesn't come back at once
    not_at_once : suc m ≡ n → ⊥
    not_at_once e =
        let now : Inside (suc m) = begin in
        let same : now.rs ≡ back.after = some_same now.rs back.after (sym now.returns ∙ (ap (λ k. returns_so (run env s k).steps) e ∙ back.returned)) in
        even (length now.holds.within) (length now.outer) (length now.rs) (length back.after) (length back.before) now.holds.deep (ap length same) back.even now.depth
      where
        even : (a b r q c : ℕ) → a + suc b ≡ r → r ≡ q → q ≡ c → b ≡ c → ⊥
        even a b r q c d e f h = let bad : ⊥ = omega arith in bad

    pub restored : (to : ℕ) × Calls g site to × ((r : ℕ) → IsRegister r → IsRestored t v w site to r → reg (run env s m).state.regs r < 2 ^ 32 → reg (run env s n).state.regs r ≡ reg (run env s m).state.regs r)
    restored = by n refl
      where
        by : (k : ℕ) → n ≡ k → (to : ℕ) × Calls g site to × ((r : ℕ) → IsRegister r → IsRestored t v w site to r → reg (run env s m).state.regs r < 2 ^ 32 → reg (run env s n).state.regs r ≡ reg (run env s m).state.regs r)
        by zero e = let lt : m < n = back.later in let bad : ⊥ = omega arith in absurd bad
        by (suc i) e =
            let late : m < i = ⊎_elim (λ (l : m < i). l) (λ (h : i ≤ m). absurd (not_at_once (let lt : m < n = back.later in let q : suc m ≡ n = omega arith in q))) (cases_lt m i) in
            let now : Inside i = inside i late (omega arith) in
            let last : Listed env s (suc i) = listed_at (suc i) (omega arith) in
            let b = step_before env s i last.0 last.1 last.2 in
            let list : b.list ≡ now.rs = some_same b.list now.rs (sym b.returns ∙ now.returns) in
            let same : last.0 ≡ back.after = some_same last.0 back.after (sym last.2 ∙ (ap (λ k. returns_so (run env s k).steps) (sym e) ∙ back.returned)) in
            let even : length last.0 ≡ length now.outer = ap length same ∙ (back.even ∙ sym now.depth) in
            let r : Returned t env ok code is fine v w inv laid input site now.x (step env (run env s i).state).state = comes site now.outer now.x now.others i now.rs last.0 b.step_is b.went (subst (λ l. returns_after l b.step_is ≡ Some last.0) list b.after) now.holds b.state (tidy_at (suc i) (omega arith)) even in
            let state : (run env s n).state ≡ (step env (run env s i).state).state = ap (λ k. (run env s k).state) e ∙ b.state in
            (r.to, r.call, λ q reg_is res small. subst (λ y. reg y.regs q ≡ reg (run env s m).state.regs q) (sym state) (value now.x.regs (run env s m).state.regs (step env (run env s i).state).state.regs q now.regs (r.alike q reg_is res) small))
          where
            value : (before start after : List ℕ) (q : ℕ) → before ≡ start → (reg after q % 2 ^ 32 ≡ reg before q % 2 ^ 32) × (reg before q < 2 ^ 32 → reg after q < 2 ^ 32) → reg start q < 2 ^ 32 → reg after q ≡ reg start q
            value before start after q e alike small =
                let low : reg before q < 2 ^ 32 = subst (λ l. reg l q < 2 ^ 32) (sym e) small in
                sym (mod_same (reg after q) (alike.1 low)) ∙ (alike.0 ∙ (mod_same (reg before q) low ∙ ap (λ l. reg l q) e))

pub restored_registers_hold : RestoredRegistersHold
restored_registers_hold t env s code v w start reached inv laid starts bytes input m n call tidy back =
    restored t env start.text code reached.lists reached.words v w inv laid input s start.state start.entry starts bytes m n call tidy back
