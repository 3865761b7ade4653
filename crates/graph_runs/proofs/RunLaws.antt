-- A run that keeps the rules on returns is a list of transitions of the graph, at the cost of its steps.
use Rattle.std.proofs.Common.{◌≡◌, ℕ, zero, suc, ◌+◌, ◌<◌, List, [], ◌∷◌, ◌++◌, map, slice_get, refl, sym, ap, ◌∙◌, subst, arith, Option, Some, None, ⊎_elim}
use Rattle.std.specs.List.{sum_by}
use Rattle.std.proofs.lemmas.List.{map-append}
use Rattle.std.proofs.lemmas.List.Sums.{fold-append, sum_by-append}
use Rattle.scale_base.specs.declared.stepping.Class.{Class}
use Rattle.scale_base.specs.declared.stepping.Stepped.{Stepped}
use Rattle.scale_base.specs.declared.stepping.StepEnd.{StepEnd}
use Rattle.scale_base.specs.declared.stepping.StepEnd.TheVariants.{Went, Exited, Trapped}
use Rattle.scale_base.specs.State.{Setting, State}
use Rattle.scale_base.specs.Step.{step}
use Rattle.scale_base.specs.Run.{Run, Standing, GoesOn, HasExited, HasTrapped, one_more, one_more_by, ended, run}
use Rattle.cost_theory.specs.Graph.{Graph, Loops}
use Rattle.cost_theory.specs.Steps as steps
use Rattle.cost_theory.specs.Steps.Transition.{Exit}
use Rattle.cost_theory.specs.Reached.{Reached, Code, graph_of, IsCodeOf, HasNoBadWord, number_or_0}
use Rattle.cost_theory.specs.Reached.Reached.{main}
use Rattle.code_text.specs.Text.{Text, kind_at}
use Rattle.graph_runs.specs.TextStates.{IsTextOf, IsOverText}
use Rattle.graph_runs.specs.ReturnAddresses.{returns_after}
use Rattle.code_text.specs.EdgeCosts.{edge_class, cost_of, weights}
use Rattle.graph_runs.specs.RunTransitions.{places_of, classes_of, returns_more, returns_so, AreTransitions, TransitionsLeadTo, StandsBy, IsRunOf}
use Rattle.graph_runs.proofs.StepFacts.{IsTrap, IsStep, IsExit, EndsBy, IsDone, step_done}
use Rattle.graph_runs.proofs.StepTransitions.{place, IsTransitionOf}
use Rattle.graph_runs.proofs.TransitionLaws.{Goes, went, exited}

moves-append : (g : Graph) (l : Loops) (s : steps.GraphState) (ms : List steps.Transition) (m : steps.Transition) → AreTransitions g l s ms →
    ((steps.edge_of m < g.edges) × ((steps.after_all g l s ms).node ≡ Some (g.source (steps.edge_of m))) × steps.IsTransition g (steps.after_all g l s ms) m) → AreTransitions g l s (ms ++ m ∷ [])
moves-append g l s [] m are one = (one, tt)
moves-append g l s (k ∷ ks) m are one = (are.0, moves-append g l (steps.after g l s k) ks m are.1 one)

pub after-append : (g : Graph) (l : Loops) (s : steps.GraphState) (ms : List steps.Transition) (m : steps.Transition) → steps.after_all g l s (ms ++ m ∷ []) ≡ steps.after g l (steps.after_all g l s ms) m
after-append g l s [] m = refl
after-append g l s (k ∷ ks) m = after-append g l (steps.after g l s k) ks m

pub cycles-append : (w : ℕ → ℕ) (ms : List steps.Transition) (m : steps.Transition) → steps.cycles w (ms ++ m ∷ []) ≡ steps.cycles w ms + w (steps.edge_of m)
cycles-append w [] m = omega arith
cycles-append w (k ∷ ks) m = let ih = cycles-append w ks m in omega arith

-- two lists that agree by what is read of each element, and an element more in both
agree-append : {M X A : Type 0} (f : M → A) (h : X → A) (ms : List M) (xs : List X) (m : M) (x : X) → map f ms ≡ map h xs → f m ≡ h x → map f (ms ++ m ∷ []) ≡ map h (xs ++ x ∷ [])
agree-append f h ms xs m x all one = map-append f ms (m ∷ []) ∙ (ap (λ q. q ++ f m ∷ []) all ∙ (ap (λ a. map h xs ++ a ∷ []) one ∙ sym (map-append h xs (x ∷ []))))

-- the addresses of a step that went on
pub went_at : (env : Setting) (s : State) (x : Stepped) → (step env s).end ≡ Went x → (x.pc ≡ s.pc) × ((step env s).state.pc ≡ x.next)
went_at env s x end = ⊎_elim
    (λ (trap : IsTrap (step env s).end). absurd (subst IsTrap end trap))
    (λ (d : (i : _) × IsDone env s i (step env s).end (step env s).state). let p : IsStep d.0 s x (step env s).state = subst (λ e. EndsBy d.0 s e (step env s).state) end d.1.ends in (p.at, p.next)) (step_done env s)

-- the address of a step that exited
pub exited_at : (env : Setting) (s : State) (x : Stepped) (status : ℕ) → (step env s).end ≡ Exited x status → x.pc ≡ s.pc
exited_at env s x status end = ⊎_elim
    (λ (trap : IsTrap (step env s).end). absurd (subst IsTrap end trap))
    (λ (d : (i : _) × IsDone env s i (step env s).end (step env s).state). let p : IsExit d.0 s x = subst (λ e. EndsBy d.0 s e (step env s).state) end d.1.ends in p.at) (step_done env s)

-- a place is its node, its calls and its counts
pub place_is : (s : steps.GraphState) (v : ℕ) (calls : List ℕ) → s.node ≡ Some v → s.calls ≡ calls → s ≡ place v calls s.counts
place_is s v calls node suspended = ap (λ n. record { node = n; calls = s.calls; counts = s.counts }) node ∙ ap (λ c. record { node = Some v; calls = c; counts = s.counts }) suspended

module _ (t : Text) (env : Setting) (ok : IsTextOf t env) (code : Code) (is : IsCodeOf (kind_at t) t.entry code) (fine : HasNoBadWord (kind_at t) t.entry) (l : Loops) (costs : Class → ℕ) where
  -- the transitions and one more
  more : (r : Run) (rs : List ℕ) (x : Stepped) (ms : List steps.Transition) (m : steps.Transition) (calls calls_after : List ℕ) (to : Option ℕ) →
      AreTransitions (graph_of (kind_at t) code) l (steps.graph_start (graph_of (kind_at t) code)) ms → TransitionsLeadTo t code l r rs ms → (calls_of : calls ≡ calls) →
      IsTransitionOf t code r.state.pc calls x.class m to calls_after → (steps.after_all (graph_of (kind_at t) code) l (steps.graph_start (graph_of (kind_at t) code)) ms).calls ≡ calls →
      (AreTransitions (graph_of (kind_at t) code) l (steps.graph_start (graph_of (kind_at t) code)) (ms ++ m ∷ [])) ×
      ((steps.after_all (graph_of (kind_at t) code) l (steps.graph_start (graph_of (kind_at t) code)) (ms ++ m ∷ [])).node ≡ to) ×
      ((steps.after_all (graph_of (kind_at t) code) l (steps.graph_start (graph_of (kind_at t) code)) (ms ++ m ∷ [])).calls ≡ calls_after)
  more r rs x ms m calls calls_after to are at same move suspended =
      let g : Graph = graph_of (kind_at t) code in
      let s : steps.GraphState = steps.after_all g l (steps.graph_start g) ms in
      let e : s ≡ place r.state.pc calls s.counts = place_is s r.state.pc calls at.node suspended in
      let a : steps.after_all g l (steps.graph_start g) (ms ++ m ∷ []) ≡ steps.after g l s m = after-append g l (steps.graph_start g) ms m in (
        moves-append g l (steps.graph_start g) ms m are (move.edge, at.node ∙ ap Some (sym move.from), subst (λ p. steps.IsTransition g p m) (sym e) (move.move s.counts)),
        ap (λ p. p.node) a ∙ (ap (λ p. (steps.after g l p m).node) e ∙ move.leads l s.counts),
        ap (λ p. p.calls) a ∙ (ap (λ p. (steps.after g l p m).calls) e ∙ move.within l s.counts),
      )

  pub costs_more : (r : Run) (x : Stepped) (ms : List steps.Transition) (m : steps.Transition) → steps.cycles (weights t code costs) ms ≡ sum_by (λ y. costs y.class) r.steps → edge_class t (slice_get code.edges (steps.edge_of m)) ≡ Some x.class →
      steps.cycles (weights t code costs) (ms ++ m ∷ []) ≡ sum_by (λ y. costs y.class) (r.steps ++ x ∷ [])
  costs_more r x ms m cost class =
      let a = cycles-append (weights t code costs) ms m in
      let b : weights t code costs (steps.edge_of m) ≡ costs x.class = ap (cost_of costs) class in
      let c : sum_by (λ y. costs y.class) (r.steps ++ x ∷ []) ≡ sum_by (λ y. costs y.class) r.steps + sum_by (λ y. costs y.class) (x ∷ []) = sum_by-append (λ y. costs y.class) r.steps (x ∷ []) in
      let d : sum_by (λ y. costs y.class) (x ∷ []) ≡ costs x.class = omega arith in
      omega arith

  pub places_more : (r : Run) (x : Stepped) (ms : List steps.Transition) (m : steps.Transition) (calls calls_after : List ℕ) (to : Option ℕ) → places_of t code ms ≡ map (λ y. y.pc) r.steps →
      IsTransitionOf t code r.state.pc calls x.class m to calls_after → x.pc ≡ r.state.pc → places_of t code (ms ++ m ∷ []) ≡ map (λ y. y.pc) (r.steps ++ x ∷ [])
  places_more r x ms m calls calls_after to places move at = agree-append (λ k. (graph_of (kind_at t) code).source (steps.edge_of k)) (λ (y : Stepped). y.pc) ms r.steps m x places (move.from ∙ sym at)

  pub classes_more : (r : Run) (x : Stepped) (ms : List steps.Transition) (m : steps.Transition) → classes_of t code ms ≡ map (λ y. Some y.class) r.steps → edge_class t (slice_get code.edges (steps.edge_of m)) ≡ Some x.class →
      classes_of t code (ms ++ m ∷ []) ≡ map (λ y. Some y.class) (r.steps ++ x ∷ [])
  classes_more r x ms m classes class = agree-append (λ k. edge_class t (slice_get code.edges (steps.edge_of k))) (λ (y : Stepped). Some y.class) ms r.steps m x classes class

  -- one step more
  one_step : (r : Run) (rs : List ℕ) → r.standing ≡ GoesOn → ((rs : List ℕ) → returns_so r.steps ≡ Some rs → IsRunOf t code l costs r rs) →
      returns_so (one_more env r).steps ≡ Some rs → IsRunOf t code l costs (one_more env r) rs
  one_step r rs goes ih returns = subst (λ q. IsRunOf t code l costs q rs) (sym (ap (one_more_by env r) goes))
      (by_end (step env r.state).end refl (subst (λ q. returns_so q.steps ≡ Some rs) (ap (one_more_by env r) goes) returns))
    where
      at : (rs : List ℕ) (h : IsRunOf t code l costs r rs) → TransitionsLeadTo t code l r rs h.moves
      at rs h = subst (λ q. StandsBy q (TransitionsLeadTo t code l r rs h.moves)) goes h.stands

      before : (x : Stepped) → returns_so (r.steps ++ x ∷ []) ≡ Some rs → (o : Option (List ℕ)) → returns_so r.steps ≡ o → (ss : List ℕ) × (returns_so r.steps ≡ Some ss) × (returns_after ss x ≡ Some rs)
      before x h None e = let q : returns_so (r.steps ++ x ∷ []) ≡ None = fold-append returns_more (Some []) r.steps (x ∷ []) ∙ ap (λ o. returns_more o x) e in let bad : ⊥ = cc in absurd bad
      before x h (Some ss) e = let q : returns_so (r.steps ++ x ∷ []) ≡ returns_after ss x = fold-append returns_more (Some []) r.steps (x ∷ []) ∙ ap (λ o. returns_more o x) e in (ss, e, sym q ∙ h)

      by_end : (end : StepEnd) → (step env r.state).end ≡ end → returns_so (ended r.steps (step env r.state).end (step env r.state).state).steps ≡ Some rs →
          IsRunOf t code l costs (ended r.steps (step env r.state).end (step env r.state).state) rs
      by_end (Went x) e h =
          let b = before x (subst (λ q. returns_so (ended r.steps q (step env r.state).state).steps ≡ Some rs) e h) (returns_so r.steps) refl in
          let run : IsRunOf t code l costs r b.0 = ih b.0 b.1 in
          let a : TransitionsLeadTo t code l r b.0 run.moves = at b.0 run in
          let next : Goes t env code r.state (step env r.state).state a.calls rs x.class x.moved = went t env ok code is fine r.state a.function a.calls rs a.over a.reached a.stack x e (subst (λ ss. returns_after ss x ≡ Some rs) a.returns b.2) in
          let m = more r b.0 x run.moves next.move a.calls next.calls_after (Some (step env r.state).state.pc) run.are a refl next.is a.suspended in
          subst (λ q. IsRunOf t code l costs (ended r.steps q (step env r.state).state) rs) (sym e) (record {
            moves = run.moves ++ next.move ∷ [];
            are = m.0;
            places = places_more r x run.moves next.move a.calls next.calls_after (Some (step env r.state).state.pc) run.places next.is (went_at env r.state x e).0;
            classes = classes_more r x run.moves next.move run.classes next.is.cost;
            cost = costs_more r x run.moves next.move run.cost next.is.cost;
            stands = record { function = next.function; calls = next.calls_after; node = m.1; suspended = m.2; returns = next.returns; reached = next.reached; stack = next.stack; over = next.over };
          })
      by_end (Exited x status) e h =
          let b = before x (subst (λ q. returns_so (ended r.steps q (step env r.state).state).steps ≡ Some rs) e h) (returns_so r.steps) refl in
          let run : IsRunOf t code l costs r b.0 = ih b.0 b.1 in
          let a : TransitionsLeadTo t code l r b.0 run.moves = at b.0 run in
          let next : (e : ℕ) × IsTransitionOf t code r.state.pc a.calls x.class (Exit e) None a.calls = exited t env ok code is fine r.state a.function a.calls rs a.over a.reached a.stack x status e in
          let m = more r b.0 x run.moves (Exit next.0) a.calls a.calls None run.are a refl next.1 a.suspended in
          subst (λ q. IsRunOf t code l costs (ended r.steps q (step env r.state).state) rs) (sym e) (record {
            moves = run.moves ++ Exit next.0 ∷ [];
            are = m.0;
            places = places_more r x run.moves (Exit next.0) a.calls a.calls None run.places next.1 (exited_at env r.state x status e);
            classes = classes_more r x run.moves (Exit next.0) run.classes next.1.cost;
            cost = costs_more r x run.moves (Exit next.0) run.cost next.1.cost;
            stands = tt;
          })
      by_end (Trapped trap) e h =
          let run : IsRunOf t code l costs r rs = ih rs (subst (λ q. returns_so (ended r.steps q (step env r.state).state).steps ≡ Some rs) e h) in
          subst (λ q. IsRunOf t code l costs (ended r.steps q (step env r.state).state) rs) (sym e) (record { moves = run.moves; are = run.are; places = run.places; classes = run.classes; cost = run.cost; stands = tt })

  module _ (s : State) (over : IsOverText t s) (at_entry : s.pc ≡ t.entry) where
    -- each run from the entry
    pub run_transitions : (n : ℕ) (rs : List ℕ) → returns_so (run env s n).steps ≡ Some rs → IsRunOf t code l costs (run env s n) rs
    unfolding run
    run_transitions zero rs h = record {
      moves = [];
      are = tt;
      places = refl;
      classes = refl;
      cost = refl;
      stands = record {
        function = t.entry;
        calls = [];
        node = ap Some (ap number_or_0 is.first_function ∙ sym at_entry);
        suspended = refl;
        returns = (let e : rs ≡ [] = cc in e);
        reached = subst (λ v. Reached (kind_at t) t.entry t.entry v) (sym at_entry) main;
        stack = refl;
        over = over;
      };
    }
    run_transitions (suc n) rs h = by_standing (λ ss q. run_transitions n ss q) (run env s n).standing refl
      where
        stays : ((ss : List ℕ) → returns_so (run env s n).steps ≡ Some ss → IsRunOf t code l costs (run env s n) ss) → one_more env (run env s n) ≡ run env s n → IsRunOf t code l costs (one_more env (run env s n)) rs
        stays ih e = subst (λ r. IsRunOf t code l costs r rs) (sym e) (ih rs (subst (λ r. returns_so r.steps ≡ Some rs) e h))

        by_standing : ((ss : List ℕ) → returns_so (run env s n).steps ≡ Some ss → IsRunOf t code l costs (run env s n) ss) → (st : Standing) → (run env s n).standing ≡ st → IsRunOf t code l costs (one_more env (run env s n)) rs
        by_standing ih GoesOn e = one_step (run env s n) rs e ih h
        by_standing ih (HasExited status) e = stays ih (ap (one_more_by env (run env s n)) e)
        by_standing ih (HasTrapped trap) e = stays ih (ap (one_more_by env (run env s n)) e)
