-- A kept run costs at most the worst cycles of the program's entry.
use Rattle.std.proofs.Common.{◌≡◌, ℕ, zero, suc, ◌^◌, ◌<◌, ◌≤◌, Bool, List, [], ◌∷◌, ◌++◌, refl, sym, ap, ◌∙◌, subst, arith, Option, Some, None}
use Rattle.std.specs.List.{sum_by}
use Rattle.scale_base.specs.declared.stepping.Class.{Class}
use Rattle.scale_base.specs.declared.stepping.Stepped.{Stepped}
use Rattle.scale_base.specs.declared.stepping.StepEnd.{StepEnd}
use Rattle.scale_base.specs.declared.stepping.StepEnd.TheVariants.{Went, Exited, Trapped}
use Rattle.scale_base.specs.State.{Setting, State}
use Rattle.scale_base.specs.Step.{step}
use Rattle.scale_base.specs.Run.{Run, Standing, GoesOn, HasExited, HasTrapped, one_more, one_more_by, ended, run}
use Rattle.cost_theory.specs.Graph.{Graph, Loops}
use Rattle.cost_theory.specs.Accepted.{AreAccepted, HasNoRecursion, HaveWholeExtents}
use Rattle.cost_theory.specs.Worst.{Numbers, AreNumbers}
use Rattle.cost_theory.specs.Steps as steps
use Rattle.cost_theory.specs.Steps.Transition.{Exit}
use Rattle.cost_theory.specs.Reached.{Reached, Code, graph_of, IsCodeOf, HasNoBadWord, number_or_0}
use Rattle.cost_theory.specs.Reached.Reached.{main}
use Rattle.cost_theory.proofs.Laws.{is_program, run-worst}
use Rattle.code_text.specs.Text.{Text, kind_at}
use Rattle.graph_runs.specs.TextStates.{IsTextOf, IsOverText}
use Rattle.graph_runs.specs.ReturnAddresses.{returns_after}
use Rattle.graph_runs.specs.RunTransitions.{IsStack, StandsBy}
use Rattle.graph_runs.proofs.StepTransitions.{place, IsTransitionOf, first_site}
use Rattle.graph_runs.specs.KeptSteps.{by_extents, Carried, counts_after, kept_more}
use Rattle.code_text.specs.EdgeCosts.{weights}
use Rattle.graph_runs.specs.KeptRuns.{watched, kept_at, KeptAt, IsKeptRun}
use Rattle.graph_runs.proofs.TextFacts.{word_bound}
use Rattle.graph_runs.proofs.TransitionLaws.{Goes, went, exited}
use Rattle.code_text.proofs.Laws.{kind_facts, weights_are}
use Rattle.graph_runs.proofs.RunLaws.{after-append, place_is, went_at, exited_at, places_more, classes_more, costs_more}
use Rattle.graph_runs.proofs.KeptLaws.{kept_parts, kept_move}

kept-append : (g : Graph) (l : Loops) (s : steps.GraphState) (ms : List steps.Transition) (m : steps.Transition) → steps.AreKept g l s ms → steps.IsKept g l (steps.after_all g l s ms) m → steps.AreKept g l s (ms ++ m ∷ [])
kept-append g l s [] m kept one = (one, tt)
kept-append g l s (k ∷ ks) m kept one = (kept.0, kept-append g l (steps.after g l s k) ks m kept.1 one)

-- an exit ends the transitions
exit_last : (ms : List steps.Transition) (e : ℕ) → steps.EndsByExit (ms ++ Exit e ∷ [])
exit_last [] e = (e, refl)
exit_last (m ∷ []) e = (e, refl)
exit_last (m ∷ k ∷ ms) e = exit_last (k ∷ ms) e

module _ (t : Text) (env : Setting) (ok : IsTextOf t env) (code : Code) (is : IsCodeOf (kind_at t) t.entry code) (fine : HasNoBadWord (kind_at t) t.entry)
    (order : HasNoRecursion (graph_of (kind_at t) code))
    (l : Loops) (extent : ℕ → ℕ → Bool) (acc : AreAccepted (graph_of (kind_at t) code) l extent) (whole : HaveWholeExtents (graph_of (kind_at t) code) l extent) (costs : Class → ℕ) where
  first_small : (f : ℕ) (calls : List ℕ) → IsStack (kind_at t) t.entry f calls → (u : ℕ) → first_site calls ≡ Some u → u < 2 ^ 32
  first_small f [] st u h = let bad : ⊥ = cc in absurd bad
  first_small f (v ∷ vs) st u h =
      let e : v ≡ u = cc in
      let b = word_bound t env ok v (kind_facts t v (fine st.0 v st.2)).1 in
      omega arith

  one_step : (r : Run) (o : Option Carried) (d : Carried) → r.standing ≡ GoesOn → ((c : Carried) → o ≡ Some c → IsKeptRun t code l costs r c) →
      watched (by_extents l extent) o r.standing (step env r.state).end ≡ Some d → IsKeptRun t code l costs (one_more env r) d
  one_step r o d goes ih kept = subst (λ q. IsKeptRun t code l costs q d) (sym (ap (one_more_by env r) goes))
      (by_end (step env r.state).end refl (subst (λ q. watched (by_extents l extent) o q (step env r.state).end ≡ Some d) goes kept))
    where
      at : (c : Carried) (h : IsKeptRun t code l costs r c) → KeptAt t code l r c h.moves
      at c h = subst (λ q. StandsBy q (KeptAt t code l r c h.moves)) goes h.stands

      before : (x : Stepped) → (o : Option Carried) → kept_more (by_extents l extent) o x ≡ Some d → (c : Carried) × (o ≡ Some c) × (kept_more (by_extents l extent) (Some c) x ≡ Some d)
      before x None h = let bad : ⊥ = cc in absurd bad
      before x (Some c) h = (c, refl, h)

      by_end : (end : StepEnd) → (step env r.state).end ≡ end → watched (by_extents l extent) o GoesOn (step env r.state).end ≡ Some d →
          IsKeptRun t code l costs (ended r.steps (step env r.state).end (step env r.state).state) d
      by_end (Went x) e h =
          let g : Graph = graph_of (kind_at t) code in
          let b = before x o (subst (λ q. watched (by_extents l extent) o GoesOn q ≡ Some d) e h) in
          let run : IsKeptRun t code l costs r b.0 = ih b.0 b.1 in
          let a : KeptAt t code l r b.0 run.moves = at b.0 run in
          let p = kept_parts (by_extents l extent) (counts_after (by_extents l extent) b.0 x) x (returns_after b.0.returns x) d b.2 in
          let next : Goes t env code r.state (step env r.state).state a.calls d.returns x.class x.moved = went t env ok code is fine r.state a.function a.calls d.returns a.over a.reached a.stack x e (subst (λ ss. returns_after ss x ≡ Some d.returns) a.returns p.0) in
          let w = went_at env r.state x e in
          let s : steps.GraphState = steps.after_all g l (steps.graph_start g) run.moves in
          let same : s ≡ place r.state.pc a.calls s.counts = place_is s r.state.pc a.calls a.node a.suspended in
          let moved : IsTransitionOf t code r.state.pc a.calls x.class next.move (Some x.next) next.calls_after = subst (λ v. IsTransitionOf t code r.state.pc a.calls x.class next.move (Some v) next.calls_after) w.1 next.is in
          let k = kept_move t code l extent (is_program (kind_at t) t.entry code is fine order) acc whole s.counts b.0 d a.calls next.calls_after x r.state.pc next.move a.counted a.returns (first_small a.function a.calls a.stack) w.0 b.2 moved next.kind in
          let ap1 : steps.after_all g l (steps.graph_start g) (run.moves ++ next.move ∷ []) ≡ steps.after g l s next.move = after-append g l (steps.graph_start g) run.moves next.move in
          let ap2 : steps.after_all g l (steps.graph_start g) (run.moves ++ next.move ∷ []) ≡ steps.after g l (place r.state.pc a.calls s.counts) next.move = ap1 ∙ ap (λ q. steps.after g l q next.move) same in
          subst (λ q. IsKeptRun t code l costs (ended r.steps q (step env r.state).state) d) (sym e) (record {
            moves = run.moves ++ next.move ∷ [];
            kept = kept-append g l (steps.graph_start g) run.moves next.move run.kept (subst (λ q. steps.IsKept g l q next.move) (sym same) k.0);
            places = places_more t env ok code is fine l costs r x run.moves next.move a.calls next.calls_after (Some (step env r.state).state.pc) run.places next.is w.0;
            classes = classes_more t env ok code is fine l costs r x run.moves next.move run.classes next.is.cost;
            cost = costs_more t env ok code is fine l costs r x run.moves next.move run.cost next.is.cost;
            stands = record {
              function = next.function;
              calls = next.calls_after;
              node = subst (λ q. q.node ≡ Some (step env r.state).state.pc) (sym ap2) (next.is.leads l s.counts);
              suspended = ap (λ q. q.calls) ap2 ∙ next.is.within l s.counts;
              counted = λ j jl. subst (λ q. q.counts j ≡ d.counts j) (sym ap2) (k.1 j jl);
              bounded = λ j jl. subst (λ n. n ≤ l.bound j) (sym (ap (λ q. q.counts j) ap2)) (k.0.within j jl);
              returns = next.returns;
              reached = next.reached;
              stack = next.stack;
              over = next.over;
            };
            exits = tt;
          })
      by_end (Exited x status) e h =
          let g : Graph = graph_of (kind_at t) code in
          let run : IsKeptRun t code l costs r d = ih d (subst (λ q. watched (by_extents l extent) o GoesOn q ≡ Some d) e h) in
          let a : KeptAt t code l r d run.moves = at d run in
          let next : (e : ℕ) × IsTransitionOf t code r.state.pc a.calls x.class (Exit e) None a.calls = exited t env ok code is fine r.state a.function a.calls [] a.over a.reached a.stack x status e in
          let s : steps.GraphState = steps.after_all g l (steps.graph_start g) run.moves in
          let same : s ≡ place r.state.pc a.calls s.counts = place_is s r.state.pc a.calls a.node a.suspended in
          let one : steps.IsKept g l (place r.state.pc a.calls s.counts) (Exit next.0) = record { edge = next.1.edge; from = ap Some (sym next.1.from); move = next.1.move s.counts; within = a.bounded; late = λ k kl left. (let bad : ⊥ = cc in absurd bad) } in
          subst (λ q. IsKeptRun t code l costs (ended r.steps q (step env r.state).state) d) (sym e) (record {
            moves = run.moves ++ Exit next.0 ∷ [];
            kept = kept-append g l (steps.graph_start g) run.moves (Exit next.0) run.kept (subst (λ q. steps.IsKept g l q (Exit next.0)) (sym same) one);
            places = places_more t env ok code is fine l costs r x run.moves (Exit next.0) a.calls a.calls None run.places next.1 (exited_at env r.state x status e);
            classes = classes_more t env ok code is fine l costs r x run.moves (Exit next.0) run.classes next.1.cost;
            cost = costs_more t env ok code is fine l costs r x run.moves (Exit next.0) run.cost next.1.cost;
            stands = tt;
            exits = exit_last run.moves next.0;
          })
      by_end (Trapped trap) e h =
          let run : IsKeptRun t code l costs r d = ih d (subst (λ q. watched (by_extents l extent) o GoesOn q ≡ Some d) e h) in
          subst (λ q. IsKeptRun t code l costs (ended r.steps q (step env r.state).state) d) (sym e) (record { moves = run.moves; kept = run.kept; places = run.places; classes = run.classes; cost = run.cost; stands = tt; exits = tt })

  module _ (s : State) (over : IsOverText t s) (at_entry : s.pc ≡ t.entry) where
    -- a kept run is a kept list of transitions
    pub kept_run : (n : ℕ) (c : Carried) → kept_at env s (by_extents l extent) n ≡ Some c → IsKeptRun t code l costs (run env s n) c
    unfolding run kept_at
    kept_run zero c h = let e : record { returns = []; counts = λ k. 0 } ≡ c = cc in subst (λ c. IsKeptRun t code l costs (run env s 0) c) e (record {
      moves = [];
      kept = tt;
      places = refl;
      classes = refl;
      cost = refl;
      stands = record {
        function = t.entry;
        calls = [];
        node = ap Some (ap number_or_0 is.first_function ∙ sym at_entry);
        suspended = refl;
        counted = λ k kl. refl;
        bounded = λ k kl. omega arith;
        returns = refl;
        reached = subst (λ v. Reached (kind_at t) t.entry t.entry v) (sym at_entry) main;
        stack = refl;
        over = over;
      };
      exits = tt;
    })
    kept_run (suc n) c h = by_standing (λ d q. kept_run n d q) (run env s n).standing refl
      where
        stays : ((d : Carried) → kept_at env s (by_extents l extent) n ≡ Some d → IsKeptRun t code l costs (run env s n) d) → one_more env (run env s n) ≡ run env s n →
            kept_at env s (by_extents l extent) n ≡ Some c → IsKeptRun t code l costs (one_more env (run env s n)) c
        stays ih e k = subst (λ r. IsKeptRun t code l costs r c) (sym e) (ih c k)

        by_standing : ((d : Carried) → kept_at env s (by_extents l extent) n ≡ Some d → IsKeptRun t code l costs (run env s n) d) → (st : Standing) → (run env s n).standing ≡ st → IsKeptRun t code l costs (one_more env (run env s n)) c
        by_standing ih GoesOn e = one_step (run env s n) (kept_at env s (by_extents l extent) n) c e ih h
        by_standing ih (HasExited status) e = stays ih (ap (one_more_by env (run env s n)) e) (subst (λ q. watched (by_extents l extent) (kept_at env s (by_extents l extent) n) q (step env (run env s n).state).end ≡ Some c) e h)
        by_standing ih (HasTrapped trap) e = stays ih (ap (one_more_by env (run env s n)) e) (subst (λ q. watched (by_extents l extent) (kept_at env s (by_extents l extent) n) q (step env (run env s n).state).end ≡ Some c) e h)

    -- and costs at most the worst cycles
    pub kept_worst : (nums : Numbers) → AreNumbers (graph_of (kind_at t) code) l (weights t code costs) nums → (n : ℕ) (c : Carried) → kept_at env s (by_extents l extent) n ≡ Some c →
        sum_by (λ x. costs x.class) (run env s n).steps ≤ nums.worst 0
    kept_worst nums are n c h =
        let r : IsKeptRun t code l costs (run env s n) c = kept_run n c h in
        let worst : steps.cycles (weights t code costs) r.moves ≤ nums.worst 0 = run-worst (graph_of (kind_at t) code) l extent (weights t code costs) nums (is_program (kind_at t) t.entry code is fine order) acc (weights_are t code costs) are r.moves r.kept in
        let cost = r.cost in
        omega arith
