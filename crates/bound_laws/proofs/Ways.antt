-- Where a run whose returns go back to their calls stands, and over which edges of the graph its next step goes.
use Rattle.std.proofs.Common.{◌≡◌, ℕ, ◌<◌, ◌^◌, true, false, List, [], ◌∷◌, map, refl, sym, ap, ◌∙◌, subst, arith, Option, Some, None, IsSome}
use Rattle.scale_base.specs.declared.stepping.Class.{Class}
use Rattle.scale_base.specs.declared.stepping.Move.{Move}
use Rattle.scale_base.specs.declared.stepping.Move.TheVariants.{Local, Call, Return}
use Rattle.scale_base.specs.declared.stepping.Stepped.{Stepped}
use Rattle.scale_base.specs.declared.stepping.StepEnd.TheVariants.{Went}
use Rattle.scale_base.specs.Reading.{instr_of}
use Rattle.scale_base.specs.State.{Setting, State, word_at}
use Rattle.scale_base.specs.Step.{step}
use Rattle.cost_theory.specs.Graph.{Graph, Loops, next_edge}
use Rattle.cost_theory.specs.Steps as steps
use Rattle.cost_theory.specs.Steps.Transition.{Along as OverAlong, Call as OverCall, Return as OverReturn, Exit as OverExit}
use Rattle.cost_theory.specs.Reached.{Reached, Code, IsCodeOf, HasNoBadWord}
use Rattle.cost_theory.proofs.Laws.{next-is}
use Rattle.code_text.specs.Text.{Text, instr_at, kind_at}
use Rattle.code_text.specs.TextGraph.{text_graph}
use Rattle.code_text.proofs.Laws.{kind_facts}
use Rattle.graph_runs.specs.TextStates.{IsTextOf, IsOverText}
use Rattle.graph_runs.specs.RunTransitions.{after_call, IsStack}
use Rattle.graph_runs.specs.ReturnAddresses.{returns_after}
use Rattle.graph_runs.proofs.Laws.{Goes, IsTransitionKind, IsTransitionOf, went, word_bound, word_same}
use Rattle.bound_laws.specs.Turning.{Leads, Calls}
use Rattle.bound_laws.specs.Values.{Steps}

-- a state of a run, in a reached function, with the sites of the calls that the run is in
pub record At (t : Text) (s : State) (rs : List ℕ) : Type 0 where
  pub function : ℕ
  pub calls : List ℕ
  pub over : IsOverText t s
  pub reached : Reached (kind_at t) t.entry function s.pc
  pub stack : IsStack (kind_at t) t.entry function calls
  pub returns : rs ≡ map after_call calls

-- a step over an edge, into a call, or back from one
pub data Way (g : Graph) (pc next : ℕ) (calls after : List ℕ) (moved : Move) : Type 0 where
  over_edge : Leads g pc next → Steps g pc next → after ≡ calls → moved ≡ Local → Way g pc next calls after moved
  into_call : Calls g pc next → after ≡ pc ∷ calls → moved ≡ Call → Way g pc next calls after moved
  back_to : (u e to : ℕ) (us : List ℕ) → calls ≡ u ∷ us → after ≡ us → e < g.edges → g.source e ≡ pc → g.returns e ≡ true → Calls g u to → Leads g u next → moved ≡ Return → Way g pc next calls after moved

module _ (t : Text) (env : Setting) (ok : IsTextOf t env) (code : Code) (is : IsCodeOf (kind_at t) t.entry code) (fine : HasNoBadWord (kind_at t) t.entry) where
  -- no loop matters here
  no_loops : Loops
  no_loops = record { loops = 0; header = λ k. 0; bound = λ k. 0; least_trips = λ k. 0; inside = λ k v. false }

  -- the instruction that is fetched is that of the text
  pub fetched : (s : State) (rs : List ℕ) → At t s rs → instr_of (word_at s.bytes s.pc) ≡ instr_at t s.pc
  fetched s rs at =
      let facts = kind_facts t s.pc (fine at.function s.pc at.reached) in
      ap instr_of (word_same t env ok s.bytes at.over.text s.pc facts.1 facts.0)

  -- the site of a suspended call is below 2^32
  pub site_small : (f u : ℕ) (us : List ℕ) → IsStack (kind_at t) t.entry f (u ∷ us) → u < 2 ^ 32
  site_small f u us st =
      let b = word_bound t env ok u (kind_facts t u (fine st.0 u st.2)).1 in
      omega arith

  way_of : (pc next : ℕ) (calls after : List ℕ) (class : Class) (moved : Move) (m : steps.Transition) → IsTransitionOf t code pc calls class m (Some next) after → IsTransitionKind m moved →
      Way (text_graph t code) pc next calls after moved
  way_of pc next calls after class moved (OverAlong e) of kind =
      over_edge (e, of.edge, of.from, of.leads no_loops (λ k. 0)) (e, of.edge, of.from, of.leads no_loops (λ k. 0), (of.move (λ k. 0)).0) (sym (of.within no_loops (λ k. 0))) kind
  way_of pc next calls after class moved (OverCall e f) of kind =
      let to : Some ((text_graph t code).entry f) ≡ Some next = of.leads no_loops (λ k. 0) in
      let same : (text_graph t code).entry f ≡ next = cc in
      into_call (e, f, of.edge, of.from, (of.move (λ k. 0)).0, same) (sym (of.within no_loops (λ k. 0)) ∙ ap (λ v. v ∷ calls) of.from) kind
  way_of pc next [] after class moved (OverReturn e) of kind = absurd ((of.move (λ k. 0)).1)
  way_of pc next (u ∷ us) after class moved (OverReturn e) of kind = by_edge (next_edge (text_graph t code) u) refl
    where
      by_edge : (o : Option ℕ) → next_edge (text_graph t code) u ≡ o → Way (text_graph t code) pc next (u ∷ us) after moved
      by_edge None q =
          let some : IsSome (next_edge (text_graph t code) u) = (of.move (λ k. 0)).1 in
          let z : IsSome {T = ℕ} None = subst (λ o. IsSome o) q some in
          let bad : ⊥ = cc in absurd bad
      by_edge (Some d) q =
          let g : Graph = text_graph t code in
          let p = next-is g u d q in
          let to : g.target d ≡ Some next = sym (ap (λ o. (steps.go_back g no_loops u o us (λ k. 0)).node) q) ∙ of.leads no_loops (λ k. 0) in
          let rest : us ≡ after = sym (ap (λ o. (steps.go_back g no_loops u o us (λ k. 0)).calls) q) ∙ of.within no_loops (λ k. 0) in
          back_to u e (g.entry p.2.0) us refl (sym rest) of.edge of.from (of.move (λ k. 0)).0 (d, p.2.0, p.0, p.1, p.2.1, refl) (d, p.0, p.1, to) kind
  way_of pc next calls after class moved (OverExit e) of kind = absurd kind

  pub record Onward (s u : State) (calls rs : List ℕ) (moved : Move) : Type 0 where
    pub at : At t u rs
    pub way : Way (text_graph t code) s.pc u.pc calls at.calls moved

  -- one step on
  pub onward : (s : State) (rs after : List ℕ) (at : At t s rs) (x : Stepped) → (step env s).end ≡ Went x → returns_after rs x ≡ Some after → Onward s (step env s).state at.calls after x.moved
  onward s rs after at x end returns =
      let go : Goes t env code s (step env s).state at.calls after x.class x.moved =
      went t env ok code is fine s at.function at.calls after at.over at.reached at.stack x end (subst (λ q. returns_after q x ≡ Some after) at.returns returns) in
      record {
        at = record { function = go.function; calls = go.calls_after; over = go.over; reached = go.reached; stack = go.stack; returns = go.returns };
        way = way_of s.pc (step env s).state.pc at.calls go.calls_after x.class x.moved go.move go.is go.kind;
      }
