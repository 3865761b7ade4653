-- A loop with a certificate turns no more often than the width allows.
use Rattle.std.proofs.Common.{◌≡◌, ℕ, suc, ◌+◌, ◌-◌, ◌*◌, ◌<◌, ◌≤◌, ◌%◌, ◌^◌, Bool, true, false, List, [], ◌∷◌, map, refl, sym, ap, ◌∙◌, subst, arith, Option, Some, None}
use Rattle.std.proofs.lemmas.Nat.{mod_below}
use Rattle.scale_base.specs.declared.instruction.Instr.{Instr}
use Rattle.scale_base.specs.declared.stepping.Move.TheVariants.{Return}
use Rattle.scale_base.specs.declared.stepping.Stepped.{Stepped}
use Rattle.scale_base.specs.declared.stepping.StepEnd.TheVariants.{Went}
use Rattle.scale_base.specs.Arith.{plus}
use Rattle.scale_base.specs.State.{Setting, State, reg}
use Rattle.scale_base.specs.Step.{step}
use Rattle.scale_base.specs.Run.{run}
use Rattle.cost_theory.specs.Graph.{Graph, Loops, count_step}
use Rattle.cost_theory.specs.Reached.{Code, IsCodeOf, HasNoBadWord}
use Rattle.code_text.specs.Text.{Text, instr_at, kind_at}
use Rattle.code_text.specs.TextGraph.{text_graph}
use Rattle.code_text.proofs.Laws.{kind_facts}
use Rattle.graph_runs.specs.TextStates.{IsTextOf, IsOverText}
use Rattle.graph_runs.specs.RunTransitions.{after_call, IsStack}
use Rattle.graph_runs.specs.KeptSteps.{Carried, carried_first, source_of}
use Rattle.graph_runs.specs.KeptRuns.{kept_at}
use Rattle.graph_runs.proofs.Laws.{went_at}
use Rattle.bound_laws.specs.Registers.{Measure, measured, effect, effect_at}
use Rattle.bound_laws.specs.Turning.{unasked, Certificate, IsCertificate, StaysWithin}
use Rattle.bound_laws.specs.Laws.{CertificatesBoundTurns}
use Rattle.bound_laws.proofs.Effects.{steps_add}
use Rattle.bound_laws.proofs.Moduli.{no_turns}
use Rattle.bound_laws.proofs.Modes.{Mode, turned, at_header, along_edge, along_call, along_return, after_edge, after_call_to}
use Rattle.bound_laws.proofs.Modes.Mode.{elsewhere}
use Rattle.bound_laws.proofs.Ways.{At, Way, Onward, fetched, site_small}
use Rattle.bound_laws.proofs.Ways.Way.{over_edge, into_call, back_to}
use Rattle.bound_laws.proofs.Inductions.{KeptStep, along}

-- the site of a call, from the address behind it
pub site_back : (u : ℕ) → u < 2 ^ 32 → plus (plus u 4) (2 ^ 32 - 4) ≡ u
site_back u h = omega arith

module _ (t : Text) (env : Setting) (ok : IsTextOf t env) (code : Code) (is : IsCodeOf (kind_at t) t.entry code) (fine : HasNoBadWord (kind_at t) t.entry) where
  -- a step adds the effect of the instruction at its address
  pub adds : (s : State) (rs : List ℕ) (at : At t s rs) (x : Stepped) (m : Measure) → m.register < 32 → m.other < 32 → (step env s).end ≡ Went x →
      (e : ℕ) → effect_at t m s.pc ≡ Some e → measured m (step env s).state.regs ≡ (measured m s.regs + e) % 2 ^ 32
  adds s rs at x m small other_small end e effect_is =
      let facts = kind_facts t s.pc (fine at.function s.pc at.reached) in
      let i : Instr = facts.2.0 in
      let here : instr_at t s.pc ≡ Some i = facts.2.1 in
      let does : effect m i ≡ Some e = subst (λ o. effect_of m o ≡ Some e) here effect_is in
      let size = at.over.size in
      steps_add env s x i m e (fetched t env ok code is fine s rs at ∙ here) end (omega arith) (omega arith) does
    where
      effect_of : Measure → Option Instr → Option ℕ
      effect_of m None = None
      effect_of m (Some i) = effect m i

  module _ (s : State) (over : IsOverText t s) (at_entry : s.pc ≡ t.entry) (l : Loops) (k : ℕ) (c : Certificate)
      (cert : IsCertificate t (text_graph t code) (l.header k) (l.inside k) c) (holds : StaysWithin env s l k c) where
    abbrev value : State → ℕ
    value u = measured c.measure u.regs

    low : (u : State) → value u < 2 ^ 32
    low u = mod_below (c.measure.shift + c.measure.factor * reg u.regs c.measure.register + c.measure.other_factor * reg u.regs c.measure.other) (2 ^ 32) (omega arith)

    abbrev Stands : State → List ℕ → Carried → Type 0
    Stands u calls d = Mode c u.pc calls (d.counts k) (value u)

    -- the count after a step, by where it comes from
    count_is : (n : ℕ) (d f : Carried) (x : Stepped) → KeptStep env s (unasked l) n d f x → f.counts k ≡ count_step (unasked l) (source_of x.moved (run env s n).state.pc d.returns) (Some (step env (run env s n).state).state.pc) d.counts k
    count_is n d f x kept =
        let w = went_at env (run env s n).state x kept.went in
        sym (ap (λ counts. counts k) kept.counts)
        ∙ (ap (λ v. count_step (unasked l) (source_of x.moved v d.returns) (Some x.next) d.counts k) w.0
        ∙ ap (λ v. count_step (unasked l) (source_of x.moved (run env s n).state.pc d.returns) (Some v) d.counts k) (sym w.1))

    goes : (n : ℕ) (d f : Carried) (x : Stepped) → KeptStep env s (unasked l) n d f x → (at : At t (run env s n).state d.returns) →
        (on : Onward t env ok code is fine (run env s n).state (step env (run env s n).state).state at.calls f.returns x.moved) →
        Stands (run env s n).state at.calls d → Stands (step env (run env s n).state).state on.at.calls f
    goes n d f x kept at on now = by_way on.way
      where
        u : State
        u = (run env s n).state

        v : State
        v = (step env u).state

        h : ℕ
        h = l.header k

        g : Graph
        g = text_graph t code

        does : (e : ℕ) → effect_at t c.measure u.pc ≡ Some e → value v ≡ (value u + e) % 2 ^ 32
        does e = adds u d.returns at x c.measure cert.register cert.other kept.went e

        small : v.pc ≡ h → value v ≤ c.width
        small here = subst (λ y. value y ≤ c.width) kept.state (holds (suc n) f kept.behind kept.goes_on (ap (λ y. y.pc) kept.state ∙ here))

        counted : (o : Option ℕ) → source_of x.moved u.pc d.returns ≡ o → f.counts k ≡ count_step (unasked l) o (Some v.pc) d.counts k
        counted o e = count_is n d f x kept ∙ ap (λ q. count_step (unasked l) q (Some v.pc) d.counts k) e

        same : (calls : List ℕ) (count : ℕ) → f.counts k ≡ count → on.at.calls ≡ calls → Mode c v.pc calls count (value v) → Stands v on.at.calls f
        same calls count e q m = subst (λ y. Mode c v.pc on.at.calls y (value v)) (sym e) (subst (λ y. Mode c v.pc y count (value v)) (sym q) m)

        by_way : Way g u.pc v.pc at.calls on.at.calls x.moved → Stands v on.at.calls f
        by_way (over_edge leads steps after moved) =
            same at.calls (after_edge t g h (l.inside k) c cert u.pc v.pc (d.counts k)) (counted (Some u.pc) (ap (λ m. source_of m u.pc d.returns) moved)) after
            (along_edge t g h (l.inside k) c cert u.pc v.pc leads at.calls (d.counts k) (value u) (value v) (low u) (low v) does small now)
        by_way (into_call call after moved) =
            same (u.pc ∷ at.calls) (after_call_to t g h (l.inside k) c cert v.pc (d.counts k)) (counted None (ap (λ m. source_of m u.pc d.returns) moved)) after
            (along_call t g h (l.inside k) c cert u.pc v.pc call at.calls (d.counts k) (value u) (value v) (low u) (low v) does small now)
        by_way (back_to w e to us before after lt from returns call leads moved) =
            let stack : IsStack (kind_at t) t.entry at.function (w ∷ us) = subst (λ y. IsStack (kind_at t) t.entry at.function y) before at.stack in
            let w_small : w < 2 ^ 32 = site_small t env ok code is fine at.function w us stack in
            let source : source_of x.moved u.pc d.returns ≡ Some w =
            ap (λ m. source_of m u.pc d.returns) moved ∙ (ap (λ y. source_of Return u.pc y) (at.returns ∙ ap (map after_call) before) ∙ ap Some (site_back w w_small)) in
            same us (after_edge t g h (l.inside k) c cert w v.pc (d.counts k)) (counted (Some w) source) after
            (along_return t g h (l.inside k) c cert u.pc w v.pc to leads call e lt from us (d.counts k) (value u) (value v) (low u) (low v) does small
            (subst (λ y. Mode c u.pc y (d.counts k) (value u)) before now))

    start_within : s.pc ≡ l.header k → value s ≤ c.width
    unfolding run kept_at
    start_within here = holds 0 carried_first refl refl here

    begins : Stands s [] carried_first
    begins = go (c.body s.pc) refl
      where
        go : (b : Bool) → c.body s.pc ≡ b → Stands s [] carried_first
        go false out = elsewhere out tt (no_turns c.least c.width)
        go true inside =
            let here : s.pc ≡ l.header k = at_entry ∙ cert.started (subst (λ y. c.body y ≡ true) at_entry inside) in
            subst (λ y. Mode c y [] 0 (value s)) (sym here)
            (at_header t (text_graph t code) (l.header k) (l.inside k) c cert (value s) 0 (low s) (start_within here) (no_turns c.least (value s)) [] tt)

    pub counts_within : (n : ℕ) (d : Carried) → kept_at env s (unasked l) n ≡ Some d → d.counts k * c.least ≤ c.width
    counts_within n d kept = (along t env ok code is fine s over at_entry (unasked l) Stands (λ d. d.counts k * c.least ≤ c.width) begins
        (λ u calls d m. turned c u.pc calls (d.counts k) (value u) m) goes n d kept).0

pub bound_turns : CertificatesBoundTurns
bound_turns t env s code l k c start reached cert holds n d kept = counts_within t env start.text code reached.lists reached.words s start.state start.entry l k c cert holds n d kept
