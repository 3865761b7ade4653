-- Returns go back behind their calls, where the tables say so of x1.
use Rattle.std.proofs.Common.{◌≡◌, ◌≢◌, ℕ, zero, suc, ◌+◌, ◌-◌, ◌<◌, ◌≤◌, ◌%◌, ◌^◌, false, List, [], ◌∷◌, length, map, refl, sym, ap, ◌∙◌, subst, arith, Some}
use Rattle.std.specs.Prelude.{All}
use Rattle.std.proofs.lemmas.Bool.{cond-true, eq-eqb}
use Rattle.std.proofs.lemmas.List.{length-map}
use Rattle.std.proofs.lemmas.List.Sums.{fold-append}
use Rattle.scale_base.specs.declared.instruction.Instr.{Instr}
use Rattle.scale_base.specs.declared.stepping.Move.{Move}
use Rattle.scale_base.specs.declared.stepping.Move.TheVariants.{Local, Call, Return}
use Rattle.scale_base.specs.declared.stepping.Stepped.{Stepped}
use Rattle.scale_base.specs.declared.stepping.StepEnd.{StepEnd}
use Rattle.scale_base.specs.declared.stepping.StepEnd.TheVariants.{Went, Exited, Trapped}
use Rattle.scale_base.specs.Arith.{plus}
use Rattle.scale_base.specs.State.{Setting, State, reg, word_at}
use Rattle.scale_base.specs.Reading.{instr_of}
use Rattle.scale_base.specs.Step.{step}
use Rattle.scale_base.specs.Run.{Run, Standing, GoesOn, HasExited, HasTrapped, one_more_by, ended, run}
use Rattle.cost_theory.specs.Graph.{Graph, Loops}
use Rattle.cost_theory.specs.Reached.{Code, IsCodeOf, HasNoBadWord}
use Rattle.code_text.specs.Text.{Text, instr_at, kind_at}
use Rattle.code_text.specs.TextGraph.{text_graph}
use Rattle.code_text.proofs.Laws.{kind_facts}
use Rattle.graph_runs.specs.ReturnAddresses.{returned, returns_by, returns_after}
use Rattle.graph_runs.specs.TextStates.{IsTextOf, IsOverText}
use Rattle.graph_runs.specs.RunTransitions.{after_call, IsStack, returns_more, returns_so}
use Rattle.graph_runs.specs.KeptRuns.{most_returns}
use Rattle.bound_laws.specs.Turning.{unasked}
use Rattle.bound_laws.specs.Values.{Values, AreBytes}
use Rattle.bound_laws.proofs.Laws.{At, fetched, all_returns}
use Rattle.stack_laws.specs.Areas.{IsLaidOut}
use Rattle.stack_laws.specs.Stacks.{Stacks, View, view_of, IsNamed, IsStackInvariant, AreTold}
use Rattle.stack_laws.specs.Stacks.Name.{of_begin}
use Rattle.stack_laws.specs.Returning.{ComesBack}
use Rattle.stack_laws.specs.Tidy.{IsTidy}
use Rattle.stack_laws.specs.Laws.{RunsComeBack}
use Rattle.stack_laws.proofs.Frames.{Frame, Frames}
use Rattle.stack_laws.proofs.Moving.{moved_as, returns_to, exit_moves}
use Rattle.stack_laws.proofs.Tidy.{tidy_before}
use Rattle.stack_laws.proofs.Runs.{Holds, stands_at}

back_behind : (value z : ℕ) → value % 2 ^ 32 ≡ ((z + 4) % 2 ^ 32 + 0) % 2 ^ 32 → z % 4 ≡ 0 → (value + 0) % 2 ^ 32 - (value + 0) % 2 ^ 32 % 2 ≡ (z + 4) % 2 ^ 32
back_behind value z h aligned = omega arith

module _ (t : Text) (env : Setting) (ok : IsTextOf t env) (code : Code) (is : IsCodeOf (kind_at t) t.entry code) (fine : HasNoBadWord (kind_at t) t.entry)
    (v : Values) (w : Stacks) (inv : IsStackInvariant t (text_graph t code) v w) (comes : ComesBack t (text_graph t code) v w) (laid : IsLaidOut env.layout w.areas w.fixed) (input : All (λ x. x < 256) env.input) where
  abbrev g : Graph
  g = text_graph t code

  -- calls are not deep
  deep : (pc : ℕ) (begun : List ℕ) (bytes : ℕ → ℕ) (calls : List ℕ) (xs : List View) → Frames t g v w inv pc begun bytes calls xs → length calls + comes.height (v.function pc) ≤ comes.height (v.function t.entry)
  deep pc begun bytes [] [] fs = let e : comes.height (v.function pc) ≡ comes.height (v.function t.entry) = ap comes.height fs in omega arith
  deep pc begun bytes [] (x ∷ xs) fs = absurd fs
  deep pc begun bytes (u ∷ us) [] fs = absurd fs
  deep pc begun bytes (u ∷ us) (x ∷ xs) fs =
      let f : Frame t g v w inv pc begun bytes u x = fs.0 in
      let rest = deep u x.begun bytes us xs fs.1 in
      let less : comes.height (v.function f.to) < comes.height (v.function u) = comes.lower u f.to f.call f.told.registers.live in
      let same : comes.height (v.function pc) ≡ comes.height (v.function f.to) = ap comes.height f.function in
      omega arith

  module _ (s : State) (rs : List ℕ) (at : At t s rs) (begun : List ℕ) (xs : List View) (holds : Holds t env ok code is fine v w inv laid input s at.calls begun xs) (x : Stepped) (went : (step env s).end ≡ Went x) where
    facts : (i : Instr) × (instr_at t s.pc ≡ Some i)
    facts = let k = kind_facts t s.pc (fine at.function s.pc at.reached) in (k.2.0, k.2.1)

    fetch : instr_of (word_at s.bytes s.pc) ≡ Some facts.0
    fetch = fetched t env ok code is fine s rs at ∙ facts.1

    by_return : x.moved ≡ Return → (calls : List ℕ) → at.calls ≡ calls → (ys : List View) → xs ≡ ys → (qs : List ℕ) × (returned rs x.next ≡ Some qs)
    by_return moved calls same ys alike = go calls same ys (subst (λ q. Frames t g v w inv s.pc begun s.bytes calls q) alike (subst (λ c. Frames t g v w inv s.pc begun s.bytes c xs) same holds.frames))
      where
        links : (w.name s.pc 1 ≡ Some (of_begin 1 0)) × (v.function s.pc ≢ v.function t.entry)
        links = comes.links s.pc facts.0 facts.1 (sym (moved_as env s facts.0 fetch x went).0 ∙ moved) holds.told.registers.live

        name : IsNamed (Some (of_begin 1 0)) (view_of w begun s.regs s.bytes) (reg s.regs 1)
        name = subst (λ n. IsNamed n (view_of w begun s.regs s.bytes) (reg s.regs 1)) links.0 (holds.told.names 1 (omega arith, omega arith))

        go : (cs : List ℕ) → at.calls ≡ cs → (ys : List View) → Frames t g v w inv s.pc begun s.bytes cs ys → (qs : List ℕ) × (returned rs x.next ≡ Some qs)
        go [] e [] fs = absurd (links.1 fs)
        go [] e (y ∷ ys) fs = absurd fs
        go (z ∷ us) e [] fs = absurd fs
        go (z ∷ us) e (y ∷ ys) fs =
            let f : Frame t g v w inv s.pc begun s.bytes z y = fs.0 in
            let stack : IsStack (kind_at t) t.entry at.function (z ∷ us) = subst (IsStack (kind_at t) t.entry at.function) e at.stack in
            let aligned : z % 4 ≡ 0 = (kind_facts t z (fine stack.0 z stack.2)).0 in
            let value : reg s.regs 1 % 2 ^ 32 ≡ plus (plus z 4) 0 = name.0 ∙ ap (λ n. plus n 0) f.link in
            let next : x.next ≡ plus z 4 = returns_to env s facts.0 fetch x went moved ∙ back_behind (reg s.regs 1) z value aligned in
            let list : rs ≡ plus z 4 ∷ map after_call us = at.returns ∙ ap (map after_call) e in
            (map after_call us, ap (λ q. returned q x.next) list ∙ cond-true _ _ _ (eq-eqb (plus z 4) x.next (sym next)))

    -- so a step leaves the list of return addresses one
    pub comes_back : (qs : List ℕ) × (returns_after rs x ≡ Some qs)
    comes_back = by x.moved refl
      where
        by : (m : Move) → x.moved ≡ m → (qs : List ℕ) × (returns_after rs x ≡ Some qs)
        by Local e = (rs, ap (λ m. returns_by m rs x) e)
        by Call e = (plus x.pc 4 ∷ rs, ap (λ m. returns_by m rs x) e)
        by Return e = let p = by_return e at.calls refl xs refl in (p.0, ap (λ m. returns_by m rs x) e ∙ p.1)

  module _ (s : State) (over : IsOverText t s) (at_entry : s.pc ≡ t.entry) (starts : AreTold v w s.pc (view_of w s.regs s.regs s.bytes)) (bytes : AreBytes s.bytes) where
    none : Loops
    none = record { loops = 0; header = λ k. 0; bound = λ k. 0; least_trips = λ k. 0; inside = λ k v. false }

    abbrev Fine : Run → Type 0
    Fine r = (rs : List ℕ) × (returns_so r.steps ≡ Some rs) × (length rs ≤ most_returns)

    -- the list is short where a run goes on
    short : (n : ℕ) → IsTidy v w env s n → (rs : List ℕ) → returns_so (run env s n).steps ≡ Some rs → (run env s n).standing ≡ GoesOn → length rs ≤ most_returns
    short n tidy rs returns e =
        let k = all_returns env s none n rs returns in
        let p = stands_at t env ok code is fine v w inv laid input s over at_entry (unasked none) starts bytes n tidy k.0 k.1 e in
        let d : length p.0.calls + comes.height (v.function (run env s n).state.pc) ≤ comes.height (v.function t.entry) = deep (run env s n).state.pc p.1.0 (run env s n).state.bytes p.0.calls p.1.1 p.1.2.frames in
        let list : rs ≡ map after_call p.0.calls = sym k.2 ∙ p.0.returns in
        let size : length rs ≡ length p.0.calls = ap length list ∙ length-map p.0.calls after_call in
        let top = comes.top in
        omega arith

    more : (n : ℕ) → IsTidy v w env s (suc n) → Fine (run env s n) → Fine (run env s (suc n))
    unfolding run
    more n tidy ih = by_standing (run env s n).standing refl
      where
        r : Run
        r = run env s n

        by_end : r.standing ≡ GoesOn → (end : StepEnd) → (step env r.state).end ≡ end → (run env s (suc n)) ≡ ended r.steps end (step env r.state).state → Fine (run env s (suc n))
        by_end e (Went x) q same =
            let k = all_returns env s none n ih.0 ih.1 in
            let p = stands_at t env ok code is fine v w inv laid input s over at_entry (unasked none) starts bytes n (tidy_before v w env s n tidy) k.0 k.1 e in
            let b = comes_back r.state k.0.returns p.0 p.1.0 p.1.1 p.1.2 x q in
            let last : returns_after ih.0 x ≡ Some b.0 = ap (λ y. returns_after y x) (sym k.2) ∙ b.1 in
            let whole : returns_so (run env s (suc n)).steps ≡ Some b.0 = ap (λ y. returns_so y.steps) same ∙ (fold-append returns_more (Some []) r.steps (x ∷ []) ∙ (ap (λ o. returns_more o x) ih.1 ∙ last)) in
            (b.0, whole, short (suc n) tidy b.0 whole (ap (λ y. y.standing) same))
        by_end e (Exited x status) q same =
            let moved : returns_after ih.0 x ≡ Some ih.0 = ap (λ m. returns_by m ih.0 x) (exit_moves env r.state x status q) in
            let whole : returns_so (run env s (suc n)).steps ≡ Some ih.0 = ap (λ y. returns_so y.steps) same ∙ (fold-append returns_more (Some []) r.steps (x ∷ []) ∙ (ap (λ o. returns_more o x) ih.1 ∙ moved)) in
            (ih.0, whole, ih.2)
        by_end e (Trapped trap) q same = subst Fine (sym same) ih

        by_standing : (y : Standing) → r.standing ≡ y → Fine (run env s (suc n))
        by_standing GoesOn e = by_end e (step env r.state).end refl (ap (one_more_by env r) e)
        by_standing (HasExited status) e = subst Fine (sym (ap (one_more_by env r) e)) ih
        by_standing (HasTrapped trap) e = subst Fine (sym (ap (one_more_by env r) e)) ih

    pub fine_at : (n : ℕ) → IsTidy v w env s n → Fine (run env s n)
    unfolding run
    fine_at zero tidy = ([], refl, omega arith)
    fine_at (suc n) tidy = more n tidy (fine_at n (tidy_before v w env s n tidy))

pub runs_come_back : RunsComeBack
runs_come_back t env s code v w start reached inv comes laid starts bytes input n tidy =
    fine_at t env start.text code reached.lists reached.words v w inv comes laid input s start.state start.entry starts bytes n tidy
