-- A loop with a certificate of turns turns no more often than its width allows.
use Rattle.std.proofs.Common.{◌≡◌, ◌≢◌, ℕ, suc, ◌+◌, ◌*◌, ◌<◌, ◌≤◌, ◌^◌, ◌⊎◌, ⊎_elim, Bool, true, false, List, [], ◌∷◌, map, length, arith, refl, sym, ap, ◌∙◌, subst, Option, Some, None}
use Rattle.std.specs.Prelude.{All}
use Rattle.scale_base.specs.declared.instruction.Instr.{Instr}
use Rattle.scale_base.specs.declared.stepping.Move.TheVariants.{Return}
use Rattle.scale_base.specs.declared.stepping.Stepped.{Stepped}
use Rattle.scale_base.specs.declared.stepping.StepEnd.TheVariants.{Went}
use Rattle.scale_base.specs.Reading.{instr_of}
use Rattle.scale_base.specs.State.{Setting, State, reg, word_at}
use Rattle.scale_base.specs.Step.{step}
use Rattle.scale_base.specs.Run.{run}
use Rattle.cost_theory.specs.Graph.{Graph, Loops, count_step}
use Rattle.cost_theory.specs.Reached.{Code, IsCodeOf, HasNoBadWord}
use Rattle.code_text.specs.Text.{Text, instr_at, kind_at}
use Rattle.code_text.specs.TextGraph.{text_graph}
use Rattle.code_text.proofs.Laws.{kind_facts}
use Rattle.graph_runs.specs.TextStates.{IsTextOf, IsOverText}
use Rattle.graph_runs.specs.RunTransitions.{after_call, IsStack}
use Rattle.graph_runs.specs.KeptSteps.{Carried, carried_first, source_of}
use Rattle.graph_runs.specs.KeptRuns.{kept_at}
use Rattle.graph_runs.proofs.Laws.{went_at}
use Rattle.bound_laws.specs.Turning.{unasked, Leads}
use Rattle.bound_laws.specs.Values.{IsHeld, IsImpossible, IsRegister, said, passed, Values, AreBytes, Steps}
use Rattle.bound_laws.proofs.Laws.{KeptStep, At, Onward, Way, fetched, over_edge, into_call, back_to, site_small, site_back, passed_in, possible, so_behind, no_turns}
use Rattle.stack_laws.specs.Areas.{IsLaidOut}
use Rattle.stack_laws.specs.Stacks.{Stacks, View, view_of, IsRestored, IsSafe, IsStackInvariant, AreTold}
use Rattle.stack_laws.specs.Tidy.{activations, AreKept, IsTidyStep, IsTidy}
use Rattle.stack_laws.proofs.Laws.{activations_of, along, tidy_before, tidy_step, open_first, open_over, open_call, open_back, Holds, Returned, over_holds, call_holds, back_holds}
use Rattle.turn_laws.specs.Relating.{Relation, IsRelated, IsWeaker, Place, TurnCertificate, IsTurnCertificate, IsRowBack, IsOwnBack, IsOwnOn, IsPlaceBack, IsPossible, IsUsed, IsEvident, IsInputWithin, consumed_by}
use Rattle.turn_laws.specs.Relating.Relation.{unknown}
use Rattle.turn_laws.specs.Relating.Place.{in_register, in_word, in_input}
use Rattle.turn_laws.specs.Laws.{TurnCertificatesBoundTurns}
use Rattle.turn_laws.proofs.Relations.{weaker_in, same_in}
use Rattle.turn_laws.proofs.Inputs.{left, step_falls}
use Rattle.turn_laws.proofs.Facts.{Facts, IsPlaceRelated, few, fewer, fresh, turned}
use Rattle.turn_laws.proofs.Steps.{row_on, word_holds, place_holds, taken_holds, evident}
use Rattle.turn_laws.proofs.Turns.{Level, Mode, IsPassedOn, turned as turned_so, along_edge, along_call, along_return, after_edge, after_call_to}
use Rattle.turn_laws.proofs.Turns.Mode.{at_level}
use Rattle.turn_laws.proofs.Turns.Level.{within, elsewhere}

module _ (t : Text) (env : Setting) (ok : IsTextOf t env) (code : Code) (is : IsCodeOf (kind_at t) t.entry code) (fine : HasNoBadWord (kind_at t) t.entry)
    (v : Values) (w : Stacks) (inv : IsStackInvariant t (text_graph t code) v w) (laid : IsLaidOut env.layout w.areas w.fixed) (input : All (λ x. x < 256) env.input)
    (s : State) (over : IsOverText t s) (at_entry : s.pc ≡ t.entry) (most : Option ℕ) (short : IsInputWithin most env.input) (l : Loops) (k : ℕ) (c : TurnCertificate)
    (cert : IsTurnCertificate t (text_graph t code) v w most (l.header k) (l.inside k) c)
    (starts : AreTold v w s.pc (view_of w s.regs s.regs s.bytes)) (bytes : AreBytes s.bytes) where
  abbrev g : Graph
  g = text_graph t code

  abbrev h : ℕ
  h = l.header k

  abbrev Passed : ℕ → ℕ → ℕ → ℕ → View → Type 0
  Passed = IsPassedOn t g v w most h (l.inside k) c cert (Facts c) (few c) (fewer c)

  -- a run is where the tables hold, and in a mode of the certificate
  record Stands (n : ℕ) (u : State) (calls : List ℕ) (d : Carried) : Type 0 where
    begun : List ℕ
    views : List View
    holds : Holds t env ok code is fine v w inv laid input u calls begun views
    mode : Mode t g v w most h (l.inside k) c cert (Facts c) (few c) (fewer c) (left env u) u.pc calls views (d.counts k) (view_of w begun u.regs u.bytes)
    opened : activations v env s n ≡ activations_of v u.pc calls begun views

  -- as long as it is tidy
  abbrev I : ℕ → State → List ℕ → Carried → Type 0
  I n u calls d = IsTidy v w env s n → Stands n u calls d

  -- the count after a step, by where it comes from
  count_is : (n : ℕ) (d f : Carried) (x : Stepped) → KeptStep env s (unasked l) n d f x → f.counts k ≡ count_step (unasked l) (source_of x.moved (run env s n).state.pc d.returns) (Some (step env (run env s n).state).state.pc) d.counts k
  count_is n d f x kept =
      let w = went_at env (run env s n).state x kept.went in
      sym (ap (λ counts. counts k) kept.counts)
      ∙ (ap (λ v. count_step (unasked l) (source_of x.moved v d.returns) (Some x.next) d.counts k) w.0
      ∙ ap (λ v. count_step (unasked l) (source_of x.moved (run env s n).state.pc d.returns) (Some v) d.counts k) (sym w.1))

  at_most : (u : State) → left env u ≤ length env.input
  at_most u = omega arith

  -- at the header a turn begins anew
  anew : (u : State) (rs : List ℕ) (at : At t u rs) (calls : List ℕ) (begun : List ℕ) (xs : List View) → Holds t env ok code is fine v w inv laid input u calls begun xs → u.pc ≡ h → Facts c (left env u) h 0 (view_of w begun u.regs u.bytes)
  anew u rs at calls begun xs holds e =
      fresh t g v w most h (l.inside k) c cert env.input short (left env u) (view_of w begun u.regs u.bytes) at.over.zero at.over.size (subst (λ a. AreTold v w a (view_of w begun u.regs u.bytes)) e holds.told) (at_most u)

  -- ---- over an edge of an instruction that is no call
  module _ (u : State) (rs : List ℕ) (at : At t u rs) (x : Stepped) (went : (step env u).end ≡ Went x) (ons : IsOverText t (step env u).state) (begun : List ℕ) (xs : List View)
      (now : Holds t env ok code is fine v w inv laid input u at.calls begun xs) (tidy : IsTidyStep w u.pc (activations_of v u.pc at.calls begun xs) u.bytes (step env u).state.bytes) (count : ℕ) (facts : Facts c (left env u) u.pc count (view_of w begun u.regs u.bytes)) (inside : c.body u.pc ≡ true) where
    abbrev next : State
    next = (step env u).state

    -- a doubtful step leaves the words that are kept for the function that runs
    own : w.doubtful u.pc ≡ true → AreKept w u.bytes next.bytes (record { function = v.function u.pc; stack = reg begun 2 })
    own d = (tidy d).0

    there : (i : Instr) × (instr_at t u.pc ≡ Some i)
    there = let q = kind_facts t u.pc (fine at.function u.pc at.reached) in (q.2.0, q.2.1)

    abbrev i : Instr
    i = there.0

    fetch : instr_of (word_at u.bytes u.pc) ≡ Some i
    fetch = fetched t env ok code is fine u rs at ∙ there.1

    held_behind : (r : ℕ) → IsRegister r → IsHeld (passed i u.pc next.pc (v.at u.pc) r) (reg next.regs r)
    held_behind r q = passed_in env laid.keyless u (v.at u.pc) at.over.zero at.over.size now.told.registers.each now.memory i r x fetch went q

    held_to : (b : ℕ) → next.pc ≡ b → (r : ℕ) → IsRegister r → IsHeld (passed i u.pc b (v.at u.pc) r) (reg next.regs r)
    held_to b same r q = subst (λ n. IsHeld (passed i u.pc n (v.at u.pc) r) (reg next.regs r)) same (held_behind r q)

    used_so : (b : ℕ) → next.pc ≡ b → IsUsed v c u.pc i b → 0 < facts.start
    used_so b same q = ⊎_elim (λ (on : c.used u.pc ≡ true). facts.used on)
        (λ (e : IsEvident v c u.pc i b).
        evident env laid.keyless v w inv.offsets u at.over.zero at.over.size begun now.told i fetch x went own c count facts b same (held_to b same) e) q

    -- the word that is counted in, and what is left of the input
    own_over : (p : Place) (b : ℕ) → next.pc ≡ b → c.place ≡ p → IsOwnOn v w c u.pc i b p (c.own b) →
        ((j : ℕ) → c.place ≡ in_word j → IsRelated (left env next) (c.own b) facts.start ((view_of w begun next.regs next.bytes).words j)) ×
        (c.place ≡ in_input → left env next + consumed_by (c.own b) ≤ facts.start)
    own_over (in_register r) b to same over = (
      λ j e. let bad : in_register r ≡ in_word j = sym same ∙ e in let no : ⊥ = cc in absurd no,
      λ e. let bad : in_register r ≡ in_input = sym same ∙ e in let no : ⊥ = cc in absurd no,
    )
    own_over (in_word q) b to same over = (
      λ j e. let f : in_word q ≡ in_word j = sym same ∙ e in
          let f1 : q ≡ j = cc in
          subst (λ n. IsRelated (left env next) (c.own b) facts.start ((view_of w begun next.regs next.bytes).words n)) f1
          (word_holds env laid.keyless v w inv.offsets u at.over.zero at.over.size begun now.told i fetch x went own c count facts q same (c.own b) over),
      λ e. let bad : in_word q ≡ in_input = sym same ∙ e in let no : ⊥ = cc in absurd no,
    )
    own_over in_input b to same over = (
      λ j e. let bad : in_input ≡ in_word j = sym same ∙ e in let no : ⊥ = cc in absurd no,
      λ e. taken_holds env laid.keyless v w inv.offsets u at.over.zero at.over.size begun now.told i fetch x went own c count facts b (held_to b to) same (consumed_by (c.own b)) over,
    )

    possible_on : (b : ℕ) → next.pc ≡ b → IsPossible v u.pc i b
    possible_on b same h =
        possible env laid.keyless u (v.at u.pc) at.over.zero at.over.size now.told.registers.each now.memory (said i u.pc next.pc)
        (so_behind env laid.keyless u (v.at u.pc) at.over.zero at.over.size now.told.registers.each now.memory i x fetch went)
        (subst (λ n. IsImpossible (said i u.pc n) (v.at u.pc)) (sym same) h)

    over_passed : Leads g u.pc next.pc → Steps g u.pc next.pc → (told : AreTold v w next.pc (view_of w begun next.regs next.bytes)) → Passed (left env next) u.pc next.pc count (view_of w begun next.regs next.bytes)
    over_passed leads steps told = record {
      anew = λ e. fresh t g v w most h (l.inside k) c cert env.input short (left env next) (view_of w begun next.regs next.bytes) ons.zero ons.size
          (subst (λ a. AreTold v w a (view_of w begun next.regs next.bytes)) e told) (at_most next);
      turn = λ e _.
          let q = cert.turns u.pc i (subst (λ n. Steps g u.pc n) e steps) now.told.registers.live inside there.1 (possible_on h e) in
          turned t g v w most h (l.inside k) c cert env.input short q.0.0 (left env next) count facts.start (view_of w begun next.regs next.bytes) ons.zero ons.size
          (subst (λ a. AreTold v w a (view_of w begun next.regs next.bytes)) e told) facts.good
          (λ half. used_so h e (q.1 half))
          (place_holds env laid.keyless v w inv.offsets u at.over.zero at.over.size begun now.told i fetch x went own c count facts h (held_to h e) c.place refl q.0.0 q.0.1) q.0.2;
      on = λ other _ on. record {
        start = facts.start;
        good = facts.good;
        rows = λ r q. row_on env laid.keyless v w inv.offsets u at.over.zero at.over.size begun now.told i fetch x went own c count facts r q now.memory next.pc refl (c.row next.pc r)
            (cert.along u.pc next.pc r i steps now.told.registers.live inside on other there.1 (possible_on next.pc refl) q);
        own = (owns on other steps).0;
        left = (owns on other steps).1;
        used = λ q. used_so next.pc refl (cert.along_used u.pc next.pc i steps now.told.registers.live inside on other there.1 (possible_on next.pc refl) q);
      };
    }
      where
        owns : c.body next.pc ≡ true → next.pc ≢ h → Steps g u.pc next.pc →
            ((j : ℕ) → c.place ≡ in_word j → IsRelated (left env next) (c.own next.pc) facts.start ((view_of w begun next.regs next.bytes).words j)) ×
            (c.place ≡ in_input → left env next + consumed_by (c.own next.pc) ≤ facts.start)
        owns on other steps = own_over c.place next.pc refl refl (cert.along_own u.pc next.pc i steps now.told.registers.live inside on other there.1 (possible_on next.pc refl))

  -- ---- behind a call
  module _ (u : ℕ) (y : View) (next : State) (back : Returned t env ok code is fine v w inv laid input u y next) (ons : IsOverText t next) (count : ℕ) (facts : Facts c (left env next) u count y) (inside : c.body u ≡ true) where
    abbrev then : View
    then = view_of w y.begun next.regs next.bytes

    left_back : (n : ℕ) → n ≤ consumed_by (c.own u) → c.place ≡ in_input → left env next + n ≤ facts.start
    left_back n le same = let h = facts.left same in omega arith

    row_back : (r : ℕ) → IsRegister r → (b : Relation) → IsRowBack t v w c u back.to r b → IsRelated (left env next) b facts.start (reg next.regs r)
    row_back r is b q = ⊎_elim (λ (n : IsWeaker b unknown). weaker_in (left env next) b unknown facts.start (reg next.regs r) tt n)
        (λ (n : IsRestored t v w u back.to r × IsWeaker b (c.row u r)).
        weaker_in (left env next) b (c.row u r) facts.start (reg next.regs r) (same_in (left env next) (c.row u r) facts.start (reg y.regs r) (reg next.regs r) (back.alike r is n.0).0 (facts.rows r is)) n.1) q

    word_back : (j : ℕ) → c.place ≡ in_word j → (b : Relation) → (IsWeaker b unknown ⊎ (IsSafe v w u back.to j × IsWeaker b (c.own u))) → IsRelated (left env next) b facts.start (then.words j)
    word_back j same b q = ⊎_elim (λ (n : IsWeaker b unknown). weaker_in (left env next) b unknown facts.start (then.words j) tt n)
        (λ (n : IsSafe v w u back.to j × IsWeaker b (c.own u)).
        weaker_in (left env next) b (c.own u) facts.start (then.words j) (subst (λ m. IsRelated (left env next) (c.own u) facts.start m) (sym (back.safe j n.0)) (facts.own j same)) n.1) q

    place_back : (p : Place) → c.place ≡ p → (b : Relation) → IsPlaceBack t v w c u back.to p b → IsPlaceRelated p b (left env next) facts.start then
    place_back (in_register r) same b q = row_back r q.0 b q.1
    place_back (in_word j) same b q = word_back j same b q
    place_back in_input same b q = (q.0, q.1, left_back q.0 q.2 same)

    own_back : (p : Place) (b : ℕ) → c.place ≡ p → IsOwnBack v w c u back.to p (c.own b) →
        ((j : ℕ) → c.place ≡ in_word j → IsRelated (left env next) (c.own b) facts.start (then.words j)) × (c.place ≡ in_input → left env next + consumed_by (c.own b) ≤ facts.start)
    own_back (in_register r) b same q = (
      λ j e. let bad : in_register r ≡ in_word j = sym same ∙ e in let no : ⊥ = cc in absurd no,
      λ e. let bad : in_register r ≡ in_input = sym same ∙ e in let no : ⊥ = cc in absurd no,
    )
    own_back (in_word m) b same q = (
      λ j e. let f : in_word m ≡ in_word j = sym same ∙ e in
          let f1 : m ≡ j = cc in
          subst (λ n. IsRelated (left env next) (c.own b) facts.start (then.words n)) f1 (word_back m same (c.own b) q),
      λ e. let bad : in_word m ≡ in_input = sym same ∙ e in let no : ⊥ = cc in absurd no,
    )
    own_back in_input b same q = (
      λ j e. let bad : in_input ≡ in_word j = sym same ∙ e in let no : ⊥ = cc in absurd no,
      λ e. left_back (consumed_by (c.own b)) q e,
    )

    back_passed : Leads g u next.pc → (told : AreTold v w next.pc then) → Passed (left env next) u next.pc count then
    back_passed leads told = record {
      anew = λ e. fresh t g v w most h (l.inside k) c cert env.input short (left env next) then ons.zero ons.size (subst (λ a. AreTold v w a then) e told) (at_most next);
      turn = λ e _.
          let q = cert.turns_back u back.to back.call (subst (λ n. Leads g u n) e leads) back.told.registers.live inside in
          turned t g v w most h (l.inside k) c cert env.input short q.0.0 (left env next) count facts.start then ons.zero ons.size (subst (λ a. AreTold v w a then) e told) facts.good
          (λ half. facts.used (q.1 half)) (place_back c.place refl q.0.0 q.0.1) q.0.2;
      on = λ other _ on. record {
        start = facts.start;
        good = facts.good;
        rows = λ r q. row_back r q (c.row next.pc r) (cert.back u back.to next.pc r back.call leads back.told.registers.live inside on other q);
        own = (owns on other leads).0;
        left = (owns on other leads).1;
        used = λ q. facts.used (cert.back_used u back.to next.pc back.call leads back.told.registers.live inside on other q);
      };
    }
      where
        owns : c.body next.pc ≡ true → next.pc ≢ h → Leads g u next.pc →
            ((j : ℕ) → c.place ≡ in_word j → IsRelated (left env next) (c.own next.pc) facts.start (then.words j)) × (c.place ≡ in_input → left env next + consumed_by (c.own next.pc) ≤ facts.start)
        owns on other leads = own_back c.place next.pc refl (cert.back_own u back.to next.pc back.call leads back.told.registers.live inside on other)

  goes : (n : ℕ) (d f : Carried) (x : Stepped) → KeptStep env s (unasked l) n d f x → (at : At t (run env s n).state d.returns) →
      (on : Onward t env ok code is fine (run env s n).state (step env (run env s n).state).state at.calls f.returns x.moved) →
      I n (run env s n).state at.calls d → I (suc n) (step env (run env s n).state).state on.at.calls f
  goes n d f x kept at on was tidy = by_way on.way
    where
      u : State
      u = (run env s n).state

      next : State
      next = (step env u).state

      now : Stands n u at.calls d
      now = was (tidy_before v w env s n tidy)

      this : IsTidyStep w u.pc (activations_of v u.pc at.calls now.begun now.views) u.bytes next.bytes
      this = tidy_step v w env s n (activations_of v u.pc at.calls now.begun now.views) now.opened kept.state tidy

      there : (i : Instr) × (instr_at t u.pc ≡ Some i)
      there = let q = kind_facts t u.pc (fine at.function u.pc at.reached) in (q.2.0, q.2.1)

      -- no more of the input is left than before
      falls : left env next ≤ left env u
      falls = step_falls env u there.0 (fetched t env ok code is fine u d.returns at ∙ there.1)

      counted_as : (o : Option ℕ) → source_of x.moved u.pc d.returns ≡ o → f.counts k ≡ count_step (unasked l) o (Some next.pc) d.counts k
      counted_as o e = count_is n d f x kept ∙ ap (λ q. count_step (unasked l) q (Some next.pc) d.counts k) e

      stands : (calls : List ℕ) (count : ℕ) (begun : List ℕ) (xs : List View) → f.counts k ≡ count → on.at.calls ≡ calls → Holds t env ok code is fine v w inv laid input next calls begun xs →
          Mode t g v w most h (l.inside k) c cert (Facts c) (few c) (fewer c) (left env next) next.pc calls xs count (view_of w begun next.regs next.bytes) → activations v env s (suc n) ≡ activations_of v next.pc calls begun xs → Stands (suc n) next on.at.calls f
      stands calls count begun xs e q holds m opened = record {
        begun = begun;
        views = xs;
        holds = subst (λ y. Holds t env ok code is fine v w inv laid input next y begun xs) (sym q) holds;
        mode = subst (λ y. Mode t g v w most h (l.inside k) c cert (Facts c) (few c) (fewer c) (left env next) next.pc on.at.calls xs y (view_of w begun next.regs next.bytes)) (sym e)
            (subst (λ y. Mode t g v w most h (l.inside k) c cert (Facts c) (few c) (fewer c) (left env next) next.pc y xs count (view_of w begun next.regs next.bytes)) (sym q) m);
        opened = subst (λ y. activations v env s (suc n) ≡ activations_of v next.pc y begun xs) (sym q) opened;
      }

      by_way : Way g u.pc next.pc at.calls on.at.calls x.moved → Stands (suc n) next on.at.calls f
      by_way (over_edge leads steps after moved) =
          let then = over_holds t env ok code is fine v w inv laid input u d.returns at x kept.went on.at.over now.begun now.views now.holds this leads steps in
          stands at.calls (after_edge t g v w most h (l.inside k) c cert (Facts c) (few c) (fewer c) u.pc next.pc (d.counts k)) now.begun now.views (counted_as (Some u.pc) (ap (λ m. source_of m u.pc d.returns) moved)) after then
          (along_edge t g v w most h (l.inside k) c cert (Facts c) (few c) (fewer c) (left env u) (left env next) falls u.pc next.pc leads now.holds.told.registers.live at.calls now.views (d.counts k) (view_of w now.begun u.regs u.bytes) (view_of w now.begun next.regs next.bytes)
          (anew next f.returns on.at at.calls now.begun now.views then)
          (λ inside facts. over_passed u d.returns at x kept.went on.at.over now.begun now.views now.holds this (d.counts k) facts inside leads steps then.told) now.mode)
          (open_over v env s n x at.calls now.begun now.views kept.went moved (inv.functions u.pc next.pc leads) now.opened)
      by_way (into_call call after moved) =
          let seen : View = view_of w now.begun u.regs u.bytes in
          let then = call_holds t env ok code is fine v w inv laid input u d.returns at x kept.went on.at.over now.begun now.views now.holds this moved call in
          stands (u.pc ∷ at.calls) (after_call_to t g v w most h (l.inside k) c cert (Facts c) (few c) (fewer c) next.pc (d.counts k)) next.regs (seen ∷ now.views) (counted_as None (ap (λ m. source_of m u.pc d.returns) moved)) after then
          (along_call t g v w most h (l.inside k) c cert (Facts c) (few c) (fewer c) (left env u) (left env next) falls u.pc next.pc call now.holds.told.registers.live at.calls now.views seen (d.counts k) (view_of w next.regs next.regs next.bytes) at.over.zero
          (anew next f.returns on.at (u.pc ∷ at.calls) next.regs (seen ∷ now.views) then) now.mode)
          (open_call v env s w n x at.calls now.begun now.views kept.went moved now.opened)
      by_way (back_to z e to us before after lt from returns call leads moved) =
          let stack : IsStack (kind_at t) t.entry at.function (z ∷ us) = subst (λ y. IsStack (kind_at t) t.entry at.function y) before at.stack in
          let z_small : z < 2 ^ 32 = site_small t env ok code is fine at.function z us stack in
          let source : source_of x.moved u.pc d.returns ≡ Some z =
          ap (λ m. source_of m u.pc d.returns) moved ∙ (ap (λ y. source_of Return u.pc y) (at.returns ∙ ap (map after_call) before) ∙ ap Some (site_back z z_small)) in
          let b = back_holds t env ok code is fine v w inv laid input u d.returns at x kept.went on.at.over now.begun now.views now.holds this z e us before lt from returns leads in
          stands us (after_edge t g v w most h (l.inside k) c cert (Facts c) (few c) (fewer c) z next.pc (d.counts k)) b.0.begun b.1 (counted_as (Some z) source) after b.3
          (along_return t g v w most h (l.inside k) c cert (Facts c) (few c) (fewer c) (left env u) (left env next) falls u.pc z next.pc b.4.to leads b.4.call b.4.told.registers.live us b.1 b.0 (d.counts k) (view_of w now.begun u.regs u.bytes) (view_of w b.0.begun next.regs next.bytes)
          (anew next f.returns on.at us b.0.begun b.1 b.3)
          (λ zero_before inside facts. back_passed z b.0 next b.4 on.at.over (d.counts k) (fewer c (left env u) (left env next) z (d.counts k) b.0 falls facts) inside leads b.3.told)
          (subst (λ y. Mode t g v w most h (l.inside k) c cert (Facts c) (few c) (fewer c) (left env u) u.pc (z ∷ us) y (d.counts k) (view_of w now.begun u.regs u.bytes)) b.2
          (subst (λ y. Mode t g v w most h (l.inside k) c cert (Facts c) (few c) (fewer c) (left env u) u.pc y now.views (d.counts k) (view_of w now.begun u.regs u.bytes)) before now.mode)))
          (open_back v env s n x at.calls now.begun now.views z us b.0 b.1 kept.went moved before b.2 (inv.functions z next.pc leads) now.opened)

  begins : I 0 s [] carried_first
  begins tidy = record { begun = s.regs; views = []; holds = record { told = starts; frames = ap v.function at_entry; memory = bytes }; mode = at_level (go (c.body s.pc) refl); opened = open_first v env s }
    where
      fresh_view : View
      fresh_view = view_of w s.regs s.regs s.bytes

      go : (b : Bool) → c.body s.pc ≡ b → Level t g v w most h (l.inside k) c cert (Facts c) (few c) (fewer c) (left env s) s.pc [] 0 fresh_view
      go false out = elsewhere out tt (no_turns c.least c.width)
      go true inside =
          let here : s.pc ≡ h = at_entry ∙ cert.entry (subst (λ y. c.body y ≡ true) at_entry inside) in
          subst (λ y. Level t g v w most h (l.inside k) c cert (Facts c) (few c) (fewer c) (left env s) y [] 0 fresh_view) (sym here)
          (within cert.first (fresh t g v w most h (l.inside k) c cert env.input short (left env s) fresh_view over.zero over.size (subst (λ a. AreTold v w a fresh_view) here starts) (at_most s)) tt)

  pub counts_within : (n : ℕ) → IsTidy v w env s n → (d : Carried) → kept_at env s (unasked l) n ≡ Some d → d.counts k * c.least ≤ c.width
  counts_within n tidy d kept = (along t env ok code is fine s over at_entry (unasked l) I (λ m d. IsTidy v w env s m → d.counts k * c.least ≤ c.width) begins
      (λ m u calls d stands tidy.
      let y = stands tidy in turned_so t g v w most h (l.inside k) c cert (Facts c) (few c) (fewer c) (left env u) u.pc calls y.views (d.counts k) (view_of w y.begun u.regs u.bytes) y.mode)
      (λ m d less tidy. less (tidy_before v w env s m tidy)) goes n d kept).0 tidy

pub turns_bound : TurnCertificatesBoundTurns
turns_bound t env s code v w most l k c start reached inv laid starts bytes input short cert n tidy d kept =
    counts_within t env start.text code reached.lists reached.words v w inv laid input s start.state start.entry most short l k c cert starts bytes n tidy d kept
