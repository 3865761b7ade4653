-- A loop with a certificate of a walk turns no more often than its width allows.
use Rattle.std.proofs.Common.{◌≡◌, ℕ, suc, ◌*◌, ◌<◌, ◌≤◌, ◌^◌, ⊎_elim, Bool, true, false, List, [], ◌∷◌, map, refl, sym, ap, ◌∙◌, subst, Option, Some, None}
use Rattle.std.specs.Prelude.{All}
use Rattle.std.proofs.lemmas.Bool.{both_ways}
use Rattle.scale_base.specs.declared.instruction.Instr.{Instr}
use Rattle.scale_base.specs.declared.stepping.Move.TheVariants.{Return}
use Rattle.scale_base.specs.declared.stepping.Stepped.{Stepped}
use Rattle.scale_base.specs.declared.stepping.StepEnd.TheVariants.{Went}
use Rattle.scale_base.specs.Reading.{instr_of}
use Rattle.scale_base.specs.State.{Setting, State, reg, word_at}
use Rattle.scale_base.specs.Step.{step}
use Rattle.scale_base.specs.Run.{run}
use Rattle.cost_theory.specs.Graph.{Graph, Loops, count_step}
use Rattle.cost_theory.specs.Reached.{Code, IsCodeOf, HasNoBadWord}
use Rattle.code_text.specs.Text.{Text, instr_at, kind_at}
use Rattle.code_text.specs.TextGraph.{text_graph}
use Rattle.code_text.proofs.Laws.{kind_facts}
use Rattle.graph_runs.specs.TextStates.{IsTextOf, IsOverText}
use Rattle.graph_runs.specs.RunTransitions.{after_call, IsStack}
use Rattle.graph_runs.specs.KeptSteps.{Carried, carried_first, source_of}
use Rattle.graph_runs.specs.KeptRuns.{kept_at}
use Rattle.graph_runs.proofs.Laws.{went_at}
use Rattle.bound_laws.specs.Turning.{unasked, Leads, Calls}
use Rattle.bound_laws.specs.Values.{IsHeld, IsImpossible, IsRegister, said, Values, AreBytes, Steps}
use Rattle.bound_laws.proofs.Laws.{KeptStep, At, Onward, Way, fetched, over_edge, into_call, back_to, site_small, site_back, possible, so_behind, no_turns}
use Rattle.stack_laws.specs.Areas.{IsLaidOut}
use Rattle.stack_laws.specs.Stacks.{Stacks, View, view_of, IsRestored, IsSafe, IsStackInvariant, AreTold}
use Rattle.stack_laws.specs.Tidy.{activations, AreKept, IsTidyStep, IsTidy}
use Rattle.stack_laws.proofs.Laws.{activations_of, along, tidy_before, tidy_step, open_first, open_over, open_call, open_back, Holds, Returned, over_holds, call_holds, back_holds}
use Rattle.walk_areas.specs.Walking.{Trace, IsTraced, IsWider, Place, number_in, WalkCertificate, IsWalkCertificate, IsRowBack, IsWordBack, IsPlaceBack, IsHolderBack, IsPossible}
use Rattle.walk_areas.specs.Walking.Place.{in_register, in_word}
use Rattle.walk_areas.specs.Laws.{WalkCertificatesBoundTurns}
use Rattle.walk_areas.proofs.Traces.{wider_in, same_in}
use Rattle.walk_areas.proofs.Facts.{Facts, IsGiven, aimed, aimed_at, anew, few, fresh, given_same, turned}
use Rattle.walk_areas.proofs.Steps.{row_over, word_over, place_over, touches, holder_over}
use Rattle.walk_areas.proofs.Starts.{starts_in}
use Rattle.walk_areas.proofs.Turns.{Level, Mode, IsPassedOn, turned as turned_so, along_edge, along_call, along_return, after_edge, after_call_to}
use Rattle.walk_areas.proofs.Turns.Mode.{at_level}
use Rattle.walk_areas.proofs.Turns.Level.{within, elsewhere}

module _ (t : Text) (env : Setting) (ok : IsTextOf t env) (code : Code) (is : IsCodeOf (kind_at t) t.entry code) (fine : HasNoBadWord (kind_at t) t.entry)
    (v : Values) (w : Stacks) (inv : IsStackInvariant t (text_graph t code) v w) (laid : IsLaidOut env.layout w.areas w.fixed) (input : All (λ x. x < 256) env.input)
    (s : State) (over : IsOverText t s) (at_entry : s.pc ≡ t.entry) (l : Loops) (k : ℕ) (c : WalkCertificate)
    (cert : IsWalkCertificate t (text_graph t code) v w (l.header k) (l.inside k) c)
    (starts : AreTold v w s.pc (view_of w s.regs s.regs s.bytes)) (bytes : AreBytes s.bytes) where
  abbrev g : Graph
  g = text_graph t code

  abbrev h : ℕ
  h = l.header k

  abbrev F : ℕ → ℕ → View → Type 0
  F = Facts w.areas w.fixed c cert.ground

  abbrev fewer_than : (a n : ℕ) (x : View) → F a n x → n * c.least ≤ c.width
  fewer_than = few w.areas w.fixed c cert.ground

  abbrev begins_anew : (n : ℕ) (x : View) → F h n x → F h 0 x
  begins_anew = anew t g v w h (l.inside k) c cert

  abbrev Passed : ℕ → ℕ → ℕ → View → Type 0
  Passed = IsPassedOn t g v w h (l.inside k) c cert F fewer_than begins_anew

  abbrev M : ℕ → List ℕ → List View → ℕ → View → Type 0
  M = Mode t g v w h (l.inside k) c cert F fewer_than begins_anew

  -- where the loop is entered, and nothing is said of where the pointer is then
  unstarted : c.start ≡ None → (x : View) → F h 0 x
  unstarted none x = fresh t g v w h (l.inside k) c cert x (subst (λ o. IsHeld o (aimed_at t g v w h (l.inside k) c cert x)) (sym none) tt)

  -- a run is where the tables hold, and in a mode of the certificate
  record Stands (n : ℕ) (u : State) (calls : List ℕ) (d : Carried) : Type 0 where
    begun : List ℕ
    views : List View
    holds : Holds t env ok code is fine v w inv laid input u calls begun views
    mode : M u.pc calls views (d.counts k) (view_of w begun u.regs u.bytes)
    opened : activations v env s n ≡ activations_of v u.pc calls begun views

  -- as long as it is tidy
  abbrev I : ℕ → State → List ℕ → Carried → Type 0
  I n u calls d = IsTidy v w env s n → Stands n u calls d

  -- the count after a step, by where it comes from
  count_is : (n : ℕ) (d f : Carried) (x : Stepped) → KeptStep env s (unasked l) n d f x → f.counts k ≡ count_step (unasked l) (source_of x.moved (run env s n).state.pc d.returns) (Some (step env (run env s n).state).state.pc) d.counts k
  count_is n d f x kept =
      let w = went_at env (run env s n).state x kept.went in
      sym (ap (λ counts. counts k) kept.counts)
      ∙ (ap (λ v. count_step (unasked l) (source_of x.moved v d.returns) (Some x.next) d.counts k) w.0
      ∙ ap (λ v. count_step (unasked l) (source_of x.moved (run env s n).state.pc d.returns) (Some v) d.counts k) (sym w.1))

  -- ---- over an edge of an instruction that is no call
  module _ (u : State) (rs : List ℕ) (at : At t u rs) (x : Stepped) (went : (step env u).end ≡ Went x) (begun : List ℕ) (xs : List View)
      (now : Holds t env ok code is fine v w inv laid input u at.calls begun xs) (tidy : IsTidyStep w u.pc (activations_of v u.pc at.calls begun xs) u.bytes (step env u).state.bytes) where
    abbrev next : State
    next = (step env u).state

    -- a doubtful step leaves the words that are kept for the function that runs
    own : w.doubtful u.pc ≡ true → AreKept w u.bytes next.bytes (record { function = v.function u.pc; stack = reg begun 2 })
    own d = (tidy d).0

    there : (i : Instr) × (instr_at t u.pc ≡ Some i)
    there = let q = kind_facts t u.pc (fine at.function u.pc at.reached) in (q.2.0, q.2.1)

    abbrev i : Instr
    i = there.0

    fetch : instr_of (word_at u.bytes u.pc) ≡ Some i
    fetch = fetched t env ok code is fine u rs at ∙ there.1

    possible_on : (b : ℕ) → next.pc ≡ b → IsPossible v u.pc i b
    possible_on b same h =
        possible env laid.keyless u (v.at u.pc) at.over.zero at.over.size now.told.registers.each now.memory (said i u.pc next.pc)
        (so_behind env laid.keyless u (v.at u.pc) at.over.zero at.over.size now.told.registers.each now.memory i x fetch went)
        (subst (λ n. IsImpossible (said i u.pc n) (v.at u.pc)) (sym same) h)

    started : next.pc ≡ h → Steps g u.pc next.pc → c.body u.pc ≡ false → F h 0 (view_of w begun next.regs next.bytes)
    started e steps off = fresh t g v w h (l.inside k) c cert (view_of w begun next.regs next.bytes)
        (starts_in env laid.keyless v w inv.offsets u at.over.zero at.over.size begun now.told i fetch x went own now.memory c h e
        (cert.starts u.pc i (subst (λ n. Steps g u.pc n) e steps) now.told.registers.live off there.1 (possible_on h e)))

    over_passed : (count : ℕ) (facts : F u.pc count (view_of w begun u.regs u.bytes)) (inside : c.body u.pc ≡ true) → Leads g u.pc next.pc → Steps g u.pc next.pc → Passed u.pc next.pc count (view_of w begun next.regs next.bytes)
    over_passed count facts inside leads steps = record {
      anew = λ e off. absurd (both_ways (c.body u.pc) off inside);
      turn = λ e _.
          let q = cert.turns u.pc i (subst (λ n. Steps g u.pc n) e steps) now.told.registers.live inside there.1 (possible_on h e) in
          turned t g v w h (l.inside k) c cert count facts.first facts.second (view_of w begun next.regs next.bytes) q.first q.second
          (place_over env laid.keyless v w inv.offsets u at.over.zero at.over.size begun now.told i fetch x went own c cert.ground count facts c.first q.first q.first_over)
          (place_over env laid.keyless v w inv.offsets u at.over.zero at.over.size begun now.told i fetch x went own c cert.ground count facts c.second q.second q.second_over) q.moved
          (touches env laid.keyless v w inv.offsets u at.over.zero at.over.size begun now.told i fetch x went own c cert.ground count facts now.memory laid h e q.touched);
      on = λ other _ on. record {
        first = facts.first;
        second = facts.second;
        good = facts.good;
        rows = λ r q. row_over env laid.keyless v w inv.offsets u at.over.zero at.over.size begun now.told i fetch x went own c cert.ground count facts r q (c.row next.pc r)
            (cert.along u.pc next.pc r i steps now.told.registers.live inside on other there.1 (possible_on next.pc refl) q);
        words = λ j. word_over env laid.keyless v w inv.offsets u at.over.zero at.over.size begun now.told i fetch x went own c cert.ground count facts j (c.word next.pc j)
            (cert.along_words u.pc next.pc j i steps now.told.registers.live inside on other there.1 (possible_on next.pc refl));
        touched = λ q. touches env laid.keyless v w inv.offsets u at.over.zero at.over.size begun now.told i fetch x went own c cert.ground count facts now.memory laid next.pc refl
            (cert.along_touched u.pc next.pc i steps now.told.registers.live inside on other there.1 (possible_on next.pc refl) q);
        holder = holder_over env laid.keyless v w inv.offsets u at.over.zero at.over.size begun now.told i fetch x went own c cert.ground count facts now.memory laid (c.holder next.pc)
            (cert.along_holder u.pc next.pc i steps now.told.registers.live inside on other there.1 (possible_on next.pc refl));
      };
    }

  -- ---- behind a call
  module _ (u : ℕ) (y : View) (next : State) (back : Returned t env ok code is fine v w inv laid input u y next) (count : ℕ) (facts : F u count y) (inside : c.body u ≡ true) where
    abbrev then : View
    then = view_of w y.begun next.regs next.bytes

    row_back : (r : ℕ) → IsRegister r → (b : Option Trace) → IsRowBack t v w c u back.to r b → IsTraced b facts.first facts.second (reg next.regs r)
    row_back r is b q = ⊎_elim (λ (n : b ≡ None). subst (λ o. IsTraced o facts.first facts.second (reg next.regs r)) (sym n) tt)
        (λ (n : IsRestored t v w u back.to r × IsWider b (c.row u r)).
        wider_in b (c.row u r) facts.first facts.second (reg next.regs r) (same_in (c.row u r) facts.first facts.second (reg y.regs r) (reg next.regs r) (sym (back.alike r is n.0).0) (facts.rows r is)) n.1) q

    word_back : (j : ℕ) (b : Option Trace) → IsWordBack v w c u back.to j b → IsTraced b facts.first facts.second (then.words j)
    word_back j b q = ⊎_elim (λ (n : b ≡ None). subst (λ o. IsTraced o facts.first facts.second (then.words j)) (sym n) tt)
        (λ (n : IsSafe v w u back.to j × IsWider b (c.word u j)).
        wider_in b (c.word u j) facts.first facts.second (then.words j) (subst (λ m. IsTraced (c.word u j) facts.first facts.second m) (sym (back.safe j n.0)) (facts.words j)) n.1) q

    place_back : (p : Place) (b : Option Trace) → IsPlaceBack t v w c u back.to p b → IsTraced b facts.first facts.second (number_in p then)
    place_back (in_register r) b q = row_back r q.0 b q.1
    place_back (in_word j) b q = word_back j b q

    holder_back : (b : Option ℕ) → IsHolderBack t v w c u back.to b → (r : ℕ) → b ≡ Some r → IsGiven w.areas w.fixed c (aimed c facts.first facts.second) (reg next.regs r)
    holder_back b q r is = ⊎_elim (λ (none : b ≡ None). let e : None ≡ Some r = sym none ∙ is in let bad : ⊥ = cc in absurd bad)
        (λ (n : (j : ℕ) × IsRegister j × (b ≡ Some j) × (c.holder u ≡ Some j) × IsRestored t v w u back.to j).
        let same : Some n.0 ≡ Some r = sym n.2 ∙ is in
        let e : n.0 ≡ r = cc in
        subst (λ j. IsGiven w.areas w.fixed c (aimed c facts.first facts.second) (reg next.regs j)) e
        (given_same w.areas w.fixed c (aimed c facts.first facts.second) (reg y.regs n.0) (reg next.regs n.0) (sym (back.alike n.0 n.1 n.4).0) (facts.holder n.0 n.3))) q

    back_passed : Leads g u next.pc → Passed u next.pc count then
    back_passed leads = record {
      anew = λ e off. absurd (both_ways (c.body u) off inside);
      turn = λ e _.
          let q = cert.turns_back u back.to back.call (subst (λ n. Leads g u n) e leads) back.told.registers.live inside in
          turned t g v w h (l.inside k) c cert count facts.first facts.second then q.first q.second
          (place_back c.first q.first q.first_back) (place_back c.second q.second q.second_back) q.moved (facts.touched q.touched);
      on = λ other _ on. record {
        first = facts.first;
        second = facts.second;
        good = facts.good;
        rows = λ r q. row_back r q (c.row next.pc r) (cert.back u back.to next.pc r back.call leads back.told.registers.live inside on other q);
        words = λ j. word_back j (c.word next.pc j) (cert.back_words u back.to next.pc j back.call leads back.told.registers.live inside on other);
        touched = λ q. facts.touched (cert.back_touched u back.to next.pc back.call leads back.told.registers.live inside on other q);
        holder = holder_back (c.holder next.pc) (cert.back_holder u back.to next.pc back.call leads back.told.registers.live inside on other);
      };
    }

  goes : (n : ℕ) (d f : Carried) (x : Stepped) → KeptStep env s (unasked l) n d f x → (at : At t (run env s n).state d.returns) →
      (on : Onward t env ok code is fine (run env s n).state (step env (run env s n).state).state at.calls f.returns x.moved) →
      I n (run env s n).state at.calls d → I (suc n) (step env (run env s n).state).state on.at.calls f
  goes n d f x kept at on was tidy = by_way on.way
    where
      u : State
      u = (run env s n).state

      next : State
      next = (step env u).state

      now : Stands n u at.calls d
      now = was (tidy_before v w env s n tidy)

      this : IsTidyStep w u.pc (activations_of v u.pc at.calls now.begun now.views) u.bytes next.bytes
      this = tidy_step v w env s n (activations_of v u.pc at.calls now.begun now.views) now.opened kept.state tidy

      counted_as : (o : Option ℕ) → source_of x.moved u.pc d.returns ≡ o → f.counts k ≡ count_step (unasked l) o (Some next.pc) d.counts k
      counted_as o e = count_is n d f x kept ∙ ap (λ q. count_step (unasked l) q (Some next.pc) d.counts k) e

      stands : (calls : List ℕ) (count : ℕ) (begun : List ℕ) (xs : List View) → f.counts k ≡ count → on.at.calls ≡ calls → Holds t env ok code is fine v w inv laid input next calls begun xs →
          M next.pc calls xs count (view_of w begun next.regs next.bytes) → activations v env s (suc n) ≡ activations_of v next.pc calls begun xs → Stands (suc n) next on.at.calls f
      stands calls count begun xs e q holds m opened = record {
        begun = begun;
        views = xs;
        holds = subst (λ y. Holds t env ok code is fine v w inv laid input next y begun xs) (sym q) holds;
        mode = subst (λ y. M next.pc on.at.calls xs y (view_of w begun next.regs next.bytes)) (sym e)
            (subst (λ y. M next.pc y xs count (view_of w begun next.regs next.bytes)) (sym q) m);
        opened = subst (λ y. activations v env s (suc n) ≡ activations_of v next.pc y begun xs) (sym q) opened;
      }

      by_way : Way g u.pc next.pc at.calls on.at.calls x.moved → Stands (suc n) next on.at.calls f
      by_way (over_edge leads steps after moved) =
          let then = over_holds t env ok code is fine v w inv laid input u d.returns at x kept.went on.at.over now.begun now.views now.holds this leads steps in
          stands at.calls (after_edge t g v w h (l.inside k) c cert F fewer_than begins_anew u.pc next.pc (d.counts k)) now.begun now.views (counted_as (Some u.pc) (ap (λ m. source_of m u.pc d.returns) moved)) after then
          (along_edge t g v w h (l.inside k) c cert F fewer_than begins_anew u.pc next.pc leads now.holds.told.registers.live at.calls now.views (d.counts k) (view_of w now.begun u.regs u.bytes) (view_of w now.begun next.regs next.bytes)
          (λ e off. started u d.returns at x kept.went now.begun now.views now.holds this e steps off)
          (λ inside facts. over_passed u d.returns at x kept.went now.begun now.views now.holds this (d.counts k) facts inside leads steps) now.mode)
          (open_over v env s n x at.calls now.begun now.views kept.went moved (inv.functions u.pc next.pc leads) now.opened)
      by_way (into_call call after moved) =
          let seen : View = view_of w now.begun u.regs u.bytes in
          let then = call_holds t env ok code is fine v w inv laid input u d.returns at x kept.went on.at.over now.begun now.views now.holds this moved call in
          stands (u.pc ∷ at.calls) (after_call_to t g v w h (l.inside k) c cert F fewer_than begins_anew next.pc (d.counts k)) next.regs (seen ∷ now.views) (counted_as None (ap (λ m. source_of m u.pc d.returns) moved)) after then
          (along_call t g v w h (l.inside k) c cert F fewer_than begins_anew u.pc next.pc call now.holds.told.registers.live at.calls now.views seen (d.counts k) (view_of w next.regs next.regs next.bytes) at.over.zero
          (λ e. unstarted (cert.starts_called u.pc (subst (λ n. Calls g u.pc n) e call) now.holds.told.registers.live) (view_of w next.regs next.regs next.bytes)) now.mode)
          (open_call v env s w n x at.calls now.begun now.views kept.went moved now.opened)
      by_way (back_to z e to us before after lt from returns call leads moved) =
          let stack : IsStack (kind_at t) t.entry at.function (z ∷ us) = subst (λ y. IsStack (kind_at t) t.entry at.function y) before at.stack in
          let z_small : z < 2 ^ 32 = site_small t env ok code is fine at.function z us stack in
          let source : source_of x.moved u.pc d.returns ≡ Some z =
          ap (λ m. source_of m u.pc d.returns) moved ∙ (ap (λ y. source_of Return u.pc y) (at.returns ∙ ap (map after_call) before) ∙ ap Some (site_back z z_small)) in
          let b = back_holds t env ok code is fine v w inv laid input u d.returns at x kept.went on.at.over now.begun now.views now.holds this z e us before lt from returns leads in
          stands us (after_edge t g v w h (l.inside k) c cert F fewer_than begins_anew z next.pc (d.counts k)) b.0.begun b.1 (counted_as (Some z) source) after b.3
          (along_return t g v w h (l.inside k) c cert F fewer_than begins_anew u.pc z next.pc b.4.to leads b.4.call b.4.told.registers.live us b.1 b.0 (d.counts k) (view_of w now.begun u.regs u.bytes) (view_of w b.0.begun next.regs next.bytes)
          (λ e off. unstarted (cert.starts_back z b.4.to b.4.call (subst (λ n. Leads g z n) e leads) b.4.told.registers.live off) (view_of w b.0.begun next.regs next.bytes))
          (λ zero_before inside facts. back_passed z b.0 next b.4 (d.counts k) facts inside leads)
          (subst (λ y. M u.pc (z ∷ us) y (d.counts k) (view_of w now.begun u.regs u.bytes)) b.2
          (subst (λ y. M u.pc y now.views (d.counts k) (view_of w now.begun u.regs u.bytes)) before now.mode)))
          (open_back v env s n x at.calls now.begun now.views z us b.0 b.1 kept.went moved before b.2 (inv.functions z next.pc leads) now.opened)

  begins : I 0 s [] carried_first
  begins tidy = record { begun = s.regs; views = []; holds = record { told = starts; frames = ap v.function at_entry; memory = bytes }; mode = at_level (go (c.body s.pc) refl); opened = open_first v env s }
    where
      fresh_view : View
      fresh_view = view_of w s.regs s.regs s.bytes

      go : (b : Bool) → c.body s.pc ≡ b → Level t g v w h (l.inside k) c cert F fewer_than begins_anew s.pc [] 0 fresh_view
      go false out = elsewhere out tt (no_turns c.least c.width)
      go true inside =
          let here : s.pc ≡ h = at_entry ∙ cert.entry (subst (λ y. c.body y ≡ true) at_entry inside) in
          subst (λ y. Level t g v w h (l.inside k) c cert F fewer_than begins_anew y [] 0 fresh_view) (sym here) (within cert.first (unstarted (cert.starts_entry (sym at_entry ∙ here)) fresh_view) tt)

  pub counts_within : (n : ℕ) → IsTidy v w env s n → (d : Carried) → kept_at env s (unasked l) n ≡ Some d → d.counts k * c.least ≤ c.width
  counts_within n tidy d kept = (along t env ok code is fine s over at_entry (unasked l) I (λ m d. IsTidy v w env s m → d.counts k * c.least ≤ c.width) begins
      (λ m u calls d stands tidy.
      let y = stands tidy in turned_so t g v w h (l.inside k) c cert F fewer_than begins_anew u.pc calls y.views (d.counts k) (view_of w y.begun u.regs u.bytes) y.mode)
      (λ m d few tidy. few (tidy_before v w env s m tidy)) goes n d kept).0 tidy

pub walks_bound : WalkCertificatesBoundTurns
walks_bound t env s code v w l k c start reached inv laid starts bytes input cert n tidy d kept =
    counts_within t env start.text code reached.lists reached.words v w inv laid input s start.state start.entry l k c cert starts bytes n tidy d kept
