-- What tables of the stack say is so along a run whose returns go back to their calls.
use Rattle.std.proofs.Common.{◌≡◌, ℕ, suc, ◌+◌, ◌*◌, ◌<◌, ◌%◌, ◌^◌, arith, true, false, ⊎_elim, List, [], ◌∷◌, refl, sym, ap, ◌∙◌, subst, Option, Some, None}
use Rattle.std.specs.Prelude.{All}
use Rattle.scale_base.specs.declared.instruction.Instr.{Instr}
use Rattle.scale_base.specs.declared.stepping.Move.TheVariants.{Call}
use Rattle.scale_base.specs.declared.stepping.Stepped.{Stepped}
use Rattle.scale_base.specs.declared.stepping.StepEnd.TheVariants.{Went}
use Rattle.scale_base.specs.State.{Setting, State, reg, word_at}
use Rattle.scale_base.specs.Reading.{instr_of}
use Rattle.scale_base.specs.Step.{step}
use Rattle.scale_base.specs.Run.{GoesOn, run}
use Rattle.cost_theory.specs.Graph.{Graph, Loops}
use Rattle.cost_theory.specs.Reached.{Code, IsCodeOf, HasNoBadWord}
use Rattle.code_text.specs.Text.{Text, instr_at, kind_at}
use Rattle.code_text.specs.TextGraph.{text_graph}
use Rattle.code_text.proofs.Laws.{kind_facts}
use Rattle.graph_runs.specs.TextStates.{IsTextOf, IsOverText}
use Rattle.graph_runs.specs.RunTransitions.{StandsBy}
use Rattle.graph_runs.specs.KeptSteps.{Carried, carried_first}
use Rattle.graph_runs.specs.KeptRuns.{kept_at}
use Rattle.bound_laws.specs.Registers.{Measure, measured, keeps, effect}
use Rattle.bound_laws.specs.Turning.{unasked, Leads, Calls}
use Rattle.bound_laws.specs.Values.{IsHeld, Values, IsRegister, AreBytes, Said, said, IsImpossible, keeps_of, keeps_at, passed, Steps}
use Rattle.bound_laws.proofs.Laws.{KeptStep, steps_leave, steps_add, IsSo as SoOf, passed_in, so_behind, possible, step_bytes, At, Way, Onward, fetched, over_edge, into_call, back_to, all_returns, measure_adds, nothing_more}
use Rattle.stack_laws.specs.Cells.{IsCellHeld}
use Rattle.stack_laws.specs.Fixed.{AreFixedIn}
use Rattle.stack_laws.specs.Areas.{IsLaidOut}
use Rattle.stack_laws.specs.Stacks.{Stacks, View, view_of, word_address, IsNamed, name_of, IsStoredFrom, IsMissed, IsSparing, IsCellKept, IsRestored, IsSafe, IsStackInvariant, AreTold}
use Rattle.stack_laws.specs.Stacks.Name.{of_word}
use Rattle.stack_laws.specs.Counting.{Counter, counted, HasRegisters, IsAdded}
use Rattle.stack_laws.specs.Counting.Counter.{in_registers, in_word}
use Rattle.stack_laws.specs.Tidy.{AreKept, IsTidyStep, IsTidy, activations}
use Rattle.stack_laws.specs.Laws.{StackValuesHold}
use Rattle.std.proofs.lemmas.Nat.{mod_below}
use Rattle.stack_laws.proofs.Covering.{IsSo}
use Rattle.stack_laws.proofs.Stepping.{name_held, span_held, far_keeps, misses, spares, puts, gets}
use Rattle.stack_laws.proofs.Written.{numbers, results}
use Rattle.stack_laws.proofs.Cells.{cell_kept, reads}
use Rattle.stack_laws.proofs.Areas.{accesses}
use Rattle.stack_laws.proofs.Fixed.{fixed_kept, reads_aligned}
use Rattle.stack_laws.proofs.Moving.{call_links}
use Rattle.stack_laws.proofs.Frames.{Frame, Frames, IsLeft, AreAlike, step_frames, call_frames, return_frames, frame, alike, safe_is, waiting}
use Rattle.stack_laws.proofs.Tidy.{activations_of, tidy_before, tidy_step, open_first, open_over, open_call, open_back}
use Rattle.stack_laws.proofs.Inductions.{along}

word_left : (shift factor before after e : ℕ) → after ≡ before → e ≡ 0 → (shift + factor * after) % 2 ^ 32 ≡ ((shift + factor * before) % 2 ^ 32 + e) % 2 ^ 32
word_left shift factor before after e same none =
    ap (λ n. (shift + factor * n) % 2 ^ 32) same
    ∙ (sym (nothing_more ((shift + factor * before) % 2 ^ 32) (mod_below (shift + factor * before) (2 ^ 32) (omega arith))) ∙ ap (λ n. ((shift + factor * before) % 2 ^ 32 + n) % 2 ^ 32) (sym none))

word_moved : (shift factor before after more e : ℕ) → after ≡ (before + more) % 2 ^ 32 → e ≡ factor * more % 2 ^ 32 → (shift + factor * after) % 2 ^ 32 ≡ ((shift + factor * before) % 2 ^ 32 + e) % 2 ^ 32
word_moved shift factor before after more e is adds =
    ap (λ n. (shift + factor * n) % 2 ^ 32) is ∙ (measure_adds (2 ^ 32) shift factor before more ∙ ap (λ n. ((shift + factor * before) % 2 ^ 32 + n) % 2 ^ 32) (sym adds))

module _ (t : Text) (env : Setting) (ok : IsTextOf t env) (code : Code) (is : IsCodeOf (kind_at t) t.entry code) (fine : HasNoBadWord (kind_at t) t.entry)
    (v : Values) (w : Stacks) (inv : IsStackInvariant t (text_graph t code) v w) (laid : IsLaidOut env.layout w.areas w.fixed) (input : All (λ x. x < 256) env.input) where
  -- at a state, within these calls, before which the functions that wait saw these views, in a function that began with these registers
  pub record Holds (u : State) (calls : List ℕ) (begun : List ℕ) (xs : List View) : Type 0 where
    pub told : AreTold v w u.pc (view_of w begun u.regs u.bytes)
    pub frames : Frames t (text_graph t code) v w inv u.pc begun u.bytes calls xs
    pub memory : AreBytes u.bytes

  -- behind a return: the call and what is as it was before
  pub record Returned (u : ℕ) (x : View) (after : State) : Type 0 where
    pub to : ℕ
    pub call : Calls (text_graph t code) u to
    pub told : AreTold v w u x
    pub alike : (r : ℕ) → IsRegister r → IsRestored t v w u to r → AreAlike t (text_graph t code) v w inv x.regs after.regs r × (reg x.regs r < 2 ^ 32 → reg after.regs r < 2 ^ 32)
    pub safe : (k : ℕ) → IsSafe v w u to k → (view_of w x.begun after.regs after.bytes).words k ≡ x.words k

  module _ (u : State) (rs : List ℕ) (at : At t u rs) (x : Stepped) (went : (step env u).end ≡ Went x) (over : IsOverText t (step env u).state) (begun : List ℕ) (xs : List View) (now : Holds u at.calls begun xs) (tidy : IsTidyStep w u.pc (activations_of v u.pc at.calls begun xs) u.bytes (step env u).state.bytes) where
    abbrev next : State
    next = (step env u).state

    abbrev g : Graph
    g = text_graph t code

    facts : (i : Instr) × (instr_at t u.pc ≡ Some i)
    facts = let k = kind_facts t u.pc (fine at.function u.pc at.reached) in (k.2.0, k.2.1)

    abbrev i : Instr
    i = facts.0

    fetch : instr_of (word_at u.bytes u.pc) ≡ Some i
    fetch = fetched t env ok code is fine u rs at ∙ facts.1

    kept : (r : ℕ) → keeps r i ≡ true → reg next.regs r ≡ reg u.regs r
    kept r h = steps_leave env u i r fetch h

    leaves : (r : ℕ) → keeps_at t r u.pc ≡ true → reg next.regs r ≡ reg u.regs r
    leaves r h = kept r (subst (λ o. keeps_of r o ≡ true) facts.1 h)

    holds : (r : ℕ) → IsRegister r → IsHeld (passed i u.pc next.pc (v.at u.pc) r) (reg next.regs r)
    holds r k = passed_in env laid.keyless u (v.at u.pc) at.over.zero at.over.size now.told.registers.each now.memory i r x fetch went k

    adds : (m : Measure) (e : ℕ) → IsRegister m.register → IsRegister m.other → effect m i ≡ Some e → measured m next.regs ≡ (measured m u.regs + e) % 2 ^ 32
    adds m e a b does = steps_add env u x i m e fetch went (let z = at.over.size in let y = a.1 in omega arith) (let z = at.over.size in let y = b.1 in omega arith) does

    so_of : (o : Option Said) → SoOf env laid.keyless u (v.at u.pc) at.over.zero at.over.size now.told.registers.each now.memory o → IsSo u.regs o
    so_of None h = tt
    so_of (Some y) h = h

    so : IsSo u.regs (said i u.pc next.pc)
    so = so_of (said i u.pc next.pc) (so_behind env laid.keyless u (v.at u.pc) at.over.zero at.over.size now.told.registers.each now.memory i x fetch went)

    none : IsImpossible (said i u.pc next.pc) (v.at u.pc) → ⊥
    none h = possible env laid.keyless u (v.at u.pc) at.over.zero at.over.size now.told.registers.each now.memory (said i u.pc next.pc) (so_behind env laid.keyless u (v.at u.pc) at.over.zero at.over.size now.told.registers.each now.memory i x fetch went) h

    bytes : AreBytes next.bytes
    bytes = step_bytes env input u now.memory

    -- the words of the function that runs, and those of the functions that wait
    own : w.doubtful u.pc ≡ true → AreKept w u.bytes next.bytes (record { function = v.function u.pc; stack = reg begun 2 })
    own d = (tidy d).0

    outer : IsTidyStep w u.pc (waiting v at.calls xs) u.bytes next.bytes
    outer d = (tidy d).1

    left : (e : ℕ) → e < g.edges → g.source e ≡ u.pc → IsLeft t g v w inv u.pc u.pc begun u.bytes next.bytes
    left e lt from k q spared place small above = spares env laid.keyless v w inv.offsets u at.over.zero at.over.size begun now.told i fetch k q
        (subst (λ a. IsSparing v w a i k) from (inv.spares k e i lt (ap v.live from ∙ now.told.registers.live) (ap (w.spared k) from ∙ spared) (ap (instr_at t) from ∙ facts.1))) place small above

    cells : (e : ℕ) → e < g.edges → g.source e ≡ u.pc → (k : ℕ) → IsCellHeld (w.cell k) next.bytes
    cells e lt from k = cell_kept env laid.keyless v w inv.offsets u at.over.zero at.over.size begun now.told i fetch x went k
        (subst (λ a. IsCellKept v a i (w.cell k)) from (inv.cells k e i lt (ap v.live from ∙ now.told.registers.live) (ap (instr_at t) from ∙ facts.1)))

    fixed : AreFixedIn w.fixed next.bytes
    fixed = fixed_kept env u x went w.fixed laid.unwritten now.told.fixed

    -- what the step adds to a counter
    pub counts_on : (c : Counter) (e : ℕ) → HasRegisters c → ((j : Instr) → instr_at t u.pc ≡ Some j → IsAdded v w c u.pc j e) → counted c (view_of w begun next.regs next.bytes) ≡ (counted c (view_of w begun u.regs u.bytes) + e) % 2 ^ 32
    counts_on (in_registers m) e small does = steps_add env u x i m e fetch went (let z = at.over.size in let y = small.0 in omega arith) (let z = at.over.size in let y = small.1 in omega arith) (does i facts.1)
    counts_on (in_word k factor shift) e small does = ⊎_elim
        (λ (q : IsMissed v w u.pc i k × (e ≡ 0)).
        word_left shift factor (word_at u.bytes (word_address w begun k)) (word_at next.bytes (word_address w begun k)) e (misses env laid.keyless v w inv.offsets u at.over.zero at.over.size begun now.told i fetch own k q.0) q.1)
        (λ (q : (r : ℕ) × (more : ℕ) × IsStoredFrom w u.pc i k r × (name_of w u.pc r ≡ Some (of_word k more)) × (e ≡ factor * more % 2 ^ 32)).
        let name : IsNamed (Some (of_word k q.1)) (view_of w begun u.regs u.bytes) (reg u.regs q.0) = subst (λ n. IsNamed n (view_of w begun u.regs u.bytes) (reg u.regs q.0)) q.3 (name_held env laid.keyless v w inv.offsets u at.over.zero at.over.size begun now.told i fetch q.0) in
        let is : word_at next.bytes (word_address w begun k) ≡ (word_at u.bytes (word_address w begun k) + q.1) % 2 ^ 32 = puts env laid.keyless v w inv.offsets u at.over.zero at.over.size begun now.told i fetch x went k q.0 q.2 ∙ name.0 in
        word_moved shift factor (word_at u.bytes (word_address w begun k)) (word_at next.bytes (word_address w begun k)) q.1 e is q.4) (does i facts.1)

    pub over_holds : Leads g u.pc next.pc → Steps g u.pc next.pc → Holds next at.calls begun xs
    over_holds leads steps = record { told = both.0; frames = both.1; memory = bytes }
      where
        both : AreTold v w next.pc (view_of w begun next.regs next.bytes) × Frames t g v w inv next.pc begun next.bytes at.calls xs
        both = step_frames t g v w inv u.pc next.pc i begun u.regs next.regs u.bytes next.bytes facts.1 kept holds adds so none at.over.zero at.over.size over.zero over.size now.told now.memory bytes
            (misses env laid.keyless v w inv.offsets u at.over.zero at.over.size begun now.told i fetch own) (puts env laid.keyless v w inv.offsets u at.over.zero at.over.size begun now.told i fetch x went)
            (gets env laid.keyless v w inv.offsets u at.over.zero at.over.size begun now.told i fetch x went) (numbers env u at.over.size i fetch x went)
            (far_keeps env laid.keyless v w inv.offsets u at.over.zero at.over.size begun now.told i fetch) (name_held env laid.keyless v w inv.offsets u at.over.zero at.over.size begun now.told i fetch)
            (span_held env laid.keyless v w inv.offsets u at.over.zero at.over.size begun now.told i fetch) (results env u at.over.size i fetch x went)
            (left leads.0 leads.1 leads.2) (cells leads.0 leads.1 leads.2) fixed (reads env laid.keyless v w inv.offsets u at.over.zero at.over.size begun now.told i fetch x went)
            (reads_aligned env u i fetch x went) (accesses env laid.keyless v w inv.offsets u at.over.zero at.over.size begun now.told i fetch laid x went) at.calls xs outer leads steps now.frames

    pub call_holds : x.moved ≡ Call → Calls g u.pc next.pc → Holds next (u.pc ∷ at.calls) next.regs (view_of w begun u.regs u.bytes ∷ xs)
    call_holds moved call = record { told = both.0; frames = both.1; memory = bytes }
      where
        both : AreTold v w next.pc (view_of w next.regs next.regs next.bytes) × Frames t g v w inv next.pc next.regs next.bytes (u.pc ∷ at.calls) (view_of w begun u.regs u.bytes ∷ xs)
        both = call_frames t g v w inv u.pc next.pc i begun u.regs next.regs u.bytes next.bytes facts.1 kept holds adds so none at.over.zero at.over.size over.zero over.size now.told now.memory bytes
            (misses env laid.keyless v w inv.offsets u at.over.zero at.over.size begun now.told i fetch own) (puts env laid.keyless v w inv.offsets u at.over.zero at.over.size begun now.told i fetch x went)
            (gets env laid.keyless v w inv.offsets u at.over.zero at.over.size begun now.told i fetch x went) (numbers env u at.over.size i fetch x went)
            (far_keeps env laid.keyless v w inv.offsets u at.over.zero at.over.size begun now.told i fetch) (name_held env laid.keyless v w inv.offsets u at.over.zero at.over.size begun now.told i fetch)
            (span_held env laid.keyless v w inv.offsets u at.over.zero at.over.size begun now.told i fetch) (results env u at.over.size i fetch x went)
            (left call.0 call.2 call.3) (cells call.0 call.2 call.3) fixed (reads env laid.keyless v w inv.offsets u at.over.zero at.over.size begun now.told i fetch x went)
            (reads_aligned env u i fetch x went) (accesses env laid.keyless v w inv.offsets u at.over.zero at.over.size begun now.told i fetch laid x went) at.calls xs outer (call_links env u i fetch x went at.over.size moved) call now.frames

    -- at a return at least one call is open
    pub back_holds : (z e : ℕ) (us : List ℕ) → at.calls ≡ z ∷ us → e < g.edges → g.source e ≡ u.pc → g.returns e ≡ true → Leads g z next.pc → (y : View) × (rest : List View) × (xs ≡ y ∷ rest) × Holds next us y.begun rest × Returned z y next
    back_holds z e us before lt from returns leads = by xs refl
      where
        by : (ys : List View) → xs ≡ ys → (y : View) × (rest : List View) × (xs ≡ y ∷ rest) × Holds next us y.begun rest × Returned z y next
        by [] same = absurd (subst (λ ys. Frames t g v w inv u.pc begun u.bytes (z ∷ us) ys) same (subst (λ c. Frames t g v w inv u.pc begun u.bytes c xs) before now.frames))
        by (y ∷ rest) same = (
          y,
          rest,
          same,
          record { told = both.0; frames = both.1; memory = bytes },
          record {
            to = f.to;
            call = f.call;
            told = f.told;
            alike = λ r reg_is res. alike t g v w inv u.pc next.pc z e begun u.regs next.regs u.bytes next.bytes leaves over.zero over.size bytes lt from returns leads us y rest now.told (left e lt from) outer_are (cells e lt from) fixed frames_are r reg_is res;
            safe = safe_is t g v w inv u.pc next.pc z e begun u.regs next.regs u.bytes next.bytes leaves over.zero over.size bytes lt from returns leads us y rest now.told (left e lt from) outer_are (cells e lt from) fixed frames_are;
          },
        )
          where
            frames_are : Frames t g v w inv u.pc begun u.bytes (z ∷ us) (y ∷ rest)
            frames_are = subst (λ ys. Frames t g v w inv u.pc begun u.bytes (z ∷ us) ys) same (subst (λ c. Frames t g v w inv u.pc begun u.bytes c xs) before now.frames)

            outer_are : IsTidyStep w u.pc (waiting v (z ∷ us) (y ∷ rest)) u.bytes next.bytes
            outer_are = subst (λ ys. IsTidyStep w u.pc (waiting v (z ∷ us) ys) u.bytes next.bytes) same (subst (λ c. IsTidyStep w u.pc (waiting v c xs) u.bytes next.bytes) before outer)

            f : Frame t g v w inv u.pc begun next.bytes z y
            f = frame t g v w inv u.pc next.pc z e begun u.regs next.regs u.bytes next.bytes leaves over.zero over.size bytes lt from returns leads us y rest now.told (left e lt from) outer_are (cells e lt from) fixed frames_are

            both : AreTold v w next.pc (view_of w y.begun next.regs next.bytes) × Frames t g v w inv next.pc y.begun next.bytes us rest
            both = return_frames t g v w inv u.pc next.pc z e begun u.regs next.regs u.bytes next.bytes leaves over.zero over.size bytes lt from returns leads us y rest now.told (left e lt from) outer_are (cells e lt from) fixed frames_are

  module _ (s : State) (over : IsOverText t s) (at_entry : s.pc ≡ t.entry) (l : Loops) (starts : AreTold v w s.pc (view_of w s.regs s.regs s.bytes)) (bytes : AreBytes s.bytes) where
    -- as long as the run is tidy
    abbrev pub Stands : ℕ → State → List ℕ → Type 0
    Stands n u calls = (begun : List ℕ) × (xs : List View) × Holds u calls begun xs × (activations v env s n ≡ activations_of v u.pc calls begun xs)

    abbrev pub I : ℕ → State → List ℕ → Carried → Type 0
    I n u calls d = IsTidy v w env s n → Stands n u calls

    goes : (n : ℕ) (d f : Carried) (x : Stepped) → KeptStep env s l n d f x → (at : At t (run env s n).state d.returns) →
        (on : Onward t env ok code is fine (run env s n).state (step env (run env s n).state).state at.calls f.returns x.moved) →
        I n (run env s n).state at.calls d → I (suc n) (step env (run env s n).state).state on.at.calls f
    goes n d f x kept at on was tidy = by_way on.way
      where
        u : State
        u = (run env s n).state

        next : State
        next = (step env u).state

        now : Stands n u at.calls
        now = was (tidy_before v w env s n tidy)

        this : IsTidyStep w u.pc (activations_of v u.pc at.calls now.0 now.1) u.bytes next.bytes
        this = tidy_step v w env s n (activations_of v u.pc at.calls now.0 now.1) now.3 kept.state tidy

        same : (calls : List ℕ) → on.at.calls ≡ calls → Stands (suc n) next calls → Stands (suc n) next on.at.calls
        same calls e h = subst (λ c. Stands (suc n) next c) (sym e) h

        by_way : Way (text_graph t code) u.pc next.pc at.calls on.at.calls x.moved → Stands (suc n) next on.at.calls
        by_way (over_edge leads steps after moved) = same at.calls after (
          now.0,
          now.1,
          over_holds u d.returns at x kept.went on.at.over now.0 now.1 now.2 this leads steps,
          open_over v env s n x at.calls now.0 now.1 kept.went moved (inv.functions u.pc next.pc leads) now.3,
        )
        by_way (into_call call after moved) = same (u.pc ∷ at.calls) after (
          next.regs,
          view_of w now.0 u.regs u.bytes ∷ now.1,
          call_holds u d.returns at x kept.went on.at.over now.0 now.1 now.2 this moved call,
          open_call v env s w n x at.calls now.0 now.1 kept.went moved now.3,
        )
        by_way (back_to z e to us before after lt from returns call leads moved) =
            let b = back_holds u d.returns at x kept.went on.at.over now.0 now.1 now.2 this z e us before lt from returns leads in
            same us after (b.0.begun, b.1, b.3, open_back v env s n x at.calls now.0 now.1 z us b.0 b.1 kept.went moved before b.2 (inv.functions z next.pc leads) now.3)

    -- at each state of a run that is tidy and kept by some loops
    pub stands_at : (n : ℕ) → IsTidy v w env s n → (d : Carried) → kept_at env s l n ≡ Some d → (run env s n).standing ≡ GoesOn → (at : At t (run env s n).state d.returns) × Stands n (run env s n).state at.calls
    stands_at n tidy d kept e =
        let all = along t env ok code is fine s over at_entry l I (λ m c. Unit {0}) first (λ m u calls c h. tt) (λ m c h. h) goes n d kept in
        let p = subst (λ y. StandsBy y ((at : At t (run env s n).state d.returns) × I n (run env s n).state at.calls d)) e all.1 in
        (p.0, p.1 tidy)
      where
        first : I 0 s [] carried_first
        first tidy = (s.regs, [], record { told = starts; frames = ap v.function at_entry; memory = bytes }, open_first v env s)

pub stack_values_hold : StackValuesHold
stack_values_hold t env s code v w start reached inv laid starts bytes input n tidy rs returns e =
    let l : Loops = record { loops = 0; header = λ k. 0; bound = λ k. 0; least_trips = λ k. 0; inside = λ k v. false } in
    let k = all_returns env s l n rs returns in
    let p = stands_at t env start.text code reached.lists reached.words v w inv laid input s start.state start.entry (unasked l) starts bytes n tidy k.0 k.1 e in
    (p.1.0, p.1.2.told)
