-- A loop with a certificate of a lower bound is left only after so many turns.
use Rattle.std.proofs.Common.{◌≡◌, ℕ, suc, ◌+◌, ◌-◌, ◌*◌, ◌<◌, ◌≤◌, ◌%◌, ◌^◌, ⊎_elim, Bool, true, false, List, [], ◌∷◌, map, refl, sym, ap, ◌∙◌, subst, arith, Option, Some, None}
use Rattle.std.specs.Prelude.{All, not}
use Rattle.std.proofs.lemmas.Bool.{and_parts, both_ways, cond-false, ne_eqb, not-true}
use Rattle.std.proofs.Math.Nat.{mod-le}
use Rattle.scale_base.specs.declared.instruction.Instr.{Instr}
use Rattle.scale_base.specs.declared.stepping.Move.{Move}
use Rattle.scale_base.specs.declared.stepping.Move.TheVariants.{Local, Call, Return}
use Rattle.scale_base.specs.declared.stepping.Stepped.{Stepped}
use Rattle.scale_base.specs.declared.stepping.StepEnd.TheVariants.{Went}
use Rattle.scale_base.specs.Reading.{instr_of}
use Rattle.scale_base.specs.State.{Setting, State, reg, word_at}
use Rattle.scale_base.specs.Step.{step}
use Rattle.scale_base.specs.Run.{GoesOn, one_more_by, ended, run}
use Rattle.cost_theory.specs.Graph.{Graph, Loops, count_step}
use Rattle.cost_theory.specs.Reached.{Code, IsCodeOf, HasNoBadWord}
use Rattle.code_text.specs.Text.{Text, instr_at, kind_at}
use Rattle.code_text.specs.TextGraph.{text_graph}
use Rattle.code_text.proofs.Laws.{kind_facts}
use Rattle.graph_runs.specs.TextStates.{IsTextOf, IsOverText}
use Rattle.graph_runs.specs.ReturnAddresses.{returns_after}
use Rattle.graph_runs.specs.RunTransitions.{StandsBy, after_call, IsStack}
use Rattle.graph_runs.specs.KeptSteps.{Carried, carried_first, counts_after, kept_more, leaves_by, source_of}
use Rattle.graph_runs.specs.KeptRuns.{watched, kept_at}
use Rattle.graph_runs.proofs.Laws.{went_at, kept_parts}
use Rattle.bound_laws.specs.Turning.{unasked, Leads}
use Rattle.bound_laws.specs.Values.{Arc, IsIn, arc, IsRegister, Values, AreBytes, Steps}
use Rattle.bound_laws.proofs.Laws.{KeptStep, At, Onward, Way, fetched, onward, over_edge, into_call, back_to, kept_before, site_small, site_back}
use Rattle.stack_laws.specs.Areas.{IsLaidOut}
use Rattle.stack_laws.specs.Stacks.{Stacks, View, view_of, IsRestored, IsStackInvariant, AreTold}
use Rattle.stack_laws.specs.Counting.{Counter, counted, IsKeptBy, IsLeftBy}
use Rattle.stack_laws.specs.Counting.Counter.{in_registers, in_word}
use Rattle.stack_laws.specs.Tidy.{activations, AreKept, IsTidyStep, IsTidy}
use Rattle.stack_laws.proofs.Laws.{activations_of, along, tidy_before, tidy_step, open_first, open_over, open_call, open_back, Holds, Returned, over_holds, call_holds, back_holds}
use Rattle.lower_bounds.specs.LowerBounds.{LowerCertificate, IsLowerCertificate, IsLate, IsNever, IsCountedOver, from_on, too_great}
use Rattle.lower_bounds.specs.Laws.{LowerCertificatesBoundTurns}
use Rattle.lower_bounds.proofs.Transitions.{counted_on, counted_over, never}
use Rattle.lower_bounds.proofs.Modes.{Mode, along_edge, along_call, along_return, after_edge, after_call_to, out_late}
use Rattle.lower_bounds.proofs.Modes.Mode.{at_level}
use Rattle.lower_bounds.proofs.Modes.Level.{elsewhere}
use Rattle.lower_bounds.proofs.Naming.{measured_same}

from_zero : (first x : ℕ) → x < 2 ^ 32 → (x + (2 ^ 32 - 0)) % 2 ^ 32 ≤ first → x ≤ first
from_zero first x a b = omega arith

from_low : (low x : ℕ) → low < 2 ^ 32 → x < 2 ^ 32 → (x + (2 ^ 32 - low)) % 2 ^ 32 ≤ 2 ^ 32 - 1 - low → low ≤ x
from_low low x a b c = omega arith

less_added : (before adds after : ℕ) → after ≡ (before + adds) % 2 ^ 32 → after ≤ before + adds
less_added before adds after is = let m = mod-le (before + adds) (2 ^ 32) in omega arith

module _ (t : Text) (env : Setting) (ok : IsTextOf t env) (code : Code) (is : IsCodeOf (kind_at t) t.entry code) (fine : HasNoBadWord (kind_at t) t.entry)
    (v : Values) (w : Stacks) (inv : IsStackInvariant t (text_graph t code) v w) (laid : IsLaidOut env.layout w.areas w.fixed) (input : All (λ x. x < 256) env.input)
    (s : State) (over : IsOverText t s) (at_entry : s.pc ≡ t.entry) (l : Loops) (k trips : ℕ) (c : LowerCertificate)
    (cert : IsLowerCertificate t (text_graph t code) v w (l.header k) (l.inside k) trips c)
    (starts : AreTold v w s.pc (view_of w s.regs s.regs s.bytes)) (bytes : AreBytes s.bytes) where
  abbrev g : Graph
  g = text_graph t code

  abbrev h : ℕ
  h = l.header k

  abbrev extent : ℕ → Bool
  extent = l.inside k

  abbrev value : List ℕ → State → ℕ
  value begun u = counted c.counter (view_of w begun u.regs u.bytes)

  -- a run is where the tables hold, and in a mode of the certificate
  record Stands (n : ℕ) (u : State) (calls : List ℕ) (d : Carried) : Type 0 where
    begun : List ℕ
    views : List View
    holds : Holds t env ok code is fine v w inv laid input u calls begun views
    mode : Mode c u.pc calls views (d.counts k) (value begun u)
    opened : activations v env s n ≡ activations_of v u.pc calls begun views

  -- as long as it is tidy
  abbrev I : ℕ → State → List ℕ → Carried → Type 0
  I n u calls d = IsTidy v w env s n → Stands n u calls d

  -- the count after a step, by where it comes from
  count_by : (u : State) (x : Stepped) → (step env u).end ≡ Went x → (d f : Carried) → counts_after (unasked l) d x ≡ f.counts → f.counts k ≡ count_step (unasked l) (source_of x.moved u.pc d.returns) (Some (step env u).state.pc) d.counts k
  count_by u x went d f counts =
      let w = went_at env u x went in
      sym (ap (λ f. f k) counts)
      ∙ (ap (λ v. count_step (unasked l) (source_of x.moved v d.returns) (Some x.next) d.counts k) w.0
      ∙ ap (λ v. count_step (unasked l) (source_of x.moved u.pc d.returns) (Some v) d.counts k) (sym w.1))

  -- what is counted in is what it was before a call that came back
  still : (counter : Counter) (u : ℕ) (x : View) (after : State) (back : Returned t env ok code is fine v w inv laid input u x after) → reg x.regs 0 ≡ 0 → reg after.regs 0 ≡ 0 → IsKeptBy t v w u back.to counter →
      counted counter (view_of w x.begun after.regs after.bytes) ≡ counted counter x
  still (in_registers m) u x after back zero_before zero_after kept = measured_same m x.regs after.regs (one m.register kept.0) (one m.other kept.1)
    where
      one : (r : ℕ) → IsLeftBy t v w u back.to r → reg after.regs r % 2 ^ 32 ≡ reg x.regs r % 2 ^ 32
      one r h = ⊎_elim
          (λ (z : r ≡ 0). subst (λ q. reg after.regs q % 2 ^ 32 ≡ reg x.regs q % 2 ^ 32) (sym z) (ap (λ n. n % 2 ^ 32) (zero_after ∙ sym zero_before)))
          (λ (q : IsRegister r × IsRestored t v w u back.to r). (back.alike r q.0 q.1).0) h
  still (in_word j factor shift) u x after back zero_before zero_after kept = ap (λ n. (shift + factor * n) % 2 ^ 32) (back.safe j kept)

  -- ---- a step of an instruction that is no call
  module _ (u : State) (rs : List ℕ) (at : At t u rs) (x : Stepped) (went : (step env u).end ≡ Went x) (ons : IsOverText t (step env u).state) (begun : List ℕ) (xs : List View)
      (now : Holds t env ok code is fine v w inv laid input u at.calls begun xs) (tidy : IsTidyStep w u.pc (activations_of v u.pc at.calls begun xs) u.bytes (step env u).state.bytes) (leads : Leads g u.pc (step env u).state.pc) (steps : Steps g u.pc (step env u).state.pc) where
    abbrev next : State
    next = (step env u).state

    -- a doubtful step leaves the words that are kept for the function that runs
    own : w.doubtful u.pc ≡ true → AreKept w u.bytes next.bytes (record { function = v.function u.pc; stack = reg begun 2 })
    own d = (tidy d).0

    there : (i : Instr) × (instr_at t u.pc ≡ Some i)
    there = let q = kind_facts t u.pc (fine at.function u.pc at.reached) in (q.2.0, q.2.1)

    abbrev i : Instr
    i = there.0

    fetch : instr_of (word_at u.bytes u.pc) ≡ Some i
    fetch = fetched t env ok code is fine u rs at ∙ there.1

    told_next : AreTold v w next.pc (view_of w begun next.regs next.bytes)
    told_next = (over_holds t env ok code is fine v w inv laid input u rs at x went ons begun xs now tidy leads steps).told

    adds : c.body u.pc ≡ true → value begun next ≤ value begun u + c.adds u.pc
    adds inside = less_added (value begun u) (c.adds u.pc) (value begun next)
        (counted_on env laid.keyless v w inv.offsets u at.over.zero at.over.size begun now.told now.memory i fetch x went own ons.zero ons.size told_next c.counter (c.adds u.pc) cert.registers (cert.effects u.pc next.pc i steps now.told.registers.live inside there.1))

    within_arc : (b : ℕ) (y : Arc) → next.pc ≡ b → IsCountedOver v w i u.pc b c.counter y → IsIn y (value begun next)
    within_arc b y same counts = counted_over env laid.keyless v w inv.offsets u at.over.zero at.over.size begun now.told now.memory i fetch x went own ons.zero ons.size told_next c.counter y cert.registers (subst (λ n. IsCountedOver v w i u.pc n c.counter y) (sym same) counts)

    no_way : (b : ℕ) → next.pc ≡ b → IsNever v i u.pc b → ⊥
    no_way b same h = never env laid.keyless v w inv.offsets u at.over.zero at.over.size begun now.told now.memory i fetch x went own ons.zero ons.size told_next (subst (λ n. IsNever v i u.pc n) (sym same) h)

    small : next.pc ≡ h → extent u.pc ≡ false → value begun next ≤ c.first
    small same off = ⊎_elim
        (λ (no : IsNever v i u.pc h). absurd (no_way h same no))
        (λ (counts : IsCountedOver v w i u.pc h c.counter (arc 0 c.first)). let q = within_arc h (arc 0 c.first) same counts in from_zero c.first (value begun next) q.word q.near)
        (cert.starts u.pc i (subst (λ n. Steps g u.pc n) same steps) now.told.registers.live off there.1)

    late : (count : ℕ) → extent u.pc ≡ true → extent next.pc ≡ false → Mode c u.pc at.calls xs count (value begun u) → trips ≤ count
    late count on off mode = ⊎_elim
        (λ (no : IsNever v i u.pc next.pc). absurd (no_way next.pc refl no))
        (λ (q : IsLate v w c trips u.pc i next.pc).
        let y = within_arc next.pc (from_on (too_great c trips u.pc)) refl q.great in
        out_late t g v w h extent trips c cert u.pc at.calls xs count (value begun u) (value begun next) q.inside q.apart (adds q.inside) (from_low (too_great c trips u.pc) (value begun next) y.start y.word y.near) mode)
        (cert.left u.pc next.pc i steps now.told.registers.live on off there.1)

  goes : (n : ℕ) (d f : Carried) (x : Stepped) → KeptStep env s (unasked l) n d f x → (at : At t (run env s n).state d.returns) →
      (on : Onward t env ok code is fine (run env s n).state (step env (run env s n).state).state at.calls f.returns x.moved) →
      I n (run env s n).state at.calls d → I (suc n) (step env (run env s n).state).state on.at.calls f
  goes n d f x kept at on was tidy = by_way on.way
    where
      u : State
      u = (run env s n).state

      next : State
      next = (step env u).state

      now : Stands n u at.calls d
      now = was (tidy_before v w env s n tidy)

      this : IsTidyStep w u.pc (activations_of v u.pc at.calls now.begun now.views) u.bytes next.bytes
      this = tidy_step v w env s n (activations_of v u.pc at.calls now.begun now.views) now.opened kept.state tidy

      counted_as : (o : Option ℕ) → source_of x.moved u.pc d.returns ≡ o → f.counts k ≡ count_step (unasked l) o (Some next.pc) d.counts k
      counted_as o e = count_by u x kept.went d f kept.counts ∙ ap (λ q. count_step (unasked l) q (Some next.pc) d.counts k) e

      stands : (calls : List ℕ) (count : ℕ) (begun : List ℕ) (xs : List View) → f.counts k ≡ count → on.at.calls ≡ calls → Holds t env ok code is fine v w inv laid input next calls begun xs → Mode c next.pc calls xs count (value begun next) → activations v env s (suc n) ≡ activations_of v next.pc calls begun xs → Stands (suc n) next on.at.calls f
      stands calls count begun xs e q holds m opened = record {
        begun = begun;
        views = xs;
        holds = subst (λ y. Holds t env ok code is fine v w inv laid input next y begun xs) (sym q) holds;
        mode = subst (λ y. Mode c next.pc on.at.calls xs y (value begun next)) (sym e) (subst (λ y. Mode c next.pc y xs count (value begun next)) (sym q) m);
        opened = subst (λ y. activations v env s (suc n) ≡ activations_of v next.pc y begun xs) (sym q) opened;
      }

      by_way : Way g u.pc next.pc at.calls on.at.calls x.moved → Stands (suc n) next on.at.calls f
      by_way (over_edge leads steps after moved) =
          let then = over_holds t env ok code is fine v w inv laid input u d.returns at x kept.went on.at.over now.begun now.views now.holds this leads steps in
          stands at.calls (after_edge t g v w h extent trips c cert u.pc next.pc (d.counts k)) now.begun now.views (counted_as (Some u.pc) (ap (λ m. source_of m u.pc d.returns) moved)) after then
          (along_edge t g v w h extent trips c cert u.pc next.pc leads now.holds.told.registers.live at.calls now.views (d.counts k) (value now.begun u) (value now.begun next)
          (adds u d.returns at x kept.went on.at.over now.begun now.views now.holds this leads steps)
          (small u d.returns at x kept.went on.at.over now.begun now.views now.holds this leads steps) now.mode)
          (open_over v env s n x at.calls now.begun now.views kept.went moved (inv.functions u.pc next.pc leads) now.opened)
      by_way (into_call call after moved) =
          let seen : View = view_of w now.begun u.regs u.bytes in
          let then = call_holds t env ok code is fine v w inv laid input u d.returns at x kept.went on.at.over now.begun now.views now.holds this moved call in
          stands (u.pc ∷ at.calls) (after_call_to t g v w h extent trips c cert next.pc (d.counts k)) next.regs (seen ∷ now.views) (counted_as None (ap (λ m. source_of m u.pc d.returns) moved)) after then
          (along_call t g v w h extent trips c cert u.pc next.pc call now.holds.told.registers.live at.calls now.views seen (d.counts k) (value next.regs next) at.over.zero now.mode)
          (open_call v env s w n x at.calls now.begun now.views kept.went moved now.opened)
      by_way (back_to z e to us before after lt from returns call leads moved) =
          let stack : IsStack (kind_at t) t.entry at.function (z ∷ us) = subst (λ y. IsStack (kind_at t) t.entry at.function y) before at.stack in
          let z_small : z < 2 ^ 32 = site_small t env ok code is fine at.function z us stack in
          let source : source_of x.moved u.pc d.returns ≡ Some z =
          ap (λ m. source_of m u.pc d.returns) moved ∙ (ap (λ y. source_of Return u.pc y) (at.returns ∙ ap (map after_call) before) ∙ ap Some (site_back z z_small)) in
          let b = back_holds t env ok code is fine v w inv laid input u d.returns at x kept.went on.at.over now.begun now.views now.holds this z e us before lt from returns leads in
          stands us (after_edge t g v w h extent trips c cert z next.pc (d.counts k)) b.0.begun b.1 (counted_as (Some z) source) after b.3
          (along_return t g v w h extent trips c cert u.pc z next.pc b.4.to leads b.4.call b.4.told.registers.live us b.1 b.0 (d.counts k) (value now.begun u) (value b.0.begun next)
          (λ zero_before inside. still c.counter z b.0 next b.4 zero_before on.at.over.zero (cert.calls z b.4.to b.4.call b.4.told.registers.live inside).2)
          (subst (λ y. Mode c u.pc (z ∷ us) y (d.counts k) (value now.begun u)) b.2 (subst (λ y. Mode c u.pc y now.views (d.counts k) (value now.begun u)) before now.mode)))
          (open_back v env s n x at.calls now.begun now.views z us b.0 b.1 kept.went moved before b.2 (inv.functions z next.pc leads) now.opened)

  begins : I 0 s [] carried_first
  begins tidy = record {
    begun = s.regs;
    views = [];
    holds = record { told = starts; frames = ap v.function at_entry; memory = bytes };
    mode = at_level (elsewhere (ap c.body at_entry ∙ cert.started) tt);
    opened = open_first v env s;
  }

  stands_at : (n : ℕ) → IsTidy v w env s n → (d : Carried) → kept_at env s (unasked l) n ≡ Some d → (run env s n).standing ≡ GoesOn → (at : At t (run env s n).state d.returns) × Stands n (run env s n).state at.calls d
  stands_at n tidy d kept e =
      let all = along t env ok code is fine s over at_entry (unasked l) I (λ m d. Unit {0}) begins (λ m u calls d h. tt) (λ m d h. h) goes n d kept in
      let p = subst (λ y. StandsBy y ((at : At t (run env s n).state d.returns) × I n (run env s n).state at.calls d)) e all.1 in
      (p.0, p.1 tidy)

  -- a local step leaves the loop, and its count stays
  leaves_so : (m : Move) (pc to : ℕ) → leaves_by m l pc to k ≡ true → (m ≡ Local) × (extent pc ≡ true) × (extent to ≡ false)
  leaves_so Local pc to h = let p = and_parts (extent pc) (not (extent to)) h in (refl, p.0, not-true (extent to) p.1)
  leaves_so Call pc to h = let bad : ⊥ = cc in absurd bad
  leaves_so Return pc to h = let bad : ⊥ = cc in absurd bad

  -- a step that leaves the loop leaves it late
  step_late : (n : ℕ) (u : State) (d f : Carried) (x : Stepped) → (step env u).end ≡ Went x → returns_after d.returns x ≡ Some f.returns → counts_after (unasked l) d x ≡ f.counts → (at : At t u d.returns) (now : Stands n u at.calls d) → IsTidyStep w u.pc (activations_of v u.pc at.calls now.begun now.views) u.bytes (step env u).state.bytes →
      leaves_by x.moved l x.pc x.next k ≡ true → trips ≤ f.counts k
  step_late n u d f x went returns counts at now this leaving = by_way on.way
    where
      next : State
      next = (step env u).state

      on : Onward t env ok code is fine u next at.calls f.returns x.moved
      on = onward t env ok code is fine u d.returns f.returns at x went returns

      left : (x.moved ≡ Local) × (extent u.pc ≡ true) × (extent next.pc ≡ false)
      left =
          let ends = went_at env u x went in
          leaves_so x.moved u.pc next.pc (subst (λ n. leaves_by x.moved l u.pc n k ≡ true) (sym ends.1) (subst (λ n. leaves_by x.moved l n x.next k ≡ true) ends.0 leaving))

      other : count_step (unasked l) (Some u.pc) (Some next.pc) d.counts k ≡ d.counts k
      other = cond-false _ _ _ (ne_eqb next.pc h (λ same. both_ways (extent next.pc) left.2 (subst (λ n. extent n ≡ true) (sym same) cert.holds)))

      same_count : f.counts k ≡ d.counts k
      same_count = count_by u x went d f counts ∙ (ap (λ q. count_step (unasked l) q (Some next.pc) d.counts k) (ap (λ m. source_of m u.pc d.returns) left.0) ∙ other)

      by_way : Way g u.pc next.pc at.calls on.at.calls x.moved → trips ≤ f.counts k
      by_way (over_edge leads steps after moved) =
          subst (λ n. trips ≤ n) (sym same_count) (late u d.returns at x went on.at.over now.begun now.views now.holds this leads steps (d.counts k) left.1 left.2 now.mode)
      by_way (into_call call after moved) = let bad : ⊥ = cc (moved, left.0) in absurd bad
      by_way (back_to z e to us before after lt from returns call leads moved) = let bad : ⊥ = cc (moved, left.0) in absurd bad

-- a step that goes on of what is kept
more_step : (env : Setting) (s : State) (l : Loops) (n : ℕ) (x : Stepped) (c d : Carried) → (run env s n).standing ≡ GoesOn → (step env (run env s n).state).end ≡ Went x → kept_at env s l n ≡ Some c → kept_at env s l (suc n) ≡ Some d → kept_more l (Some c) x ≡ Some d
unfolding kept_at
more_step env s l n x c d goes went before kept =
    subst (λ o. kept_more l o x ≡ Some d) before
    (subst (λ y. watched l (kept_at env s l n) GoesOn y ≡ Some d) went (subst (λ y. watched l (kept_at env s l n) y (step env (run env s n).state).end ≡ Some d) goes kept))

-- the state behind a step that goes on
went_state : (env : Setting) (s : State) (n : ℕ) (x : Stepped) → (run env s n).standing ≡ GoesOn → (step env (run env s n).state).end ≡ Went x → (run env s (suc n)).state ≡ (step env (run env s n).state).state
unfolding run
went_state env s n x goes went =
    ap (λ y. (one_more_by env (run env s n) y).state) goes ∙ ap (λ y. (ended (run env s n).steps y (step env (run env s n).state).state).state) went

pub left_late : LowerCertificatesBoundTurns
left_late t env s code v w l k trips c start reached inv laid starts bytes input cert n tidy d x goes went kept leaving =
    let b = kept_before env s (unasked l) (suc n) n d (omega arith) kept in
    let more : kept_more (unasked l) (Some b.0) x ≡ Some d = more_step env s (unasked l) n x b.0 d goes went b.1 kept in
    let p = kept_parts (unasked l) (counts_after (unasked l) b.0 x) x (returns_after b.0.returns x) d more in
    let at = stands_at t env start.text code reached.lists reached.words v w inv laid input s start.state start.entry l k trips c cert starts bytes n (tidy_before v w env s n tidy) b.0 b.1 goes in
    let this : IsTidyStep w (run env s n).state.pc (activations_of v (run env s n).state.pc at.0.calls at.1.begun at.1.views) (run env s n).state.bytes (step env (run env s n).state).state.bytes =
    tidy_step v w env s n (activations_of v (run env s n).state.pc at.0.calls at.1.begun at.1.views) at.1.opened (went_state env s n x goes went) tidy in
    step_late t env start.text code reached.lists reached.words v w inv laid input s start.state start.entry l k trips c cert starts bytes n (run env s n).state b.0 d x went p.0 p.1 at.0 at.1 this leaving
