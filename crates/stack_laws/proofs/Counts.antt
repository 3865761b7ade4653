-- A loop with a certificate over the stack turns no more often than the width allows.
use Rattle.std.proofs.Common.{◌≡◌, ℕ, suc, ◌+◌, ◌-◌, ◌*◌, ◌<◌, ◌≤◌, ◌%◌, ◌^◌, ⊎_elim, Bool, true, false, List, [], ◌∷◌, length, map, refl, sym, ap, ◌∙◌, subst, arith, Option, Some, None}
use Rattle.std.specs.Prelude.{All}
use Rattle.std.proofs.lemmas.Nat.{mod_below}
use Rattle.std.proofs.Math.Nat.{mod-add-mod}
use Rattle.scale_base.specs.declared.stepping.Move.TheVariants.{Return}
use Rattle.scale_base.specs.declared.stepping.Stepped.{Stepped}
use Rattle.scale_base.specs.Arith.{plus}
use Rattle.scale_base.specs.State.{Setting, State, reg}
use Rattle.scale_base.specs.Step.{step}
use Rattle.scale_base.specs.Run.{run}
use Rattle.cost_theory.specs.Graph.{Graph, Loops, count_step}
use Rattle.cost_theory.specs.Reached.{Code, IsCodeOf, HasNoBadWord}
use Rattle.code_text.specs.Text.{Text, kind_at}
use Rattle.code_text.specs.TextGraph.{text_graph}
use Rattle.graph_runs.specs.TextStates.{IsTextOf, IsOverText}
use Rattle.graph_runs.specs.RunTransitions.{after_call, IsStack}
use Rattle.graph_runs.specs.KeptSteps.{Carried, carried_first, source_of}
use Rattle.graph_runs.specs.KeptRuns.{kept_at}
use Rattle.graph_runs.proofs.Laws.{went_at}
use Rattle.bound_laws.specs.Registers.{measured}
use Rattle.bound_laws.specs.Turning.{unasked}
use Rattle.bound_laws.specs.Values.{Arc, arc, IsHeld, IsRegister, Covers, sum_with, scaled, line_of, Values, AreBytes}
use Rattle.bound_laws.proofs.Laws.{no_turns, in_covers, sum_with_in, scaled_in, held_of, line_in, measured_small, At, Way, Onward, site_small, over_edge, into_call, back_to, KeptStep, site_back}
use Rattle.stack_laws.specs.Areas.{IsLaidOut}
use Rattle.stack_laws.specs.Stacks.{Stacks, View, view_of, IsRestored, IsStackInvariant, AreTold}
use Rattle.stack_laws.specs.Counting.{Counter, counted, IsLeftBy, IsKeptBy, StackCertificate, IsStackCertificate, IsWithin}
use Rattle.stack_laws.specs.Counting.Counter.{in_registers, in_word}
use Rattle.stack_laws.specs.Tidy.{activations, IsTidyStep, IsTidy}
use Rattle.stack_laws.specs.Laws.{StackCertificatesBoundTurns}
use Rattle.stack_laws.proofs.Naming.{measured_alike}
use Rattle.stack_laws.proofs.Tidy.{activations_of, tidy_before, tidy_step, open_first, open_over, open_call, open_back}
use Rattle.stack_laws.proofs.Inductions.{along}
use Rattle.stack_laws.proofs.Runs.{Holds, Returned, over_holds, call_holds, back_holds, counts_on}
use Rattle.stack_laws.proofs.Turns.{Level, Mode, turned, at_header, along_edge, along_call, along_return, after_edge, after_call_to}
use Rattle.stack_laws.proofs.Turns.Mode.{at_level}
use Rattle.stack_laws.proofs.Turns.Level.{elsewhere}

from_zero : (width x : ℕ) → x < 2 ^ 32 → (x + (2 ^ 32 - 0)) % 2 ^ 32 ≤ width → x ≤ width
from_zero width x a b = omega arith

counted_small : (c : Counter) (x : View) → counted c x < 2 ^ 32
counted_small (in_registers m) x = measured_small m x.regs
counted_small (in_word k factor shift) x = mod_below (shift + factor * x.words k) (2 ^ 32) (omega arith)

turned_sum : (shift p : ℕ) → plus (p % 2 ^ 32) shift ≡ (shift + p) % 2 ^ 32
turned_sum shift p = mod-add-mod p (2 ^ 32) shift ∙ ap (λ n. n % 2 ^ 32) (let e : p + shift ≡ shift + p = omega arith in e)

-- the counter is within the width, where the intervals say so
within_width : (v : Values) (w : Stacks) (width a : ℕ) (c : Counter) (x : View) → reg x.regs 0 ≡ 0 → length x.regs ≡ 32 → AreTold v w a x → IsWithin v w width c a → counted c x ≤ width
within_width v w width a (in_registers m) x zero_is size told h =
    let arc_is : Option Arc = Some (arc 0 width) in
    let is : IsHeld arc_is (measured m x.regs) = ⊎_elim
    (λ (q : Covers (Some (arc 0 width)) (line_of m (v.at a))). in_covers (line_of m (v.at a)) arc_is (measured m x.regs) (line_in m (v.at a) x.regs (held_of (v.at a) x.regs zero_is size told.registers.each)) q)
    (λ (q : (j : ℕ) × (v.forms j ≡ m) × Covers (Some (arc 0 width)) (v.lines a j)).
    in_covers (v.lines a q.0) arc_is (measured m x.regs) (subst (λ f. IsHeld (v.lines a q.0) (measured f x.regs)) q.1 (told.registers.lines q.0)) q.2) h in
    from_zero width (measured m x.regs) is.word is.near
within_width v w width a (in_word k factor shift) x zero_is size told h =
    let line : Option Arc = sum_with (scaled factor (w.word a k)) shift in
    let value : ℕ = (shift + factor * x.words k) % 2 ^ 32 in
    let held_line : IsHeld line value = subst (IsHeld line) (turned_sum shift (factor * x.words k)) (sum_with_in (scaled factor (w.word a k)) shift (factor * x.words k % 2 ^ 32) (scaled_in factor (w.word a k) (x.words k) (told.words k))) in
    let is : IsHeld (Some (arc 0 width)) value = in_covers line (Some (arc 0 width)) value held_line h in
    from_zero width value is.word is.near

module _ (t : Text) (env : Setting) (ok : IsTextOf t env) (code : Code) (is : IsCodeOf (kind_at t) t.entry code) (fine : HasNoBadWord (kind_at t) t.entry)
    (v : Values) (w : Stacks) (inv : IsStackInvariant t (text_graph t code) v w) (laid : IsLaidOut env.layout w.areas w.fixed) (input : All (λ x. x < 256) env.input)
    (s : State) (over : IsOverText t s) (at_entry : s.pc ≡ t.entry) (l : Loops) (k : ℕ) (c : StackCertificate)
    (cert : IsStackCertificate t (text_graph t code) v w (l.header k) (l.inside k) c) (shown : IsWithin v w c.width c.counter (l.header k))
    (starts : AreTold v w s.pc (view_of w s.regs s.regs s.bytes)) (bytes : AreBytes s.bytes) where
  abbrev value : List ℕ → State → ℕ
  value begun u = counted c.counter (view_of w begun u.regs u.bytes)

  -- a run is where the tables hold, and in a mode of the certificate
  record Stands (n : ℕ) (u : State) (calls : List ℕ) (d : Carried) : Type 0 where
    begun : List ℕ
    views : List View
    holds : Holds t env ok code is fine v w inv laid input u calls begun views
    mode : Mode c u.pc calls views (d.counts k) (value begun u)
    opened : activations v env s n ≡ activations_of v u.pc calls begun views

  -- as long as it is tidy
  abbrev I : ℕ → State → List ℕ → Carried → Type 0
  I n u calls d = IsTidy v w env s n → Stands n u calls d

  -- the count after a step, by where it comes from
  count_is : (n : ℕ) (d f : Carried) (x : Stepped) → KeptStep env s (unasked l) n d f x → f.counts k ≡ count_step (unasked l) (source_of x.moved (run env s n).state.pc d.returns) (Some (step env (run env s n).state).state.pc) d.counts k
  count_is n d f x kept =
      let w = went_at env (run env s n).state x kept.went in
      sym (ap (λ counts. counts k) kept.counts)
      ∙ (ap (λ v. count_step (unasked l) (source_of x.moved v d.returns) (Some x.next) d.counts k) w.0
      ∙ ap (λ v. count_step (unasked l) (source_of x.moved (run env s n).state.pc d.returns) (Some v) d.counts k) (sym w.1))

  -- what is counted in is what it was before a call that came back
  still : (counter : Counter) (u : ℕ) (x : View) (after : State) (back : Returned t env ok code is fine v w inv laid input u x after) → reg x.regs 0 ≡ 0 → reg after.regs 0 ≡ 0 → IsKeptBy t v w u back.to counter →
      counted counter (view_of w x.begun after.regs after.bytes) ≡ counted counter x
  still (in_registers m) u x after back zero_before zero_after kept = measured_alike m x.regs after.regs (one m.register kept.0) (one m.other kept.1)
    where
      one : (r : ℕ) → IsLeftBy t v w u back.to r → reg after.regs r % 2 ^ 32 ≡ reg x.regs r % 2 ^ 32
      one r h = ⊎_elim
          (λ (z : r ≡ 0). subst (λ q. reg after.regs q % 2 ^ 32 ≡ reg x.regs q % 2 ^ 32) (sym z) (ap (λ n. n % 2 ^ 32) (zero_after ∙ sym zero_before)))
          (λ (q : IsRegister r × IsRestored t v w u back.to r). (back.alike r q.0 q.1).0) h
  still (in_word j factor shift) u x after back zero_before zero_after kept = ap (λ n. (shift + factor * n) % 2 ^ 32) (back.safe j kept)

  goes : (n : ℕ) (d f : Carried) (x : Stepped) → KeptStep env s (unasked l) n d f x → (at : At t (run env s n).state d.returns) →
      (on : Onward t env ok code is fine (run env s n).state (step env (run env s n).state).state at.calls f.returns x.moved) →
      I n (run env s n).state at.calls d → I (suc n) (step env (run env s n).state).state on.at.calls f
  goes n d f x kept at on was tidy = by_way on.way
    where
      u : State
      u = (run env s n).state

      next : State
      next = (step env u).state

      now : Stands n u at.calls d
      now = was (tidy_before v w env s n tidy)

      this : IsTidyStep w u.pc (activations_of v u.pc at.calls now.begun now.views) u.bytes next.bytes
      this = tidy_step v w env s n (activations_of v u.pc at.calls now.begun now.views) now.opened kept.state tidy

      h : ℕ
      h = l.header k

      g : Graph
      g = text_graph t code

      counted_as : (o : Option ℕ) → source_of x.moved u.pc d.returns ≡ o → f.counts k ≡ count_step (unasked l) o (Some next.pc) d.counts k
      counted_as o e = count_is n d f x kept ∙ ap (λ q. count_step (unasked l) q (Some next.pc) d.counts k) e

      -- at the header the tables say that the counter is within the width
      small : (calls : List ℕ) (begun : List ℕ) (xs : List View) → Holds t env ok code is fine v w inv laid input next calls begun xs → next.pc ≡ h → value begun next ≤ c.width
      small calls begun xs holds e = within_width v w c.width next.pc c.counter (view_of w begun next.regs next.bytes) on.at.over.zero on.at.over.size holds.told (subst (IsWithin v w c.width c.counter) (sym e) shown)

      stands : (calls : List ℕ) (count : ℕ) (begun : List ℕ) (xs : List View) → f.counts k ≡ count → on.at.calls ≡ calls → Holds t env ok code is fine v w inv laid input next calls begun xs → Mode c next.pc calls xs count (value begun next) → activations v env s (suc n) ≡ activations_of v next.pc calls begun xs → Stands (suc n) next on.at.calls f
      stands calls count begun xs e q holds m opened = record {
        begun = begun;
        views = xs;
        holds = subst (λ y. Holds t env ok code is fine v w inv laid input next y begun xs) (sym q) holds;
        mode = subst (λ y. Mode c next.pc on.at.calls xs y (value begun next)) (sym e) (subst (λ y. Mode c next.pc y xs count (value begun next)) (sym q) m);
        opened = subst (λ y. activations v env s (suc n) ≡ activations_of v next.pc y begun xs) (sym q) opened;
      }

      by_way : Way g u.pc next.pc at.calls on.at.calls x.moved → Stands (suc n) next on.at.calls f
      by_way (over_edge leads steps after moved) =
          let then = over_holds t env ok code is fine v w inv laid input u d.returns at x kept.went on.at.over now.begun now.views now.holds this leads steps in
          stands at.calls (after_edge t g v w h (l.inside k) c cert u.pc next.pc (d.counts k)) now.begun now.views (counted_as (Some u.pc) (ap (λ m. source_of m u.pc d.returns) moved)) after then
          (along_edge t g v w h (l.inside k) c cert u.pc next.pc leads now.holds.told.registers.live at.calls now.views (d.counts k) (value now.begun u) (value now.begun next)
          (counted_small c.counter (view_of w now.begun next.regs next.bytes))
          (λ inside. counts_on t env ok code is fine v w inv laid input u d.returns at x kept.went on.at.over now.begun now.views now.holds this c.counter (c.adds u.pc) cert.registers
          (λ j here. cert.effects u.pc next.pc j steps now.holds.told.registers.live inside here))
          (small at.calls now.begun now.views then) now.mode)
          (open_over v env s n x at.calls now.begun now.views kept.went moved (inv.functions u.pc next.pc leads) now.opened)
      by_way (into_call call after moved) =
          let seen : View = view_of w now.begun u.regs u.bytes in
          let then = call_holds t env ok code is fine v w inv laid input u d.returns at x kept.went on.at.over now.begun now.views now.holds this moved call in
          stands (u.pc ∷ at.calls) (after_call_to t g v w h (l.inside k) c cert next.pc (d.counts k)) next.regs (seen ∷ now.views) (counted_as None (ap (λ m. source_of m u.pc d.returns) moved)) after then
          (along_call t g v w h (l.inside k) c cert u.pc next.pc call now.holds.told.registers.live at.calls now.views seen (d.counts k) (value next.regs next)
          (counted_small c.counter (view_of w next.regs next.regs next.bytes)) at.over.zero (small (u.pc ∷ at.calls) next.regs (seen ∷ now.views) then) now.mode)
          (open_call v env s w n x at.calls now.begun now.views kept.went moved now.opened)
      by_way (back_to z e to us before after lt from returns call leads moved) =
          let stack : IsStack (kind_at t) t.entry at.function (z ∷ us) = subst (λ y. IsStack (kind_at t) t.entry at.function y) before at.stack in
          let z_small : z < 2 ^ 32 = site_small t env ok code is fine at.function z us stack in
          let source : source_of x.moved u.pc d.returns ≡ Some z =
          ap (λ m. source_of m u.pc d.returns) moved ∙ (ap (λ y. source_of Return u.pc y) (at.returns ∙ ap (map after_call) before) ∙ ap Some (site_back z z_small)) in
          let b = back_holds t env ok code is fine v w inv laid input u d.returns at x kept.went on.at.over now.begun now.views now.holds this z e us before lt from returns leads in
          stands us (after_edge t g v w h (l.inside k) c cert z next.pc (d.counts k)) b.0.begun b.1 (counted_as (Some z) source) after b.3
          (along_return t g v w h (l.inside k) c cert u.pc z next.pc b.4.to leads b.4.call b.4.told.registers.live us b.1 b.0 (d.counts k) (value now.begun u) (value b.0.begun next)
          (counted_small c.counter (view_of w b.0.begun next.regs next.bytes))
          (λ zero_before inside. still c.counter z b.0 next b.4 zero_before on.at.over.zero (cert.calls z b.4.to b.4.call b.4.told.registers.live inside).2)
          (small us b.0.begun b.1 b.3)
          (subst (λ y. Mode c u.pc (z ∷ us) y (d.counts k) (value now.begun u)) b.2 (subst (λ y. Mode c u.pc y now.views (d.counts k) (value now.begun u)) before now.mode)))
          (open_back v env s n x at.calls now.begun now.views z us b.0 b.1 kept.went moved before b.2 (inv.functions z next.pc leads) now.opened)

  begins : I 0 s [] carried_first
  begins tidy = record { begun = s.regs; views = []; holds = record { told = starts; frames = ap v.function at_entry; memory = bytes }; mode = at_level (go (c.body s.pc) refl); opened = open_first v env s }
    where
      go : (b : Bool) → c.body s.pc ≡ b → Level c s.pc [] 0 (value s.regs s)
      go false out = elsewhere out tt (no_turns c.least c.width)
      go true inside =
          let here : s.pc ≡ l.header k = at_entry ∙ cert.started (subst (λ y. c.body y ≡ true) at_entry inside) in
          subst (λ y. Level c y [] 0 (value s.regs s)) (sym here)
          (at_header t (text_graph t code) v w (l.header k) (l.inside k) c cert (value s.regs s) 0 (counted_small c.counter (view_of w s.regs s.regs s.bytes))
          (within_width v w c.width s.pc c.counter (view_of w s.regs s.regs s.bytes) over.zero over.size starts (subst (IsWithin v w c.width c.counter) (sym here) shown))
          (no_turns c.least (value s.regs s)) [] tt)

  pub counts_within : (n : ℕ) → IsTidy v w env s n → (d : Carried) → kept_at env s (unasked l) n ≡ Some d → d.counts k * c.least ≤ c.width
  counts_within n tidy d kept = (along t env ok code is fine s over at_entry (unasked l) I (λ m d. IsTidy v w env s m → d.counts k * c.least ≤ c.width) begins
      (λ m u calls d stands tidy. let at = stands tidy in turned c u.pc calls at.views (d.counts k) (value at.begun u) at.mode)
      (λ m d few tidy. few (tidy_before v w env s m tidy)) goes n d kept).0 tidy

pub stacks_bound_turns : StackCertificatesBoundTurns
stacks_bound_turns t env s code v w l k c start reached inv laid starts bytes input cert shown n tidy d kept =
    counts_within t env start.text code reached.lists reached.words v w inv laid input s start.state start.entry l k c cert shown starts bytes n tidy d kept
