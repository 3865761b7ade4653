-- Steps side by side, from the start on: where the original's are kept, those of the versioned image are.
use Rattle.std.proofs.Common.{◌≡◌, ◌≢◌, ℕ, zero, suc, ◌+◌, ◌%◌, ◌<◌, ◌≤◌, ◌^◌, Bool, true, false, cond, ◌⊎◌, inl, inr, ⊎_elim, List, [], ◌∷◌, ◌++◌, length, map, nat_eq, refl, sym, ◌∙◌, ap, subst, arith, Option, Some, None}
use Rattle.scale_base.specs.declared.instruction.Instr.{Instr}
use Rattle.scale_base.specs.declared.stepping.Move.{Move}
use Rattle.scale_base.specs.declared.stepping.Move.TheVariants.{Local, Call, Return}
use Rattle.scale_base.specs.declared.stepping.Stepped.{Stepped}
use Rattle.scale_base.specs.declared.stepping.StepEnd.TheVariants.{Went}
use Rattle.scale_base.specs.State.{Setting, State}
use Rattle.scale_base.specs.Step.{step, move_of}
use Rattle.scale_base.specs.Run.{Run, GoesOn, run}
use Rattle.cost_theory.specs.Graph.{Loops, AreWithin, count_step}
use Rattle.cost_theory.specs.Reached.{Code, IsCodeOf, HasNoBadWord, Reached}
use Rattle.cost_theory.specs.Reached.Reached.{main}
use Rattle.code_text.specs.Text.{Text, instr_at, kind_at}
use Rattle.code_text.specs.TextGraph.{text_graph}
use Rattle.code_text.proofs.Laws.{kind_facts}
use Rattle.cost_theory.specs.declared.flow.Flow.TheVariants as flow
use Rattle.std.proofs.lemmas.Bool.{both_ways, false_from_ne_true}
use Rattle.copy_bounds.proofs.Calls.{no_call}
use Rattle.graph_runs.specs.TextStates.{IsTextOf, IsOverText}
use Rattle.graph_runs.specs.RunTransitions.{after_call, IsStack}
use Rattle.graph_runs.specs.ReturnAddresses.{returns_by, returns_after}
use Rattle.graph_runs.specs.KeptSteps.{Carried, carried_first, source_of, counts_after, kept_more}
use Rattle.graph_runs.specs.KeptRuns.{kept_at}
use Rattle.graph_runs.proofs.Laws.{went_at, step_done, IsTrap, IsDone, EndsBy, kept_parts}
use Rattle.bound_laws.proofs.Laws.{Way, fetched, over_edge, into_call, back_to, site_small, site_back}
use Rattle.copy_bounds.specs.Copies.{Meaning, KeepsOpenCalls, counts_from}
use Rattle.copy_bounds.proofs.Modes.{mode_first}
use Rattle.copy_bounds.proofs.Pairs.{IsMeaning, IsMadeAt, IsPair, ArePaired, LastStep, snoc_length, last_step, kept_along, kept_last}
use Rattle.copy_bounds.proofs.Pairs as pairs
use Rattle.copy_bounds.proofs.Pairs.IsPair.{same, apart}
use Rattle.copy_bounds.proofs.Pairs.ArePaired.{none, passed, both}
use Rattle.copy_bounds.proofs.Gone.{kept_leads}
use Rattle.copy_bounds.proofs.Steps.{Copy, CountsBy, Held, IsKept, ModeOf, step_on, from_round}

module _ (m : Meaning) (own : IsMeaning m) (t : Text) (env : Setting) (ok : IsTextOf t env) (code : Code) (is : IsCodeOf (kind_at t) t.entry code) (fine : HasNoBadWord (kind_at t) t.entry)
    (foreign : (a : ℕ) (i : Instr) → a % 4 ≡ 0 → instr_at t a ≡ Some i → m.is_own a ≡ false → move_of i ≡ Local)
    (s : State) (keeps : KeepsOpenCalls m (text_graph t code)) (old l : Loops) (most : ℕ) where
  abbrev CopyOf : ℕ → Type 0
  CopyOf k = Copy m t env ok code is fine s old l most k

  abbrev CountsFor : (k : ℕ) (c : CopyOf k) (f next : Carried) {pc to : ℕ} {calls after : List ℕ} {moved : Move} → Way (text_graph t code) pc to calls after moved → Type 0
  CountsFor k c f next way = CountsBy m t env ok code is fine s old l most k c f next way

  abbrev pub HeldAt : ℕ → State → Carried → Type 0
  HeldAt n w f = Held m t env ok code is fine s old l most n w f

  abbrev pub KeptAlone : ℕ → Type 0
  KeptAlone k = IsKept m t env ok code is fine s old l most k

  -- a word of a copy is at no step of the original alone
  off_own : (a : ℕ) → m.is_extra a ≡ true → m.is_own a ≡ false
  off_own a extra = false_from_ne_true (m.is_own a) (λ e. both_ways (m.is_extra a) (own.real a e) extra)

  call_fine : (u f : ℕ) → kind_at t u ≡ flow.Call f → kind_at t u ≢ flow.Refused
  call_fine u f e b = let bad : ⊥ = cc in bad

  -- calls are made in the text
  call_own : (u f : ℕ) → kind_at t u ≡ flow.Call f → m.is_own u ≡ true
  call_own u f e = by (m.is_own u) refl
    where
      by : (b : Bool) → m.is_own u ≡ b → b ≡ true
      by true is_own = refl
      by false off =
          let facts = kind_facts t u (call_fine u f e) in
          absurd (no_call t u f facts.2.0 (foreign u facts.2.0 facts.0 facts.2.1 off) (sym facts.2.2 ∙ e))

  module _ (late : (k : ℕ) → k < l.loops → l.least_trips k ≡ 0) (each : (k : ℕ) → k < l.loops → KeptAlone k ⊎ CopyOf k) where
    module _ (n : ℕ) (ys : List Stepped) (w : State) (runs : run env s n ≡ record { steps = ys; state = w; standing = GoesOn }) (y : Stepped) (went : (step env w).end ≡ Went y) (f : Carried) (held : HeldAt n w f) where
      abbrev u : State
      u = (step env w).state

      here : y.pc ≡ w.pc
      here = (went_at env w y went).0

      there : u.pc ≡ y.next
      there = (went_at env w y went).1

      abbrev d : Carried
      d = held.d

      local_returns : y.moved ≡ Local → returns_after d.returns y ≡ Some d.returns
      local_returns moved = ap (λ q. returns_by q d.returns y) moved

      -- ---- a step that stands for none

      extra_local : m.is_extra y.pc ≡ true → y.moved ≡ Local
      extra_local extra = ⊎_elim
          (λ (trap : IsTrap (step env w).end). absurd (subst IsTrap went trap))
          (λ (done : (i : Instr) × IsDone env w i (step env w).end (step env w).state).
          let ends : EndsBy done.0 w (Went y) (step env w).state = subst (λ e. EndsBy done.0 w e (step env w).state) went done.1.ends in
          let read : instr_at t w.pc ≡ Some done.0 = sym (fetched t env ok code is fine w d.returns held.at) ∙ done.1.instr in
          let word = kind_facts t w.pc (fine held.at.function w.pc held.at.reached) in
          ends.moved ∙ foreign w.pc done.0 word.0 read (off_own w.pc (ap m.is_extra (sym here) ∙ extra))) (step_done env w)

      pub extra_on : m.is_extra y.pc ≡ true → HeldAt (suc n) u f
      extra_on extra = step_on m t env ok code is fine s old l most late each n ys w runs y went f f held d.returns (local_returns moved) opened held.few held.deep counts
        where
          moved : y.moved ≡ Local
          moved = extra_local extra

          at_w : m.is_extra w.pc ≡ true
          at_w = ap m.is_extra (sym here) ∙ extra

          counts : (k : ℕ) (c : CopyOf k) (after : List ℕ) (way : Way (text_graph t code) w.pc u.pc held.at.calls after y.moved) → CountsFor k c f f way
          counts k c after (over_edge leads steps same_calls local) = inl (at_w, refl)
          counts k c after (into_call call more_calls called) = let bad : Local ≡ Call = sym moved ∙ called in let never : ⊥ = cc in absurd never
          counts k c after (back_to v e to us before less_calls lt from returns call leads back) = let bad : Local ≡ Return = sym moved ∙ back in let never : ⊥ = cc in absurd never

          opened : (after : List ℕ) → Way (text_graph t code) w.pc u.pc held.at.calls after y.moved → f.returns ≡ m.open_at u.pc ++ d.returns
          opened after (over_edge leads steps same_calls local) =
              let stay : Some (m.open_at w.pc) ≡ Some (m.open_at u.pc) = sym (own.passed w.pc at_w) ∙ keeps w.pc u.pc leads (off_own w.pc at_w) in
              let alike : m.open_at w.pc ≡ m.open_at u.pc = cc in
              held.opened ∙ ap (λ rs. rs ++ d.returns) alike
          opened after (into_call call more_calls called) = let bad : Local ≡ Call = sym moved ∙ called in let never : ⊥ = cc in absurd never
          opened after (back_to v e to us before less_calls lt from returns call leads back) = let bad : Local ≡ Return = sym moved ∙ back in let never : ⊥ = cc in absurd never

      -- ---- a step of both

      module _ (x : Stepped) (next : Carried) (returns : returns_after f.returns x ≡ Some next.returns) (counted : counts_after old f x ≡ next.counts) (few : AreWithin old next.counts) (deep : length next.returns ≤ most)
          (real : m.is_extra y.pc ≡ false) (to : m.text_at y.next ≡ x.next) where
        real_w : m.is_extra w.pc ≡ false
        real_w = ap m.is_extra (sym here) ∙ real

        to_u : m.text_at u.pc ≡ x.next
        to_u = ap m.text_at there ∙ to

        -- what the original counts of the loop that is copied, by where its step comes from
        other_counts : (k : ℕ) (c : CopyOf k) (o : Option ℕ) → source_of x.moved x.pc f.returns ≡ o → next.counts c.number ≡ count_step old o (Some (m.text_at u.pc)) f.counts c.number
        other_counts k c o source =
            sym (ap (λ cs. cs c.number) counted)
            ∙ (ap (λ q. count_step old q (Some x.next) f.counts c.number) source
            ∙ ap (λ v. count_step old o (Some v) f.counts c.number) (sym to_u))

        real_counts : (k : ℕ) (c : CopyOf k) (a : ℕ) → source_of x.moved x.pc f.returns ≡ m.source_at a →
            next.counts c.number ≡ cond (nat_eq (m.text_at u.pc) (old.header c.number)) (cond (counts_from (old.inside c.number) (m.source_at a)) (f.counts c.number + 1) 0) (f.counts c.number)
        real_counts k c a source =
            other_counts k c (m.source_at a) source
            ∙ ap (λ n. cond (nat_eq (m.text_at u.pc) (old.header c.number)) n (f.counts c.number)) (from_round old c.number (m.source_at a) (f.counts c.number + 1))

        -- in a copy
        apart_on : y.moved ≡ Local → m.is_own y.pc ≡ false → IsMadeAt m y.pc x → HeldAt (suc n) u next
        apart_on moved off made = step_on m t env ok code is fine s old l most late each n ys w runs y went f next held d.returns (local_returns moved) opened few deep counts
          where
            off_w : m.is_own w.pc ≡ false
            off_w = ap m.is_own (sym here) ∙ off

            made_w : IsMadeAt m w.pc x
            made_w = subst (λ a. IsMadeAt m a x) here made

            counts : (k : ℕ) (c : CopyOf k) (after : List ℕ) (way : Way (text_graph t code) w.pc u.pc held.at.calls after y.moved) → CountsFor k c f next way
            counts k c after (over_edge leads steps same_calls local) =
                inr (real_w, real_counts k c w.pc (ap (λ rs. source_of x.moved x.pc rs) held.opened ∙ made_w.source d.returns (m.open_at u.pc) (keeps w.pc u.pc leads off_w)))
            counts k c after (into_call call more_calls called) = let bad : Local ≡ Call = sym moved ∙ called in let never : ⊥ = cc in absurd never
            counts k c after (back_to v e to us before less_calls lt from returns call leads back) = let bad : Local ≡ Return = sym moved ∙ back in let never : ⊥ = cc in absurd never

            opened : (after : List ℕ) → Way (text_graph t code) w.pc u.pc held.at.calls after y.moved → next.returns ≡ m.open_at u.pc ++ d.returns
            opened after (over_edge leads steps same_calls local) =
                made_w.returns d.returns (m.open_at u.pc) next.returns (keeps w.pc u.pc leads off_w) (ap (λ rs. returns_after rs x) (sym held.opened) ∙ returns)
            opened after (into_call call more_calls called) = let bad : Local ≡ Call = sym moved ∙ called in let never : ⊥ = cc in absurd never
            opened after (back_to v e to us before less_calls lt from returns call leads back) = let bad : Local ≡ Return = sym moved ∙ back in let never : ⊥ = cc in absurd never

        -- in the text
        same_on : y ≡ x → m.is_own y.pc ≡ true → m.open_at y.next ≡ [] → HeldAt (suc n) u next
        same_on e is_own none_next = step_on m t env ok code is fine s old l most late each n ys w runs y went f next held next.returns same_returns opened few deep counts
          where
            own_w : m.is_own w.pc ≡ true
            own_w = ap m.is_own (sym here) ∙ is_own

            alike : f.returns ≡ d.returns
            alike = held.opened ∙ ap (λ rs. rs ++ d.returns) (own.none_open w.pc own_w)

            same_returns : returns_after d.returns y ≡ Some next.returns
            same_returns = ap (λ rs. returns_after rs y) (sym alike) ∙ (ap (returns_after f.returns) e ∙ returns)

            source : (o : Option ℕ) → source_of y.moved y.pc f.returns ≡ o → source_of x.moved x.pc f.returns ≡ o
            source o h = ap (λ q. source_of q.moved q.pc f.returns) (sym e) ∙ h

            counts : (k : ℕ) (c : CopyOf k) (after : List ℕ) (way : Way (text_graph t code) w.pc u.pc held.at.calls after y.moved) → CountsFor k c f next way
            counts k c after (over_edge leads steps same_calls local) =
                inr (real_w, real_counts k c w.pc (source (m.source_at w.pc) (ap (λ q. source_of q y.pc f.returns) local ∙ (ap Some here ∙ sym (own.source w.pc own_w)))))
            counts k c after (into_call call more_calls called) = other_counts k c None (source None (ap (λ q. source_of q y.pc f.returns) called))
            counts k c after (back_to v e to us before less_calls lt from returns call leads back) =
                let stack : IsStack (kind_at t) t.entry held.at.function (v ∷ us) = subst (λ q. IsStack (kind_at t) t.entry held.at.function q) before held.at.stack in
                let own_v : m.is_own v ≡ true = call_own v held.at.function stack.1 in
                let small : v < 2 ^ 32 = site_small t env ok code is fine held.at.function v us stack in
                let from_v : source_of y.moved y.pc f.returns ≡ Some v =
                ap (λ q. source_of q y.pc f.returns) back ∙ (ap (λ q. source_of Return y.pc q) (alike ∙ (held.at.returns ∙ ap (map after_call) before)) ∙ ap Some (site_back v small)) in
                inr (own.real v own_v, real_counts k c v (source (m.source_at v) (from_v ∙ sym (own.source v own_v))))

            opened : (after : List ℕ) → Way (text_graph t code) w.pc u.pc held.at.calls after y.moved → next.returns ≡ m.open_at u.pc ++ next.returns
            opened after way = ap (λ rs. rs ++ next.returns) (sym (ap m.open_at there ∙ none_next))

        pub both_on : IsPair m x y → HeldAt (suc n) u next
        both_on (same e is_own none_next) = same_on e is_own none_next
        both_on (apart moved off made) = apart_on moved off made

    -- ---- from the start on

    module _ (over : IsOverText t s) (at_entry : s.pc ≡ t.entry) (open_first : m.open_at t.entry ≡ []) where
      shallow_first : (i : ℕ) (c : Carried) → i ≤ 0 → kept_at env s l i ≡ Some c → length c.returns ≤ most
      unfolding kept_at
      shallow_first zero c le e = let is : carried_first ≡ c = cc in let size = ap (λ (q : Carried). length q.returns) is in omega (arith, size)
      shallow_first (suc i) c le e = absurd (omega (arith, le))

      held_first : HeldAt 0 s carried_first
      unfolding run kept_at
      held_first = record {
        d = carried_first;
        kept = refl;
        counted = refl;
        at = record { function = t.entry; calls = []; over = over; reached = subst (λ v. Reached (kind_at t) t.entry t.entry v) (sym at_entry) main; stack = refl; returns = refl };
        opened = ap (λ rs. rs ++ []) (sym (ap m.open_at at_entry ∙ open_first));
        few = λ k kl. omega arith;
        deep = omega arith;
        shallow = λ i c le e. shallow_first i c le e;
        modes = λ k c. subst (λ v. ModeOf m t env ok code is fine s old l most k c v [] 0 0) (sym at_entry)
            (mode_first m t (text_graph t code) (l.header k) (l.inside k) (old.header c.number) (old.inside c.number) c.certificate c.is (old.bound c.number));
      }

      held_start : (w : State) → pairs.Leads env s [] w → (f : Carried) → kept_along old [] ≡ Some f → HeldAt 0 w f
      unfolding run
      held_start w leads f kept =
          let at : s ≡ w = ap (λ (r : Run). r.state) leads in
          let carried : carried_first ≡ f = cc in
          subst (λ v. HeldAt 0 v f) at (subst (λ q. HeldAt 0 s q) carried held_first)

      -- Where the steps of the original are kept, so are those of the versioned image. No more return addresses are open there.
      module _ (one : Setting) (raw : State) (n : ℕ) (deep : (i : ℕ) (c : Carried) → i ≤ n → kept_at one raw old i ≡ Some c → length c.returns ≤ most) where
        deep_there : (xs : List Stepped) (v : State) (f : Carried) → pairs.Leads one raw xs v → length xs ≤ n → kept_along old xs ≡ Some f → length f.returns ≤ most
        deep_there xs v f leads few kept = deep (length xs) f few (kept_leads one raw old xs v leads ∙ kept)

        pub held_along : (xs ys : List Stepped) → ArePaired m xs ys → (v : State) → pairs.Leads one raw xs v → length xs ≤ n → (w : State) → pairs.Leads env s ys w →
            (f : Carried) → kept_along old xs ≡ Some f → HeldAt (length ys) w f
        held_along xs ys none v raw_leads few w leads f kept = held_start w leads f kept
        held_along xs ys (passed {xs = zs} {ys = vs} y paired extra) v raw_leads few w leads f kept =
            let l = last_step env s vs y w leads in
            let before = held_along zs vs paired v raw_leads few l.before l.leads f kept in
            let on = extra_on (length vs) vs l.before l.leads y l.went f before extra in
            subst (λ n. HeldAt n w f) (sym (snoc_length vs y)) (subst (λ v. HeldAt (suc (length vs)) v f) l.state on)
        held_along xs ys (both {xs = zs} {ys = vs} x y paired real pair to) v raw_leads few w leads f kept =
            let l = last_step env s vs y w leads in
            let k = last_step one raw zs x v raw_leads in
            let size = snoc_length zs x in
            by l (λ q e. held_along zs vs paired k.before k.leads (omega (arith, few, size)) l.before l.leads q e) (kept_along old zs) refl
          where
            by : (l : LastStep env s vs y w) → ((q : Carried) → kept_along old zs ≡ Some q → HeldAt (length vs) l.before q) → (o : Option Carried) → kept_along old zs ≡ o → HeldAt (length (vs ++ y ∷ [])) w f
            by l before None e = let bad : None ≡ Some f = sym (ap (λ q. kept_more old q x) e) ∙ (sym (kept_last old zs x) ∙ kept) in let never : ⊥ = cc in absurd never
            by l before (Some q) e =
                let more : kept_more old (Some q) x ≡ Some f = sym (ap (λ o. kept_more old o x) e) ∙ (sym (kept_last old zs x) ∙ kept) in
                let p = kept_parts old (counts_after old q x) x (returns_after q.returns x) f more in
                let on = both_on (length vs) vs l.before l.leads y l.went q (before q e) x f p.0 p.1 (subst (λ cs. AreWithin old cs) p.1 p.2) (deep_there (zs ++ x ∷ []) v f raw_leads few kept) real to pair in
                subst (λ n. HeldAt n w f) (sym (snoc_length vs y)) (subst (λ v. HeldAt (suc (length vs)) v f) l.state on)
