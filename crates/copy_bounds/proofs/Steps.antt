-- One step of the versioned image's run, alone or with one of the original's, keeps the counts of all copies.
use Rattle.std.proofs.Common.{◌≡◌, ℕ, suc, ◌+◌, ◌<◌, ◌≤◌, ◌^◌, false, cond, ◌⊎◌, ⊎_elim, List, ◌∷◌, ◌++◌, length, length-append, map, refl, sym, ◌∙◌, ap, subst, arith, Option, Some, None}
use Rattle.scale_base.specs.declared.stepping.Move.{Move}
use Rattle.scale_base.specs.declared.stepping.Move.TheVariants.{Return}
use Rattle.scale_base.specs.declared.stepping.Stepped.{Stepped}
use Rattle.scale_base.specs.declared.stepping.StepEnd.TheVariants.{Went}
use Rattle.scale_base.specs.State.{Setting, State}
use Rattle.scale_base.specs.Step.{step}
use Rattle.scale_base.specs.Run.{GoesOn, run}
use Rattle.cost_theory.specs.Graph.{Loops, AreWithin, count_step, is_round}
use Rattle.cost_theory.specs.Reached.{Code, IsCodeOf, HasNoBadWord}
use Rattle.code_text.specs.Text.{Text, kind_at}
use Rattle.code_text.specs.TextGraph.{text_graph}
use Rattle.graph_runs.specs.TextStates.{IsTextOf}
use Rattle.graph_runs.specs.RunTransitions.{after_call, IsStack}
use Rattle.graph_runs.specs.ReturnAddresses.{returns_after}
use Rattle.graph_runs.specs.KeptSteps.{Carried, source_of, counts_after, is_broken, keeps_counts}
use Rattle.graph_runs.specs.KeptRuns.{kept_at}
use Rattle.graph_runs.proofs.Laws.{went_at}
use Rattle.std.proofs.lemmas.Bool.{cond-false}
use Rattle.bound_laws.specs.Turning.{unasked}
use Rattle.bound_laws.proofs.Laws.{At, Onward, Way, onward, over_edge, into_call, back_to, site_small, site_back, not_broken}
use Rattle.copy_bounds.specs.Copies.{Meaning, CopiesLoop, counts_from}
use Rattle.copy_bounds.proofs.Modes.{Mode, Counts, turned, along_edge, along_call, along_return, other_called}
use Rattle.copy_bounds.proofs.Pairs.{kept_step}

pub from_round : (l : Loops) (k : ℕ) (o : Option ℕ) (n : ℕ) → cond (is_round l k o) n 0 ≡ cond (counts_from (l.inside k) o) n 0
from_round l k None n = refl
from_round l k (Some v) n = refl

module _ (m : Meaning) (t : Text) (env : Setting) (ok : IsTextOf t env) (code : Code) (is : IsCodeOf (kind_at t) t.entry code) (fine : HasNoBadWord (kind_at t) t.entry)
    (s : State) (old l : Loops) (most : ℕ) where
  abbrev pub Copy : ℕ → Type 0
  Copy k = CopiesLoop m t (text_graph t code) old l k

  abbrev pub ModeOf : (k : ℕ) → Copy k → (pc : ℕ) → List ℕ → (count other : ℕ) → Type 0
  ModeOf k c pc calls count other =
      Mode m t (text_graph t code) (l.header k) (l.inside k) (old.header c.number) (old.inside c.number) c.certificate c.is (old.bound c.number) pc calls count other

  abbrev pub CountsOf : (k : ℕ) → Copy k → (a b other next : ℕ) → Type 0
  CountsOf k c a b other next = Counts m t (text_graph t code) (l.header k) (l.inside k) (old.header c.number) (old.inside c.number) c.certificate c.is (old.bound c.number) a b other next

  abbrev pub called_of : (k : ℕ) → Copy k → (b other : ℕ) → ℕ
  called_of k c b other = other_called m t (text_graph t code) (l.header k) (l.inside k) (old.header c.number) (old.inside c.number) c.certificate c.is (old.bound c.number) b other

  -- what the original counts of the loop that is copied, by the way of the step
  abbrev pub CountsBy : (k : ℕ) (c : Copy k) (f next : Carried) {pc to : ℕ} {calls after : List ℕ} {moved : Move} → Way (text_graph t code) pc to calls after moved → Type 0
  CountsBy k c f next {pc = a} {to = b} (over_edge leads steps after moved) = CountsOf k c a b (f.counts c.number) (next.counts c.number)
  CountsBy k c f next {pc = a} {to = b} (into_call call after moved) = next.counts c.number ≡ called_of k c b (f.counts c.number)
  CountsBy k c f next {pc = a} {to = b} (back_to u e to us before after lt from returns call leads moved) = CountsOf k c u b (f.counts c.number) (next.counts c.number)

  -- where the run of the versioned image stands after n steps, and the original's
  pub record Held (n : ℕ) (w : State) (f : Carried) : Type 0 where
    pub d : Carried
    pub kept : kept_at env s l n ≡ Some d
    pub counted : kept_at env s (unasked l) n ≡ Some d
    pub at : At t w d.returns
    pub opened : f.returns ≡ m.open_at w.pc ++ d.returns
    pub few : AreWithin old f.counts
    pub deep : length f.returns ≤ most
    pub shallow : (i : ℕ) (c : Carried) → i ≤ n → kept_at env s l i ≡ Some c → length c.returns ≤ most
    pub modes : (k : ℕ) (c : Copy k) → ModeOf k c w.pc at.calls (d.counts k) (f.counts c.number)

  module _ (w u : State) (d f next : Carried) (y : Stepped) (at : At t w d.returns) (here : y.pc ≡ w.pc) (there : u.pc ≡ y.next) (k : ℕ) (c : Copy k) (few : f.counts c.number ≤ old.bound c.number) where
    counted_by : (o : Option ℕ) → source_of y.moved y.pc d.returns ≡ o → counts_after l d y k ≡ count_step l o (Some u.pc) d.counts k
    counted_by o e =
        ap (λ q. count_step l q (Some y.next) d.counts k) e ∙ ap (λ v. count_step l o (Some v) d.counts k) (sym there)

    -- each way keeps the mode of each copy
    mode_on : (after : List ℕ) (way : Way (text_graph t code) w.pc u.pc at.calls after y.moved) → CountsBy k c f next way → ModeOf k c w.pc at.calls (d.counts k) (f.counts c.number) →
        ModeOf k c u.pc after (counts_after l d y k) (next.counts c.number)
    mode_on after (over_edge leads steps same_calls moved) counts now =
        subst (λ cs. ModeOf k c u.pc cs (counts_after l d y k) (next.counts c.number)) (sym same_calls)
        (subst (λ n. ModeOf k c u.pc at.calls n (next.counts c.number)) (sym (counted_by (Some w.pc) (ap (λ q. source_of q y.pc d.returns) moved ∙ ap Some here)))
        (along_edge m t (text_graph t code) (l.header k) (l.inside k) (old.header c.number) (old.inside c.number) c.certificate c.is (old.bound c.number)
        w.pc u.pc leads at.calls (d.counts k) (f.counts c.number) (next.counts c.number) few counts now))
    mode_on after (into_call call more_calls moved) counts now =
        subst (λ cs. ModeOf k c u.pc cs (counts_after l d y k) (next.counts c.number)) (sym more_calls)
        (subst (λ n. ModeOf k c u.pc (w.pc ∷ at.calls) n (next.counts c.number)) (sym (counted_by None (ap (λ q. source_of q y.pc d.returns) moved)))
        (along_call m t (text_graph t code) (l.header k) (l.inside k) (old.header c.number) (old.inside c.number) c.certificate c.is (old.bound c.number)
        w.pc u.pc call at.calls (d.counts k) (f.counts c.number) (next.counts c.number) few counts now))
    mode_on after (back_to v e to us before less_calls lt from returns call leads moved) counts now =
        let stack : IsStack (kind_at t) t.entry at.function (v ∷ us) = subst (λ q. IsStack (kind_at t) t.entry at.function q) before at.stack in
        let small : v < 2 ^ 32 = site_small t env ok code is fine at.function v us stack in
        let source : source_of y.moved y.pc d.returns ≡ Some v =
        ap (λ q. source_of q y.pc d.returns) moved ∙ (ap (λ q. source_of Return y.pc q) (at.returns ∙ ap (map after_call) before) ∙ ap Some (site_back v small)) in
        subst (λ cs. ModeOf k c u.pc cs (counts_after l d y k) (next.counts c.number)) (sym less_calls)
        (subst (λ n. ModeOf k c u.pc us n (next.counts c.number)) (sym (counted_by (Some v) source))
        (along_return m t (text_graph t code) (l.header k) (l.inside k) (old.header c.number) (old.inside c.number) c.certificate c.is (old.bound c.number)
        w.pc v u.pc leads us (d.counts k) (f.counts c.number) (next.counts c.number) few counts
        (subst (λ cs. ModeOf k c w.pc cs (d.counts k) (f.counts c.number)) before now)))

  abbrev pub IsKept : ℕ → Type 0
  IsKept k = (n : ℕ) (d : Carried) → kept_at env s (unasked l) n ≡ Some d → d.counts k ≤ l.bound k

  module _ (late : (k : ℕ) → k < l.loops → l.least_trips k ≡ 0) (each : (k : ℕ) → k < l.loops → IsKept k ⊎ Copy k)
      (n : ℕ) (ys : List Stepped) (w : State) (runs : run env s n ≡ record { steps = ys; state = w; standing = GoesOn }) (y : Stepped) (went : (step env w).end ≡ Went y) (f next : Carried) (held : Held n w f) where
    abbrev u : State
    u = (step env w).state

    here : y.pc ≡ w.pc
    here = (went_at env w y went).0

    there : u.pc ≡ y.next
    there = (went_at env w y went).1

    -- where the returns go on, and the original has counted as the ways say
    module _ (rs : List ℕ) (returns : returns_after held.d.returns y ≡ Some rs) where
      abbrev goes : Onward t env ok code is fine w u held.at.calls rs y.moved
      goes = onward t env ok code is fine w held.d.returns rs held.at y went returns

      pub step_on : ((after : List ℕ) → Way (text_graph t code) w.pc u.pc held.at.calls after y.moved → next.returns ≡ m.open_at u.pc ++ rs) → AreWithin old next.counts → length next.returns ≤ most →
          ((k : ℕ) (c : Copy k) (after : List ℕ) (way : Way (text_graph t code) w.pc u.pc held.at.calls after y.moved) → CountsBy k c f next way) → Held (suc n) u next
      step_on opened few deep counts = record {
        d = then;
        kept = kept;
        counted = counted;
        at = goes.at;
        opened = opened goes.at.calls goes.way;
        few = few;
        deep = deep;
        shallow = shallow;
        modes = modes;
      }
        where
          then : Carried
          then = record { returns = rs; counts = counts_after l held.d y }

          counted : kept_at env s (unasked l) (suc n) ≡ Some then
          counted = kept_step env s (unasked l) n ys w y (Some held.d) runs went held.counted ∙ ap (keeps_counts (unasked l) then.counts y) returns

          modes : (k : ℕ) (c : Copy k) → ModeOf k c u.pc goes.at.calls (then.counts k) (next.counts c.number)
          modes k c = mode_on w u held.d f next y held.at here there k c (held.few c.number c.few) goes.at.calls goes.way (counts k c goes.at.calls goes.way) (held.modes k c)

          within : (k : ℕ) → k < l.loops → then.counts k ≤ l.bound k
          within k kl = ⊎_elim
              (λ (shown : IsKept k). shown (suc n) then counted)
              (λ (c : Copy k).
              let few = turned m t (text_graph t code) (l.header k) (l.inside k) (old.header c.number) (old.inside c.number) c.certificate c.is (old.bound c.number) u.pc goes.at.calls (then.counts k) (next.counts c.number) (few c.number c.few) (modes k c) in
              let enough = c.enough in
              let r : then.counts k ≤ l.bound k = omega (arith, few, enough) in r) (each k kl)

          whole : is_broken l then.counts y ≡ false
          whole = not_broken l then.counts y within (λ k kl left. let none = late k kl in let r : l.least_trips k ≤ then.counts k = omega (arith, none) in r)

          kept : kept_at env s l (suc n) ≡ Some then
          kept = kept_step env s l n ys w y (Some held.d) runs went held.kept ∙ (ap (keeps_counts l then.counts y) returns ∙ cond-false _ _ _ whole)

          last_or_before : (i : ℕ) → i ≤ suc n → (i ≡ suc n) ⊎ (i ≤ n)
          last_or_before i le = grind (arith, le)

          shallow : (i : ℕ) (c : Carried) → i ≤ suc n → kept_at env s l i ≡ Some c → length c.returns ≤ most
          shallow i c le e = ⊎_elim
              (λ (now : i ≡ suc n).
              let found : Some then ≡ Some c = sym kept ∙ (sym (ap (kept_at env s l) now) ∙ e) in
              let is : then ≡ c = cc in
              let size : length rs ≡ length c.returns = ap (λ (q : Carried). length q.returns) is in
              let whole : length next.returns ≡ length (m.open_at u.pc) + length rs = ap (λ (q : List ℕ). length q) (opened goes.at.calls goes.way) ∙ length-append (m.open_at u.pc) rs in
              let r : length c.returns ≤ most = omega (arith, size, whole, deep) in r)
              (λ (before : i ≤ n). held.shallow i c before e) (last_or_before i le)
