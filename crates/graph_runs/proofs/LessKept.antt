-- A run that is kept where loops have to turn so often is kept where they have to turn less often.
use Rattle.std.proofs.Common.{◌≡◌, ℕ, zero, suc, ◌<◌, ◌≤◌, Bool, true, false, ◌&&◌, nat_lt, List, Option, Some, None, refl, sym, ap, ◌∙◌, subst, arith}
use Rattle.std.proofs.lemmas.Bool.{cond-false, or_from, le-ltb}
use Rattle.scale_base.specs.declared.stepping.Move.{Move}
use Rattle.scale_base.specs.declared.stepping.Move.TheVariants.{Local, Call, Return}
use Rattle.scale_base.specs.declared.stepping.Stepped.{Stepped}
use Rattle.scale_base.specs.declared.stepping.StepEnd.{StepEnd}
use Rattle.scale_base.specs.declared.stepping.StepEnd.TheVariants.{Went, Exited, Trapped}
use Rattle.scale_base.specs.State.{Setting, State}
use Rattle.scale_base.specs.Step.{step}
use Rattle.scale_base.specs.Run.{Standing, GoesOn, HasExited, HasTrapped, run}
use Rattle.cost_theory.specs.Graph.{Loops, with_trips, leaves, AreWithin}
use Rattle.cost_theory.proofs.Laws.{none-any}
use Rattle.graph_runs.specs.ReturnAddresses.{returns_after}
use Rattle.graph_runs.specs.KeptSteps.{Carried, counts_after, leaves_by, breaks, is_broken, keeps_counts, kept_more}
use Rattle.graph_runs.specs.KeptRuns.{watched, kept_at}
use Rattle.graph_runs.specs.Laws.{KeptRunsAreKeptByLess}
use Rattle.graph_runs.proofs.KeptLaws.{AreLate, kept_parts}

module _ (l : Loops) (trips : ℕ → ℕ) (less : (k : ℕ) → k < l.loops → trips k ≤ l.least_trips k) where
  still_late : (m : Move) (pc next k count : ℕ) → k < l.loops → (leaves_by m l pc next k ≡ true → l.least_trips k ≤ count) →
      (leaves_by m (with_trips l trips) pc next k && nat_lt count (trips k)) ≡ false
  still_late Local pc next k count kl late = go (leaves l k pc (Some next)) refl
    where
      go : (b : Bool) → leaves l k pc (Some next) ≡ b → (leaves l k pc (Some next) && nat_lt count (trips k)) ≡ false
      go false e = ap (λ b. b && nat_lt count (trips k)) e
      go true e =
          let a : l.least_trips k ≤ count = late e in
          let b : trips k ≤ l.least_trips k = less k kl in
          let c : nat_lt count (trips k) ≡ false = le-ltb count (trips k) (omega arith) in
          ap (λ b. b && nat_lt count (trips k)) e ∙ c
  still_late Call pc next k count kl late = refl
  still_late Return pc next k count kl late = refl

  still_kept : (counts : ℕ → ℕ) (x : Stepped) (o : Option (List ℕ)) (d : Carried) → keeps_counts l counts x o ≡ Some d → keeps_counts (with_trips l trips) counts x o ≡ Some d
  still_kept counts x None d h = let bad : ⊥ = cc in absurd bad
  still_kept counts x (Some rs) d h =
      let p : (Some rs ≡ Some d.returns) × (counts ≡ d.counts) × AreWithin l counts × AreLate l counts x = kept_parts l counts x (Some rs) d h in
      let none : is_broken (with_trips l trips) counts x ≡ false = none-any l.loops (breaks (with_trips l trips) counts x) (λ k kl.
      or_from _ _ (le-ltb (l.bound k) (counts k) (p.2 k kl)) (still_late x.moved x.pc x.next k (counts k) kl (p.3 k kl))) in
      let rest : rs ≡ d.returns = list_of rs d.returns p.0 in
      cond-false _ _ _ none ∙ (ap (λ ss. Some (record { returns = ss; counts = counts })) rest ∙ ap (λ f. Some (record { returns = d.returns; counts = f })) p.1)
    where
      list_of : (a b : List ℕ) → Some a ≡ Some b → a ≡ b
      list_of a b e = let r : a ≡ b = cc in r

  still_more : (o : Option Carried) (x : Stepped) (d : Carried) → kept_more l o x ≡ Some d → kept_more (with_trips l trips) o x ≡ Some d
  still_more None x d h = let bad : ⊥ = cc in absurd bad
  still_more (Some c) x d h = still_kept (counts_after l c x) x (returns_after c.returns x) d h

  module _ (env : Setting) (s : State) where
    -- what is so of what is carried before is so of what is carried behind
    one_more : (n : ℕ) → ((c : Carried) → kept_at env s l n ≡ Some c → kept_at env s (with_trips l trips) n ≡ Some c) →
        (q : Standing) (end : StepEnd) (d : Carried) → watched l (kept_at env s l n) q end ≡ Some d → watched (with_trips l trips) (kept_at env s (with_trips l trips) n) q end ≡ Some d
    one_more n ih GoesOn (Went x) d h = by_before (kept_at env s l n) refl
      where
        by_before : (o : Option Carried) → kept_at env s l n ≡ o → kept_more (with_trips l trips) (kept_at env s (with_trips l trips) n) x ≡ Some d
        by_before None e = let q : kept_more l None x ≡ Some d = subst (λ o. kept_more l o x ≡ Some d) e h in let bad : ⊥ = cc in absurd bad
        by_before (Some c) e =
            let q : kept_more l (Some c) x ≡ Some d = subst (λ o. kept_more l o x ≡ Some d) e h in
            subst (λ o. kept_more (with_trips l trips) o x ≡ Some d) (sym (ih c e)) (still_more (Some c) x d q)
    one_more n ih GoesOn (Exited x status) d h = ih d h
    one_more n ih GoesOn (Trapped trap) d h = ih d h
    one_more n ih (HasExited status) end d h = ih d h
    one_more n ih (HasTrapped trap) end d h = ih d h

    pub by_less : (n : ℕ) (c : Carried) → kept_at env s l n ≡ Some c → kept_at env s (with_trips l trips) n ≡ Some c
    unfolding kept_at
    by_less zero c h = h
    by_less (suc n) c h = one_more n (λ d q. by_less n d q) (run env s n).standing (step env (run env s n).state).end c h

pub kept_by_less : KeptRunsAreKeptByLess
kept_by_less env s l trips less n c h = by_less l trips less env s n c h
