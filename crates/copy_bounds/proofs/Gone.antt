-- The steps of a run that go on, and what is carried along them.
use Rattle.std.proofs.Common.{◌≡◌, ℕ, zero, suc, ◌≤◌, false, ◌||◌, ◌==◌, ◌⊎◌, inl, inr, ⊎_elim, List, [], ◌∷◌, ◌++◌, length, refl, sym, ap, ◌∙◌, subst, arith, Option, Some, None}
use Rattle.std.specs.List.{fold}
use Rattle.std.proofs.lemmas.Bool.{cond_both}
use Rattle.std.proofs.lemmas.List.Sums.{fold-append}
use Rattle.scale_base.specs.declared.instruction.Instr.{Instr}
use Rattle.scale_base.specs.declared.instruction.Instr.TheVariants.{Ecall}
use Rattle.scale_base.specs.declared.stepping.Move.TheVariants.{Local}
use Rattle.scale_base.specs.declared.stepping.Stepped.{Stepped}
use Rattle.scale_base.specs.declared.stepping.StepEnd.{StepEnd}
use Rattle.scale_base.specs.declared.stepping.StepEnd.TheVariants.{Went, Exited, Trapped}
use Rattle.scale_base.specs.State.{Setting, State, reg}
use Rattle.scale_base.specs.Step.{Outcome, stepped, performs, step}
use Rattle.scale_base.specs.Run.{Run, Standing, GoesOn, HasExited, HasTrapped, one_more_by, ended, run}
use Rattle.cost_theory.specs.Graph.{Loops}
use Rattle.graph_runs.specs.ReturnAddresses.{returns_by, returns_after}
use Rattle.graph_runs.specs.RunTransitions.{returns_more, returns_so}
use Rattle.graph_runs.specs.KeptSteps.{Carried, carried_first, counts_after, kept_more}
use Rattle.graph_runs.specs.KeptRuns.{watched, kept_at}
use Rattle.graph_runs.proofs.Laws.{EndsBy, IsDone, IsExit, IsTrap, going_length, kept_parts, step_done}
use Rattle.version_laws.proofs.Laws.{but_last, gone, gone_by}
use Rattle.copy_bounds.proofs.Pairs.{Leads, kept_along, kept_last, snoc_length}

-- a step that exits is local
exited_moved : (env : Setting) (s : State) (x : Stepped) (status : ℕ) → (step env s).end ≡ Exited x status → x.moved ≡ Local
exited_moved env s x status end = ⊎_elim
    (λ (trap : IsTrap (step env s).end). absurd (subst IsTrap end trap))
    (λ (d : (i : Instr) × IsDone env s i (step env s).end (step env s).state).
    let exit : IsExit d.0 s x = subst (λ e. EndsBy d.0 s e (step env s).state) end d.1.ends in
    subst (λ o. o.end ≡ Exited x status → x.moved ≡ Local) (sym (d.1.is ∙ ap (λ i. performs env s i i) exit.exits)) of_ecall end) (step_done env s)
  where
    of_ecall : (performs env s Ecall Ecall).end ≡ Exited x status → x.moved ≡ Local
    of_ecall = cond_both ((reg s.regs 17 == 93) || (reg s.regs 17 == 94)) _ _ (λ (o : Outcome). o.end ≡ Exited x status → x.moved ≡ Local)
        (λ _ h. let same : stepped env s Ecall false None s.pc ≡ x = cc in sym (ap (λ y. y.moved) same))
        (λ _ h. let bad : ⊥ = cc in absurd bad)

-- ---- what is carried along steps has their return addresses

none_along : (xs : List Stepped) (l : Loops) (f : Carried) → fold (kept_more l) None xs ≡ Some f → ⊥
none_along [] l f e = cc
none_along (x ∷ xs) l f e = none_along xs l f e

returns_from : (l : Loops) (xs : List Stepped) (c f : Carried) → fold (kept_more l) (Some c) xs ≡ Some f → fold returns_more (Some c.returns) xs ≡ Some f.returns
returns_from l [] c f e = let same : c ≡ f = cc in ap (λ (d : Carried). Some d.returns) same
returns_from l (x ∷ xs) c f e = by (kept_more l (Some c) x) refl (λ d h. returns_from l xs d f h)
  where
    by : (o : Option Carried) → kept_more l (Some c) x ≡ o → ((d : Carried) → fold (kept_more l) (Some d) xs ≡ Some f → fold returns_more (Some d.returns) xs ≡ Some f.returns) →
        fold returns_more (Some c.returns) (x ∷ xs) ≡ Some f.returns
    by None h rest = absurd (none_along xs l f (sym (ap (λ o. fold (kept_more l) o xs) h) ∙ e))
    by (Some d) h rest =
        let p = kept_parts l (counts_after l c x) x (returns_after c.returns x) d h in
        ap (λ o. fold returns_more o xs) p.0 ∙ rest d (sym (ap (λ o. fold (kept_more l) o xs) h) ∙ e)

pub returns_along : (l : Loops) (xs : List Stepped) (f : Carried) → kept_along l xs ≡ Some f → returns_so xs ≡ Some f.returns
returns_along l xs f e = returns_from l xs carried_first f e

module _ (env : Setting) (s : State) where
  -- the run with one step more: it goes on, or ends, or has ended before
  pub data NextRun (n : ℕ) : Type 0 where
    goes : (x : Stepped) → (run env s n).standing ≡ GoesOn → (run env s (suc n)).standing ≡ GoesOn → (run env s (suc n)).steps ≡ (run env s n).steps ++ x ∷ [] →
        ((l : Loops) → kept_at env s l (suc n) ≡ kept_more l (kept_at env s l n) x) → NextRun n
    ends : gone (run env s (suc n)) ≡ gone (run env s n) → ((l : Loops) → kept_at env s l (suc n) ≡ kept_at env s l n) →
        (returns_so (run env s n).steps ≡ returns_so (gone (run env s n)) → returns_so (run env s (suc n)).steps ≡ returns_so (gone (run env s (suc n)))) → NextRun n

  gone_going : (r : Run) → r.standing ≡ GoesOn → gone r ≡ r.steps
  gone_going r e = ap (λ q. gone_by q r.steps) e

  next_run : (n : ℕ) → NextRun n
  unfolding run kept_at
  next_run n = by_standing (run env s n).standing refl
    where
      r : Run
      r = run env s n

      ran : (q : Standing) → r.standing ≡ q → run env s (suc n) ≡ one_more_by env r q
      ran q e = ap (one_more_by env r) e

      stays : run env s (suc n) ≡ r → ((l : Loops) → kept_at env s l (suc n) ≡ kept_at env s l n) → NextRun n
      stays same kept = ends (ap gone same) kept (λ h. ap (λ (q : Run). returns_so q.steps) same ∙ (h ∙ sym (ap (λ (q : Run). returns_so (gone q)) same)))

      moved_more : (o : Option (List ℕ)) (x : Stepped) → x.moved ≡ Local → returns_more o x ≡ o
      moved_more None x e = refl
      moved_more (Some rs) x e = ap (λ q. returns_by q rs x) e

      by_end : r.standing ≡ GoesOn → (end : StepEnd) → (step env r.state).end ≡ end → NextRun n
      by_end e (Went x) w =
          let same : run env s (suc n) ≡ ended r.steps (Went x) (step env r.state).state = ran GoesOn e ∙ ap (λ y. ended r.steps y (step env r.state).state) w in
          goes x e (ap (λ (q : Run). q.standing) same) (ap (λ (q : Run). q.steps) same)
          (λ l. ap (λ q. watched l (kept_at env s l n) q (step env r.state).end) e ∙ ap (λ y. watched l (kept_at env s l n) GoesOn y) w)
      by_end e (Exited x status) w =
          let same : run env s (suc n) ≡ ended r.steps (Exited x status) (step env r.state).state = ran GoesOn e ∙ ap (λ y. ended r.steps y (step env r.state).state) w in
          ends (ap gone same ∙ (but_last r.steps x ∙ sym (gone_going r e)))
          (λ l. ap (λ q. watched l (kept_at env s l n) q (step env r.state).end) e ∙ ap (λ y. watched l (kept_at env s l n) GoesOn y) w)
          (λ h. ap (λ (q : Run). returns_so q.steps) same
          ∙ (fold-append returns_more (Some []) r.steps (x ∷ [])
          ∙ (moved_more (returns_so r.steps) x (exited_moved env r.state x status w)
          ∙ sym (ap (λ (q : Run). returns_so (gone q)) same ∙ ap (λ (zs : List Stepped). returns_so zs) (but_last r.steps x)))))
      by_end e (Trapped trap) w =
          let same : run env s (suc n) ≡ ended r.steps (Trapped trap) (step env r.state).state = ran GoesOn e ∙ ap (λ y. ended r.steps y (step env r.state).state) w in
          ends (ap gone same ∙ sym (gone_going r e))
          (λ l. ap (λ q. watched l (kept_at env s l n) q (step env r.state).end) e ∙ ap (λ y. watched l (kept_at env s l n) GoesOn y) w)
          (λ h. ap (λ (q : Run). returns_so q.steps) same ∙ sym (ap (λ (q : Run). returns_so (gone q)) same))

      by_standing : (q : Standing) → r.standing ≡ q → NextRun n
      by_standing GoesOn e = by_end e (step env r.state).end refl
      by_standing (HasExited status) e = stays (ran (HasExited status) e) (λ l. ap (λ q. watched l (kept_at env s l n) q (step env r.state).end) e)
      by_standing (HasTrapped trap) e = stays (ran (HasTrapped trap) e) (λ l. ap (λ q. watched l (kept_at env s l n) q (step env r.state).end) e)

  -- ---- by the number of steps

  kept_none : (l : Loops) → kept_at env s l 0 ≡ kept_along l (gone (run env s 0))
  unfolding run kept_at
  kept_none l = refl

  pub kept_is : (l : Loops) (n : ℕ) → kept_at env s l n ≡ kept_along l (gone (run env s n))
  kept_is l zero = kept_none l
  kept_is l (suc n) = by (next_run n) (kept_is l n)
    where
      by : NextRun n → kept_at env s l n ≡ kept_along l (gone (run env s n)) → kept_at env s l (suc n) ≡ kept_along l (gone (run env s (suc n)))
      by (goes x e going steps kept) ih =
          kept l
          ∙ (ap (λ o. kept_more l o x) (ih ∙ ap (kept_along l) (gone_going (run env s n) e))
          ∙ (sym (kept_last l (run env s n).steps x)
          ∙ sym (ap (kept_along l) (gone_going (run env s (suc n)) going ∙ steps))))
      by (ends same kept returns) ih = kept l ∙ (ih ∙ sym (ap (kept_along l) same))

  pub leads_self : (n : ℕ) → (run env s n).standing ≡ GoesOn → Leads env s (run env s n).steps (run env s n).state
  leads_self n e =
      ap (run env s) (going_length env s n e) ∙ ap (λ (q : Standing). record { steps = (run env s n).steps; state = (run env s n).state; standing = q }) e

  leads_first : Leads env s (gone (run env s 0)) s
  unfolding run
  leads_first = refl

  -- the run goes on behind the steps that go on
  pub gone_leads : (n : ℕ) → (w : State) × Leads env s (gone (run env s n)) w
  gone_leads zero = (s, leads_first)
  gone_leads (suc n) = by (next_run n) (gone_leads n)
    where
      by : NextRun n → (w : State) × Leads env s (gone (run env s n)) w → (w : State) × Leads env s (gone (run env s (suc n))) w
      by (goes x e going steps kept) ih =
          ((run env s (suc n)).state, subst (λ xs. Leads env s xs (run env s (suc n)).state) (sym (gone_going (run env s (suc n)) going)) (leads_self (suc n) going))
      by (ends same kept returns) ih = (ih.0, subst (λ xs. Leads env s xs ih.0) (sym same) ih.1)

  no_steps : length (gone (run env s 0)) ≡ 0
  unfolding run
  no_steps = refl

  pub few_gone : (n : ℕ) → length (gone (run env s n)) ≤ n
  few_gone zero = let e = no_steps in omega (arith, e)
  few_gone (suc n) = by (next_run n) (few_gone n)
    where
      by : NextRun n → length (gone (run env s n)) ≤ n → length (gone (run env s (suc n))) ≤ suc n
      by (goes x e going steps kept) ih =
          let now = ap (λ (xs : List Stepped). length xs) (gone_going (run env s (suc n)) going ∙ (steps ∙ ap (λ (xs : List Stepped). xs ++ x ∷ []) (sym (gone_going (run env s n) e)))) in
          let more = snoc_length (gone (run env s n)) x in
          let r : length (gone (run env s (suc n))) ≤ suc n = omega (arith, now, more, ih) in r
      by (ends same kept returns) ih = let e = ap (λ (xs : List Stepped). length xs) same in let r : length (gone (run env s (suc n))) ≤ suc n = omega (arith, e, ih) in r

  more_gone : (n : ℕ) → length (gone (run env s n)) ≤ length (gone (run env s (suc n)))
  more_gone n = by (next_run n)
    where
      by : NextRun n → length (gone (run env s n)) ≤ length (gone (run env s (suc n)))
      by (goes x e going steps kept) =
          let now = ap (λ (xs : List Stepped). length xs) (gone_going (run env s (suc n)) going ∙ (steps ∙ ap (λ (xs : List Stepped). xs ++ x ∷ []) (sym (gone_going (run env s n) e)))) in
          let more = snoc_length (gone (run env s n)) x in
          let r : length (gone (run env s n)) ≤ length (gone (run env s (suc n))) = omega (arith, now, more) in r
      by (ends same kept returns) = let e = ap (λ (xs : List Stepped). length xs) same in let r : length (gone (run env s n)) ≤ length (gone (run env s (suc n))) = omega (arith, e) in r

  pub gone_up_to : (i n : ℕ) → i ≤ n → length (gone (run env s i)) ≤ length (gone (run env s n))
  gone_up_to i zero le = let e : i ≡ 0 = omega (arith, le) in let same = ap (λ k. length (gone (run env s k))) e in let r : length (gone (run env s i)) ≤ length (gone (run env s 0)) = omega (arith, same) in r
  gone_up_to i (suc n) le = by (last_or_before i n le) (λ low. gone_up_to i n low)
    where
      last_or_before : (i n : ℕ) → i ≤ suc n → (i ≡ suc n) ⊎ (i ≤ n)
      last_or_before i n le = grind (arith, le)

      by : (i ≡ suc n) ⊎ (i ≤ n) → (i ≤ n → length (gone (run env s i)) ≤ length (gone (run env s n))) → length (gone (run env s i)) ≤ length (gone (run env s (suc n)))
      by (inl e) ih = let same = ap (λ k. length (gone (run env s k))) e in let r : length (gone (run env s i)) ≤ length (gone (run env s (suc n))) = omega (arith, same) in r
      by (inr low) ih = let before = ih low in let more = more_gone n in let r : length (gone (run env s i)) ≤ length (gone (run env s (suc n))) = omega (arith, before, more) in r

  -- what is carried after so many steps is carried behind those that go on
  pub kept_leads : (l : Loops) (xs : List Stepped) (w : State) → Leads env s xs w → kept_at env s l (length xs) ≡ kept_along l xs
  kept_leads l xs w leads = kept_is l (length xs) ∙ ap (λ (q : Run). kept_along l (gone q)) leads

  pub kept_gone : (l : Loops) (n : ℕ) → kept_at env s l n ≡ kept_at env s l (length (gone (run env s n)))
  kept_gone l n = let g = gone_leads n in kept_is l n ∙ sym (kept_leads l (gone (run env s n)) g.0 g.1)

  returns_none : returns_so (run env s 0).steps ≡ returns_so (gone (run env s 0))
  unfolding run
  returns_none = refl

  -- so are the return addresses
  pub returns_gone : (n : ℕ) → returns_so (run env s n).steps ≡ returns_so (gone (run env s n))
  returns_gone zero = returns_none
  returns_gone (suc n) = by (next_run n) (returns_gone n)
    where
      by : NextRun n → returns_so (run env s n).steps ≡ returns_so (gone (run env s n)) → returns_so (run env s (suc n)).steps ≡ returns_so (gone (run env s (suc n)))
      by (goes x e going steps kept) ih = ap (λ (xs : List Stepped). returns_so xs) (sym (gone_going (run env s (suc n)) going))
      by (ends same kept returns) ih = returns ih
