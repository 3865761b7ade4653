-- Runs that are kept by some loops and by others.
use Rattle.std.proofs.Common.{◌≡◌, ℕ, zero, suc, ◌*◌, ◌/◌, ◌<◌, ◌≤◌, ⊎_elim, Bool, true, false, ◌&&◌, ◌||◌, ◌==◌, nat_lt, List, [], ◌∷◌, ◌++◌, Option, Some, None, refl, sym, ap, ◌∙◌, subst, arith}
use Rattle.std.proofs.lemmas.Bool.{cond_both, cond-false, or_from, le-ltb}
use Rattle.std.proofs.Math.Nat.{le-div_iff_mul-le}
use Rattle.std.proofs.lemmas.List.Sums.{fold-append}
use Rattle.scale_base.specs.declared.stepping.Move.{Move}
use Rattle.scale_base.specs.declared.stepping.Move.TheVariants.{Local, Call, Return}
use Rattle.scale_base.specs.declared.stepping.Stepped.{Stepped}
use Rattle.scale_base.specs.declared.stepping.StepEnd.{StepEnd}
use Rattle.scale_base.specs.declared.stepping.StepEnd.TheVariants.{Went, Exited, Trapped}
use Rattle.scale_base.specs.State.{Setting, State, reg}
use Rattle.scale_base.specs.declared.instruction.Instr.{Instr}
use Rattle.scale_base.specs.declared.instruction.Instr.TheVariants.{Ecall}
use Rattle.scale_base.specs.Step.{Outcome, stepped, performs, step}
use Rattle.scale_base.specs.Run.{Run, Standing, GoesOn, HasExited, HasTrapped, one_more_by, ended, run}
use Rattle.cost_theory.specs.Graph.{Loops}
use Rattle.cost_theory.specs.Reached.{Code}
use Rattle.cost_theory.proofs.Laws.{none-any}
use Rattle.code_text.specs.Text.{Text}
use Rattle.code_text.specs.TextGraph.{text_graph, IsReachedCode}
use Rattle.graph_runs.specs.ReturnAddresses.{returns_by, returns_after}
use Rattle.graph_runs.specs.RunTransitions.{returns_more, returns_so}
use Rattle.graph_runs.specs.KeptSteps.{Carried, carried_first, counts_after, leaves_by, breaks, is_broken, keeps_counts, kept_more}
use Rattle.graph_runs.specs.KeptRuns.{watched, kept_at}
use Rattle.graph_runs.specs.Laws.{IsStartOver}
use Rattle.graph_runs.proofs.Laws.{AreLate, EndsBy, IsDone, IsExit, IsTrap, kept_parts, step_done}
use Rattle.bound_laws.specs.Turning.{unasked, with_bounds, HasBound}
use Rattle.bound_laws.specs.Laws.{BoundsAreKeptByReturns, FoundBoundsAreKept, ReturnsAreKept}
use Rattle.bound_laws.proofs.TurningRuns.{bound_turns}

-- a kept step by one list of loops is one by another of the same headers and bodies, which it does not break
module _ (l m : Loops) (same : (c : Carried) (x : Stepped) → counts_after m c x ≡ counts_after l c x) (env : Setting) (s : State)
    (unbroken : (n : ℕ) (c d : Carried) (x : Stepped) → kept_at env s m (suc n) ≡ Some d → kept_more m (Some c) x ≡ Some d → is_broken l d.counts x ≡ false) where
  still : (n : ℕ) (c d : Carried) (x : Stepped) → kept_at env s m (suc n) ≡ Some d → kept_more m (Some c) x ≡ Some d → kept_more l (Some c) x ≡ Some d
  still n c d x h k =
      let p = kept_parts m (counts_after m c x) x (returns_after c.returns x) d k in
      let counts : counts_after l c x ≡ d.counts = sym (same c x) ∙ p.1 in
      ap (keeps_counts l (counts_after l c x) x) p.0
      ∙ (ap (λ f. keeps_counts l f x (Some d.returns)) counts
      ∙ cond-false _ _ _ (unbroken n c d x h k))

  more : (n : ℕ) → ((c : Carried) → kept_at env s m n ≡ Some c → kept_at env s l n ≡ Some c) → (d : Carried) → kept_at env s m (suc n) ≡ Some d →
      (q : Standing) (end : StepEnd) → watched m (kept_at env s m n) q end ≡ Some d → watched l (kept_at env s l n) q end ≡ Some d
  more n ih d whole GoesOn (Went x) h = by_before (kept_at env s m n) refl
    where
      by_before : (o : Option Carried) → kept_at env s m n ≡ o → kept_more l (kept_at env s l n) x ≡ Some d
      by_before None e = let q : kept_more m None x ≡ Some d = subst (λ o. kept_more m o x ≡ Some d) e h in let bad : ⊥ = cc in absurd bad
      by_before (Some c) e =
          let q : kept_more m (Some c) x ≡ Some d = subst (λ o. kept_more m o x ≡ Some d) e h in
          subst (λ o. kept_more l o x ≡ Some d) (sym (ih c e)) (still n c d x whole q)
  more n ih d whole GoesOn (Exited x status) h = ih d h
  more n ih d whole GoesOn (Trapped trap) h = ih d h
  more n ih d whole (HasExited status) end h = ih d h
  more n ih d whole (HasTrapped trap) end h = ih d h

  next : (n : ℕ) → ((c : Carried) → kept_at env s m n ≡ Some c → kept_at env s l n ≡ Some c) → (d : Carried) → kept_at env s m (suc n) ≡ Some d → kept_at env s l (suc n) ≡ Some d
  unfolding kept_at
  next n ih d h = more n ih d h (run env s n).standing (step env (run env s n).state).end h

  pub kept_too : (n : ℕ) (d : Carried) → kept_at env s m n ≡ Some d → kept_at env s l n ≡ Some d
  unfolding kept_at
  kept_too zero d h = h
  kept_too (suc n) d h = next n (λ c q. kept_too n c q) d h

-- a step breaks no loop that it leaves late and whose count is within its bound
pub not_broken : (l : Loops) (counts : ℕ → ℕ) (x : Stepped) → ((k : ℕ) → k < l.loops → counts k ≤ l.bound k) → AreLate l counts x → is_broken l counts x ≡ false
not_broken l counts x within late = none-any l.loops (breaks l counts x) (λ k kl. or_from _ _ (le-ltb (l.bound k) (counts k) (within k kl)) (in_time k (leaves_by x.moved l x.pc x.next k) refl (late k kl)))
  where
    in_time : (k : ℕ) (b : Bool) → leaves_by x.moved l x.pc x.next k ≡ b → (leaves_by x.moved l x.pc x.next k ≡ true → l.least_trips k ≤ counts k) →
        (leaves_by x.moved l x.pc x.next k && nat_lt (counts k) (l.least_trips k)) ≡ false
    in_time k false e h = ap (λ b. b && nat_lt (counts k) (l.least_trips k)) e
    in_time k true e h = ap (λ b. b && nat_lt (counts k) (l.least_trips k)) e ∙ le-ltb (counts k) (l.least_trips k) (h e)

few_turns : (count least width bound : ℕ) → 0 < least → count * least ≤ width → width / least ≤ bound → count ≤ bound
few_turns count least width bound p a b = let q : count ≤ width / least = (le-div_iff_mul-le p).1 a in omega arith

-- a loop with a bound keeps it, as long as returns go back to their calls
pub has_bound : (t : Text) (env : Setting) (s : State) (code : Code) (l : Loops) (k : ℕ) → IsStartOver t env s → IsReachedCode t code → HasBound t env s (text_graph t code) l k →
    (n : ℕ) (d : Carried) → kept_at env s (unasked l) n ≡ Some d → d.counts k ≤ l.bound k
has_bound t env s code l k start reached has n d kept =
    few_turns (d.counts k) has.certificate.least has.certificate.width (l.bound k) has.positive (bound_turns t env s code l k has.certificate start reached has.is has.within n d kept) has.enough

pub kept_by_returns : BoundsAreKeptByReturns
kept_by_returns t env s code l start reached has n d kept = kept_too l (unasked l) (λ c x. refl) env s
    (λ n c d x whole k. not_broken l d.counts x
    (λ j jl. has_bound t env s code l j start reached (has j jl).0 (suc n) d whole)
    (λ j jl left. let z : l.least_trips j ≡ 0 = (has j jl).1 in let r : l.least_trips j ≤ d.counts j = omega arith in r)) n d kept

-- bounds say nothing of which loops are left
same_leaving : (l : Loops) (bounds : ℕ → ℕ) (m : Move) (pc next k : ℕ) → leaves_by m (with_bounds l bounds) pc next k ≡ leaves_by m l pc next k
same_leaving l bounds Local pc next k = refl
same_leaving l bounds Call pc next k = refl
same_leaving l bounds Return pc next k = refl

pub found_kept : FoundBoundsAreKept
found_kept t env s code l bounds start reached has n d kept = kept_too l (with_bounds l bounds) (λ c x. refl) env s
    (λ n c d x whole k.
    let p = kept_parts (with_bounds l bounds) (counts_after l c x) x (returns_after c.returns x) d k in
    not_broken l d.counts x
    (λ j jl. ⊎_elim
    (λ (b : HasBound t env s (text_graph t code) l j). has_bound t env s code l j start reached b (suc n) d (kept_too (unasked l) (with_bounds l bounds) (λ c x. refl) env s (λ n c d x whole k. refl) (suc n) d whole))
    (λ (low : bounds j ≤ l.bound j). let q : counts_after l c x j ≤ bounds j = p.2 j jl in let e : counts_after l c x j ≡ d.counts j = ap (λ f. f j) p.1 in let r : d.counts j ≤ l.bound j = omega arith in r) (has j jl))
    (λ j jl left. subst (λ f. l.least_trips j ≤ f j) p.1 (p.3 j jl (same_leaving l bounds x.moved x.pc x.next j ∙ left)))) n d kept

-- a step that exits is local
exited_moved : (env : Setting) (s : State) (x : Stepped) (status : ℕ) → (step env s).end ≡ Exited x status → x.moved ≡ Local
exited_moved env s x status end = ⊎_elim
    (λ (trap : IsTrap (step env s).end). absurd (subst IsTrap end trap))
    (λ (d : (i : Instr) × IsDone env s i (step env s).end (step env s).state).
    let exit : IsExit d.0 s x = subst (λ e. EndsBy d.0 s e (step env s).state) end d.1.ends in
    subst (λ o. o.end ≡ Exited x status → x.moved ≡ Local) (sym (d.1.is ∙ ap (λ i. performs env s i i) exit.exits)) of_ecall end) (step_done env s)
  where
    of_ecall : (performs env s Ecall Ecall).end ≡ Exited x status → x.moved ≡ Local
    of_ecall = cond_both ((reg s.regs 17 == 93) || (reg s.regs 17 == 94)) _ _ (λ (o : Outcome). o.end ≡ Exited x status → x.moved ≡ Local)
        (λ _ h. let same : stepped env s Ecall false None s.pc ≡ x = cc in sym (ap (λ y. y.moved) same))
        (λ _ h. let bad : ⊥ = cc in absurd bad)

module _ (env : Setting) (s : State) (l : Loops) where
  abbrev KeptSo : Run → Option Carried → List ℕ → Type 0
  KeptSo r o rs = (d : Carried) × (o ≡ Some d) × (d.returns ≡ rs)

  -- the return addresses before the last step
  before : (xs : List Stepped) (x : Stepped) (rs : List ℕ) → returns_so (xs ++ x ∷ []) ≡ Some rs → (o : Option (List ℕ)) → returns_so xs ≡ o → (ss : List ℕ) × (returns_so xs ≡ Some ss) × (returns_after ss x ≡ Some rs)
  before xs x rs h None e = let q : returns_so (xs ++ x ∷ []) ≡ None = fold-append returns_more (Some []) xs (x ∷ []) ∙ ap (λ o. returns_more o x) e in let bad : ⊥ = cc in absurd bad
  before xs x rs h (Some ss) e = let q : returns_so (xs ++ x ∷ []) ≡ returns_after ss x = fold-append returns_more (Some []) xs (x ∷ []) ∙ ap (λ o. returns_more o x) e in (ss, e, sym q ∙ h)

  more_returns : (n : ℕ) → ((rs : List ℕ) → returns_so (run env s n).steps ≡ Some rs → KeptSo (run env s n) (kept_at env s (unasked l) n) rs) →
      (rs : List ℕ) → returns_so (run env s (suc n)).steps ≡ Some rs → KeptSo (run env s (suc n)) (kept_at env s (unasked l) (suc n)) rs
  unfolding run kept_at
  more_returns n ih rs h = by_standing (run env s n).standing refl
    where
      r : Run
      r = run env s n

      by_end : r.standing ≡ GoesOn → (end : StepEnd) → (step env r.state).end ≡ end → returns_so (ended r.steps end (step env r.state).state).steps ≡ Some rs →
          KeptSo (ended r.steps end (step env r.state).state) (watched (unasked l) (kept_at env s (unasked l) n) GoesOn end) rs
      by_end e (Went x) q k =
          let b = before r.steps x rs k (returns_so r.steps) refl in
          let i : KeptSo r (kept_at env s (unasked l) n) b.0 = ih b.0 b.1 in
          let then : returns_after i.0.returns x ≡ Some rs = ap (λ y. returns_after y x) i.2 ∙ b.2 in (
            record { returns = rs; counts = counts_after (unasked l) i.0 x },
            ap (λ o. kept_more (unasked l) o x) i.1 ∙ ap (keeps_counts (unasked l) (counts_after (unasked l) i.0 x) x) then,
            refl,
          )
      by_end e (Exited x status) q k =
          let b = before r.steps x rs k (returns_so r.steps) refl in
          let i : KeptSo r (kept_at env s (unasked l) n) b.0 = ih b.0 b.1 in
          let local : returns_after b.0 x ≡ Some b.0 = ap (λ m. returns_by m b.0 x) (exited_moved env r.state x status q) in
          let z : Some b.0 ≡ Some rs = sym local ∙ b.2 in
          let z1 : b.0 ≡ rs = cc in (i.0, i.1, i.2 ∙ z1)
      by_end e (Trapped trap) q k =
          ih rs k

      going : (q : Standing) → r.standing ≡ q → KeptSo (one_more_by env r q) (watched (unasked l) (kept_at env s (unasked l) n) q (step env r.state).end) rs → KeptSo (run env s (suc n)) (kept_at env s (unasked l) (suc n)) rs
      going q e k = subst (λ y. KeptSo (one_more_by env r y) (watched (unasked l) (kept_at env s (unasked l) n) y (step env r.state).end) rs) (sym e) k

      by_standing : (q : Standing) → r.standing ≡ q → KeptSo (run env s (suc n)) (kept_at env s (unasked l) (suc n)) rs
      by_standing GoesOn e = going GoesOn e (by_end e (step env r.state).end refl (subst (λ y. returns_so (one_more_by env r y).steps ≡ Some rs) e h))
      by_standing (HasExited status) e = going (HasExited status) e (ih rs (subst (λ y. returns_so (one_more_by env r y).steps ≡ Some rs) e h))
      by_standing (HasTrapped trap) e = going (HasTrapped trap) e (ih rs (subst (λ y. returns_so (one_more_by env r y).steps ≡ Some rs) e h))

  first_returns : (rs : List ℕ) → returns_so (run env s 0).steps ≡ Some rs → KeptSo (run env s 0) (kept_at env s (unasked l) 0) rs
  unfolding run kept_at
  first_returns rs h = let e : [] ≡ rs = cc in (carried_first, refl, e)

  pub all_returns : (n : ℕ) (rs : List ℕ) → returns_so (run env s n).steps ≡ Some rs → KeptSo (run env s n) (kept_at env s (unasked l) n) rs
  all_returns zero rs h = first_returns rs h
  all_returns (suc n) rs h = more_returns n (λ ss q. all_returns n ss q) rs h

pub returns_kept : ReturnsAreKept
returns_kept env s l n rs h = all_returns env s l n rs h
