-- A run by notes of the same loops with other bounds: it breaks no bound where no count that is reached is above one, and breaks the one that a count is above.
use Rattle.std.proofs.Common.{◌≡◌, ◌≢◌, ℕ, zero, suc, ◌+◌, ◌-◌, ◌<◌, ◌≤◌, ◌⊎◌, inl, inr, ⊎_elim, List, length, Option, Some, None, refl, sym, ap, ◌∙◌, subst, arith}
use Rattle.std.proofs.lemmas.Bool.{cases_lt, cases_eq}
use Rattle.scale_base.specs.declared.endings.Kept.{Kept}
use Rattle.scale_base.specs.declared.endings.Kept.TheVariants.{BrokeBound, BrokeReturn, BrokeDepth}
use Rattle.scale_base.specs.declared.endings.Kept.TheVariants as kinds
use Rattle.scale_base.specs.declared.stepping.Stepped.{Stepped}
use Rattle.scale_base.specs.declared.stepping.StepEnd.{StepEnd}
use Rattle.scale_base.specs.declared.stepping.StepEnd.TheVariants.{Went, Exited, Trapped}
use Rattle.scale_base.specs.State.{Setting, State}
use Rattle.scale_base.specs.Step.{step}
use Rattle.scale_base.specs.Run.{Standing, GoesOn, HasExited, HasTrapped, run}
use Rattle.graph_runs.specs.ReturnAddresses.{returns_after}
use Rattle.graph_runs.specs.KeptRuns.{most_returns}
use Rattle.graph_runs.specs.KeptSteps.{source_of}
use Rattle.loop_file.specs.declared.notes.LoopNote.{LoopNote}
use Rattle.loop_file.specs.Kept.{note_at}
use Rattle.keep_monitor.specs.Steps.{broken_by}
use Rattle.keep_monitor.specs.Watch.{Watched, watch, watch_end, watched_first, watched_from, next_counts, loop_broken}
use Rattle.keep_monitor.specs.Reached.{ReachesCount}
use Rattle.keep_monitor.proofs.StepLaws.{watch_stays}
use Rattle.keep_monitor.proofs.AlikeLaws.{AreAlike, going_with, same_count}
use Rattle.keep_monitor.proofs.OutcomeLaws.{Outcome, BreaksReturns, BreaksBound, KeepsAll, outcome, none_broken, broken_is, broken_not}
use Rattle.keep_monitor.proofs.BoundLaws.{NeedNotTurn, within_none, above_found}
use Rattle.keep_monitor.proofs.CountedLaws.{watched_none, watched_more, Agree, agree_first, agree_after, keeps_all}

-- ---- a step

-- where the rules on calls and returns are kept and each count is within its bound, a step keeps all
keeps : (notes : List LoopNote) → NeedNotTurn notes → (returns counts : List ℕ) (x : Stepped) (after : List ℕ) → returns_after returns x ≡ Some after → length after ≤ most_returns →
    ((k : ℕ) → k < length notes → next_counts (going_with notes returns counts) x k ≤ (note_at notes k).bound) → KeepsAll notes returns counts x
keeps notes free returns counts x after moved shallow low = by_outcome (outcome notes returns counts x)
  where
    by_outcome : Outcome notes returns counts x → KeepsAll notes returns counts x
    by_outcome (inl q) = let none : broken_by x (returns_after returns x) ≡ None = none_broken x (returns_after returns x) after moved shallow in let bad : ⊥ = cc in absurd bad
    by_outcome (inr (inl q)) = let e : Some q.at ≡ None = sym q.found ∙ within_none notes free (next_counts (going_with notes returns counts) x) x low in let bad : ⊥ = cc in absurd bad
    by_outcome (inr (inr q)) = q

-- where one count is above its bound and each other within it, a step breaks that bound
breaks_one : (notes : List LoopNote) → NeedNotTurn notes → (returns counts : List ℕ) (x : Stepped) (after : List ℕ) → returns_after returns x ≡ Some after → length after ≤ most_returns →
    (l : ℕ) → l < length notes → (note_at notes l).bound < next_counts (going_with notes returns counts) x l →
    ((k : ℕ) → k < length notes → k ≢ l → next_counts (going_with notes returns counts) x k ≤ (note_at notes k).bound) →
    (watch (going_with notes returns counts) x).kept ≡ BrokeBound (l + 1) (next_counts (going_with notes returns counts) x l)
breaks_one notes free returns counts x after moved shallow l ll high low = by_outcome (outcome notes returns counts x)
  where
    found : loop_broken notes (next_counts (going_with notes returns counts) x) x ≡ Some l
    found = above_found notes free (next_counts (going_with notes returns counts) x) x l ll high (λ k kl less. low k kl (λ e. let bad : ⊥ = omega arith in bad))

    some_same : (a b : ℕ) → Some a ≡ Some b → a ≡ b
    some_same a b e = let r : a ≡ b = cc in r

    by_outcome : Outcome notes returns counts x → (watch (going_with notes returns counts) x).kept ≡ BrokeBound (l + 1) (next_counts (going_with notes returns counts) x l)
    by_outcome (inl q) = let none : broken_by x (returns_after returns x) ≡ None = none_broken x (returns_after returns x) after moved shallow in let bad : ⊥ = cc in absurd bad
    by_outcome (inr (inl q)) =
        ap (λ (w : Watched). w.kept) q.is ∙ ap (λ k. BrokeBound (k + 1) (next_counts (going_with notes returns counts) x k)) (some_same q.at l (sym q.found ∙ found))
    by_outcome (inr (inr q)) = let e : None ≡ Some l = sym q.found ∙ found in let bad : ⊥ = cc in absurd bad

-- a break of the rules on calls and returns is one by any notes
breaks_too : (one other : List LoopNote) (returns counts : List ℕ) (x : Stepped) → BreaksReturns one returns counts x → BreaksReturns other returns counts x
breaks_too one other returns counts x p = by_outcome (outcome other returns counts x)
  where
    by_outcome : Outcome other returns counts x → BreaksReturns other returns counts x
    by_outcome (inl q) = q
    by_outcome (inr (inl q)) = let none : broken_by x (returns_after returns x) ≡ None = none_broken x (returns_after returns x) q.after q.returns_are q.shallow in let why = p.why in let bad : ⊥ = cc in absurd bad
    by_outcome (inr (inr q)) = let none : broken_by x (returns_after returns x) ≡ None = none_broken x (returns_after returns x) q.after q.returns_are q.shallow in let why = p.why in let bad : ⊥ = cc in absurd bad

-- ---- a run whose counts are within the bounds

-- something other than a bound is broken
pub record BreaksOther (k : Kept) : Type 0 where
  pub broken : k ≡ kinds.Kept → ⊥
  pub other : (loop_no count : ℕ) → k ≡ BrokeBound loop_no count → ⊥

returns_other : (x : Stepped) (o : Option (List ℕ)) (b : Kept) → broken_by x o ≡ Some b → BreaksOther b
returns_other x o b e = record {
  broken = broken_not x o b e;
  other = λ loop_no count is. elim (broken_is x o b e) [ inl r ↦ (let bad : ⊥ = cc in bad) | inr r ↦ (let bad : ⊥ = cc in bad) ];
}

abbrev AgreeOr : (one other : List LoopNote) (w v : Watched) → Type 0
AgreeOr one other w v = Agree one other w v ⊎ BreaksOther v.kept

-- a count after a step of a run that agrees is reached
reaches_here : (env : Setting) (s : State) (one other : List LoopNote) (n k : ℕ) (x : Stepped) (a : Agree one other (watched_from env s one n) (watched_from env s other n)) (after : List ℕ) →
    (run env s n).standing ≡ GoesOn → (step env (run env s n).state).end ≡ Went x → returns_after a.returns x ≡ Some after → length after ≤ most_returns →
    ReachesCount env s one n k (next_counts (going_with one a.returns a.counts) x k)
reaches_here env s one other n k x a after going next moved shallow = record {
  next = x;
  returns = after;
  goes_on = going;
  next_is = next;
  kept = ap (λ (w : Watched). w.kept) a.one_is;
  returns_are = ap (λ (w : Watched). returns_after w.returns x) a.one_is ∙ moved;
  shallow = shallow;
  count_is = ap (λ (w : Watched). next_counts w x k) (sym a.one_is);
}

-- the same count by the other notes
count_too : (one other : List LoopNote) → AreAlike one other → (returns counts : List ℕ) (x : Stepped) (k : ℕ) → k < length other →
    next_counts (going_with other returns counts) x k ≡ next_counts (going_with one returns counts) x k
count_too one other a returns counts x k kl = sym (same_count one other a counts (source_of x.moved x.pc returns) x.next k (subst (λ n. k < n) (sym a.size) kl))

pub record AreLower (one other : List LoopNote) : Type 0 where
  pub alike : AreAlike one other
  pub one_free : NeedNotTurn one
  pub other_free : NeedNotTurn other
  pub bounds : (k : ℕ) → k < length other → (note_at other k).bound ≤ (note_at one k).bound

within_on : (env : Setting) (s : State) (one other : List LoopNote) → AreLower one other → (n : ℕ) (x : Stepped) (a : Agree one other (watched_from env s one n) (watched_from env s other n)) →
    (run env s n).standing ≡ GoesOn → (step env (run env s n).state).end ≡ Went x →
    ((k count : ℕ) → k < length other → ReachesCount env s one n k count → count ≤ (note_at other k).bound) →
    AgreeOr one other (watch (watched_from env s one n) x) (watch (watched_from env s other n) x)
within_on env s one other lower n x a going next low = by_outcome (outcome one a.returns a.counts x)
  where
    there : {w w' v v' : Watched} → w ≡ w' → v ≡ v' → AgreeOr one other w' v' → AgreeOr one other w v
    there {w = w} {w' = w'} {v = v} {v' = v'} e f h = subst (λ u. AgreeOr one other u v) (sym e) (subst (λ u. AgreeOr one other w' u) (sym f) h)

    move : AgreeOr one other (watch (going_with one a.returns a.counts) x) (watch (going_with other a.returns a.counts) x) →
        AgreeOr one other (watch (watched_from env s one n) x) (watch (watched_from env s other n) x)
    move h = there (ap (λ w. watch w x) a.one_is) (ap (λ w. watch w x) a.other_is) h

    below : (after : List ℕ) → returns_after a.returns x ≡ Some after → length after ≤ most_returns → (k : ℕ) → k < length other → next_counts (going_with one a.returns a.counts) x k ≤ (note_at other k).bound
    below after moved shallow k kl = low k _ kl (reaches_here env s one other n k x a after going next moved shallow)

    long : (k : ℕ) → k < length one → k < length other
    long k kl = subst (λ m. k < m) lower.alike.size kl

    on : (after : List ℕ) → returns_after a.returns x ≡ Some after → length after ≤ most_returns → AgreeOr one other (watch (going_with one a.returns a.counts) x) (watch (going_with other a.returns a.counts) x)
    on after moved shallow =
        let p : KeepsAll one a.returns a.counts x = keeps one lower.one_free a.returns a.counts x after moved shallow
        (λ k kl. let b = below after moved shallow k (long k kl) in let c = lower.bounds k (long k kl) in omega (arith, b, c)) in
        let q : KeepsAll other a.returns a.counts x = keeps other lower.other_free a.returns a.counts x after moved shallow
        (λ k kl. let b = below after moved shallow k kl in let e = count_too one other lower.alike a.returns a.counts x k kl in omega (arith, b, e)) in
        inl (agree_after one other lower.alike a.returns a.counts x p q)

    by_outcome : Outcome one a.returns a.counts x → AgreeOr one other (watch (watched_from env s one n) x) (watch (watched_from env s other n) x)
    by_outcome (inl p) =
        let q = breaks_too one other a.returns a.counts x p in
        move (inr (subst BreaksOther (sym (ap (λ (w : Watched). w.kept) q.is)) (returns_other x (returns_after a.returns x) q.broken q.why)))
    by_outcome (inr (inl q)) = move (on q.after q.returns_are q.shallow)
    by_outcome (inr (inr q)) = move (on q.after q.returns_are q.shallow)

within_more : (env : Setting) (s : State) (one other : List LoopNote) → AreLower one other → (n : ℕ) →
    AgreeOr one other (watched_from env s one n) (watched_from env s other n) →
    ((k count : ℕ) → k < length other → ReachesCount env s one n k count → count ≤ (note_at other k).bound) →
    (standing : Standing) (end : StepEnd) → (run env s n).standing ≡ standing → (step env (run env s n).state).end ≡ end →
    AgreeOr one other (watch_end (watched_from env s one n) standing end) (watch_end (watched_from env s other n) standing end)
within_more env s one other lower n (inl a) low GoesOn (Went x) at next = within_on env s one other lower n x a at next low
within_more env s one other lower n (inr b) low GoesOn (Went x) at next = inr (subst (λ (w : Watched). BreaksOther w.kept) (watch_stays (watched_from env s other n) x b.broken) b)
within_more env s one other lower n h low GoesOn (Exited x status) at next = h
within_more env s one other lower n h low GoesOn (Trapped trap) at next = h
within_more env s one other lower n h low (HasExited status) end at next = h
within_more env s one other lower n h low (HasTrapped trap) end at next = h

pub within_bounds : (env : Setting) (s : State) (one other : List LoopNote) → AreLower one other → (n : ℕ) →
    ((j k count : ℕ) → j < n → k < length other → ReachesCount env s one j k count → count ≤ (note_at other k).bound) →
    AgreeOr one other (watched_from env s one n) (watched_from env s other n)
within_bounds env s one other lower zero low =
    inl (subst (λ w. Agree one other w (watched_from env s other 0)) (sym (watched_none env s one)) (subst (λ v. Agree one other (watched_first one) v) (sym (watched_none env s other)) (agree_first one other lower.alike)))
within_bounds env s one other lower (suc n) low =
    let h = within_more env s one other lower n (within_bounds env s one other lower n (λ j k count jl. low j k count (let l : j < suc n = omega arith in l)))
    (λ k count. low n k count (let l : n < suc n = omega arith in l)) (run env s n).standing (step env (run env s n).state).end refl refl in
    subst (λ w. AgreeOr one other w (watched_from env s other (suc n))) (sym (watched_more env s one n))
    (subst (λ v. AgreeOr one other (watch_end (watched_from env s one n) (run env s n).standing (step env (run env s n).state).end) v) (sym (watched_more env s other n)) h)

-- a run that is kept or breaks something else breaks no bound
pub no_bound : (one other : List LoopNote) (w v : Watched) → AgreeOr one other w v → (loop_no count : ℕ) → v.kept ≡ BrokeBound loop_no count → ⊥
no_bound one other w v (inl a) loop_no count e = let kept : v.kept ≡ kinds.Kept = ap (λ (u : Watched). u.kept) a.other_is in let bad : ⊥ = cc in bad
no_bound one other w v (inr b) loop_no count e = b.other loop_no count e

-- ---- a run with one count above its bound

-- each count that is reached before is within its bound, but for those of one loop, which come to one more at most
pub record IsTight (env : Setting) (s : State) (one other : List LoopNote) (n l most : ℕ) : Type 0 where
  pub alike : AreAlike one other
  pub free : NeedNotTurn other
  pub loop : l < length other
  pub bound : (note_at other l).bound + 1 ≡ most
  pub others : (j k count : ℕ) → j < n → k < length other → k ≢ l → ReachesCount env s one j k count → count ≤ (note_at other k).bound
  pub this : (j count : ℕ) → j < n → ReachesCount env s one j l count → count ≤ most

abbrev AgreeOrBroke : (one other : List LoopNote) (l most : ℕ) (w v : Watched) → Type 0
AgreeOrBroke one other l most w v = Agree one other w v ⊎ (v.kept ≡ BrokeBound (l + 1) most)

-- the loop's count comes to the most
tight_break : (env : Setting) (s : State) (one other : List LoopNote) (n l most : ℕ) → IsTight env s one other n l most → (j : ℕ) → j < n → (x : Stepped) (a : Agree one other (watched_from env s one j) (watched_from env s other j)) →
    (after : List ℕ) → (run env s j).standing ≡ GoesOn → (step env (run env s j).state).end ≡ Went x → returns_after a.returns x ≡ Some after → length after ≤ most_returns →
    next_counts (going_with one a.returns a.counts) x l ≡ most → (watch (watched_from env s other j) x).kept ≡ BrokeBound (l + 1) most
tight_break env s one other n l most t j jl x a after going next moved shallow here =
    let same = count_too one other t.alike a.returns a.counts x l t.loop in
    let bound = t.bound in
    let broken = breaks_one other t.free a.returns a.counts x after moved shallow l t.loop (omega (arith, same, here, bound))
    (λ k kl ne. let b = t.others j k _ jl kl ne (reaches_here env s one other j k x a after going next moved shallow) in let e = count_too one other t.alike a.returns a.counts x k kl in omega (arith, b, e)) in
    ap (λ (u : Watched). (watch u x).kept) a.other_is ∙ (broken ∙ ap (BrokeBound (l + 1)) (same ∙ here))

tight_on : (env : Setting) (s : State) (one other : List LoopNote) (n l most : ℕ) → IsTight env s one other n l most → (j : ℕ) → j < n → (x : Stepped) (a : Agree one other (watched_from env s one j) (watched_from env s other j)) →
    (run env s j).standing ≡ GoesOn → (step env (run env s j).state).end ≡ Went x → (watch (watched_from env s one j) x).kept ≡ kinds.Kept →
    AgreeOrBroke one other l most (watch (watched_from env s one j) x) (watch (watched_from env s other j) x)
tight_on env s one other n l most t j jl x a going next kept =
    let p : KeepsAll one a.returns a.counts x = keeps_all one a.returns a.counts x (sym (ap (λ (u : Watched). (watch u x).kept) a.one_is) ∙ kept) in
    let count : ℕ = next_counts (going_with one a.returns a.counts) x l in
    let top : count ≤ most = t.this j _ jl (reaches_here env s one other j l x a p.after going next p.returns_are p.shallow) in
    ⊎_elim
    (λ (less : count < most).
    let q : KeepsAll other a.returns a.counts x = keeps other t.free a.returns a.counts x p.after p.returns_are p.shallow (λ k kl. within k kl p less (cases_eq k l)) in
    let b = agree_after one other t.alike a.returns a.counts x p q in
    inl (record { returns = b.returns; counts = b.counts; one_is = ap (λ w. watch w x) a.one_is ∙ b.one_is; other_is = ap (λ w. watch w x) a.other_is ∙ b.other_is }))
    (λ (ge : most ≤ count). let same : count ≡ most = omega arith in inr (tight_break env s one other n l most t j jl x a p.after going next p.returns_are p.shallow same))
    (cases_lt count most)
  where
    within : (k : ℕ) → k < length other → KeepsAll one a.returns a.counts x → next_counts (going_with one a.returns a.counts) x l < most → (k ≡ l) ⊎ (k ≡ l → ⊥) →
        next_counts (going_with other a.returns a.counts) x k ≤ (note_at other k).bound
    within k kl p less (inl e) =
        let here : next_counts (going_with one a.returns a.counts) x k < most = subst (λ i. next_counts (going_with one a.returns a.counts) x i < most) (sym e) less in
        let same = count_too one other t.alike a.returns a.counts x k kl in
        let bound : (note_at other k).bound + 1 ≡ most = ap (λ i. (note_at other i).bound + 1) e ∙ t.bound in
        omega (arith, here, same, bound)
    within k kl p less (inr ne) =
        let b = t.others j k _ jl kl ne (reaches_here env s one other j k x a p.after going next p.returns_are p.shallow) in
        let e = count_too one other t.alike a.returns a.counts x k kl in
        omega (arith, b, e)

-- a break stays
broke_more : (v : Watched) (l most : ℕ) → v.kept ≡ BrokeBound l most → (standing : Standing) (end : StepEnd) → (watch_end v standing end).kept ≡ BrokeBound l most
broke_more v l most e GoesOn (Went x) = sym (ap (λ (u : Watched). u.kept) (watch_stays v x (λ k. let bad : ⊥ = cc in bad))) ∙ e
broke_more v l most e GoesOn (Exited x status) = e
broke_more v l most e GoesOn (Trapped trap) = e
broke_more v l most e (HasExited status) end = e
broke_more v l most e (HasTrapped trap) end = e

broke_later : (env : Setting) (s : State) (notes : List LoopNote) (l most j d : ℕ) → (watched_from env s notes j).kept ≡ BrokeBound l most → (watched_from env s notes (d + j)).kept ≡ BrokeBound l most
broke_later env s notes l most j zero e = ap (λ n. (watched_from env s notes n).kept) (let z : 0 + j ≡ j = omega arith in z) ∙ e
broke_later env s notes l most j (suc d) e =
    ap (λ n. (watched_from env s notes n).kept) (let z : suc d + j ≡ suc (d + j) = omega arith in z) ∙
    (ap (λ (u : Watched). u.kept) (watched_more env s notes (d + j)) ∙
    broke_more (watched_from env s notes (d + j)) l most (broke_later env s notes l most j d e) (run env s (d + j)).standing (step env (run env s (d + j)).state).end)

-- a run that is kept was kept before
kept_less : (w : Watched) (standing : Standing) (end : StepEnd) → (watch_end w standing end).kept ≡ kinds.Kept → w.kept ≡ kinds.Kept
kept_less w GoesOn (Went x) e = go w.kept refl
  where
    go : (k : Kept) → w.kept ≡ k → w.kept ≡ kinds.Kept
    go kinds.Kept is = is
    go (BrokeBound loop_no count) is = ap (λ (u : Watched). u.kept) (watch_stays w x (λ k. let bad : ⊥ = cc in bad)) ∙ e
    go (BrokeReturn at to) is = ap (λ (u : Watched). u.kept) (watch_stays w x (λ k. let bad : ⊥ = cc in bad)) ∙ e
    go (BrokeDepth at) is = ap (λ (u : Watched). u.kept) (watch_stays w x (λ k. let bad : ⊥ = cc in bad)) ∙ e
kept_less w GoesOn (Exited x status) e = e
kept_less w GoesOn (Trapped trap) e = e
kept_less w (HasExited status) end e = e
kept_less w (HasTrapped trap) end e = e

tight_more : (env : Setting) (s : State) (one other : List LoopNote) (n l most : ℕ) → IsTight env s one other n l most → (j : ℕ) → j < n →
    AgreeOrBroke one other l most (watched_from env s one j) (watched_from env s other j) →
    (standing : Standing) (end : StepEnd) → (run env s j).standing ≡ standing → (step env (run env s j).state).end ≡ end → (watch_end (watched_from env s one j) standing end).kept ≡ kinds.Kept →
    AgreeOrBroke one other l most (watch_end (watched_from env s one j) standing end) (watch_end (watched_from env s other j) standing end)
tight_more env s one other n l most t j jl (inl a) GoesOn (Went x) at next kept = tight_on env s one other n l most t j jl x a at next kept
tight_more env s one other n l most t j jl (inr b) standing end at next kept = inr (broke_more (watched_from env s other j) (l + 1) most b standing end)
tight_more env s one other n l most t j jl (inl a) GoesOn (Exited x status) at next kept = inl a
tight_more env s one other n l most t j jl (inl a) GoesOn (Trapped trap) at next kept = inl a
tight_more env s one other n l most t j jl (inl a) (HasExited status) end at next kept = inl a
tight_more env s one other n l most t j jl (inl a) (HasTrapped trap) end at next kept = inl a

tight_up_to : (env : Setting) (s : State) (one other : List LoopNote) (n l most : ℕ) → IsTight env s one other n l most → (j : ℕ) → j < n → (watched_from env s one j).kept ≡ kinds.Kept →
    AgreeOrBroke one other l most (watched_from env s one j) (watched_from env s other j)
tight_up_to env s one other n l most t zero jl kept =
    inl (subst (λ w. Agree one other w (watched_from env s other 0)) (sym (watched_none env s one)) (subst (λ v. Agree one other (watched_first one) v) (sym (watched_none env s other)) (agree_first one other t.alike)))
tight_up_to env s one other n l most t (suc j) jl kept =
    let less : j < n = omega arith in
    let now = sym (ap (λ (u : Watched). u.kept) (watched_more env s one j)) ∙ kept in
    let before = kept_less (watched_from env s one j) (run env s j).standing (step env (run env s j).state).end now in
    let h = tight_more env s one other n l most t j less (tight_up_to env s one other n l most t j less before) (run env s j).standing (step env (run env s j).state).end refl refl now in
    subst (λ w. AgreeOrBroke one other l most w (watched_from env s other (suc j))) (sym (watched_more env s one j))
    (subst (λ v. AgreeOrBroke one other l most (watch_end (watched_from env s one j) (run env s j).standing (step env (run env s j).state).end) v) (sym (watched_more env s other j)) h)

-- the run breaks the bound at the step that reaches the most
tight_here : (env : Setting) (s : State) (one other : List LoopNote) (n l most : ℕ) → IsTight env s one other n l most → (j : ℕ) → j < n → ReachesCount env s one j l most →
    AgreeOrBroke one other l most (watched_from env s one j) (watched_from env s other j) → (watched_from env s other (suc j)).kept ≡ BrokeBound (l + 1) most
tight_here env s one other n l most t j jl r (inl a) =
    let moved = sym (ap (λ (w : Watched). returns_after w.returns r.next) a.one_is) ∙ r.returns_are in
    let here : next_counts (going_with one a.returns a.counts) r.next l ≡ most = sym (ap (λ (w : Watched). next_counts w r.next l) a.one_is) ∙ sym r.count_is in
    let broken = tight_break env s one other n l most t j jl r.next a r.returns r.goes_on r.next_is moved r.shallow here in
    ap (λ (u : Watched). u.kept) (watched_more env s other j) ∙
    (ap (λ t. (watch_end (watched_from env s other j) t (step env (run env s j).state).end).kept) r.goes_on ∙
    (ap (λ e. (watch_end (watched_from env s other j) GoesOn e).kept) r.next_is ∙ broken))
tight_here env s one other n l most t j jl r (inr b) =
    ap (λ (u : Watched). u.kept) (watched_more env s other j) ∙ broke_more (watched_from env s other j) (l + 1) most b (run env s j).standing (step env (run env s j).state).end

pub tight_breaks : (env : Setting) (s : State) (one other : List LoopNote) (n l most : ℕ) → IsTight env s one other n l most → (j : ℕ) → j < n → ReachesCount env s one j l most →
    (watched_from env s other n).kept ≡ BrokeBound (l + 1) most
tight_breaks env s one other n l most t j jl r =
    let here = tight_here env s one other n l most t j jl r (tight_up_to env s one other n l most t j jl r.kept) in
    ap (λ m. (watched_from env s other m).kept) (let z : n ≡ (n - suc j) + suc j = omega arith in z) ∙ broke_later env s other (l + 1) most (suc j) (n - suc j) here
