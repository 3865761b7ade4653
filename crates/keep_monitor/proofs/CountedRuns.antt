-- Counting over the first steps of a run: it watches by both notes, and the most of each loop is the greatest count that a step reached.
use Rattle.std.proofs.Common.{◌≡◌, ℕ, zero, suc, ◌+◌, ◌<◌, ◌≤◌, ◌⊎◌, inl, inr, ⊎_elim, List, length, map, replicate, Option, Some, None, refl, sym, ap, ◌∙◌, subst, arith, slice_index}
use Rattle.std.proofs.lemmas.Bool.{cases_lt}
use Rattle.std.proofs.lemmas.List.{length-map, get_or-replicate}
use Rattle.std.proofs.lemmas.List.FromFn.{get_or-map-range_with_len, length-map-range_with_len}
use Rattle.std.specs.List.{range_with_len}
use Rattle.scale_base.specs.declared.endings.Kept.{Kept}
use Rattle.scale_base.specs.declared.endings.Kept.TheVariants.{BrokeBound, BrokeReturn, BrokeDepth}
use Rattle.scale_base.specs.declared.endings.Kept.TheVariants as kinds
use Rattle.scale_base.specs.declared.stepping.Stepped.{Stepped}
use Rattle.scale_base.specs.declared.stepping.StepEnd.{StepEnd}
use Rattle.scale_base.specs.declared.stepping.StepEnd.TheVariants.{Went, Exited, Trapped}
use Rattle.scale_base.specs.State.{Setting, State}
use Rattle.scale_base.specs.Step.{step}
use Rattle.scale_base.specs.Run.{Standing, GoesOn, HasExited, HasTrapped, run}
use Rattle.graph_runs.specs.ReturnAddresses.{returns_after}
use Rattle.graph_runs.specs.KeptRuns.{most_returns}
use Rattle.loop_file.specs.declared.notes.LoopNote.{LoopNote}
use Rattle.loop_file.specs.Notes.{AreLoopNotes, relaxed_note}
use Rattle.keep_monitor.specs.Steps.{broken_by}
use Rattle.keep_monitor.specs.Watch.{Watched, watch, watch_end, watched_first, watched_from, next_counts}
use Rattle.keep_monitor.specs.Counted.{Counted, counted_first, raised_at, raised_most, judged, count_after_kept, counted, count_end, counted_from}
use Rattle.keep_monitor.specs.Reached.{ReachesCount}
use Rattle.keep_monitor.proofs.StepLaws.{watch_stays}
use Rattle.keep_monitor.proofs.AlikeLaws.{AreAlike, relaxed_alike, going_with}
use Rattle.keep_monitor.proofs.OutcomeLaws.{Outcome, BreaksReturns, BreaksBound, KeepsAll, outcome, none_broken, broken_not}
use Rattle.keep_monitor.proofs.CountedLaws.{watched_none, watched_more, Agree, agree_first, agree_after, keeps_all, relaxed_keeps, IsRaised, raised_well, raised_none, raised_some}

-- ---- a step of a counter

is_kept_or : (k : Kept) → (k ≡ kinds.Kept) ⊎ (k ≡ kinds.Kept → ⊥)
is_kept_or kinds.Kept = inl refl
is_kept_or (BrokeBound loop_no count) = inr (λ e. let bad : ⊥ = cc in bad)
is_kept_or (BrokeReturn at to) = inr (λ e. let bad : ⊥ = cc in bad)
is_kept_or (BrokeDepth at) = inr (λ e. let bad : ⊥ = cc in bad)

pub counted_on : (c : Counted) (x : Stepped) → c.relaxed.kept ≡ kinds.Kept → counted c x ≡
    record { notes = c.notes; kept = judged c.notes c.kept c.relaxed x; relaxed = watch c.relaxed x; most = raised_most c.relaxed c.most x (returns_after c.relaxed.returns x) }
unfolding counted
counted_on c x e = ap (λ k. count_after_kept k c x) e

pub counted_off : (c : Counted) (x : Stepped) → (c.relaxed.kept ≡ kinds.Kept → ⊥) → counted c x ≡ c
unfolding counted
counted_off c x broken = go c.relaxed.kept broken
  where
    go : (k : Kept) → (k ≡ kinds.Kept → ⊥) → count_after_kept k c x ≡ c
    go kinds.Kept n = absurd (n refl)
    go (BrokeBound loop_no count) n = refl
    go (BrokeReturn at to) n = refl
    go (BrokeDepth at) n = refl

judged_on : (notes : List LoopNote) (k : Kept) (w : Watched) (x : Stepped) → k ≡ kinds.Kept → judged notes k w x ≡ (watch (record w { notes = notes }) x).kept
judged_on notes k w x e = ap (λ k. judged notes k w x) e

judged_off : (notes : List LoopNote) (k : Kept) (w : Watched) (x : Stepped) → (k ≡ kinds.Kept → ⊥) → judged notes k w x ≡ k
judged_off notes kinds.Kept w x n = absurd (n refl)
judged_off notes (BrokeBound loop_no count) w x n = refl
judged_off notes (BrokeReturn at to) w x n = refl
judged_off notes (BrokeDepth at) w x n = refl

-- ---- what holds after so many steps, where these are what watching by the relaxed notes and by the notes gives

pub record IsCounted (env : Setting) (s : State) (notes : List LoopNote) (most : List ℕ) (n : ℕ) (w v : Watched) (c : Counted) : Type 0 where
  pub notes_are : c.notes ≡ notes
  pub relaxed_is : c.relaxed ≡ w
  pub kept_is : c.kept ≡ v.kept
  pub agree : v.kept ≡ kinds.Kept → Agree (map relaxed_note notes) notes w v
  pub loops : w.notes ≡ map relaxed_note notes
  pub size : length c.most ≡ length notes
  pub grown : (k : ℕ) → k < length notes → slice_index most k ≤ slice_index c.most k
  pub low : (k : ℕ) → k < length notes → slice_index w.counts k ≤ slice_index c.most k
  pub bound : (j k count : ℕ) → j < n → k < length notes → ReachesCount env s (map relaxed_note notes) j k count → count ≤ slice_index c.most k
  pub reached : (k : ℕ) → k < length notes → (slice_index c.most k ≡ slice_index most k) ⊎ ((j : ℕ) × (j < n) × ReachesCount env s (map relaxed_note notes) j k (slice_index c.most k))

-- nothing changes, and no count is reached
still : (env : Setting) (s : State) (notes : List LoopNote) (most : List ℕ) (n : ℕ) (w v : Watched) (c : Counted) → IsCounted env s notes most n w v c →
    ((k count : ℕ) → ReachesCount env s (map relaxed_note notes) n k count → ⊥) → IsCounted env s notes most (suc n) w v c
still env s notes most n w v c p none = record {
  notes_are = p.notes_are;
  relaxed_is = p.relaxed_is;
  kept_is = p.kept_is;
  agree = p.agree;
  loops = p.loops;
  size = p.size;
  grown = p.grown;
  low = p.low;
  bound = λ j k count jl kl r. ⊎_elim
      (λ (l : j < n). p.bound j k count l kl r)
      (λ (ge : n ≤ j). let same : j ≡ n = omega arith in absurd (none k count (subst (λ i. ReachesCount env s (map relaxed_note notes) i k count) same r)))
      (cases_lt j n);
  reached = λ k kl. ⊎_elim (λ e. inl e) (λ r. inr (r.0, (let l : r.0 < suc n = (let h = r.1 in omega arith) in l), r.2)) (p.reached k kl);
}

-- the rules on the notes after a step, as they were watched
kept_more : (notes : List LoopNote) (w v : Watched) (c : Counted) (x : Stepped) → c.notes ≡ notes → c.relaxed ≡ w → c.kept ≡ v.kept → (v.kept ≡ kinds.Kept → Agree (map relaxed_note notes) notes w v) →
    judged c.notes c.kept c.relaxed x ≡ (watch v x).kept
kept_more notes w v c x notes_are relaxed_is kept_is agree = ⊎_elim
    (λ (e : v.kept ≡ kinds.Kept).
    let a = agree e in
    let other : record c.relaxed { notes = c.notes } ≡ v =
    ap (λ (u : Watched). record u { notes = c.notes }) (relaxed_is ∙ a.one_is) ∙ (ap (λ ns. going_with ns a.returns a.counts) notes_are ∙ sym a.other_is) in
    judged_on c.notes c.kept c.relaxed x (kept_is ∙ e) ∙ ap (λ (u : Watched). (watch u x).kept) other)
    (λ (n : v.kept ≡ kinds.Kept → ⊥).
    judged_off c.notes c.kept c.relaxed x (λ e. n (sym kept_is ∙ e)) ∙ (kept_is ∙ ap (λ (u : Watched). u.kept) (watch_stays v x n)))
    (is_kept_or v.kept)

agree_more : (notes : List LoopNote) → AreLoopNotes notes → (w v : Watched) (x : Stepped) → (v.kept ≡ kinds.Kept → Agree (map relaxed_note notes) notes w v) →
    (watch v x).kept ≡ kinds.Kept → Agree (map relaxed_note notes) notes (watch w x) (watch v x)
agree_more notes fit w v x agree k = ⊎_elim
    (λ (e : v.kept ≡ kinds.Kept).
    let a = agree e in
    let q : KeepsAll notes a.returns a.counts x = keeps_all notes a.returns a.counts x (ap (λ (u : Watched). (watch u x).kept) (sym a.other_is) ∙ k) in
    let p : KeepsAll (map relaxed_note notes) a.returns a.counts x = relaxed_keeps notes fit a.returns a.counts x q in
    let b = agree_after (map relaxed_note notes) notes (relaxed_alike notes) a.returns a.counts x p q in
    record {
      returns = b.returns;
      counts = b.counts;
      one_is = ap (λ (u : Watched). watch u x) a.one_is ∙ b.one_is;
      other_is = ap (λ (u : Watched). watch u x) a.other_is ∙ b.other_is;
    })
    (λ (n : v.kept ≡ kinds.Kept → ⊥). absurd (n (ap (λ (u : Watched). u.kept) (watch_stays v x n) ∙ k)))
    (is_kept_or v.kept)

-- ---- the most after a step that goes on

record IsMore (env : Setting) (s : State) (notes : List LoopNote) (n : ℕ) (after : Watched) (old new : List ℕ) : Type 0 where
  size : length new ≡ length notes
  grown : (k : ℕ) → k < length notes → slice_index old k ≤ slice_index new k
  low : (k : ℕ) → k < length notes → slice_index after.counts k ≤ slice_index new k
  bound : (k count : ℕ) → k < length notes → ReachesCount env s (map relaxed_note notes) n k count → count ≤ slice_index new k
  one : (k : ℕ) → k < length notes → (slice_index new k ≡ slice_index old k) ⊎ ReachesCount env s (map relaxed_note notes) n k (slice_index new k)

same_next : (x y : Stepped) → Went x ≡ Went y → x ≡ y
same_next x y e = let r : x ≡ y = cc in r

-- a count that is reached is the one after this step
reached_is : (env : Setting) (s : State) (loops : List LoopNote) (n k count : ℕ) (x : Stepped) → (step env (run env s n).state).end ≡ Went x → ReachesCount env s loops n k count →
    count ≡ next_counts (watched_from env s loops n) x k
reached_is env s loops n k count x next r =
    r.count_is ∙ ap (λ y. next_counts (watched_from env s loops n) y k) (same_next r.next x (sym r.next_is ∙ next))

-- and the step keeps the rules on calls and returns
reached_unbroken : (env : Setting) (s : State) (loops : List LoopNote) (n k count : ℕ) (x : Stepped) → (step env (run env s n).state).end ≡ Went x → ReachesCount env s loops n k count →
    broken_by x (returns_after (watched_from env s loops n).returns x) ≡ None
reached_unbroken env s loops n k count x next r =
    let same : r.next ≡ x = same_next r.next x (sym r.next_is ∙ next) in
    none_broken x _ r.returns (ap (returns_after (watched_from env s loops n).returns) (sym same) ∙ r.returns_are) r.shallow

-- the step raises the most of each loop
more_by : (env : Setting) (s : State) (notes : List LoopNote) (n : ℕ) (x : Stepped) (old rs : List ℕ) →
    (run env s n).standing ≡ GoesOn → (step env (run env s n).state).end ≡ Went x →
    let w = watched_from env s (map relaxed_note notes) n in
    w.kept ≡ kinds.Kept → w.notes ≡ map relaxed_note notes → length old ≡ length notes →
    ((k : ℕ) → k < length notes → slice_index w.counts k ≤ slice_index old k) →
    returns_after w.returns x ≡ Some rs → length rs ≤ most_returns →
    (after : Watched) → ((k : ℕ) → k < length notes → (slice_index after.counts k ≡ slice_index w.counts k) ⊎ (slice_index after.counts k ≡ next_counts w x k)) →
    IsMore env s notes n after old (raised_most w old x (returns_after w.returns x))
more_by env s notes n x old rs going next kept loops size low moved shallow after counts = record {
  size = ap length is ∙ (length-map-range_with_len (raised_at w old x) 0 (length w.notes) ∙ long);
  grown = λ k kl. subst (λ m. slice_index old k ≤ m) (sym (each k kl)) (well k kl).grown;
  low = λ k kl. subst (λ m. slice_index after.counts k ≤ m) (sym (each k kl)) (⊎_elim
      (λ (e : slice_index after.counts k ≡ slice_index w.counts k). let g = (well k kl).grown in let l = low k kl in omega (arith, e, g, l))
      (λ (e : slice_index after.counts k ≡ next_counts w x k). let g = (well k kl).above in omega (arith, e, g))
      (counts k kl));
  bound = λ k count kl r. subst (λ m. count ≤ m) (sym (each k kl)) (let g = (well k kl).above in let e = reached_is env s (map relaxed_note notes) n k count x next r in omega (arith, e, g));
  one = λ k kl. ⊎_elim
      (λ e. inl (each k kl ∙ e))
      (λ e. inr (record { next = x; returns = rs; goes_on = going; next_is = next; kept = kept; returns_are = moved; shallow = shallow; count_is = each k kl ∙ e }))
      (well k kl).one;
}
  where
    w : Watched
    w = watched_from env s (map relaxed_note notes) n

    long : length (watched_from env s (map relaxed_note notes) n).notes ≡ length notes
    long = ap length loops ∙ length-map notes relaxed_note

    is : raised_most (watched_from env s (map relaxed_note notes) n) old x (returns_after (watched_from env s (map relaxed_note notes) n).returns x)
        ≡ map (raised_at (watched_from env s (map relaxed_note notes) n) old x) (range_with_len 0 (length (watched_from env s (map relaxed_note notes) n).notes))
    is = raised_some (watched_from env s (map relaxed_note notes) n) old x _ rs moved shallow

    each : (k : ℕ) → k < length notes → slice_index (raised_most (watched_from env s (map relaxed_note notes) n) old x (returns_after (watched_from env s (map relaxed_note notes) n).returns x)) k
        ≡ raised_at (watched_from env s (map relaxed_note notes) n) old x k
    each k kl = ap (λ xs. slice_index xs k) is ∙ get_or-map-range_with_len (raised_at (watched_from env s (map relaxed_note notes) n) old x) 0 _ k k 0 (subst (λ m. k < m) (sym long) kl) (omega arith)

    well : (k : ℕ) → k < length notes →
        IsRaised (slice_index old k) (next_counts (watched_from env s (map relaxed_note notes) n) x k) (raised_at (watched_from env s (map relaxed_note notes) n) old x k)
    well k kl = raised_well (watched_from env s (map relaxed_note notes) n) old x k (low k kl)

pub whole : (w : Watched) (loops : List LoopNote) → w.notes ≡ loops → w.kept ≡ kinds.Kept → w ≡ going_with loops w.returns w.counts
whole w loops e k = ap (λ ns. record { notes = ns; returns = w.returns; counts = w.counts; kept = w.kept }) e ∙ ap (λ t. record { notes = loops; returns = w.returns; counts = w.counts; kept = t }) k

more : (env : Setting) (s : State) (notes : List LoopNote) (n : ℕ) (x : Stepped) (old : List ℕ) →
    (run env s n).standing ≡ GoesOn → (step env (run env s n).state).end ≡ Went x →
    let w = watched_from env s (map relaxed_note notes) n in
    w.kept ≡ kinds.Kept → w.notes ≡ map relaxed_note notes → length old ≡ length notes →
    ((k : ℕ) → k < length notes → slice_index w.counts k ≤ slice_index old k) →
    IsMore env s notes n (watch w x) old (raised_most w old x (returns_after w.returns x)) × ((watch w x).notes ≡ map relaxed_note notes)
more env s notes n x old going next kept loops size low = by_outcome (outcome (map relaxed_note notes) w.returns w.counts x)
  where
    w : Watched
    w = watched_from env s (map relaxed_note notes) n

    same : watched_from env s (map relaxed_note notes) n ≡ going_with (map relaxed_note notes) (watched_from env s (map relaxed_note notes) n).returns (watched_from env s (map relaxed_note notes) n).counts
    same = whole (watched_from env s (map relaxed_note notes) n) (map relaxed_note notes) loops kept

    counts_of : (k : ℕ) → next_counts (going_with (map relaxed_note notes) (watched_from env s (map relaxed_note notes) n).returns (watched_from env s (map relaxed_note notes) n).counts) x k
        ≡ next_counts (watched_from env s (map relaxed_note notes) n) x k
    counts_of k = ap (λ u. next_counts u x k) (sym same)

    by_outcome : Outcome (map relaxed_note notes) (watched_from env s (map relaxed_note notes) n).returns (watched_from env s (map relaxed_note notes) n).counts x →
        IsMore env s notes n (watch (watched_from env s (map relaxed_note notes) n) x) old (raised_most (watched_from env s (map relaxed_note notes) n) old x (returns_after (watched_from env s (map relaxed_note notes) n).returns x))
        × ((watch (watched_from env s (map relaxed_note notes) n) x).notes ≡ map relaxed_note notes)
    by_outcome (inl q) =
        let after = ap (λ u. watch u x) same ∙ q.is in
        let none : raised_most w old x (returns_after w.returns x) ≡ old = raised_none w old x (returns_after w.returns x) q.broken q.why in (
          record {
            size = ap length none ∙ size;
            grown = λ k kl. subst (λ m. slice_index old k ≤ slice_index m k) (sym none) (omega arith);
            low = λ k kl. subst (λ m. slice_index (watch w x).counts k ≤ slice_index m k) (sym none) (subst (λ u. slice_index u k ≤ slice_index old k) (sym (ap (λ (u : Watched). u.counts) after)) (low k kl));
            bound = λ k count kl r. let unbroken = reached_unbroken env s (map relaxed_note notes) n k count x next r in let bad : ⊥ = cc in absurd bad;
            one = λ k kl. inl (ap (λ m. slice_index m k) none);
          },
          ap (λ (u : Watched). u.notes) after,
        )
    by_outcome (inr (inl q)) =
        let after = ap (λ u. watch u x) same ∙ q.is in (
          more_by env s notes n x old q.after going next kept loops size low q.returns_are q.shallow (watch w x) (λ k kl. inl (ap (λ (u : Watched). slice_index u.counts k) after)),
          ap (λ (u : Watched). u.notes) after,
        )
    by_outcome (inr (inr q)) =
        let after = ap (λ u. watch u x) same ∙ q.is in (
          more_by env s notes n x old q.after going next kept loops size low q.returns_are q.shallow (watch w x)
              (λ k kl. inr (ap (λ (u : Watched). slice_index u.counts k) after ∙
              (get_or-map-range_with_len (next_counts (going_with (map relaxed_note notes) w.returns w.counts) x) 0 (length (map relaxed_note notes)) k k 0 (subst (λ m. k < m) (sym (length-map notes relaxed_note)) kl) (omega arith) ∙ counts_of k))),
          ap (λ (u : Watched). u.notes) after,
        )

-- ---- a step more

count_on : (env : Setting) (s : State) (notes : List LoopNote) (most : List ℕ) (n : ℕ) (v : Watched) (c : Counted) (x : Stepped) → AreLoopNotes notes →
    (run env s n).standing ≡ GoesOn → (step env (run env s n).state).end ≡ Went x →
    IsCounted env s notes most n (watched_from env s (map relaxed_note notes) n) v c → (watched_from env s (map relaxed_note notes) n).kept ≡ kinds.Kept →
    IsCounted env s notes most (suc n) (watch (watched_from env s (map relaxed_note notes) n) x) (watch v x) (counted c x)
count_on env s notes most n v c x fit going next p kept =
    let w = watched_from env s (map relaxed_note notes) n in
    let is = counted_on c x (ap (λ (u : Watched). u.kept) p.relaxed_is ∙ kept) in
    let m = more env s notes n x c.most going next kept p.loops p.size p.low in
    let most_is : (counted c x).most ≡ raised_most w c.most x (returns_after w.returns x) = ap (λ (d : Counted). d.most) is ∙ ap (λ (u : Watched). raised_most u c.most x (returns_after u.returns x)) p.relaxed_is in
    record {
      notes_are = ap (λ (d : Counted). d.notes) is ∙ p.notes_are;
      relaxed_is = ap (λ (d : Counted). d.relaxed) is ∙ ap (λ u. watch u x) p.relaxed_is;
      kept_is = ap (λ (d : Counted). d.kept) is ∙ kept_more notes w v c x p.notes_are p.relaxed_is p.kept_is p.agree;
      agree = agree_more notes fit w v x p.agree;
      loops = m.1;
      size = ap length most_is ∙ m.0.size;
      grown = λ k kl. let a = p.grown k kl in let b = m.0.grown k kl in let e = ap (λ xs. slice_index xs k) most_is in omega (arith, a, b, e);
      low = λ k kl. subst (λ xs. slice_index (watch w x).counts k ≤ slice_index xs k) (sym most_is) (m.0.low k kl);
      bound = λ j k count jl kl r. ⊎_elim
          (λ (l : j < n). let a = p.bound j k count l kl r in let b = m.0.grown k kl in let e = ap (λ xs. slice_index xs k) most_is in omega (arith, a, b, e))
          (λ (ge : n ≤ j).
          let same : j ≡ n = omega arith in
          let a = m.0.bound k count kl (subst (λ i. ReachesCount env s (map relaxed_note notes) i k count) same r) in let e = ap (λ xs. slice_index xs k) most_is in omega (arith, a, e))
          (cases_lt j n);
      reached = λ k kl. reached_more k kl (ap (λ xs. slice_index xs k) most_is) (m.0.one k kl);
    }
  where
    reached_more : (k : ℕ) → k < length notes → {new : ℕ} → slice_index (counted c x).most k ≡ new → (new ≡ slice_index c.most k) ⊎ ReachesCount env s (map relaxed_note notes) n k new →
        (slice_index (counted c x).most k ≡ slice_index most k) ⊎ ((j : ℕ) × (j < suc n) × ReachesCount env s (map relaxed_note notes) j k (slice_index (counted c x).most k))
    reached_more k kl e (inl old) = ⊎_elim
        (λ first. inl (e ∙ (old ∙ first)))
        (λ r. inr (r.0, (let l : r.0 < suc n = (let h = r.1 in omega arith) in l), subst (λ m. ReachesCount env s (map relaxed_note notes) r.0 k m) (sym (e ∙ old)) r.2))
        (p.reached k kl)
    reached_more k kl e (inr r) = inr (n, (let l : n < suc n = omega arith in l), subst (λ m. ReachesCount env s (map relaxed_note notes) n k m) (sym e) r)

count_off : (env : Setting) (s : State) (notes : List LoopNote) (most : List ℕ) (n : ℕ) (v : Watched) (c : Counted) (x : Stepped) →
    IsCounted env s notes most n (watched_from env s (map relaxed_note notes) n) v c → ((watched_from env s (map relaxed_note notes) n).kept ≡ kinds.Kept → ⊥) →
    IsCounted env s notes most (suc n) (watch (watched_from env s (map relaxed_note notes) n) x) (watch v x) (counted c x)
count_off env s notes most n v c x p broken =
    let w = watched_from env s (map relaxed_note notes) n in
    let late : v.kept ≡ kinds.Kept → ⊥ = λ e. broken (ap (λ (u : Watched). u.kept) (p.agree e).one_is) in
    let more : IsCounted env s notes most (suc n) w v c = still env s notes most n w v c p (λ k count r. broken r.kept) in
    let a : IsCounted env s notes most (suc n) (watch w x) v c = subst (λ u. IsCounted env s notes most (suc n) u v c) (watch_stays w x broken) more in
    let b : IsCounted env s notes most (suc n) (watch w x) (watch v x) c = subst (λ u. IsCounted env s notes most (suc n) (watch w x) u c) (watch_stays v x late) a in
    subst (λ d. IsCounted env s notes most (suc n) (watch w x) (watch v x) d) (sym (counted_off c x (λ e. broken (sym (ap (λ (u : Watched). u.kept) p.relaxed_is) ∙ e)))) b

count_more : (env : Setting) (s : State) (notes : List LoopNote) (most : List ℕ) (n : ℕ) (v : Watched) (c : Counted) → AreLoopNotes notes →
    IsCounted env s notes most n (watched_from env s (map relaxed_note notes) n) v c → (standing : Standing) (end : StepEnd) → (run env s n).standing ≡ standing → (step env (run env s n).state).end ≡ end →
    IsCounted env s notes most (suc n) (watch_end (watched_from env s (map relaxed_note notes) n) standing end) (watch_end v standing end) (count_end c standing end)
count_more env s notes most n v c fit p GoesOn (Went x) at next = ⊎_elim
    (λ e. count_on env s notes most n v c x fit at next p e)
    (λ e. count_off env s notes most n v c x p e)
    (is_kept_or (watched_from env s (map relaxed_note notes) n).kept)
count_more env s notes most n v c fit p GoesOn (Exited x status) at next = still env s notes most n _ v c p (λ k count r. let e : Exited x status ≡ Went r.next = sym next ∙ r.next_is in let bad : ⊥ = cc in bad)
count_more env s notes most n v c fit p GoesOn (Trapped trap) at next = still env s notes most n _ v c p (λ k count r. let e : Trapped trap ≡ Went r.next = sym next ∙ r.next_is in let bad : ⊥ = cc in bad)
count_more env s notes most n v c fit p (HasExited status) end at next = still env s notes most n _ v c p (λ k count r. let e : HasExited status ≡ GoesOn = sym at ∙ r.goes_on in let bad : ⊥ = cc in bad)
count_more env s notes most n v c fit p (HasTrapped trap) end at next = still env s notes most n _ v c p (λ k count r. let e : HasTrapped trap ≡ GoesOn = sym at ∙ r.goes_on in let bad : ⊥ = cc in bad)

-- what counting over the first n steps gives
pub counted_is : (env : Setting) (s : State) (notes : List LoopNote) (most : List ℕ) → AreLoopNotes notes → length most ≡ length notes → (n : ℕ) →
    IsCounted env s notes most n (watched_from env s (map relaxed_note notes) n) (watched_from env s notes n) (counted_from env s notes most n)
unfolding counted_from
counted_is env s notes most fit size zero =
    let first : IsCounted env s notes most 0 (watched_first (map relaxed_note notes)) (watched_first notes) (counted_first notes most) = record {
      notes_are = refl;
      relaxed_is = refl;
      kept_is = refl;
      agree = λ e. agree_first (map relaxed_note notes) notes (relaxed_alike notes);
      loops = refl;
      size = size;
      grown = λ k kl. omega arith;
      low = λ k kl. subst (λ m. m ≤ slice_index most k) (sym (get_or-replicate (length (map relaxed_note notes)) k 0 0 (subst (λ m. k < m) (sym (length-map notes relaxed_note)) kl))) (omega arith);
      bound = λ j k count jl kl r. let bad : ⊥ = omega arith in absurd bad;
      reached = λ k kl. inl refl;
    } in
    let a = subst (λ u. IsCounted env s notes most 0 u (watched_first notes) (counted_first notes most)) (sym (watched_none env s (map relaxed_note notes))) first in
    subst (λ u. IsCounted env s notes most 0 (watched_from env s (map relaxed_note notes) 0) u (counted_first notes most)) (sym (watched_none env s notes)) a
counted_is env s notes most fit size (suc n) =
    let p = count_more env s notes most n (watched_from env s notes n) (counted_from env s notes most n) fit (counted_is env s notes most fit size n) (run env s n).standing (step env (run env s n).state).end refl refl in
    let c = count_end (counted_from env s notes most n) (run env s n).standing (step env (run env s n).state).end in
    let a = subst (λ u. IsCounted env s notes most (suc n) u (watch_end (watched_from env s notes n) (run env s n).standing (step env (run env s n).state).end) c) (sym (watched_more env s (map relaxed_note notes) n)) p in
    subst (λ u. IsCounted env s notes most (suc n) (watched_from env s (map relaxed_note notes) (suc n)) u c) (sym (watched_more env s notes n)) a
