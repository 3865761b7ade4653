-- What a counter of loops does at a step, by what it keeps.
use Rattle.std.proofs.Common.{◌≡◌, ◌≢◌, ℕ, ◌<◌, ◌≤◌, Bool, true, nat_lt, ◌==◌, max, ⊎_elim, List, [], length, map, replicate, get_or, Option, Some, None, refl, sym, ap, ◌∙◌, subst, arith, eq-eqb, is_none}
use Rattle.std.proofs.lemmas.Bool.{cond-true, cond-false, ne_eqb, le-ltb, cases_eq}
use Rattle.std.proofs.lemmas.List.{length-map, get_or-map, get_or-replicate, length-replicate}
use Rattle.std.proofs.lemmas.List.FromFn.{fill_by_all, get_or-map-range_with_len, length-map-range_with_len}
use Rattle.std.specs.List.{range_with_len}
use Rattle.scale_base.specs.declared.endings.Kept.{Kept}
use Rattle.scale_base.specs.declared.endings.Kept.TheVariants.{BrokeBound, BrokeReturn, BrokeDepth}
use Rattle.scale_base.specs.declared.endings.Kept.TheVariants as kinds
use Rattle.scale_base.specs.declared.stepping.Move.{Move}
use Rattle.scale_base.specs.declared.stepping.Move.TheVariants.{Local}
use Rattle.scale_base.specs.declared.stepping.Stepped.{Stepped}
use Rattle.graph_runs.specs.ReturnAddresses.{returns_after, returns_by}
use Rattle.graph_runs.specs.KeptRuns.{most_returns}
use Rattle.graph_runs.specs.KeptSteps.{source_of}
use Rattle.loop_file.specs.declared.notes.LoopNote.{LoopNote}
use Rattle.loop_file.specs.Notes.{AreLoopNotes, IsLoopNote, relaxed_note}
use Rattle.loop_file.specs.Kept.{note_at}
use Rattle.keep_monitor.specs.declared.headers.Header.{Header}
use Rattle.keep_monitor.specs.Headers.{sorted_header, AreLoopsOf}
use Rattle.keep_monitor.specs.Steps.{broken_by, broken_loop, counts_after_step, count_after_at, AreTurning, AreCounts}
use Rattle.keep_monitor.specs.Watch.{Watched, watch, watch_returns, next_counts}
use Rattle.keep_monitor.specs.Counted.{Counted, raised_at, raised_most, judged, counted}
use Rattle.keep_monitor.proofs.CountLaws.{stepped_at, stepped_else}
use Rattle.keep_monitor.proofs.StepLaws.{returns_kept, step_kept, watch_goes_on}
use Rattle.keep_monitor.proofs.PlainLaws.{plain_step}
use Rattle.keep_monitor.proofs.AlikeLaws.{AreAlike, relaxed_alike, relaxed_at, going_with, same_counts}
use Rattle.keep_monitor.proofs.OutcomeLaws.{KeepsAll, shallow_of}
use Rattle.keep_monitor.proofs.CountedLaws.{relaxed_free, keeps_all, relaxed_keeps, raised_some}
use Rattle.keep_monitor.proofs.CountedRuns.{counted_on, counted_off}
use Rattle.keep_monitor.proofs.BoundLaws.{none_within}

-- the most of each loop, where that of the loops of the target was raised_most
pub raise_listed : (w : Watched) (most new : List ℕ) (x : Stepped) (group : List Header) → AreLoopsOf w.notes x.next group → length new ≡ length w.notes →
    ((j : ℕ) → j < length group → get_or new (sorted_header group j).number 0 ≡ max (get_or most (sorted_header group j).number 0) (count_after_at w.notes group w.counts (source_of x.moved x.pc w.returns) j)) →
    ((k : ℕ) → ((j : ℕ) → j < length group → (sorted_header group j).number ≢ k) → get_or new k 0 ≡ get_or most k 0) →
    new ≡ map (raised_at w most x) (range_with_len 0 (length w.notes))
raise_listed w most new x group of size each others = fill_by_all (raised_at w most x) new (length w.notes) 0 size by_loop
  where
    by_loop : (k : ℕ) → k < length w.notes → get_or new k 0 ≡ raised_at w most x k
    by_loop k kl = ⊎_elim
        (λ (e : (note_at w.notes k).header ≡ x.next).
        let spot = of.whole k kl e in
        let here : get_or new (sorted_header group spot.0).number 0 ≡ max (get_or most (sorted_header group spot.0).number 0) (next_counts w x (sorted_header group spot.0).number) =
        each spot.0 spot.1 ∙ ap (max (get_or most (sorted_header group spot.0).number 0)) (sym (stepped_at w.notes w.counts (source_of x.moved x.pc w.returns) x.next group of spot.0 spot.1)) in
        subst (λ i. get_or new i 0 ≡ max (get_or most i 0) (next_counts w x i)) spot.2 here ∙ sym (cond-true _ _ _ (eq-eqb _ _ (sym e))))
        (λ (ne : (note_at w.notes k).header ≡ x.next → ⊥).
        others k (λ j jl same. ne (ap (λ i. (note_at w.notes i).header) (sym same) ∙ of.header j jl)) ∙ sym (cond-false _ _ _ (ne_eqb _ _ (λ e. ne (sym e)))))
        (cases_eq (note_at w.notes k).header x.next)

-- a step that leads to no header raises nothing
pub raised_plain : (w : Watched) (most : List ℕ) (x : Stepped) → x.moved ≡ Local → length most ≡ length w.notes → length w.returns ≤ most_returns →
    ((k : ℕ) → k < length w.notes → (note_at w.notes k).header ≡ x.next → ⊥) → raised_most w most x (returns_after w.returns x) ≡ most
raised_plain w most x moved size shallow none =
    let same : returns_after w.returns x ≡ Some w.returns = ap (λ (m : Move). returns_by m w.returns x) moved in
    raised_some w most x _ w.returns same shallow ∙
    sym (fill_by_all (raised_at w most x) most (length w.notes) 0 size (λ k kl. sym (cond-false _ _ _ (ne_eqb _ _ (λ e. none k kl (sym e))))))

-- no relaxed loop has to turn
pub relaxed_idle : (notes : List LoopNote) → AreTurning (map relaxed_note notes) (length (map relaxed_note notes)) []
relaxed_idle notes = record {
  within = λ j jl. let bad : ⊥ = omega arith in absurd bad;
  rise = λ i j ij jl. let bad : ⊥ = omega arith in absurd bad;
  whole = λ k kl turns. let none = (relaxed_free notes).least k kl in let bad : ⊥ = omega (arith, none, turns) in absurd bad;
}

-- loops of an address by notes of the same loops
pub alike_loops : (one other : List LoopNote) → AreAlike one other → (at : ℕ) (group : List Header) → AreLoopsOf one at group → AreLoopsOf other at group
alike_loops one other a at group of = record {
  loops = record { within = λ j jl. subst (λ n. (sorted_header group j).number < n) a.size (of.loops.within j jl); rise = of.loops.rise };
  header = λ j jl. sym (a.header _ (of.loops.within j jl)) ∙ of.header j jl;
  whole = λ k kl e. let low : k < length one = subst (λ n. k < n) (sym a.size) kl in of.whole k low (a.header k low ∙ e);
}

-- the counts are within greater bounds too: at the start
pub counts_none : (notes : List LoopNote) (counts : List ℕ) → counts ≡ replicate (length notes) 0 → AreCounts notes counts
counts_none notes counts e = record {
  size = ap length e ∙ length-replicate (length notes) 0;
  bounded = λ k kl. subst (λ n. n ≤ (note_at notes k).bound) (sym (ap (λ xs. get_or xs k 0) e ∙ get_or-replicate (length notes) k 0 0 kl)) (omega arith);
}

-- a step that keeps the rules on calls and returns, and those on loops, is kept
pub judged_kept : (notes : List LoopNote) (returns counts : List ℕ) (x : Stepped) → broken_by x (returns_after returns x) ≡ None → broken_loop notes counts (source_of x.moved x.pc returns) x ≡ None →
    kinds.Kept ≡ (watch_returns (record { notes = notes; returns = returns; counts = counts; kept = kinds.Kept }) x (returns_after returns x)).kept
judged_kept notes returns counts x none no_loop =
    let after : ℕ → ℕ = counts_after_step notes counts (source_of x.moved x.pc returns) x.next in
    let p = returns_kept (record { notes = notes; returns = returns; counts = counts; kept = kinds.Kept }) x (returns_after returns x) none in
    ap (λ (w : Watched). w.kept) (step_kept notes returns counts x (returns_after returns x) p.0 (map after (range_with_len 0 (length notes))) none no_loop p.1
    (length-map-range_with_len after 0 (length notes)) (λ k kl. get_or-map-range_with_len after 0 (length notes) k k 0 kl (omega arith)))

-- the relaxed notes are notes too
pub relaxed_fit : (notes : List LoopNote) → AreLoopNotes notes → AreLoopNotes (map relaxed_note notes)
relaxed_fit notes fit = record {
  few = subst (λ n. n ≤ 4096) (sym (length-map notes relaxed_note)) fit.few;
  each = λ k d kl.
      let low : k < length notes = subst (λ n. k < n) (length-map notes relaxed_note) kl in
      let note : LoopNote = get_or notes k d in
      let is : get_or (map relaxed_note notes) k d ≡ relaxed_note note = get_or-map relaxed_note notes k d d low in
      let old : IsLoopNote note = fit.each k d low in
      subst IsLoopNote (sym is) (record { some = old.some; few = old.few; bound = omega arith; least = omega arith });
}

-- the most after a step that keeps the rules on calls and returns
pub raise_all : (w : Watched) (most new : List ℕ) (x : Stepped) (group : List Header) → AreLoopsOf w.notes x.next group → length new ≡ length w.notes →
    ((j : ℕ) → j < length group → get_or new (sorted_header group j).number 0 ≡ max (get_or most (sorted_header group j).number 0) (count_after_at w.notes group w.counts (source_of x.moved x.pc w.returns) j)) →
    ((k : ℕ) → ((j : ℕ) → j < length group → (sorted_header group j).number ≢ k) → get_or new k 0 ≡ get_or most k 0) →
    broken_by x (returns_after w.returns x) ≡ None → new ≡ raised_most w most x (returns_after w.returns x)
raise_all w most new x group of size each others none =
    let p = returns_kept w x (returns_after w.returns x) none in
    raise_listed w most new x group of size each others ∙ sym (raised_some w most x (returns_after w.returns x) p.0 p.1 (shallow_of x p.0 (ap (broken_by x) (sym p.1) ∙ none)))

pub none_is : (o : Option Kept) → is_none o ≡ true → o ≡ None
none_is None e = refl
none_is (Some b) e = let bad : ⊥ = cc in absurd bad

-- ---- a step of the counter, by what it keeps

-- what is judged depends on the return addresses and the counts alone
judged_same : (notes relaxed : List LoopNote) (k : Kept) (returns counts : List ℕ) (x : Stepped) → judged notes k (going_with notes returns counts) x ≡ judged notes k (going_with relaxed returns counts) x
judged_same notes relaxed kinds.Kept returns counts x = refl
judged_same notes relaxed (BrokeBound loop_no count) returns counts x = refl
judged_same notes relaxed (BrokeReturn at to) returns counts x = refl
judged_same notes relaxed (BrokeDepth at) returns counts x = refl

abbrev pub counting : (notes relaxed : List LoopNote) (returns counts most : List ℕ) (kept relaxed_kept : Kept) → Counted
counting notes relaxed returns counts most kept relaxed_kept =
    record { notes = notes; kept = kept; relaxed = record { notes = relaxed; returns = returns; counts = counts; kept = relaxed_kept }; most = most }

same_counting : (notes : List LoopNote) (k k' : Kept) (w w' : Watched) (m m' : List ℕ) → k ≡ k' → w ≡ w' → m ≡ m' →
    (let c : Counted = record { notes = notes; kept = k; relaxed = w; most = m } in c) ≡ record { notes = notes; kept = k'; relaxed = w'; most = m' }
same_counting notes k k' w w' m m' a b c = cc

pub step_seen : (notes relaxed : List LoopNote) (returns counts most : List ℕ) (kept relaxed_kept : Kept) (x : Stepped) (returns_now counts_now most_now : List ℕ) (judged_now relaxed_now : Kept) →
    relaxed_kept ≡ kinds.Kept → judged_now ≡ judged notes kept (going_with notes returns counts) x →
    most_now ≡ raised_most (going_with relaxed returns counts) most x (returns_after returns x) →
    record { notes = relaxed; returns = returns_now; counts = counts_now; kept = relaxed_now } ≡ watch_returns (going_with relaxed returns counts) x (returns_after returns x) →
    counting notes relaxed returns_now counts_now most_now judged_now relaxed_now ≡ counted (counting notes relaxed returns counts most kept relaxed_kept) x
step_seen notes relaxed returns counts most kept relaxed_kept x returns_now counts_now most_now judged_now relaxed_now going kept_is most_is watched =
    same_counting notes judged_now _ _ _ most_now _ (kept_is ∙ judged_same notes relaxed kept returns counts x) (watched ∙ watch_goes_on (going_with relaxed returns counts) x refl) most_is ∙
    (sym (counted_on (counting notes relaxed returns counts most kept kinds.Kept) x refl) ∙
    ap (λ k. counted (counting notes relaxed returns counts most kept k) x) (sym going))

-- where it is kept by the notes, the counts are within their bounds then
judged_is : (notes : List LoopNote) (k : Kept) (returns counts : List ℕ) (x : Stepped) → judged notes k (going_with notes returns counts) x ≡ kinds.Kept → (k ≡ kinds.Kept) × ((watch (going_with notes returns counts) x).kept ≡ kinds.Kept)
judged_is notes kinds.Kept returns counts x e = (refl, e)
judged_is notes (BrokeBound loop_no count) returns counts x e = let bad : ⊥ = cc in absurd bad
judged_is notes (BrokeReturn at to) returns counts x e = let bad : ⊥ = cc in absurd bad
judged_is notes (BrokeDepth at) returns counts x e = let bad : ⊥ = cc in absurd bad

kept_counts : (notes : List LoopNote) → AreLoopNotes notes → (returns counts : List ℕ) (x : Stepped) → (watch (going_with notes returns counts) x).kept ≡ kinds.Kept →
    AreCounts notes (watch (going_with (map relaxed_note notes) returns counts) x).counts
kept_counts notes fit returns counts x e =
    let q : KeepsAll notes returns counts x = keeps_all notes returns counts x e in
    let p : KeepsAll (map relaxed_note notes) returns counts x = relaxed_keeps notes fit returns counts x q in
    let after : ℕ → ℕ = next_counts (going_with notes returns counts) x in
    let same : (watch (going_with (map relaxed_note notes) returns counts) x).counts ≡ map after (range_with_len 0 (length notes)) =
    ap (λ (w : Watched). w.counts) p.is ∙ same_counts (map relaxed_note notes) notes (relaxed_alike notes) returns counts x in
    subst (AreCounts notes) (sym same) (record {
      size = length-map-range_with_len after 0 (length notes);
      bounded = λ k kl. subst (λ n. n ≤ (note_at notes k).bound) (sym (get_or-map-range_with_len after 0 (length notes) k k 0 kl (omega arith))) (none_within notes after x q.found k kl);
    })

pub judged_counts : (notes relaxed : List LoopNote) → AreLoopNotes notes → relaxed ≡ map relaxed_note notes → (returns counts : List ℕ) (x : Stepped) (kept judged_now : Kept) (returns_now counts_now : List ℕ) (relaxed_now : Kept) →
    judged_now ≡ judged notes kept (going_with notes returns counts) x →
    record { notes = relaxed; returns = returns_now; counts = counts_now; kept = relaxed_now } ≡ watch_returns (going_with relaxed returns counts) x (returns_after returns x) →
    judged_now ≡ kinds.Kept → AreCounts notes counts_now
judged_counts notes relaxed fit is returns counts x kept judged_now returns_now counts_now relaxed_now kept_is watched e =
    let now : counts_now ≡ (watch (going_with (map relaxed_note notes) returns counts) x).counts =
    ap (λ (w : Watched). w.counts) watched ∙ (ap (λ (w : Watched). w.counts) (watch_goes_on (going_with relaxed returns counts) x refl) ∙ ap (λ ns. (watch (going_with ns returns counts) x).counts) is) in
    subst (AreCounts notes) (sym now) (kept_counts notes fit returns counts x (judged_is notes kept returns counts x (sym kept_is ∙ e)).1)

-- a step that leads to no header changes nothing
pub plain_seen : (notes relaxed : List LoopNote) (returns counts most : List ℕ) (kept relaxed_kept : Kept) (x : Stepped) → relaxed ≡ map relaxed_note notes → x.moved ≡ Local →
    AreTurning notes (length notes) [] → (kept ≡ kinds.Kept → AreCounts notes counts) → AreCounts relaxed counts → length most ≡ length notes → length returns ≤ most_returns →
    ((k : ℕ) → k < length relaxed → (note_at relaxed k).header ≡ x.next → ⊥) →
    counting notes relaxed returns counts most kept relaxed_kept ≡ counted (counting notes relaxed returns counts most kept relaxed_kept) x
plain_seen notes relaxed returns counts most kept relaxed_kept x is moved idle bounded fit size shallow none = by_kept relaxed_kept
  where
    long : length relaxed ≡ length notes
    long = ap length is ∙ length-map notes relaxed_note

    none_noted : (k : ℕ) → k < length notes → (note_at notes k).header ≡ x.next → ⊥
    none_noted k kl e = none k (subst (λ n. k < n) (sym long) kl) (ap (λ ns. (note_at ns k).header) is ∙ (ap (λ (n : LoopNote). n.header) (relaxed_at notes k kl) ∙ e))

    judging : (k : Kept) → (k ≡ kinds.Kept → AreCounts notes counts) → k ≡ judged notes k (going_with relaxed returns counts) x
    judging kinds.Kept b = ap (λ (w : Watched). w.kept) (plain_step (going_with notes returns counts) x moved idle (b refl) shallow none_noted)
    judging (BrokeBound loop_no count) b = refl
    judging (BrokeReturn at to) b = refl
    judging (BrokeDepth at) b = refl

    off : (k : Kept) → (k ≡ kinds.Kept → ⊥) → counting notes relaxed returns counts most kept k ≡ counted (counting notes relaxed returns counts most kept k) x
    off k n = sym (counted_off (counting notes relaxed returns counts most kept k) x n)

    by_kept : (k : Kept) → counting notes relaxed returns counts most kept k ≡ counted (counting notes relaxed returns counts most kept k) x
    by_kept kinds.Kept =
        same_counting notes kept _ (going_with relaxed returns counts) _ most _ (judging kept bounded)
        (plain_step (going_with relaxed returns counts) x moved (subst (λ ns. AreTurning ns (length ns) []) (sym is) (relaxed_idle notes)) fit shallow none)
        (sym (raised_plain (going_with relaxed returns counts) most x moved (size ∙ sym long) shallow none)) ∙
        sym (counted_on (counting notes relaxed returns counts most kept kinds.Kept) x refl)
    by_kept (BrokeBound loop_no count) = off (BrokeBound loop_no count) (λ e. let bad : ⊥ = cc in bad)
    by_kept (BrokeReturn at to) = off (BrokeReturn at to) (λ e. let bad : ⊥ = cc in bad)
    by_kept (BrokeDepth at) = off (BrokeDepth at) (λ e. let bad : ⊥ = cc in bad)
