-- Counting over a run: it watches by both notes, and the most of a loop is the greatest count that a step reached.
use Rattle.std.proofs.Common.{◌≡◌, ◌≢◌, ℕ, zero, suc, ◌+◌, ◌<◌, ◌≤◌, Bool, true, false, nat_lt, ◌==◌, max, ◌⊎◌, inl, inr, ⊎_elim, List, [], length, map, replicate, get_or, Option, Some, None, refl, sym, ap, ◌∙◌, subst, arith, add-one, eq-eqb, slice_index}
use Rattle.std.proofs.Math.Nat.{le-max_left, le-max_right, max-eq_left, max-eq_right}
use Rattle.std.proofs.lemmas.Bool.{cond-true, cond-false, ne_eqb, le-ltb, cases_lt, cases_eq}
use Rattle.std.proofs.lemmas.List.{length-map, get_or-replicate}
use Rattle.std.proofs.lemmas.List.Elements.{All-get_or}
use Rattle.std.proofs.lemmas.List.FromFn.{get_or-map-range_with_len, length-map-range_with_len}
use Rattle.std.specs.List.{range_with_len, All}
use Rattle.scale_base.specs.declared.endings.Kept.{Kept}
use Rattle.scale_base.specs.declared.endings.Kept.TheVariants.{BrokeBound, BrokeReturn, BrokeDepth}
use Rattle.scale_base.specs.declared.endings.Kept.TheVariants as kinds
use Rattle.scale_base.specs.declared.stepping.Stepped.{Stepped}
use Rattle.scale_base.specs.declared.stepping.StepEnd.{StepEnd}
use Rattle.scale_base.specs.declared.stepping.StepEnd.TheVariants.{Went, Exited, Trapped}
use Rattle.scale_base.specs.State.{Setting, State}
use Rattle.scale_base.specs.Step.{step}
use Rattle.scale_base.specs.Run.{Standing, GoesOn, HasExited, HasTrapped, run}
use Rattle.graph_runs.specs.ReturnAddresses.{returns_after}
use Rattle.graph_runs.specs.KeptRuns.{most_returns}
use Rattle.graph_runs.specs.KeptSteps.{source_of}
use Rattle.loop_file.specs.declared.notes.LoopNote.{LoopNote}
use Rattle.loop_file.specs.Notes.{AreLoopNotes, IsLoopNote, relaxed_note}
use Rattle.loop_file.specs.Kept.{note_at}
use Rattle.keep_monitor.specs.Steps.{broken_by}
use Rattle.keep_monitor.specs.Watch.{Watched, watch, watch_end, watched_first, watched_from, next_counts, loop_broken}
use Rattle.keep_monitor.specs.Counted.{Counted, counted_first, raised_at, raised_most, judged, count_after_kept, counted, count_end, counted_from}
use Rattle.keep_monitor.specs.Reached.{ReachesCount}
use Rattle.keep_monitor.proofs.CountLaws.{stepped_else}
use Rattle.keep_monitor.proofs.StepLaws.{watch_stays}
use Rattle.keep_monitor.proofs.AlikeLaws.{AreAlike, relaxed_at, relaxed_alike, going_with, same_counts, same_count}
use Rattle.keep_monitor.proofs.OutcomeLaws.{Outcome, BreaksReturns, BreaksBound, KeepsAll, outcome, none_broken, broken_not}
use Rattle.keep_monitor.proofs.BoundLaws.{NeedNotTurn, within_none, none_within}

-- ---- watching from a state, step by step

pub watched_none : (env : Setting) (s : State) (notes : List LoopNote) → watched_from env s notes 0 ≡ watched_first notes
unfolding watched_from
watched_none env s notes = refl

pub watched_more : (env : Setting) (s : State) (notes : List LoopNote) (n : ℕ) →
    watched_from env s notes (suc n) ≡ watch_end (watched_from env s notes n) (run env s n).standing (step env (run env s n).state).end
unfolding watched_from
watched_more env s notes n = refl

-- ---- relaxed notes

pub relaxed_free : (notes : List LoopNote) → NeedNotTurn (map relaxed_note notes)
relaxed_free notes = record { least = λ k kl. ap (λ (n : LoopNote). n.at_least) (relaxed_at notes k (subst (λ n. k < n) (length-map notes relaxed_note) kl)) }

pub relaxed_bound : (notes : List LoopNote) (k : ℕ) → k < length notes → (note_at (map relaxed_note notes) k).bound ≡ 1000000000
relaxed_bound notes k kl = ap (λ (n : LoopNote). n.bound) (relaxed_at notes k kl)

-- a note of a list keeps what each note keeps
note_fits : (notes : List LoopNote) → AreLoopNotes notes → (k : ℕ) → k < length notes → (note_at notes k).bound ≤ 1000000000
note_fits notes fit k kl = let each : IsLoopNote (note_at notes k) = All-get_or IsLoopNote notes k _ kl fit.each in each.bound

-- ---- two watched runs by notes of the same loops, which have broken nothing

pub record Agree (one other : List LoopNote) (w v : Watched) : Type 0 where
  pub returns : List ℕ
  pub counts : List ℕ
  pub one_is : w ≡ going_with one returns counts
  pub other_is : v ≡ going_with other returns counts

pub agree_first : (one other : List LoopNote) → AreAlike one other → Agree one other (watched_first one) (watched_first other)
agree_first one other a = record { returns = []; counts = replicate (length other) 0; one_is = ap (λ n. going_with one [] (replicate n 0)) a.size; other_is = refl }

-- where both keep a step they agree after it
pub agree_after : (one other : List LoopNote) → AreAlike one other → (returns counts : List ℕ) (x : Stepped) → KeepsAll one returns counts x → KeepsAll other returns counts x →
    Agree one other (watch (going_with one returns counts) x) (watch (going_with other returns counts) x)
agree_after one other a returns counts x p q =
    let same : p.after ≡ q.after = some_same p.after q.after (sym p.returns_are ∙ q.returns_are) in
    record {
      returns = q.after;
      counts = map (next_counts (going_with other returns counts) x) (range_with_len 0 (length other));
      one_is = p.is ∙ (ap (λ rs. going_with one rs (map (next_counts (going_with one returns counts) x) (range_with_len 0 (length one)))) same ∙ ap (going_with one q.after) (same_counts one other a returns counts x));
      other_is = q.is;
    }
  where
    some_same : (a b : List ℕ) → Some a ≡ Some b → a ≡ b
    some_same a b e = let r : a ≡ b = cc in r

-- a step that is kept was kept in the way that keeps all
pub keeps_all : (notes : List LoopNote) (returns counts : List ℕ) (x : Stepped) → (watch (going_with notes returns counts) x).kept ≡ kinds.Kept → KeepsAll notes returns counts x
keeps_all notes returns counts x k = by_outcome (outcome notes returns counts x)
  where
    by_outcome : Outcome notes returns counts x → KeepsAll notes returns counts x
    by_outcome (inl p) = absurd (broken_not x (returns_after returns x) p.broken p.why (sym (ap (λ (w : Watched). w.kept) p.is) ∙ k))
    by_outcome (inr (inl p)) =
        let q : BrokeBound (p.at + 1) (next_counts (going_with notes returns counts) x p.at) ≡ kinds.Kept = sym (ap (λ (w : Watched). w.kept) p.is) ∙ k in
        let bad : ⊥ = cc in absurd bad
    by_outcome (inr (inr p)) = p

-- a step that keeps all by the notes keeps all by the relaxed ones
pub relaxed_keeps : (notes : List LoopNote) → AreLoopNotes notes → (returns counts : List ℕ) (x : Stepped) → KeepsAll notes returns counts x → KeepsAll (map relaxed_note notes) returns counts x
relaxed_keeps notes fit returns counts x p = by_outcome (outcome (map relaxed_note notes) returns counts x)
  where
    low : (k : ℕ) → k < length (map relaxed_note notes) → next_counts (going_with (map relaxed_note notes) returns counts) x k ≤ (note_at (map relaxed_note notes) k).bound
    low k kl =
        let within : k < length notes = subst (λ n. k < n) (length-map notes relaxed_note) kl in
        let bound = relaxed_bound notes k within in
        let same = same_count (map relaxed_note notes) notes (relaxed_alike notes) counts (source_of x.moved x.pc returns) x.next k kl in
        let below = none_within notes (next_counts (going_with notes returns counts) x) x p.found k within in
        let fits = note_fits notes fit k within in
        omega (arith, bound, same, below, fits)

    none : loop_broken (map relaxed_note notes) (next_counts (going_with (map relaxed_note notes) returns counts) x) x ≡ None
    none = within_none (map relaxed_note notes) (relaxed_free notes) (next_counts (going_with (map relaxed_note notes) returns counts) x) x low

    by_outcome : Outcome (map relaxed_note notes) returns counts x → KeepsAll (map relaxed_note notes) returns counts x
    by_outcome (inl q) = let none : broken_by x (returns_after returns x) ≡ None = none_broken x (returns_after returns x) p.after p.returns_are p.shallow in let bad : ⊥ = cc in absurd bad
    by_outcome (inr (inl q)) = let e : Some q.at ≡ None = sym q.found ∙ none in let bad : ⊥ = cc in absurd bad
    by_outcome (inr (inr q)) = q

-- ---- the most after a step

max_one : (a b : ℕ) → (max a b ≡ a) ⊎ (max a b ≡ b)
max_one a b = ⊎_elim (λ (lt : a < b). let le : a ≤ b = omega arith in inr (max-eq_right le)) (λ (ge : b ≤ a). inl (max-eq_left ge)) (cases_lt a b)

-- the most of a loop stays or becomes the count, which it isn't below then, if the count before wasn't above it
pub record IsRaised (old count new : ℕ) : Type 0 where
  pub grown : old ≤ new
  pub above : count ≤ new
  pub one : (new ≡ old) ⊎ (new ≡ count)

pub raised_well : (w : Watched) (most : List ℕ) (x : Stepped) (k : ℕ) → slice_index w.counts k ≤ slice_index most k → IsRaised (slice_index most k) (next_counts w x k) (raised_at w most x k)
raised_well w most x k low = ⊎_elim
    (λ (e : x.next ≡ (note_at w.notes k).header).
    let is : raised_at w most x k ≡ max (slice_index most k) (next_counts w x k) = cond-true _ _ _ (eq-eqb _ _ e) in
    record {
      grown = subst (λ m. slice_index most k ≤ m) (sym is) (le-max_left _ _);
      above = subst (λ m. next_counts w x k ≤ m) (sym is) (le-max_right _ _);
      one = ⊎_elim (λ l. inl (is ∙ l)) (λ r. inr (is ∙ r)) (max_one (slice_index most k) (next_counts w x k));
    })
    (λ (ne : x.next ≡ (note_at w.notes k).header → ⊥).
    let is : raised_at w most x k ≡ slice_index most k = cond-false _ _ _ (ne_eqb _ _ ne) in
    let same : next_counts w x k ≡ slice_index w.counts k = stepped_else w.notes w.counts (source_of x.moved x.pc w.returns) x.next k (λ e. ne (sym e)) in
    record {
      grown = subst (λ m. slice_index most k ≤ m) (sym is) (omega arith);
      above = subst (λ m. next_counts w x k ≤ m) (sym is) (subst (λ m. m ≤ slice_index most k) (sym same) low);
      one = inl is;
    })
    (cases_eq x.next (note_at w.notes k).header)

pub raised_none : (w : Watched) (most : List ℕ) (x : Stepped) (o : Option (List ℕ)) (b : Kept) → broken_by x o ≡ Some b → raised_most w most x o ≡ most
raised_none w most x None b e = refl
raised_none w most x (Some rs) b e = go (nat_lt most_returns (length rs)) refl
  where
    go : (t : Bool) → nat_lt most_returns (length rs) ≡ t → raised_most w most x (Some rs) ≡ most
    go true is = cond-true _ _ _ is
    go false is = let q : broken_by x (Some rs) ≡ None = cond-false _ _ _ is in let bad : ⊥ = cc in absurd bad

pub raised_some : (w : Watched) (most : List ℕ) (x : Stepped) (o : Option (List ℕ)) (rs : List ℕ) → o ≡ Some rs → length rs ≤ most_returns →
    raised_most w most x o ≡ map (raised_at w most x) (range_with_len 0 (length w.notes))
raised_some w most x o rs e low = ap (raised_most w most x) e ∙ cond-false _ _ _ (le-ltb _ _ low)
