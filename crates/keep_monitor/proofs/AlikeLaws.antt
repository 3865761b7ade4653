-- Notes of the same loops with other bounds: the counts of the loops are the same.
use Rattle.std.proofs.Common.{◌≡◌, ℕ, ◌+◌, ◌<◌, ◌≤◌, Bool, true, false, nat_lt, cond, not, ◌&&◌, ◌==◌, List, length, map, get_or, Option, Some, None, refl, sym, ap, ◌∙◌, subst, arith}
use Rattle.std.proofs.lemmas.List.{length-map, get_or-map}
use Rattle.std.proofs.lemmas.List.FromFn.{get_or-map-range_with_len, length-map-range_with_len}
use Rattle.std.specs.List.{range_with_len}
use Rattle.scale_base.specs.declared.endings.Kept.{Kept}
use Rattle.scale_base.specs.declared.endings.Kept.TheVariants as kinds
use Rattle.scale_base.specs.declared.stepping.Move.{Move}
use Rattle.scale_base.specs.declared.stepping.Move.TheVariants.{Local, Call, Return}
use Rattle.scale_base.specs.declared.stepping.Stepped.{Stepped}
use Rattle.graph_runs.specs.KeptSteps.{source_of, leaves_by}
use Rattle.loop_file.specs.declared.notes.LoopNote.{LoopNote}
use Rattle.loop_file.specs.Notes.{relaxed_note}
use Rattle.loop_file.specs.Kept.{note_at, in_extent, noted_loops}
use Rattle.keep_monitor.specs.Watch.{Watched, next_counts}
use Rattle.keep_monitor.specs.Steps.{counts_after_step, count_then}
use Rattle.keep_monitor.proofs.BreakLaws.{count_is}
use Rattle.keep_monitor.proofs.CountLaws.{counts_listed}

-- the same headers and extents
pub record AreAlike (one other : List LoopNote) : Type 0 where
  pub size : length one ≡ length other
  pub header : (k : ℕ) → k < length one → (note_at one k).header ≡ (note_at other k).header
  pub extent : (k : ℕ) → k < length one → (v : ℕ) → in_extent (note_at one k) v ≡ in_extent (note_at other k) v

pub relaxed_at : (notes : List LoopNote) (k : ℕ) → k < length notes → note_at (map relaxed_note notes) k ≡ relaxed_note (note_at notes k)
relaxed_at notes k kl = get_or-map relaxed_note notes k _ _ kl

pub relaxed_alike : (notes : List LoopNote) → AreAlike (map relaxed_note notes) notes
relaxed_alike notes = record {
  size = length-map notes relaxed_note;
  header = λ k kl. ap (λ (n : LoopNote). n.header) (relaxed_at notes k (low k kl));
  extent = λ k kl v. ap (λ (n : LoopNote). in_extent n v) (relaxed_at notes k (low k kl));
}
  where
    low : (k : ℕ) → k < length (map relaxed_note notes) → k < length notes
    low k kl = subst (λ n. k < n) (length-map notes relaxed_note) kl

-- the count of a loop after a step
same_then : (a b : LoopNote) (source : Option ℕ) (count : ℕ) → ((v : ℕ) → in_extent a v ≡ in_extent b v) → count_then a source count ≡ count_then b source count
same_then a b None count e = refl
same_then a b (Some v) count e = ap (λ t. cond t (count + 1) 0) (e v)

pub same_count : (one other : List LoopNote) → AreAlike one other → (counts : List ℕ) (source : Option ℕ) (next k : ℕ) → k < length one →
    counts_after_step one counts source next k ≡ counts_after_step other counts source next k
same_count one other a counts source next k kl =
    count_is one counts source next k ∙
    (ap (λ h. cond (next == h) (count_then (note_at one k) source (get_or counts k 0)) (get_or counts k 0)) (a.header k kl) ∙
    (ap (λ c. cond (next == (note_at other k).header) c (get_or counts k 0)) (same_then (note_at one k) (note_at other k) source (get_or counts k 0) (a.extent k kl)) ∙
    sym (count_is other counts source next k)))

abbrev pub going_with : List LoopNote → List ℕ → List ℕ → Watched
going_with notes returns counts = record { notes = notes; returns = returns; counts = counts; kept = kinds.Kept }

-- the counts of all loops after it
pub same_counts : (one other : List LoopNote) → AreAlike one other → (returns counts : List ℕ) (x : Stepped) →
    map (next_counts (going_with one returns counts) x) (range_with_len 0 (length one)) ≡ map (next_counts (going_with other returns counts) x) (range_with_len 0 (length other))
same_counts one other a returns counts x =
    let source = source_of x.moved x.pc returns in
    counts_listed other counts source x.next (map (next_counts (going_with one returns counts) x) (range_with_len 0 (length one)))
    (length-map-range_with_len (next_counts (going_with one returns counts) x) 0 (length one) ∙ a.size)
    (λ k kl.
    let low : k < length one = subst (λ n. k < n) (sym a.size) kl in
    get_or-map-range_with_len (next_counts (going_with one returns counts) x) 0 (length one) k k 0 low (omega arith) ∙ same_count one other a counts source x.next k low)
