-- What the most of the loops says of bounds.
use Rattle.std.proofs.Common.{◌≡◌, ◌≢◌, ℕ, ◌+◌, ◌-◌, ◌<◌, ◌⊎◌, inl, inr, List, length, map, refl, sym, ap, ◌∙◌, subst, arith, set, slice_index}
use Rattle.std.specs.List.{Contains}
use Rattle.std.proofs.lemmas.List.{get_or-set_same, get_or-set_other, length-map}
use Rattle.std.proofs.lemmas.List.FromFn.{get_or-map-range_with_len, length-map-range_with_len}
use Rattle.scale_base.specs.declared.endings.Kept.{Kept}
use Rattle.scale_base.specs.declared.endings.Kept.TheVariants.{BrokeBound, BrokeReturn, BrokeDepth}
use Rattle.scale_base.specs.declared.endings.Kept.TheVariants as kinds
use Rattle.scale_base.specs.Image.{Image}
use Rattle.scale_base.specs.Run.{setting_of, start_of}
use Rattle.power_model.specs.Numbers.{PowerModel}
use Rattle.power_model.specs.Survey.{Survey}
use Rattle.loop_file.specs.declared.notes.LoopNote.{LoopNote}
use Rattle.loop_file.specs.Notes.{relaxed_note}
use Rattle.loop_file.specs.Kept.{note_at, in_extent}
use Rattle.keep_monitor.proofs.Laws.{AreAlike, relaxed_at, relaxed_free, NeedNotTurn, AreLower, IsTight, within_bounds, no_bound, tight_breaks}
use Rattle.input_survey.specs.Most.{ReachesAt, IsCountReached}
use Rattle.input_survey.specs.Surveyed.{IsSurvey}
use Rattle.input_survey.specs.Bounds.{bounded_note, bounded_notes, kept_by, BreaksNoBound, IsEnough, IsEachNeeded}

-- ---- notes with other bounds

bounded_length : (notes : List LoopNote) (bounds : List ℕ) → length (bounded_notes notes bounds) ≡ length notes
bounded_length notes bounds = length-map-range_with_len (bounded_note notes bounds) 0 (length notes)

bounded_at : (notes : List LoopNote) (bounds : List ℕ) (k : ℕ) → k < length notes → note_at (bounded_notes notes bounds) k ≡ bounded_note notes bounds k
bounded_at notes bounds k kl = get_or-map-range_with_len (bounded_note notes bounds) 0 (length notes) k k _ kl (omega arith)

pub bounded_bound : (notes : List LoopNote) (bounds : List ℕ) (k : ℕ) → k < length notes → (note_at (bounded_notes notes bounds) k).bound ≡ slice_index bounds k
bounded_bound notes bounds k kl = ap (λ (n : LoopNote). n.bound) (bounded_at notes bounds k kl)

pub bounded_free : (notes : List LoopNote) (bounds : List ℕ) → NeedNotTurn (bounded_notes notes bounds)
bounded_free notes bounds = record { least = λ k kl. ap (λ (n : LoopNote). n.at_least) (bounded_at notes bounds k (subst (λ n. k < n) (bounded_length notes bounds) kl)) }

pub bounded_alike : (notes : List LoopNote) (bounds : List ℕ) → AreAlike (map relaxed_note notes) (bounded_notes notes bounds)
bounded_alike notes bounds = record {
  size = length-map notes relaxed_note ∙ sym (bounded_length notes bounds);
  header = λ k kl. let l = low k kl in ap (λ (n : LoopNote). n.header) (relaxed_at notes k l) ∙ sym (ap (λ (n : LoopNote). n.header) (bounded_at notes bounds k l));
  extent = λ k kl v. let l = low k kl in ap (λ (n : LoopNote). in_extent n v) (relaxed_at notes k l) ∙ sym (ap (λ (n : LoopNote). in_extent n v) (bounded_at notes bounds k l));
}
  where
    low : (k : ℕ) → k < length (map relaxed_note notes) → k < length notes
    low k kl = subst (λ n. k < n) (length-map notes relaxed_note) kl

-- ---- the most is enough

no_bound_is : (k : Kept) → ((loop_no count : ℕ) → k ≡ BrokeBound loop_no count → ⊥) → BreaksNoBound k
no_bound_is kinds.Kept none = tt
no_bound_is (BrokeBound loop_no count) none = none loop_no count refl
no_bound_is (BrokeReturn at to) none = tt
no_bound_is (BrokeDepth at) none = tt

reached : (power : PowerModel) (image : Image) (notes : List LoopNote) (inputs : List (List ℕ)) (input : List ℕ) (j k count : ℕ) → Contains inputs input → j < power.steps →
    ReachesAt power image notes input j k count → IsCountReached power image notes inputs k count
reached power image notes inputs input j k count listed before r = record { input = input; listed = listed; after = j; before = before; reaches = r }

pub most_is_enough : (power : PowerModel) (original scaled : Image) (notes : List LoopNote) (inputs : List (List ℕ)) (survey : Survey) → IsSurvey power original scaled notes inputs survey →
    IsEnough power original notes inputs survey.most
most_is_enough power original scaled notes inputs survey is low input listed =
    let env = setting_of original (length power.levels) input in
    let s = start_of original (length power.levels) in
    let other = bounded_notes notes survey.most in
    let short : (k : ℕ) → k < length other → k < length notes = λ k kl. subst (λ n. k < n) (bounded_length notes survey.most) kl in
    let lower : AreLower (map relaxed_note notes) other = record {
      alike = bounded_alike notes survey.most;
      one_free = relaxed_free notes;
      other_free = bounded_free notes survey.most;
      bounds = λ k kl.
          let a = bounded_bound notes survey.most k (short k kl) in
          let b = ap (λ (n : LoopNote). n.bound) (relaxed_at notes k (short k kl)) in
          let c = low k (short k kl) in
          omega (arith, a, b, c);
    } in
    no_bound_is _ (no_bound (map relaxed_note notes) other _ _ (within_bounds env s (map relaxed_note notes) other lower power.steps
    (λ j k count jl kl r.
    let a = bounded_bound notes survey.most k (short k kl) in
    let b = (is.most k (short k kl)).bound count (reached power original notes inputs input j k count listed jl r) in
    omega (arith, a, b))))

-- ---- and none of it can be left out

pub most_is_needed : (power : PowerModel) (original scaled : Image) (notes : List LoopNote) (inputs : List (List ℕ)) (survey : Survey) → IsSurvey power original scaled notes inputs survey →
    IsEachNeeded power original notes inputs survey.most
most_is_needed power original scaled notes inputs survey is k kl positive = by_reached (is.most k kl).reached
  where
    most : ℕ
    most = slice_index survey.most k

    less : List ℕ
    less = set survey.most k (slice_index survey.most k - 1)

    here : slice_index (set survey.most k (slice_index survey.most k - 1)) k ≡ slice_index survey.most k - 1
    here = get_or-set_same survey.most k (slice_index survey.most k - 1) 0 (subst (λ n. k < n) (sym is.loops) kl)

    other : (i : ℕ) → i ≢ k → slice_index (set survey.most k (slice_index survey.most k - 1)) i ≡ slice_index survey.most i
    other i ne = get_or-set_other survey.most k i (slice_index survey.most k - 1) 0 ne

    by_reached : (slice_index survey.most k ≡ 0) ⊎ IsCountReached power original notes inputs k (slice_index survey.most k) →
        (input : List ℕ) × Contains inputs input × (kept_by power original (bounded_notes notes (set survey.most k (slice_index survey.most k - 1))) input ≡ BrokeBound (k + 1) (slice_index survey.most k))
    by_reached (inl none) = let bad : ⊥ = omega arith in absurd bad
    by_reached (inr r) =
        let env = setting_of original (length power.levels) r.input in
        let s = start_of original (length power.levels) in
        let notes' = bounded_notes notes less in
        let short : (i : ℕ) → i < length notes' → i < length notes = λ i il. subst (λ n. i < n) (bounded_length notes less) il in
        let tight : IsTight env s (map relaxed_note notes) notes' power.steps k most = record {
          alike = bounded_alike notes less;
          free = bounded_free notes less;
          loop = subst (λ n. k < n) (sym (bounded_length notes less)) kl;
          bound = let a = bounded_bound notes less k kl in let b = here in omega (arith, a, b, positive);
          others = λ j i count jl il ne q.
              let a = bounded_bound notes less i (short i il) in
              let b = other i ne in
              let c = (is.most i (short i il)).bound count (reached power original notes inputs r.input j i count r.listed jl q) in
              omega (arith, a, b, c);
          this = λ j count jl q. (is.most k kl).bound count (reached power original notes inputs r.input j k count r.listed jl q);
        } in
        (r.input, r.listed, tight_breaks env s (map relaxed_note notes) notes' power.steps k most tight r.after r.before r.reaches)
