-- The counts of all loops after a step, from those of the loops of its target.
use Rattle.std.proofs.Common.{◌≡◌, ◌≢◌, ℕ, zero, suc, ◌+◌, ◌<◌, ◌≤◌, Bool, true, false, nat_lt, cond, ⊎_elim, List, length, map, get_or, Option, Some, None, refl, sym, ap, ◌∙◌, subst, arith, eq-eqb}
use Rattle.std.proofs.lemmas.Bool.{cond-true, cond-false, ne_eqb, le-ltb, cases_lt, cases_eq}
use Rattle.std.proofs.lemmas.List.FromFn.{fill_by_all}
use Rattle.std.specs.List.{range_with_len}
use Rattle.cost_theory.specs.Graph.{is_round, find_below, or_else}
use Rattle.cost_theory.proofs.Laws.{below_suc}
use Rattle.loop_file.specs.declared.notes.LoopNote.{LoopNote}
use Rattle.loop_file.specs.Kept.{note_at, noted_loops}
use Rattle.keep_monitor.specs.declared.headers.Header.{Header}
use Rattle.keep_monitor.specs.Headers.{sorted_header, AreLoopsOf}
use Rattle.keep_monitor.specs.Steps.{counts_after_step, loop_over, count_then, count_after_at, is_over, AreCounts}

pub stepped_here : (notes : List LoopNote) (counts : List ℕ) (source : Option ℕ) (next k : ℕ) → (note_at notes k).header ≡ next →
    counts_after_step notes counts source next k ≡ count_then (note_at notes k) source (get_or counts k 0)
stepped_here notes counts source next k e = cond-true _ _ _ (eq-eqb _ _ (sym e)) ∙ by_source source
  where
    by_source : (o : Option ℕ) → cond (is_round (noted_loops notes) k o) (get_or counts k 0 + 1) 0 ≡ count_then (note_at notes k) o (get_or counts k 0)
    by_source None = refl
    by_source (Some v) = refl

pub stepped_else : (notes : List LoopNote) (counts : List ℕ) (source : Option ℕ) (next k : ℕ) → ((note_at notes k).header ≡ next → ⊥) → counts_after_step notes counts source next k ≡ get_or counts k 0
stepped_else notes counts source next k ne = cond-false _ _ _ (ne_eqb _ _ (λ e. ne (sym e)))

-- a loop of the group at its place
pub stepped_at : (notes : List LoopNote) (counts : List ℕ) (source : Option ℕ) (next : ℕ) (group : List Header) → AreLoopsOf notes next group → (j : ℕ) → j < length group →
    counts_after_step notes counts source next (sorted_header group j).number ≡ count_after_at notes group counts source j
stepped_at notes counts source next group of j jl = stepped_here notes counts source next (sorted_header group j).number (of.header j jl)

pub find_none : (n : ℕ) (p : ℕ → Bool) → ((k : ℕ) → k < n → p k ≡ false) → find_below n p ≡ None
find_none zero p h = refl
find_none (suc n) p h =
    ap (λ o. or_else o (cond (p n) (Some n) None)) (find_none n p (λ k kl. h k (omega arith))) ∙ cond-false _ _ _ (h n (omega arith))

pub find_first : (n : ℕ) (p : ℕ → Bool) (k : ℕ) → k < n → p k ≡ true → ((i : ℕ) → i < k → p i ≡ false) → find_below n p ≡ Some k
find_first zero p k kl h before = let bad : ⊥ = omega arith in absurd bad
find_first (suc n) p k kl h before = ⊎_elim
    (λ (low : k < n). ap (λ o. or_else o (cond (p n) (Some n) None)) (find_first n p k low h before))
    (λ (e : k ≡ n).
    let none : find_below n p ≡ None = find_none n p (λ i il. before i (omega arith)) in
    let here : p n ≡ true = ap p (sym e) ∙ h in
    ap (λ o. or_else o (cond (p n) (Some n) None)) none ∙ cond-true _ _ _ here ∙ ap Some (sym e))
    (below_suc k n kl)

-- loops of another header keep their counts, which are within their bounds
pub other_kept : (notes : List LoopNote) (counts : List ℕ) (source : Option ℕ) (next k : ℕ) → AreCounts notes counts → k < length notes → ((note_at notes k).header ≡ next → ⊥) →
    nat_lt (note_at notes k).bound (counts_after_step notes counts source next k) ≡ false
other_kept notes counts source next k fit kl ne =
    let low = fit.bounded k kl in
    let same = stepped_else notes counts source next k ne in
    le-ltb _ _ (subst (λ c. c ≤ (note_at notes k).bound) (sym same) low)

-- no loop of the target is over, so none is
pub none_over : (notes : List LoopNote) (counts : List ℕ) (source : Option ℕ) (next : ℕ) (group : List Header) → AreCounts notes counts → AreLoopsOf notes next group →
    ((j : ℕ) → j < length group → is_over notes group counts source j ≡ false) → loop_over notes counts source next ≡ None
none_over notes counts source next group fit of none = find_none (length notes) _ (λ k kl. ⊎_elim
    (λ (e : (note_at notes k).header ≡ next).
    let spot = of.whole k kl e in
    subst (λ i. nat_lt (note_at notes i).bound (counts_after_step notes counts source next i) ≡ false) spot.2
    (ap (nat_lt (note_at notes (sorted_header group spot.0).number).bound) (stepped_at notes counts source next group of spot.0 spot.1) ∙ none spot.0 spot.1))
    (λ (ne : (note_at notes k).header ≡ next → ⊥). other_kept notes counts source next k fit kl ne)
    (cases_eq (note_at notes k).header next))

-- the first loop of the target that is over is the least one
pub first_over : (notes : List LoopNote) (counts : List ℕ) (source : Option ℕ) (next : ℕ) (group : List Header) → AreCounts notes counts → AreLoopsOf notes next group →
    (p : ℕ) → p < length group → is_over notes group counts source p ≡ true → ((j : ℕ) → j < p → is_over notes group counts source j ≡ false) →
    loop_over notes counts source next ≡ Some (sorted_header group p).number
first_over notes counts source next group fit of p pl over before = find_first (length notes) _ (sorted_header group p).number (of.loops.within p pl)
    (ap (nat_lt (note_at notes (sorted_header group p).number).bound) (stepped_at notes counts source next group of p pl) ∙ over)
    (λ k below.
    let top : (sorted_header group p).number < length notes = of.loops.within p pl in
    let kl : k < length notes = omega arith in
    ⊎_elim
    (λ (e : (note_at notes k).header ≡ next).
    let spot = of.whole k kl e in
    let same : (sorted_header group spot.0).number ≡ k = spot.2 in
    let early : spot.0 < p = ⊎_elim (λ (l : spot.0 < p). l)
    (λ (ge : p ≤ spot.0). absurd (⊎_elim
    (λ (q : p ≡ spot.0). let r : (sorted_header group p).number ≡ (sorted_header group spot.0).number = ap (λ i. (sorted_header group i).number) q in let no : ⊥ = omega arith in no)
    (λ (ne : p ≡ spot.0 → ⊥). let l : p < spot.0 = omega arith in let r : (sorted_header group p).number < (sorted_header group spot.0).number = of.loops.rise p spot.0 l spot.1 in let no : ⊥ = omega arith in no)
    (cases_eq p spot.0)))
    (cases_lt spot.0 p) in
    subst (λ i. nat_lt (note_at notes i).bound (counts_after_step notes counts source next i) ≡ false) same
    (ap (nat_lt (note_at notes (sorted_header group spot.0).number).bound) (stepped_at notes counts source next group of spot.0 spot.1) ∙ before spot.0 early))
    (λ (ne : (note_at notes k).header ≡ next → ⊥). other_kept notes counts source next k fit kl ne)
    (cases_eq (note_at notes k).header next))

-- what the counts are by loop, where those of the target were counted
pub counted_by_loop : (notes : List LoopNote) (counts : List ℕ) (source : Option ℕ) (next : ℕ) (group : List Header) (after : List ℕ) → AreLoopsOf notes next group →
    ((j : ℕ) → j < length group → get_or after (sorted_header group j).number 0 ≡ count_after_at notes group counts source j) →
    ((k : ℕ) → ((j : ℕ) → j < length group → (sorted_header group j).number ≢ k) → get_or after k 0 ≡ get_or counts k 0) →
    (k : ℕ) → k < length notes → get_or after k 0 ≡ counts_after_step notes counts source next k
counted_by_loop notes counts source next group after of each others k kl = ⊎_elim
    (λ (e : (note_at notes k).header ≡ next).
    let spot = of.whole k kl e in
    subst (λ i. get_or after i 0 ≡ counts_after_step notes counts source next i) spot.2 (each spot.0 spot.1 ∙ sym (stepped_at notes counts source next group of spot.0 spot.1)))
    (λ (ne : (note_at notes k).header ≡ next → ⊥).
    others k (λ j jl same. ne (ap (λ i. (note_at notes i).header) (sym same) ∙ of.header j jl)) ∙ sym (stepped_else notes counts source next k ne))
    (cases_eq (note_at notes k).header next)

pub counts_listed : (notes : List LoopNote) (counts : List ℕ) (source : Option ℕ) (next : ℕ) (after : List ℕ) → length after ≡ length notes →
    ((k : ℕ) → k < length notes → get_or after k 0 ≡ counts_after_step notes counts source next k) → after ≡ map (counts_after_step notes counts source next) (range_with_len 0 (length notes))
counts_listed notes counts source next after size each = fill_by_all (counts_after_step notes counts source next) after (length notes) 0 size each
