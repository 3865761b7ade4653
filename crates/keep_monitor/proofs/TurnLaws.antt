-- A local step to the header of one loop alone, where no loop has to turn before it is left.
use Rattle.std.proofs.Common.{◌≡◌, ℕ, zero, suc, ◌+◌, ◌<◌, ◌≤◌, false, nat_lt, List, [], ◌∷◌, length, get_or, set, Option, Some, None, refl, sym, ap, ◌∙◌, subst, arith, ⊎_elim}
use Rattle.std.proofs.lemmas.Bool.{cond-false, lt-ltb, le-ltb, cases_eq}
use Rattle.std.proofs.lemmas.List.{length-set, get_or-set_other}
use Rattle.std.proofs.lemmas.Grind.{get_or-set_at}
use Rattle.std.proofs.lemmas.Option.{get_or_from_slice_get, slice_get-get_or}
use Rattle.std.specs.Option.{option_map}
use Rattle.scale_base.specs.declared.endings.Kept.TheVariants.{BrokeBound}
use Rattle.scale_base.specs.declared.endings.Kept.TheVariants as kinds
use Rattle.scale_base.specs.declared.stepping.Move.{Move}
use Rattle.scale_base.specs.declared.stepping.Move.TheVariants.{Local}
use Rattle.scale_base.specs.declared.stepping.Stepped.{Stepped}
use Rattle.graph_runs.specs.KeptSteps.{source_of}
use Rattle.loop_file.specs.declared.notes.LoopNote.{LoopNote}
use Rattle.loop_file.specs.Kept.{note_at}
use Rattle.graph_runs.specs.KeptRuns.{most_returns}
use Rattle.keep_monitor.specs.declared.headers.Header.{Header}
use Rattle.keep_monitor.specs.Headers.{sorted_header, AreLoopsOf, IsLoneLoop}
use Rattle.keep_monitor.specs.Watch.{watch_returns, loop_broken}
use Rattle.keep_monitor.specs.Steps.{broken_by, broken_loop, counts_after_step, count_then, count_after_at, is_over, loop_over, loop_left, lesser_loop, AreTurning, AreCounts}
use Rattle.keep_monitor.proofs.CountLaws.{none_over, first_over, counted_by_loop, stepped_here}
use Rattle.keep_monitor.proofs.BreakLaws.{broken_is, none_left}
use Rattle.keep_monitor.proofs.StepLaws.{step_kept, rule_broken}

-- a group of one header
pub lone_in_group : (notes : List LoopNote) (at : ℕ) (group : List Header) → AreLoopsOf notes at group → length group ≡ 1 → IsLoneLoop notes at (sorted_header group 0).number
lone_in_group notes at group of one = record {
  within = of.loops.within 0 (omega arith);
  header = of.header 0 (omega arith);
  alone = λ j jl h.
      let spot = of.whole j jl h in
      let sl : spot.0 < length group = spot.1 in
      let first : spot.0 ≡ 0 = omega arith in
      sym spot.2 ∙ ap (λ i. (sorted_header group i).number) first;
}

abbrev lone : ℕ → ℕ → List Header
lone at k = record { at = at; number = k } ∷ []

lone_group : (notes : List LoopNote) (at k : ℕ) → IsLoneLoop notes at k → AreLoopsOf notes at (lone at k)
lone_group notes at k is = record {
  loops = record { within = within; rise = λ i j il jl. absurd (omega arith) };
  header = header;
  whole = λ j jl h. (0, omega arith, sym (is.alone j jl h));
}
  where
    within : (j : ℕ) → j < 1 → (sorted_header (lone at k) j).number < length notes
    within zero jl = is.within
    within (suc j) jl = absurd (omega arith)

    header : (j : ℕ) → j < 1 → (note_at notes (sorted_header (lone at k) j).number).header ≡ at
    header zero jl = is.header
    header (suc j) jl = absurd (omega arith)

-- the count after the step, from the note and the count that are there
pub count_found : (notes : List LoopNote) (counts : List ℕ) (k at : ℕ) (note : LoopNote) (old count : ℕ) → note_at notes k ≡ note → k < length counts → old ≡ get_or counts k old →
    count ≡ count_then note (Some at) old → count ≡ count_then (note_at notes k) (Some at) (get_or counts k 0)
count_found notes counts k at note old count is low held so =
    let found : get_or counts k 0 ≡ old = get_or_from_slice_get counts k old 0 (slice_get-get_or counts k old low ∙ ap Some (sym held)) in
    so ∙ ap (λ n. count_then note (Some at) n) (sym found) ∙ ap (λ (n : LoopNote). count_then n (Some at) (get_or counts k 0)) (sym is)

module _ (notes : List LoopNote) (counts : List ℕ) (x : Stepped) (k count : ℕ) (local : x.moved ≡ Local) (is : IsLoneLoop notes x.next k)
    (idle : AreTurning notes (length notes) []) (fit : AreCounts notes counts) (counts_so : count ≡ count_then (note_at notes k) (Some x.pc) (get_or counts k 0)) where
  same_count : (returns : List ℕ) → count_then (note_at notes k) (source_of x.moved x.pc returns) (get_or counts k 0) ≡ count
  same_count returns = ap (λ (m : Move). count_then (note_at notes k) (source_of m x.pc returns) (get_or counts k 0)) local ∙ sym counts_so

  left : loop_left notes counts x ≡ None
  left = none_left notes [] counts x idle (λ j jl. absurd (omega arith))

  shallow : (returns : List ℕ) → length returns ≤ most_returns → broken_by x (Some returns) ≡ None
  shallow returns few = cond-false _ _ _ (le-ltb most_returns (length returns) few)

  pub turn_broken : (note_at notes k).bound < count → (returns : List ℕ) → length returns ≤ most_returns →
      record { notes = notes; returns = returns; counts = counts; kept = BrokeBound (k + 1) count } ≡
      watch_returns (record { notes = notes; returns = returns; counts = counts; kept = kinds.Kept }) x (Some returns)
  turn_broken above returns few =
      let source : Option ℕ = source_of x.moved x.pc returns in
      let over : loop_over notes counts source x.next ≡ Some k =
      first_over notes counts source x.next (lone x.next k) fit (lone_group notes x.next k is) 0 (omega arith)
      (ap (nat_lt (note_at notes k).bound) (same_count returns) ∙ lt-ltb (note_at notes k).bound count above) (λ j jl. absurd (omega arith)) in
      let found : loop_broken notes (counts_after_step notes counts source x.next) x ≡ Some k =
      broken_is notes counts source x ∙ (ap (λ o. lesser_loop o (loop_left notes counts x)) over ∙ ap (lesser_loop (Some k)) left) in
      let told : broken_loop notes counts source x ≡ Some (BrokeBound (k + 1) count) =
      ap (option_map (λ j. BrokeBound (j + 1) (counts_after_step notes counts source x.next j))) found
      ∙ ap (λ n. Some (BrokeBound (k + 1) n)) (stepped_here notes counts source x.next k is.header ∙ same_count returns) in
      rule_broken notes returns counts x (Some returns) None (Some (BrokeBound (k + 1) count)) (BrokeBound (k + 1) count) (sym (shallow returns few)) (sym told) refl

  here : k < length counts
  here = subst (λ n. k < n) (sym fit.size) is.within

  pub turn_kept : count ≤ (note_at notes k).bound → (returns : List ℕ) → length returns ≤ most_returns →
      record { notes = notes; returns = returns; counts = set counts k count; kept = kinds.Kept } ≡
      watch_returns (record { notes = notes; returns = returns; counts = counts; kept = kinds.Kept }) x (Some returns)
  turn_kept low returns few =
      let source : Option ℕ = source_of x.moved x.pc returns in
      let over : loop_over notes counts source x.next ≡ None =
      none_over notes counts source x.next (lone x.next k) fit (lone_group notes x.next k is) within in
      let none : broken_loop notes counts source x ≡ None =
      ap (option_map (λ j. BrokeBound (j + 1) (counts_after_step notes counts source x.next j)))
      (broken_is notes counts source x ∙ (ap (λ o. lesser_loop o (loop_left notes counts x)) over ∙ ap (lesser_loop None) left)) in
      step_kept notes returns counts x (Some returns) returns (set counts k count) (shallow returns few) none refl (length-set counts k count ∙ fit.size)
      (counted_by_loop notes counts source x.next (lone x.next k) (set counts k count) (lone_group notes x.next k is) each
      (λ j out. get_or-set_other counts k j count 0 (λ e. out 0 (omega arith) (sym e))))
    where
      within : (j : ℕ) → j < 1 → is_over notes (lone x.next k) counts (source_of x.moved x.pc returns) j ≡ false
      within zero jl = ap (nat_lt (note_at notes k).bound) (same_count returns) ∙ le-ltb (note_at notes k).bound count low
      within (suc j) jl = absurd (omega arith)

      each : (j : ℕ) → j < 1 → get_or (set counts k count) (sorted_header (lone x.next k) j).number 0 ≡ count_after_at notes (lone x.next k) counts (source_of x.moved x.pc returns) j
      each zero jl = get_or-set_at counts k k count 0 refl here ∙ sym (same_count returns)
      each (suc j) jl = absurd (omega arith)

  pub turn_fits : count ≤ (note_at notes k).bound → AreCounts notes (set counts k count)
  turn_fits low = record {
    size = length-set counts k count ∙ fit.size;
    bounded = λ j jl. ⊎_elim
        (λ (e : j ≡ k). subst (λ i. get_or (set counts k count) i 0 ≤ (note_at notes i).bound) (sym e) (subst (λ n. n ≤ (note_at notes k).bound) (sym (get_or-set_at counts k k count 0 refl here)) low))
        (λ (ne : j ≡ k → ⊥). subst (λ n. n ≤ (note_at notes j).bound) (sym (get_or-set_other counts k j count 0 ne)) (fit.bounded j jl))
        (cases_eq j k);
  }
