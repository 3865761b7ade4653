-- The tallies that come due, mark by mark.
use Rattle.std.proofs.Common.{◌≡◌, ℕ, suc, ◌^◌, ◌/◌, ◌<◌, ◌≤◌, Bool, true, false, ◌&&◌, List, [], ◌∷◌, length, slice_get, Some, None, refl, sym, ap, ◌∙◌, subst, arith}
use Rattle.std.specs.Prelude.{All, ◌||◌, ◌==◌, nat_le, nat_lt}
use Rattle.std.specs.List.{list_any}
use Rattle.std.proofs.lemmas.Bool.{false_from_ne_true, lt-ltb, ltb-true}
use Rattle.std.proofs.lemmas.Option.{get_or_from_slice_get}
use Rattle.power_model.specs.Numbers.{PowerModel}
use Rattle.scale_base.specs.Image.{Image}
use Rattle.scale_base.specs.declared.fragments.Mark.{Mark}
use Rattle.scale_base.specs.declared.fragments.Mark.TheVariants as marks
use Rattle.scale_sites.specs.Forms.{IsQuietMark, IsFirstAlone}
use Rattle.cost_theory.specs.Worst.{Numbers}
use Rattle.cycle_laws.specs.Charged.{Charged}
use Rattle.level_tables.specs.Tables.{tally_from, tally_shift}
use Rattle.level_tables.specs.declared.edge_numbers.EdgeNumbers.{EdgeNumbers}
use Rattle.flow_graph.specs.FlowGraph.{FlowGraph}
use Rattle.loop_forest.specs.Tree.{LoopView, loops}
use Rattle.scale_sites.specs.Counters.{counted_loops}
use Rattle.scale_sites.specs.Sites.{marks_at_edge}
use Rattle.rewritten_runs.specs.Stubs.{loop_of, told_at}
use Rattle.marked_images.specs.declared.stubs.Marking.{Marking}
use Rattle.marked_images.specs.Markings.{IsMarking, test_of}
use Rattle.paced_images.specs.Useful.{comes_due, is_due, is_due_at}
use Rattle.marked_images.specs.Wanted.{Wanted, marked_where}
use Rattle.marked_images.proofs.Laws.{marking_alone}

module _ (power : PowerModel) (test : EdgeNumbers → ℕ → ℕ → Bool) (start : ℕ) (v : FlowGraph) (t : LoopView) (n : Numbers) (header : ℕ) (told : EdgeNumbers) where
  quiet : (m : Mark) → IsQuietMark m → is_due power test start v t n header told m ≡ false
  quiet marks.Switch q = refl
  quiet (marks.Exit k) q = refl
  quiet (marks.Reset k) q = refl
  quiet (marks.Count k) q = refl
  quiet marks.Lowest q = refl
  quiet (marks.Tally k) q = absurd q

  none_due : (ms : List Mark) → All IsQuietMark ms → list_any (is_due power test start v t n header told) ms ≡ false
  none_due [] all = refl
  none_due (m ∷ ms) all =
      ap (λ b. b || list_any (is_due power test start v t n header told) ms) (quiet m (all 0 m (omega arith)))
      ∙ none_due ms (λ k d lt. all (suc k) d (omega arith))

  or_false : (b : Bool) → (b || false) ≡ b
  or_false true = refl
  or_false false = refl

  first_due : (m : Mark) (ms : List Mark) → IsFirstAlone (m ∷ ms) → list_any (is_due power test start v t n header told) (m ∷ ms) ≡ is_due power test start v t n header told m
  first_due m ms alone = ap (λ b. is_due power test start v t n header told m || b) (none_due ms alone) ∙ or_false (is_due power test start v t n header told m)

  -- only the first mark may be a tally
  pub due_first : (ms marked : List Mark) (m : Mark) (b : Bool) → IsFirstAlone ms → ms ≡ marked → slice_get ms 0 ≡ Some m → b ≡ is_due power test start v t n header told m → b ≡ list_any (is_due power test start v t n header told) marked
  due_first [] marked m b alone same at is = let never : ⊥ = cc in absurd never
  due_first (x ∷ ms) marked m b alone same at is =
      let e : m ≡ x = cc in
      is ∙ (ap (is_due power test start v t n header told) e ∙ (sym (first_due x ms alone) ∙ ap (list_any (is_due power test start v t n header told)) same))

  pub due_none : (ms marked : List Mark) → ms ≡ marked → slice_get ms 0 ≡ None → false ≡ list_any (is_due power test start v t n header told) marked
  due_none [] marked same at = ap (list_any (is_due power test start v t n header told)) same
  due_none (x ∷ ms) marked same at = let never : ⊥ = cc in absurd never

  -- a tally's numbers, as they are shown
  pub due_as : (counter k bound iteration : ℕ) (shown : EdgeNumbers) (a b : Bool) → loop_of (counted_loops t) counter ≡ k → bound ≡ (loops v t).bound k → iteration ≡ n.iteration k → shown ≡ told → a ≡ ((loops v t).header k == header) → b ≡ comes_due power test start bound iteration shown
      → (a && b) ≡ is_due power test start v t n header told (marks.Tally counter)
  due_as counter k bound iteration shown a b here bounds turns tells one other =
      let x : a ≡ ((loops v t).header (loop_of (counted_loops t) counter) == header) = one ∙ ap (λ j. (loops v t).header j == header) (sym here) in
      let y : bound ≡ (loops v t).bound (loop_of (counted_loops t) counter) = bounds ∙ ap (loops v t).bound (sym here) in
      let z : iteration ≡ n.iteration (loop_of (counted_loops t) counter) = turns ∙ ap n.iteration (sym here) in
      let w : b ≡ comes_due power test start ((loops v t).bound (loop_of (counted_loops t) counter)) (n.iteration (loop_of (counted_loops t) counter)) told =
      other ∙ (ap (λ j. comes_due power test start j iteration shown) y ∙ (ap (λ j. comes_due power test start ((loops v t).bound (loop_of (counted_loops t) counter)) j shown) z
      ∙ ap (comes_due power test start ((loops v t).bound (loop_of (counted_loops t) counter)) (n.iteration (loop_of (counted_loops t) counter))) tells)) in
      ap (λ q. q && b) x ∙ ap (λ q. ((loops v t).header (loop_of (counted_loops t) counter) == header) && q) w

-- ---- the tally of an edge

module _ (power : PowerModel) (image : Image) (v : FlowGraph) (t : LoopView) (wanted : Wanted) (stored : Numbers) (least : Charged) (m : Marking) (is : IsMarking power image v t wanted stored least m) (start header e : ℕ) (lt : e < length v.code.edges) where
  abbrev told_here : EdgeNumbers
  told_here = told_at power image v t (marked_where v t wanted) stored least e

  pub due_at : (ms : List Mark) (x : Mark) (b : Bool) → ms ≡ marks_at_edge m.sites e → slice_get ms 0 ≡ Some x → b ≡ is_due power (test_of power m) start v t stored header told_here x
      → b ≡ is_due_at power (test_of power m) start image v t (marked_where v t wanted) stored least header e
  due_at ms x b same at h =
      due_first power (test_of power m) start v t stored header told_here ms (marked_where v t wanted e) x b
      (subst IsFirstAlone (sym same) (marking_alone power image v t wanted stored least m is e lt)) (same ∙ is.marks e lt) at h

  -- by the numbers of its loop
  pub due_here : (counter k bound iteration : ℕ) (shown : EdgeNumbers) (a b : Bool) → k < length t.headers → loop_of (counted_loops t) counter ≡ k → slice_get t.bounds k ≡ Some bound → slice_get m.worst.iteration k ≡ Some iteration → shown ≡ told_here
      → a ≡ ((loops v t).header k == header) → b ≡ comes_due power (test_of power m) start bound iteration shown → (a && b) ≡ is_due power (test_of power m) start v t stored header told_here (marks.Tally counter)
  due_here counter k bound iteration shown a b small here bounds turns tells one other =
      due_as power (test_of power m) start v t stored header told_here counter k bound iteration shown a b here (sym (get_or_from_slice_get t.bounds k bound 0 bounds)) (let q = is.iteration k small in cc) tells one other

-- ---- the count from which on it stores

pub due_on : (power : PowerModel) (test : EdgeNumbers → ℕ → ℕ → Bool) (start bound iteration : ℕ) (told : EdgeNumbers) (n s : ℕ) → 0 < start → n ≡ tally_from power test bound iteration told → s ≡ tally_shift bound → nat_le n (bound / 2 ^ s) ≡ comes_due power test start bound iteration told
due_on power test start bound iteration told n s lt e e' =
    ap (λ k. nat_le k (bound / 2 ^ s)) e ∙ (ap (λ k. nat_le (tally_from power test bound iteration told) (bound / 2 ^ k)) e'
    ∙ sym (ap (λ b. b && nat_le (tally_from power test bound iteration told) (bound / 2 ^ tally_shift bound)) (lt-ltb 0 start lt)))

pub due_off : (power : PowerModel) (test : EdgeNumbers → ℕ → ℕ → Bool) (start bound iteration : ℕ) (told : EdgeNumbers) → start ≤ 0 → nat_lt 0 start ≡ comes_due power test start bound iteration told
due_off power test start bound iteration told le =
    let off : nat_lt 0 start ≡ false = false_from_ne_true (nat_lt 0 start) (λ on. let lt = ltb-true 0 start on in omega (arith, lt, le)) in
    off ∙ sym (ap (λ b. b && nat_le (tally_from power test bound iteration told) (bound / 2 ^ tally_shift bound)) off)
