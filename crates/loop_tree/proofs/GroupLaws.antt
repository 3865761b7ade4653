-- Loops of a group: their bodies as bits, how they are entered, and in how many of them a node is.
use Rattle.std.proofs.Common.{◌≡◌, ◌≢◌, ℕ, zero, suc, ◌+◌, ◌-◌, ◌/◌, ◌%◌, ◌^◌, ◌<◌, ◌≤◌, ◌↔◌, Bool, true, false, ◌&&◌, ◌||◌, nat_eq, nat_lt, if◌then◌else◌, List, [], ◌∷◌, ◌++◌, length, get_or, refl, sym, ap, ◌∙◌, subst, arith, Some, ◌⊎◌, inl, inr, ⊎_elim, count_ones, length-append}
use Rattle.std.specs.Prelude.{slice_get, slice_index}
use Rattle.std.specs.Int.{bit_at}
use Rattle.std.proofs.lemmas.Bool.{cases_eq, cases_lt, cases_Bool, eq-eqb, eqb-true, lt-ltb, le-ltb}
use Rattle.std.proofs.lemmas.Nat.Bits.{bit_at_lowest, bit_at-suc, bit_at-lt}
use Rattle.std.proofs.lemmas.Nat.{ones_le_self}
use Rattle.std.proofs.lemmas.Option.{slice_get_within, get_or_from_slice_get}
use Rattle.cost_theory.specs.Graph.{sum_below, only}
use Rattle.cost_theory.specs.Accepted.{IsNode}
use Rattle.cost_theory.proofs.Laws.{sum-same}
use Rattle.flow_graph.specs.FlowGraph.{FlowGraph, graph, IsFlowGraph}
use Rattle.graph_algorithms.specs.declared.bodies.extent.LoopExtent.{LoopExtent}
use Rattle.graph_algorithms.specs.Edges.{EdgeView}
use Rattle.graph_algorithms.specs.Groups.{HasBit, IsFlagged, IsLed, AreLoopExtents, AreGroup}
use Rattle.graph_algorithms.proofs.Laws.{bit_cases}
use Rattle.loop_file.specs.declared.notes.LoopNote.{LoopNote}
use Rattle.loop_file.specs.Kept.{note_at}
use Rattle.loop_forest.specs.Noted.{header_address, IsBodyNode, IsNotedSideEntry}
use Rattle.loop_tree.specs.Passes.{AreGraphEdges, AreHeaderNumbers, IsExtent, AreExtents, IsEnteredBit, AreDepths}
use Rattle.loop_forest.proofs.Laws.{one_number, source_number}
use Rattle.loop_tree.proofs.EndLaws.{push_cases}
use Rattle.loop_tree.proofs.HeaderLaws.{note_is}
use Rattle.loop_tree.proofs.WalkLaws.{some_same, has_edge, led_node, header_in}
use lib.Count.{ones_step}

-- ---- the extents of a group
pub extents_none : (v : FlowGraph) (notes : List LoopNote) (headers : List ℕ) (first : ℕ) (loops : List LoopExtent) → loops ≡ [] → AreExtents v notes headers first first loops
extents_none v notes headers first loops e = record {
  size = (let l = ap length e in omega arith);
  at = λ i loop h. let none : slice_get [] i ≡ Some loop = ap (λ xs. slice_get xs i) (sym e) ∙ h in let bad : ⊥ = cc in absurd bad;
}

pub extents_next : (v : FlowGraph) (notes : List LoopNote) (headers : List ℕ) (first k : ℕ) (loop : LoopExtent) (loops longer : List LoopExtent) → longer ≡ loops ++ loop ∷ [] → loop.header ≡ slice_index headers k → IsExtent v (note_at notes k) loop.ranges.items →
    AreExtents v notes headers first k loops → AreExtents v notes headers first (k + 1) longer
extents_next v notes headers first k loop loops longer e header extent was = record {
  size = (let l = ap length e in let a = length-append loops (loop ∷ []) in let s = was.size in omega arith);
  at = λ i x h. ⊎_elim
      (λ (old : slice_get loops i ≡ Some x). was.at i x old)
      (λ (new : (i ≡ length loops) × (loop ≡ x)).
      let place : k ≡ first + i = (let s = was.size in let p = new.0 in omega arith) in
      subst (λ y. (y.header ≡ slice_index headers (first + i)) × IsExtent v (note_at notes (first + i)) y.ranges.items) new.1
      (subst (λ j. (loop.header ≡ slice_index headers j) × IsExtent v (note_at notes j) loop.ranges.items) place (header, extent)))
      (push_cases loops loop x i (ap (λ xs. slice_get xs i) (sym e) ∙ h));
}

-- the header's node of a note
pub numbered_header : (v : FlowGraph) (notes : List LoopNote) (headers : List ℕ) → AreHeaderNumbers v notes headers → (k : ℕ) (note : LoopNote) → slice_get notes k ≡ Some note → slice_get v.code.nodes (get_or headers k 0) ≡ Some note.header
numbered_header v notes headers numbers k note at = numbers.at k (slice_get_within notes k note at) ∙ ap (λ x. Some x.header) (note_is notes k note at)

at_index : {A : Type 0} (xs : List A) (i : ℕ) → i < length xs → (x : A) × (slice_get xs i ≡ Some x)
at_index [] i lt = let bad : ⊥ = omega arith in absurd bad
at_index (x ∷ xs) zero lt = (x, refl)
at_index (x ∷ xs) (suc i) lt = at_index xs i (omega arith)

module _ (v : FlowGraph) (edges : EdgeView) (is : AreGraphEdges v edges) (notes : List LoopNote) (headers : List ℕ) (numbers : AreHeaderNumbers v notes headers) (first last : ℕ) (loops : List LoopExtent) (extents : AreExtents v notes headers first last loops) (within : last ≤ length notes) where
  flow : IsFlowGraph v
  flow = is.graph.flow

  low : (i : ℕ) (loop : LoopExtent) → slice_get loops i ≡ Some loop → first + i < length notes
  low i loop at = let lt = slice_get_within loops i loop at in let s = extents.size in omega arith

  header_of : (i : ℕ) (loop : LoopExtent) → slice_get loops i ≡ Some loop → slice_get v.code.nodes loop.header ≡ Some (header_address notes (first + i))
  header_of i loop at = ap (slice_get v.code.nodes) (extents.at i loop at).0 ∙ numbers.at (first + i) (low i loop at)

  loop_node : (i : ℕ) (loop : LoopExtent) → slice_get loops i ≡ Some loop → (j a : ℕ) → slice_get v.code.nodes j ≡ Some a → IsLed edges j loop ↔ IsBodyNode v notes (first + i) a
  loop_node i loop at j a at_j = led_node v edges is (note_at notes (first + i)) loop.header loop.ranges.items (header_of i loop at) (extents.at i loop at).1 j a at_j

  pub loops_are : last ≤ first + 64 → AreLoopExtents edges.count loops
  loops_are few = record {
    few = (let s = extents.size in omega arith);
    header = λ i loop at. (
      (let lt = slice_get_within v.code.nodes loop.header (header_address notes (first + i)) (header_of i loop at) in let c = is.count in omega arith),
      header_in v edges is (note_at notes (first + i)) loop.header loop.ranges.items (header_of i loop at) (extents.at i loop at).1,
    );
  }

  module _ (bodies : List ℕ) (aside : ℕ) (group : AreGroup edges loops bodies aside) where
    pub flag_node : (i j a : ℕ) → i < length loops → slice_get v.code.nodes j ≡ Some a → IsFlagged bodies j i ↔ IsBodyNode v notes (first + i) a
    flag_node i j a lt at_j =
        let here = at_index loops i lt in (
          λ h. let w = (group.nodes j i).0 h in (loop_node i w.0 w.1 j a at_j).0 w.2,
          λ h. (group.nodes j i).1 (here.0, here.1, (loop_node i here.0 here.1 j a at_j).1 h),
        )

    pub flag_low : (i j : ℕ) → IsFlagged bodies j i → i < length loops
    flag_low i j h = let w = (group.nodes j i).0 h in slice_get_within loops i w.0 w.1

    -- a body that isn't entered by bits isn't entered
    pub clean : (i : ℕ) → i < length loops → (IsEnteredBit v bodies aside (slice_index headers (first + i)) i → ⊥) → (a b : ℕ) → IsNotedSideEntry v notes (first + i) a b → ⊥
    clean i lt none a b h =
        let here = at_index loops i lt in
        let hd : ℕ = header_address notes (first + i) in
        let at_hd : slice_get v.code.nodes (slice_index headers (first + i)) ≡ Some (header_address notes (first + i)) = numbers.at (first + i) (low i here.0 here.1) in
        ⊎_elim
        (λ (s : (e : ℕ) × (e < (graph v).edges) × ((graph v).source e ≡ a) × ((graph v).target e ≡ Some b) × (IsBodyNode v notes (first + i) a → ⊥)).
        let j = (flow.nodes a).1 (s.0, s.1, s.2) in
        let k = (flow.nodes b).1 (flow.program.stays s.0 b s.1 s.3).0 in
        none (inl ((group.entered i).1 (
          here.0,
          here.1,
          record {
            from = j.0;
            to = k.0;
            edge = has_edge v edges is s.0 j.0 k.0 a b s.1 s.2 s.3 j.1 k.1;
            into = (loop_node i here.0 here.1 k.0 b k.1).1 h.0;
            aside = λ e. h.1 (some_same b hd (slice_get v.code.nodes here.0.header) (ap (slice_get v.code.nodes) (sym e) ∙ k.1) (header_of i here.0 here.1));
            outside = λ l. s.4 ((loop_node i here.0 here.1 j.0 a j.1).0 l);
          },
        ))))
        (λ (s : (a ≡ b) × ((f : ℕ) × (f < (graph v).functions) × ((graph v).entry f ≡ b))).
        let f = s.1 in
        let k = (flow.nodes b).1 (subst (IsNode (graph v)) f.2 (flow.program.entry_node f.0 f.1)) in
        let owner : f.0 ≡ (graph v).owner (slice_index v.code.nodes (slice_index headers (first + i))) =
        sym (flow.program.entry_owner f.0 f.1) ∙ (ap (graph v).owner f.2 ∙ (h.0.0 ∙ ap (graph v).owner (sym (get_or_from_slice_get v.code.nodes (slice_index headers (first + i)) hd 0 at_hd)))) in
        none (inr (
          k.0,
          k.1 ∙ (ap Some (sym f.2) ∙ ap (λ x. Some ((graph v).entry x)) owner),
          (λ e. h.1 (some_same b hd (slice_get v.code.nodes (slice_index headers (first + i))) (ap (slice_get v.code.nodes) (sym e) ∙ k.1) at_hd)),
          (flag_node i k.0 b lt k.1).1 h.0,
        )))
        h.2

    pub clean_at : (k : ℕ) → first ≤ k → k < last → (IsEnteredBit v bodies aside (slice_index headers k) (k - first) → ⊥) → (a b : ℕ) → IsNotedSideEntry v notes k a b → ⊥
    clean_at k le lt none a b h =
        let place : first + (k - first) ≡ k = omega arith in
        clean (k - first) (let s = extents.size in omega arith) (subst (λ j. IsEnteredBit v bodies aside (slice_index headers j) (k - first) → ⊥) (sym place) none) a b
        (subst (λ j. IsNotedSideEntry v notes j a b) (sym place) h)

-- ---- the bits of a word, counted
sum_first : (n : ℕ) (f : ℕ → ℕ) → sum_below (suc n) f ≡ f 0 + sum_below n (λ k. f (suc k))
sum_first zero f = omega arith
sum_first (suc n) f =
    let ih : sum_below (suc n) f ≡ f 0 + sum_below n (λ k. f (suc k)) = sum_first n f in
    let r : sum_below (suc n) f + f (suc n) ≡ f 0 + (sum_below n (λ k. f (suc k)) + f (suc n)) = omega arith in r

sum_cut : (n w : ℕ) (f : ℕ → ℕ) → n ≤ w → ((i : ℕ) → n ≤ i → f i ≡ 0) → sum_below w f ≡ sum_below n f
sum_cut n zero f le none = let e : n ≡ 0 = omega arith in sym (ap (λ k. sum_below k f) e)
sum_cut n (suc w) f le none = ⊎_elim
    (λ (e : n ≡ suc w). sym (ap (λ k. sum_below k f) e))
    (λ (ne : n ≡ suc w → ⊥). let d : n ≢ suc w = ne in
    let ih : sum_below w f ≡ sum_below n f = sum_cut n w f (omega arith) none in
    let z : f w ≡ 0 = none w (omega arith) in
    let r : sum_below w f + f w ≡ sum_below n f = omega arith in r)
    (cases_eq n (suc w))

sum_split : (m n : ℕ) (f : ℕ → ℕ) → sum_below (m + n) f ≡ sum_below m f + sum_below n (λ k. f (m + k))
sum_split m zero f = let e : m + 0 ≡ m = omega arith in ap (λ k. sum_below k f) e ∙ (let r : sum_below m f ≡ sum_below m f + 0 = omega arith in r)
sum_split m (suc n) f =
    let e : m + suc n ≡ suc (m + n) = omega arith in
    let ih : sum_below (m + n) f ≡ sum_below m f + sum_below n (λ k. f (m + k)) = sum_split m n f in
    ap (λ k. sum_below k f) e ∙ (let r : sum_below (m + n) f + f (m + n) ≡ sum_below m f + (sum_below n (λ k. f (m + k)) + f (m + n)) = omega arith in r)

half : (w n : ℕ) → n < 2 ^ suc w → n / 2 < 2 ^ w
half w n lt = omega arith

ones_sum : (w n : ℕ) → n < 2 ^ w → count_ones n ≡ sum_below w (λ i. bit_at n i)
ones_sum zero n lt = let le = ones_le_self n in let r : count_ones n ≡ 0 = omega arith in r
ones_sum (suc w) n lt =
    let ih : count_ones (n / 2) ≡ sum_below w (λ i. bit_at (n / 2) i) = ones_sum w (n / 2) (half w n lt) in
    ones_step n ∙ (ap (λ x. n % 2 + x) (ih ∙ sum-same w (λ i. bit_at (n / 2) i) (λ i. bit_at n (suc i)) (λ i il. sym (bit_at-suc n i))) ∙
    (ap (λ x. x + sum_below w (λ i. bit_at n (suc i))) (sym (bit_at_lowest n)) ∙ sym (sum_first w (λ i. bit_at n i))))

small_pow : (n : ℕ) → n < 2 ^ n
small_pow zero = omega arith
small_pow (suc n) = let ih = small_pow n in omega arith

-- a word whose bits are all below a place
ones_cut : (n w word : ℕ) → word < 2 ^ w → n ≤ w → ((i : ℕ) → HasBit word i → i < n) → count_ones word ≡ sum_below n (λ i. bit_at word i)
ones_cut n w word fits few low = ones_sum w word fits ∙ sum_cut n w (λ i. bit_at word i) few (λ i le. none i le (bit_at word i) refl (bit_at-lt word i))
  where
    none : (i : ℕ) → n ≤ i → (x : ℕ) → bit_at word i ≡ x → bit_at word i < 2 → bit_at word i ≡ 0
    none i le zero e lt = e
    none i le (suc zero) e lt = let bad = low i e in absurd (let b : ⊥ = omega arith in b)
    none i le (suc (suc x)) e lt = absurd (let b : ⊥ = omega arith in b)

ones_below : (n word : ℕ) → ((i : ℕ) → HasBit word i → i < n) → count_ones word ≡ sum_below n (λ i. bit_at word i)
ones_below n word low = go (n + word) (let p = small_pow (n + word) in omega arith) (omega arith)
  where
    go : (w : ℕ) → word < 2 ^ w → n ≤ w → count_ones word ≡ sum_below n (λ i. bit_at word i)
    go w fits le = ones_cut n w word fits le low

-- ---- depths
-- whether a node at an address has a bit
abbrev pub flagged_at : List ℕ → List ℕ → ℕ → ℕ → Bool
flagged_at [] words i at = false
flagged_at (a ∷ more) [] i at = false
flagged_at (a ∷ more) (w ∷ ws) i at = (nat_eq a at && nat_eq (bit_at w i) 1) || flagged_at more ws i at

or_cases : (a b : Bool) → (a || b) ≡ true → (a ≡ true) ⊎ (b ≡ true)
or_cases true b h = inl refl
or_cases false b h = inr h

and_cases : (a b : Bool) → (a && b) ≡ true → (a ≡ true) × (b ≡ true)
and_cases true b h = (refl, h)
and_cases false b h = let bad : ⊥ = cc in absurd bad

or_right : (a b : Bool) → b ≡ true → (a || b) ≡ true
or_right true b h = refl
or_right false b h = h

flagged_in : (nodes words : List ℕ) (i at : ℕ) → flagged_at nodes words i at ≡ true → (j : ℕ) × (slice_get nodes j ≡ Some at) × IsFlagged words j i
flagged_in [] words i at h = let bad : ⊥ = cc in absurd bad
flagged_in (a ∷ more) [] i at h = let bad : ⊥ = cc in absurd bad
flagged_in (a ∷ more) (w ∷ ws) i at h = ⊎_elim
    (λ (here : (nat_eq a at && nat_eq (bit_at w i) 1) ≡ true). let b = and_cases (nat_eq a at) (nat_eq (bit_at w i) 1) here in (0, ap Some (eqb-true a at b.0), eqb-true (bit_at w i) 1 b.1))
    (λ (later : flagged_at more ws i at ≡ true). let k = flagged_in more ws i at later in (suc k.0, k.1, k.2))
    (or_cases (nat_eq a at && nat_eq (bit_at w i) 1) (flagged_at more ws i at) h)

in_flagged : (nodes words : List ℕ) (i at j : ℕ) → j < length words → slice_get nodes j ≡ Some at → IsFlagged words j i → flagged_at nodes words i at ≡ true
in_flagged [] words i at j lt h f = let bad : ⊥ = cc in absurd bad
in_flagged (a ∷ more) [] i at j lt h f = let bad : ⊥ = omega arith in absurd bad
in_flagged (a ∷ more) (w ∷ ws) i at zero lt h f =
    let same : a ≡ at = cc in
    ap (λ b. (b && nat_eq (bit_at w i) 1) || flagged_at more ws i at) (eq-eqb a at same) ∙ ap (λ b. b || flagged_at more ws i at) (eq-eqb (bit_at w i) 1 f)
in_flagged (a ∷ more) (w ∷ ws) i at (suc j) lt h f = or_right (nat_eq a at && nat_eq (bit_at w i) 1) (flagged_at more ws i at) (in_flagged more ws i at j (omega arith) h f)

only_same : (a b : Bool) → a ≡ b → only a 1 ≡ only b 1
only_same a b e = ap (λ x. only x 1) e

-- the bodies of a group more
module _ (v : FlowGraph) (flow : IsFlowGraph v) (notes : List LoopNote) (first n : ℕ) (depths deeper bodies : List ℕ) (was : AreDepths v notes first depths) (size : length bodies ≡ length v.code.nodes)
    (node : (i j a : ℕ) → i < n → slice_get v.code.nodes j ≡ Some a → IsFlagged bodies j i ↔ IsBodyNode v notes (first + i) a) (low : (i j : ℕ) → IsFlagged bodies j i → i < n) where
  abbrev inside_then : ℕ → ℕ → Bool
  inside_then k at = if nat_lt k first then was.inside k at else flagged_at v.code.nodes bodies (k - first) at

  then_old : (k at : ℕ) → k < first → inside_then k at ≡ was.inside k at
  then_old k at lt = ap (λ b. if b then was.inside k at else flagged_at v.code.nodes bodies (k - first) at) (lt-ltb k first lt)

  then_new : (i at : ℕ) → inside_then (first + i) at ≡ flagged_at v.code.nodes bodies i at
  then_new i at =
      let e : first + i - first ≡ i = omega arith in
      ap (λ b. if b then was.inside (first + i) at else flagged_at v.code.nodes bodies (first + i - first) at) (le-ltb (first + i) first (omega arith)) ∙ ap (λ k. flagged_at v.code.nodes bodies k at) e

  exact : (i at : ℕ) → i < n → (flagged_at v.code.nodes bodies i at ≡ true) ↔ IsBodyNode v notes (first + i) at
  exact i at lt = (
    λ h. let w = flagged_in v.code.nodes bodies i at h in (node i w.0 at lt w.1).0 w.2,
    λ h.
        let from = source_number v flow h.2.0 h.2.2.0 in
        let same : (graph v).source h.2.0 ≡ at = (let w = h.2.2.1 in cc) in
        let g : slice_get v.code.nodes from.0 ≡ Some at = from.1 ∙ ap Some same in
        in_flagged v.code.nodes bodies i at from.0 (let l = slice_get_within v.code.nodes from.0 at g in omega arith) g ((node i from.0 at lt g).1 h),
  )

  bit_of : (i j at : ℕ) → slice_get v.code.nodes j ≡ Some at → only (flagged_at v.code.nodes bodies i at) 1 ≡ bit_at (slice_index bodies j) i
  bit_of i j at g = ⊎_elim
      (λ (f : IsFlagged bodies j i). only_same (flagged_at v.code.nodes bodies i at) true (in_flagged v.code.nodes bodies i at j (let l = slice_get_within v.code.nodes j at g in omega arith) g f) ∙ sym f)
      (λ (none : IsFlagged bodies j i → ⊥). ⊎_elim
      (λ (t : flagged_at v.code.nodes bodies i at ≡ true).
      let w = flagged_in v.code.nodes bodies i at t in
      absurd (none (subst (λ k. IsFlagged bodies k i) (one_number v flow w.0 j at w.1 g) w.2)))
      (λ (f : flagged_at v.code.nodes bodies i at ≡ false). only_same (flagged_at v.code.nodes bodies i at) false f ∙ sym (zero_bit (bit_at (slice_index bodies j) i) (bit_at-lt (slice_index bodies j) i) none))
      (cases_Bool (flagged_at v.code.nodes bodies i at)))
      (bit_cases (slice_index bodies j) i)
    where
      zero_bit : (x : ℕ) → x < 2 → (x ≡ 1 → ⊥) → x ≡ 0
      zero_bit zero lt no_one = refl
      zero_bit (suc zero) lt no_one = absurd (no_one refl)
      zero_bit (suc (suc x)) lt no_one = absurd (let b : ⊥ = omega arith in b)

  pub group_depths : length deeper ≡ length depths → ((j : ℕ) → j < length depths → slice_index deeper j ≡ slice_index depths j + count_ones (slice_index bodies j)) → AreDepths v notes (first + n) deeper
  group_depths same added = record {
    size = same ∙ was.size;
    inside = inside_then;
    bodies = λ k at lt. ⊎_elim
        (λ (old : k < first). subst (λ b. (b ≡ true) ↔ IsBodyNode v notes k at) (sym (then_old k at old)) (was.bodies k at old))
        (λ (new : first ≤ k).
        let i = k - first in
        let place : first + (k - first) ≡ k = omega arith in
        subst (λ j. (inside_then j at ≡ true) ↔ IsBodyNode v notes j at) place
        (subst (λ b. (b ≡ true) ↔ IsBodyNode v notes (first + (k - first)) at) (sym (then_new (k - first) at)) (exact (k - first) at (omega arith))))
        (cases_lt k first);
    counted = λ j at g.
        let l = slice_get_within v.code.nodes j at g in
        let s = was.size in
        let old = was.counted j at g in
        let more = added j (omega arith) in
        let below : sum_below first (λ k. only (inside_then k at) 1) ≡ sum_below first (λ k. only (was.inside k at) 1) =
        sum-same first (λ k. only (inside_then k at) 1) (λ k. only (was.inside k at) 1) (λ k lt. only_same (inside_then k at) (was.inside k at) (then_old k at lt)) in
        let above : sum_below n (λ i. only (inside_then (first + i) at) 1) ≡ sum_below n (λ i. bit_at (slice_index bodies j) i) =
        sum-same n (λ i. only (inside_then (first + i) at) 1) (λ i. bit_at (slice_index bodies j) i) (λ i lt. only_same (inside_then (first + i) at) (flagged_at v.code.nodes bodies i at) (then_new i at) ∙ bit_of i j at g) in
        let ones : count_ones (slice_index bodies j) ≡ sum_below n (λ i. bit_at (slice_index bodies j) i) = ones_below n (slice_index bodies j) (λ i. low i j) in
        let whole = sum_split first n (λ k. only (inside_then k at) 1) in
        whole_is (slice_index deeper j) (slice_index depths j) (count_ones (slice_index bodies j)) (sum_below (first + n) (λ k. only (inside_then k at) 1)) (sum_below first (λ k. only (inside_then k at) 1)) (sum_below n (λ i. only (inside_then (first + i) at) 1)) more (old ∙ sym below) (ones ∙ sym above) whole;
  }
    where
      whole_is : (new was_at ones all front back : ℕ) → new ≡ was_at + ones → was_at ≡ front → ones ≡ back → all ≡ front + back → new ≡ all
      whole_is new was_at ones all front back a b c d = omega arith

module _ (v : FlowGraph) (edges : EdgeView) (is : AreGraphEdges v edges) (notes : List LoopNote) (headers : List ℕ) (numbers : AreHeaderNumbers v notes headers) (first last : ℕ) (loops : List LoopExtent) (extents : AreExtents v notes headers first last loops) (within : last ≤ length notes)
    (bodies : List ℕ) (aside : ℕ) (group : AreGroup edges loops bodies aside) where
  pub depths_group : (depths deeper : List ℕ) → AreDepths v notes first depths → length deeper ≡ length depths → ((j : ℕ) → j < length depths → slice_index deeper j ≡ slice_index depths j + count_ones (slice_index bodies j)) → AreDepths v notes last deeper
  depths_group depths deeper was same added =
      subst (λ n. AreDepths v notes n deeper) extents.size
      (group_depths v is.graph.flow notes first (length loops) depths deeper bodies was (group.size ∙ is.count) (flag_node v edges is notes headers numbers first last loops extents within bodies aside group)
      (flag_low v edges is notes headers numbers first last loops extents within bodies aside group) same added)
