-- By node, in which extents it lies: where ranges begin and end.
use Rattle.std.proofs.Common.{◌≡◌, ◌≢◌, ℕ, zero, suc, ◌+◌, ◌-◌, ◌<◌, ◌≤◌, ◌↔◌, Bool, true, false, ◌&&◌, ◌||◌, nat_le, nat_lt, List, [], ◌∷◌, length, get_or, set, length-set, refl, sym, ap, ◌∙◌, subst, arith, Option, Some, ◌⊎◌, inl, inr, ⊎_elim, bit_xor}
use Rattle.std.specs.Prelude.{slice_get}
use Rattle.std.proofs.lemmas.Bool.{cases_eq, cases_lt, cases_Bool, both_ways, lt-ltb, le-ltb, le-leb, lt-leb}
use Rattle.std.proofs.lemmas.Option.{slice_get_within}
use Rattle.graph_algorithms.specs.declared.bodies.extent.LoopExtent.{LoopExtent}
use Rattle.graph_algorithms.specs.declared.bodies.extent.NodeRange.{NodeRange}
use Rattle.graph_algorithms.specs.Bodies.{in_node_ranges, in_node_range}
use Rattle.graph_algorithms.specs.Groups.{HasBit, IsFlagged, OfLoop, IsInside, IsSpan, IsChange, IsChangeOf, before_in, AreInside}
use Rattle.graph_algorithms.proofs.BitLaws.{has_xor, xor_left, xor_right, flag_same, same_flag, flag_other, other_flag}

some_same : {A : Type 0} (a b : A) (o : Option A) → o ≡ Some a → o ≡ Some b → a ≡ b
some_same a b o p q = cc

abbrev pub IsEnd : NodeRange → ℕ → Type 0
IsEnd r v = (v ≡ r.from) ⊎ (v ≡ r.to)

-- ---- what isn't an end changes nothing
leb_suc : (a v : ℕ) → suc v ≢ a → nat_le a (suc v) ≡ nat_le a v
leb_suc a v ne = ⊎_elim
    (λ (lt : v < a). lt-leb a (suc v) (let r : suc v < a = omega arith in r) ∙ sym (lt-leb a v lt))
    (λ (ge : a ≤ v). le-leb a (suc v) (let r : a ≤ suc v = omega arith in r) ∙ sym (le-leb a v ge))
    (cases_lt v a)

ltb_suc : (a v : ℕ) → suc v ≢ a → nat_lt (suc v) a ≡ nat_lt v a
ltb_suc a v ne = ⊎_elim
    (λ (lt : v < a). lt-ltb (suc v) a (let r : suc v < a = omega arith in r) ∙ sym (lt-ltb v a lt))
    (λ (ge : a ≤ v). le-ltb (suc v) a (let r : a ≤ suc v = omega arith in r) ∙ sym (le-ltb v a ge))
    (cases_lt v a)

no_end : (r : NodeRange) (v : ℕ) → (IsEnd r (suc v) → ⊥) → in_node_range (suc v) r ≡ in_node_range v r
no_end r v none =
    let a : suc v ≢ r.from = λ e. none (inl e) in
    let b : suc v ≢ r.to = λ e. none (inr e) in
    ap (λ x. x && nat_lt (suc v) r.to) (leb_suc r.from v a) ∙ ap (λ x. nat_le r.from v && x) (ltb_suc r.to v b)

no_end_first : (r : NodeRange) → (IsEnd r 0 → ⊥) → in_node_range 0 r ≡ false
no_end_first r none =
    let a : 0 ≢ r.from = λ e. none (inl e) in
    ap (λ x. x && nat_lt 0 r.to) (lt-leb r.from 0 (omega arith))

end_cases : (r : NodeRange) (v : ℕ) → IsEnd r v ⊎ (IsEnd r v → ⊥)
end_cases r v = ⊎_elim
    (λ (e : v ≡ r.from). inl (inl e))
    (λ (ne : v ≡ r.from → ⊥). ⊎_elim
    (λ (e : v ≡ r.to). inl (inr e))
    (λ (nt : v ≡ r.to → ⊥). inr (λ w. ⊎_elim (λ e. ne e) (λ e. nt e) w))
    (cases_eq v r.to))
    (cases_eq v r.from)

-- an end of one of some ranges
abbrev pub HasEnd : List NodeRange → ℕ → Type 0
HasEnd ranges v = (p : ℕ) × (r : NodeRange) × (slice_get ranges p ≡ Some r) × IsEnd r v

either : (a b c d : Bool) → a ≡ c → b ≡ d → (a || b) ≡ (c || d)
either a b c d p q = ap (λ x. x || b) p ∙ ap (λ x. c || x) q

stays : (ranges : List NodeRange) (v : ℕ) → HasEnd ranges v ⊎ (in_node_ranges ranges v ≡ before_in ranges v)
stays [] zero = inr refl
stays [] (suc v) = inr refl
stays (r ∷ rs) zero = ⊎_elim
    (λ (e : IsEnd r 0). inl (0, r, refl, e))
    (λ (none : IsEnd r 0 → ⊥). ⊎_elim
    (λ (h : HasEnd rs 0). inl (suc h.0, h.1, h.2, h.3))
    (λ (same : in_node_ranges rs 0 ≡ false). inr (either (in_node_range 0 r) (in_node_ranges rs 0) false false (no_end_first r none) same))
    (stays rs zero))
    (end_cases r 0)
stays (r ∷ rs) (suc v) = ⊎_elim
    (λ (e : IsEnd r (suc v)). inl (0, r, refl, e))
    (λ (none : IsEnd r (suc v) → ⊥). ⊎_elim
    (λ (h : HasEnd rs (suc v)). inl (suc h.0, h.1, h.2, h.3))
    (λ (same : in_node_ranges rs (suc v) ≡ in_node_ranges rs v). inr (either (in_node_range (suc v) r) (in_node_ranges rs (suc v)) (in_node_range v r) (in_node_ranges rs v) (no_end r v none) same))
    (stays rs (suc v)))
    (end_cases r (suc v))

-- where the extent changes, there is an end
pub change_end : (ranges : List NodeRange) (v : ℕ) → IsChange ranges v → HasEnd ranges v
change_end ranges v change = ⊎_elim (λ e. e) (λ same. absurd (change same)) (stays ranges v)

-- ---- one loop: the ends of its first n ranges are marked
pub record AreMarkedBelow (ranges : List NodeRange) (bit : ℕ) (old : List ℕ) (n : ℕ) (new : List ℕ) : Type 0 where
  pub size : length new ≡ length old
  pub kept : (v i : ℕ) → IsFlagged old v i → IsFlagged new v i
  pub only : (v i : ℕ) → IsFlagged new v i → IsFlagged old v i ⊎ ((i ≡ bit) × (v < length old) × IsChange ranges v)
  pub done : (v p : ℕ) (r : NodeRange) → p < n → slice_get ranges p ≡ Some r → IsEnd r v → v < length old → IsChange ranges v → IsFlagged new v bit

pub marked_all : (ranges : List NodeRange) (bit n : ℕ) (old new : List ℕ) → length ranges ≤ n → AreMarkedBelow ranges bit old n new →
    (v i : ℕ) → IsFlagged new v i ↔ (IsFlagged old v i ⊎ ((i ≡ bit) × (v < length old) × IsChange ranges v))
marked_all ranges bit n old new end below v i = (
  below.only v i,
  λ h. ⊎_elim
      (λ (k : IsFlagged old v i). below.kept v i k)
      (λ (x : (i ≡ bit) × (v < length old) × IsChange ranges v).
      let e = change_end ranges v x.2 in
      let lt = slice_get_within ranges e.0 e.1 e.2 in
      subst (λ j. IsFlagged new v j) (sym x.0) (below.done v e.0 e.1 (omega arith) e.2 e.3 x.1 x.2))
      h,
)

-- ---- the first n loops
abbrev pub AreLoopsMarked : List LoopExtent → ℕ → ℕ → List ℕ → Type 0
AreLoopsMarked loops count n changes = (v i : ℕ) → IsFlagged changes v i ↔ ((i < n) × (v < count) × OfLoop loops i (IsChangeOf v))

pub loops_next : (loops : List LoopExtent) (count n : ℕ) (loop : LoopExtent) (old new : List ℕ) → slice_get loops n ≡ Some loop → length old ≡ count →
    ((v i : ℕ) → IsFlagged new v i ↔ (IsFlagged old v i ⊎ ((i ≡ n) × (v < length old) × IsChange loop.ranges.items v))) → AreLoopsMarked loops count n old → AreLoopsMarked loops count (n + 1) new
loops_next loops count n loop old new at size here was v i = (
  λ h. ⊎_elim
      (λ (k : IsFlagged old v i). let w = (was v i).0 k in let lt = w.0 in ((let q : i < n + 1 = omega arith in q), w.1, w.2))
      (λ (x : (i ≡ n) × (v < length old) × IsChange loop.ranges.items v). let e = x.0 in let lt = x.1 in
      ((let q : i < n + 1 = omega arith in q), (let q : v < count = omega arith in q), (loop, ap (slice_get loops) e ∙ at, x.2)))
      ((here v i).0 h),
  λ h. ⊎_elim
      (λ (e : i ≡ n).
      let w = h.2 in
      let same : w.0 ≡ loop = some_same w.0 loop (slice_get loops n) (ap (slice_get loops) (sym e) ∙ w.1) at in
      let lt = h.1 in
      (here v i).1 (inr (e, (let q : v < length old = omega arith in q), subst (λ l. IsChange l.ranges.items v) same w.2)))
      (λ (ne : i ≡ n → ⊥). let d : i ≢ n = ne in let lt = h.0 in (here v i).1 (inl ((was v i).1 ((let q : i < n = omega arith in q), h.1, h.2))))
      (cases_eq i n),
)

pub loops_all : (loops : List LoopExtent) (count n : ℕ) (changes : List ℕ) → length loops ≤ n → AreLoopsMarked loops count n changes → (v i : ℕ) → IsFlagged changes v i ↔ ((v < count) × OfLoop loops i (IsChangeOf v))
loops_all loops count n changes end was v i = (
  λ h. let w = (was v i).0 h in (w.1, w.2),
  λ h. let lt = slice_get_within loops i h.1.0 h.1.1 in (was v i).1 ((let q : i < n = omega arith in q), h.0, h.1),
)

-- ---- from the changes to the extents
pub record AreSummed (loops : List LoopExtent) (count n : ℕ) (words : List ℕ) : Type 0 where
  pub size : length words ≡ count
  pub below : (v i : ℕ) → v < n → v < count → IsFlagged words v i ↔ OfLoop loops i (IsInside v)
  pub above : (v i : ℕ) → n ≤ v → v < count → IsFlagged words v i ↔ OfLoop loops i (IsChangeOf v)

-- ---- the nodes in front of a range of nodes, and those behind it
false_of : (x : Bool) → (x ≡ true → ⊥) → x ≡ false
false_of true none = absurd (none refl)
false_of false none = refl

no_change : (loop : LoopExtent) (v : ℕ) → (IsInside v loop → ⊥) → (before_in loop.ranges.items v ≡ true → ⊥) → IsChangeOf v loop → ⊥
no_change loop v here before change = change (false_of (in_node_ranges loop.ranges.items v) here ∙ sym (false_of (before_in loop.ranges.items v) before))

before_out : (loop : LoopExtent) (v : ℕ) → ((u : ℕ) → suc u ≡ v → IsInside u loop → ⊥) → before_in loop.ranges.items v ≡ true → ⊥
before_out loop zero none h = let bad : ⊥ = cc in bad
before_out loop (suc u) none h = none u refl h

true_of : (loop : LoopExtent) (v : ℕ) → v ≡ 0 → IsChangeOf v loop → IsInside v loop
true_of loop v first change = ⊎_elim (λ t. t) (λ (f : in_node_ranges loop.ranges.items v ≡ false). absurd (change (f ∙ sym (ap (before_in loop.ranges.items) first)))) (cases_Bool (in_node_ranges loop.ranges.items v))

pub summed_from : (loops : List LoopExtent) (count n : ℕ) (nodes : NodeRange) (words : List ℕ) → ((v : ℕ) → 1 ≤ v → v < n → v < nodes.from) → IsSpan count loops nodes → length words ≡ count →
    ((v i : ℕ) → IsFlagged words v i ↔ ((v < count) × OfLoop loops i (IsChangeOf v))) → AreSummed loops count n words
summed_from loops count n nodes words front span size are = record {
  size = size;
  below = λ v i lt within. ⊎_elim
      (λ (first : v ≡ 0). (
        λ h. let w = ((are v i).0 h).1 in (w.0, w.1, true_of w.0 v first w.2),
        λ h. (are v i).1 (within, (h.0, h.1, λ same. both_ways (in_node_ranges h.0.ranges.items v) (same ∙ ap (before_in h.0.ranges.items) first) h.2)),
      ))
      (λ (ne : v ≡ 0 → ⊥). let d : v ≢ 0 = ne in
      let far = front v (omega arith) lt in
      let out : (u : ℕ) (loop : LoopExtent) → u ≤ v → slice_get loops i ≡ Some loop → IsInside u loop → ⊥ =
      (λ u loop low at h. let s = (span.nodes i u loop at (omega arith) h).0 in let bad : ⊥ = omega arith in bad) in (
        λ h. let w = ((are v i).0 h).1 in absurd (no_change w.0 v (out v w.0 (omega arith) w.1) (before_out w.0 v (λ u e. out u w.0 (omega arith) w.1)) w.2),
        λ h. absurd (out v h.0 (omega arith) h.1 h.2),
      ))
      (cases_eq v 0);
  above = λ v i le within. (λ h. ((are v i).0 h).1, λ h. (are v i).1 (within, h));
}

module _ (loops : List LoopExtent) (count n : ℕ) (words : List ℕ) (was : AreSummed loops count (suc n) words) (within : suc n < count) where
  abbrev word : ℕ
  word = bit_xor (get_or words (suc n) 0) (get_or words n 0)

  loop_same : (i : ℕ) (a b : LoopExtent) → slice_get loops i ≡ Some a → slice_get loops i ≡ Some b → a ≡ b
  loop_same i a b p q = some_same a b (slice_get loops i) p q

  turn : (x y : Bool) → x ≢ y → (y ≡ true → ⊥) → x ≡ true
  turn true y ne none = refl
  turn false true ne none = absurd (none refl)
  turn false false ne none = absurd (ne refl)

  keep : (x y : Bool) → (x ≢ y → ⊥) → y ≡ true → x ≡ true
  keep true y none t = refl
  keep false true none t = absurd (none (λ e. let bad : ⊥ = cc in bad))
  keep false false none t = let bad : ⊥ = cc in absurd bad

  word_is : (i : ℕ) → HasBit word i ↔ OfLoop loops i (IsInside (suc n))
  word_is i = (
    λ h. ⊎_elim
        (λ (x : IsFlagged words (suc n) i × (IsFlagged words n i → ⊥)).
        let c = (was.above (suc n) i (omega arith) within).0 x.0 in
        (c.0, c.1, turn (in_node_ranges c.0.ranges.items (suc n)) (in_node_ranges c.0.ranges.items n) c.2 (λ t. x.1 ((was.below n i (omega arith) (omega arith)).1 (c.0, c.1, t)))))
        (λ (x : (IsFlagged words (suc n) i → ⊥) × IsFlagged words n i).
        let b = (was.below n i (omega arith) (omega arith)).0 x.1 in
        (b.0, b.1, keep (in_node_ranges b.0.ranges.items (suc n)) (in_node_ranges b.0.ranges.items n) (λ ne. x.0 ((was.above (suc n) i (omega arith) within).1 (b.0, b.1, ne))) b.2))
        (has_xor (get_or words (suc n) 0) (get_or words n 0) i h),
    λ h. ⊎_elim
        (λ (t : in_node_ranges h.0.ranges.items n ≡ true).
        xor_right (get_or words (suc n) 0) (get_or words n 0) i
        (λ f. let c = (was.above (suc n) i (omega arith) within).0 f in
        let same : c.0 ≡ h.0 = loop_same i c.0 h.0 c.1 h.1 in
        subst (IsChangeOf (suc n)) same c.2 (h.2 ∙ sym t))
        ((was.below n i (omega arith) (omega arith)).1 (h.0, h.1, t)))
        (λ (f : in_node_ranges h.0.ranges.items n ≡ false).
        xor_left (get_or words (suc n) 0) (get_or words n 0) i
        ((was.above (suc n) i (omega arith) within).1 (h.0, h.1, λ same. both_ways (in_node_ranges h.0.ranges.items n) f (sym same ∙ h.2)))
        (λ b. let c = (was.below n i (omega arith) (omega arith)).0 b in
        let same : c.0 ≡ h.0 = loop_same i c.0 h.0 c.1 h.1 in
        both_ways (in_node_ranges h.0.ranges.items n) f (subst (IsInside n) same c.2)))
        (cases_Bool (in_node_ranges h.0.ranges.items n)),
  )

  pub summed_next : (new : List ℕ) → new ≡ set words (suc n) word → length new ≡ count → AreSummed loops count (suc (suc n)) new
  summed_next new e size = record {
    size = size;
    below = λ v i lt vc. ⊎_elim
        (λ (at : v ≡ suc n). subst (λ x. IsFlagged new x i ↔ OfLoop loops i (IsInside x)) (sym at)
        (subst (λ xs. IsFlagged xs (suc n) i ↔ OfLoop loops i (IsInside (suc n))) (sym e)
        (λ h. (word_is i).0 (same_flag words (suc n) word i low h), λ h. flag_same words (suc n) word i low ((word_is i).1 h))))
        (λ (ne : v ≡ suc n → ⊥). let d : v ≢ suc n = ne in other v i d (was.below v i (omega arith) vc))
        (cases_eq v (suc n));
    above = λ v i le vc.
        let d : v ≢ suc n = omega arith in
        subst (λ xs. IsFlagged xs v i ↔ OfLoop loops i (IsChangeOf v)) (sym e)
        (λ h. (was.above v i (omega arith) vc).0 (other_flag words (suc n) v word i d h), λ h. flag_other words (suc n) v word i d ((was.above v i (omega arith) vc).1 h));
  }
    where
      low : suc n < length words
      low = let s = was.size in omega arith

      other : (v i : ℕ) → v ≢ suc n → IsFlagged words v i ↔ OfLoop loops i (IsInside v) → IsFlagged new v i ↔ OfLoop loops i (IsInside v)
      other v i d same = subst (λ xs. IsFlagged xs v i ↔ OfLoop loops i (IsInside v)) (sym e)
          (λ h. same.0 (other_flag words (suc n) v word i d h), λ h. flag_other words (suc n) v word i d (same.1 h))

pub summed_step : (loops : List LoopExtent) (count node : ℕ) (words : List ℕ) (a b : ℕ) → AreSummed loops count node words → 1 ≤ node → node < count → a ≡ get_or words node 0 → b ≡ get_or words (node - 1) 0 → AreSummed loops count (node + 1) (set words node (bit_xor a b))
summed_step loops count zero words a b was one lt ae be = let bad : ⊥ = omega arith in absurd bad
summed_step loops count (suc n) words a b was one lt ae be =
    let less : suc n - 1 ≡ n = omega arith in
    let more : suc n + 1 ≡ suc (suc n) = omega arith in
    let same : bit_xor a b ≡ bit_xor (get_or words (suc n) 0) (get_or words n 0) = ap (λ x. bit_xor x b) ae ∙ ap (bit_xor (get_or words (suc n) 0)) (be ∙ ap (λ k. get_or words k 0) less) in
    subst (λ k. AreSummed loops count k (set words (suc n) (bit_xor a b))) (sym more)
    (summed_next loops count n words was lt (set words (suc n) (bit_xor a b)) (ap (set words (suc n)) same) (length-set words (suc n) (bit_xor a b) ∙ was.size))

pub summed_stop : (loops : List LoopExtent) (count n : ℕ) (nodes : NodeRange) (words : List ℕ) → ((v : ℕ) → n ≤ v → v < count → nodes.to < v) → IsSpan count loops nodes → AreSummed loops count n words → AreInside loops count words
summed_stop loops count n nodes words behind span was = record {
  size = was.size;
  nodes = λ v i lt. ⊎_elim
      (λ (low : v < n). was.below v i low lt)
      (λ (high : n ≤ v).
      let far = behind v high lt in
      let out : (u : ℕ) (loop : LoopExtent) → nodes.to ≤ u → u < count → slice_get loops i ≡ Some loop → IsInside u loop → ⊥ =
      (λ u loop le less at h. let s = (span.nodes i u loop at less h).1 in let bad : ⊥ = omega arith in bad) in (
        λ h. let w = (was.above v i high lt).0 h in
            absurd (no_change w.0 v (out v w.0 (omega arith) lt w.1) (before_out w.0 v (λ u e. out u w.0 (omega arith) (omega arith) w.1)) w.2),
        λ h. absurd (out v h.0 (omega arith) lt h.1 h.2),
      ))
      (cases_lt v n);
}
