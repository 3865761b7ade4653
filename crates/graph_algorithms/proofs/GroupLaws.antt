-- The words of a group of loops.
use Rattle.std.proofs.Common.{◌≡◌, ◌≢◌, ℕ, ◌+◌, ◌^◌, ◌<◌, ◌≤◌, ◌↔◌, Bool, List, length, get_or, replicate, sym, ap, ◌∙◌, subst, arith, Option, Some, ◌⊎◌, inl, inr, ⊎_elim, bit_and, bit_or, w64}
use Rattle.std.specs.Prelude.{slice_get}
use Rattle.std.specs.Int.{bit_at, bit_not}
use Rattle.std.proofs.lemmas.Bool.{cases_eq}
use Rattle.std.proofs.lemmas.List.{length-replicate}
use Rattle.std.proofs.lemmas.Option.{slice_get_within}
use Rattle.graph_algorithms.specs.declared.bodies.extent.LoopExtent.{LoopExtent}
use Rattle.graph_algorithms.specs.Edges.{EdgeView, AreEdges}
use Rattle.graph_algorithms.specs.Bodies.{HasEdge, LeadsWithin, IsIn, IsBody, in_node_ranges, AreNodes}
use Rattle.graph_algorithms.specs.Bodies.LeadsWithin.{at_once, onward}
use Rattle.graph_algorithms.specs.Groups.{HasBit, IsFlagged, OfLoop, IsInside, IsLed, AreBodyBits, AreGroup, IsEnteredFrom, IsSideBit}
use Rattle.graph_algorithms.proofs.BitLaws.{no_bit, has_or, or_left, or_right, has_and, and_both, has_not, not_has, bit_small, no_flag}

some_same : {A : Type 0} (a b : A) (o : Option A) → o ≡ Some a → o ≡ Some b → a ≡ b
some_same a b o p q = cc

-- ---- one bit at the nodes of a body, as far as its first n
pub record AreAdded (old body : List ℕ) (bit n : ℕ) (new : List ℕ) : Type 0 where
  pub size : length new ≡ length old
  pub kept : (v i : ℕ) → IsFlagged old v i → IsFlagged new v i
  pub only : (v i : ℕ) → IsFlagged new v i → IsFlagged old v i ⊎ (IsIn body v × (i ≡ bit))
  pub done : (p v : ℕ) → p < n → slice_get body p ≡ Some v → IsFlagged new v bit

-- ---- of the first n loops something is so
pub record AreBitsBelow (loops : List LoopExtent) (count : ℕ) (P : ℕ → ℕ → LoopExtent → Type 0) (n : ℕ) (words : List ℕ) : Type 0 where
  pub size : length words ≡ count
  pub bits : (v i : ℕ) → IsFlagged words v i ↔ ((i < n) × OfLoop loops i (P v i))

pub bits_none : (loops : List LoopExtent) (count : ℕ) (P : ℕ → ℕ → LoopExtent → Type 0) (words : List ℕ) → length words ≡ count → ((v i : ℕ) → IsFlagged words v i → ⊥) → AreBitsBelow loops count P 0 words
bits_none loops count P words size none = record {
  size = size;
  bits = λ v i. (λ h. absurd (none v i h), λ h. let lt = h.0 in absurd (let bad : ⊥ = omega arith in bad));
}

pub zero_flags : (count : ℕ) (words : List ℕ) → words ≡ replicate {A = ℕ} count 0 → (v i : ℕ) → IsFlagged words v i → ⊥
zero_flags count words e v i h = no_flag count v i (subst (λ x. IsFlagged x v i) e h)

pub below_none : (loops : List LoopExtent) (count : ℕ) (P : ℕ → ℕ → LoopExtent → Type 0) (words : List ℕ) → words ≡ replicate {A = ℕ} count 0 → AreBitsBelow loops count P 0 words
below_none loops count P words e = bits_none loops count P words (ap length e ∙ length-replicate count 0) (zero_flags count words e)

pub below_next : (loops : List LoopExtent) (count : ℕ) (P : ℕ → ℕ → LoopExtent → Type 0) (n : ℕ) (loop : LoopExtent) (old new : List ℕ) → slice_get loops n ≡ Some loop → length new ≡ length old →
    ((v i : ℕ) → IsFlagged new v i ↔ (IsFlagged old v i ⊎ (P v i loop × (i ≡ n)))) → AreBitsBelow loops count P n old → AreBitsBelow loops count P (n + 1) new
below_next loops count P n loop old new at size set was = record {
  size = size ∙ was.size;
  bits = λ v i. (
    λ h. ⊎_elim
        (λ (k : IsFlagged old v i). let w = (was.bits v i).0 k in let lt = w.0 in ((let q : i < n + 1 = omega arith in q), w.1))
        (λ (x : P v i loop × (i ≡ n)). let e = x.1 in ((let q : i < n + 1 = omega arith in q), (loop, ap (slice_get loops) e ∙ at, x.0)))
        ((set v i).0 h),
    λ h. ⊎_elim
        (λ (e : i ≡ n).
        let w = h.1 in
        let same : w.0 ≡ loop = some_same w.0 loop (slice_get loops n) (ap (slice_get loops) (sym e) ∙ w.1) at in
        (set v i).1 (inr (subst (P v i) same w.2, e)))
        (λ (ne : i ≡ n → ⊥). let d : i ≢ n = ne in let lt = h.0 in (set v i).1 (inl ((was.bits v i).1 ((let q : i < n = omega arith in q), h.1))))
        (cases_eq i n),
  );
}

pub below_all : (loops : List LoopExtent) (count : ℕ) (P : ℕ → ℕ → LoopExtent → Type 0) (n : ℕ) (words : List ℕ) → length loops ≤ n → AreBitsBelow loops count P n words → (v i : ℕ) → IsFlagged words v i ↔ OfLoop loops i (P v i)
below_all loops count P n words end was v i = (
  λ h. ((was.bits v i).0 h).1,
  λ h. let lt = slice_get_within loops i h.0 h.1 in (was.bits v i).1 ((let q : i < n = omega arith in q), h),
)

abbrev pub IsHeader : ℕ → LoopExtent → Type 0
IsHeader v loop = v ≡ loop.header

abbrev pub AreHeadersBelow : List LoopExtent → ℕ → ℕ → List ℕ → Type 0
AreHeadersBelow loops count n words = AreBitsBelow loops count (λ v i loop. IsHeader v loop) n words

-- ---- edges to one node
module _ (edges : EdgeView) (bodies : List ℕ) (to bits entered source more : ℕ) (small : bits < 2 ^ 64) (low : get_or bodies source 0 < 2 ^ 64) (e : more ≡ bit_or entered (bit_and bits (bit_not w64 (get_or bodies source 0)))) where
  abbrev missing : ℕ
  missing = bit_and bits (bit_not w64 (get_or bodies source 0))

  pub entered_sound : HasEdge edges.sources edges.targets source to → ((i : ℕ) → HasBit entered i → HasBit bits i × IsEnteredFrom edges bodies to i) → (i : ℕ) → HasBit more i → HasBit bits i × IsEnteredFrom edges bodies to i
  entered_sound edge was i h = ⊎_elim (λ old. was i old)
      (λ (new : HasBit missing i).
      let b = has_and bits (bit_not w64 (get_or bodies source 0)) i new in
      let il : i < 64 = bit_small bits i small b.0 in
      (b.0, (source, edge, has_not (get_or bodies source 0) i low il b.1)))
      (has_or entered missing i (ap (λ x. bit_at x i) (sym e) ∙ h))

  pub entered_kept : (i : ℕ) → HasBit entered i → HasBit more i
  entered_kept i h = ap (λ x. bit_at x i) e ∙ or_left entered missing i h

  pub entered_here : (i : ℕ) → HasBit bits i → (IsFlagged bodies source i → ⊥) → HasBit more i
  entered_here i h none =
      let il : i < 64 = bit_small bits i small h in
      ap (λ x. bit_at x i) e ∙ or_right entered missing i (and_both bits (bit_not w64 (get_or bodies source 0)) i h (not_has (get_or bodies source 0) i low il none))

-- ---- edges to the nodes below one
pub record AreAsideBelow (edges : EdgeView) (bodies headers : List ℕ) (n aside : ℕ) : Type 0 where
  pub sound : (i : ℕ) → HasBit aside i → IsSideBit edges bodies headers i
  pub done : (to i : ℕ) → to < n → IsFlagged bodies to i → (IsFlagged headers to i → ⊥) → IsEnteredFrom edges bodies to i → HasBit aside i

pub aside_none : (edges : EdgeView) (bodies headers : List ℕ) (n : ℕ) → ((v i : ℕ) → IsFlagged bodies v i → n ≤ v) → AreAsideBelow edges bodies headers n 0
aside_none edges bodies headers n low = record { sound = λ i h. absurd (no_bit i h); done = λ to i lt into. let le = low to i into in let bad : ⊥ = omega arith in absurd bad }

pub aside_next : (edges : EdgeView) (bodies headers : List ℕ) (n aside entered more : ℕ) → get_or bodies n 0 < 2 ^ 64 → get_or headers n 0 < 2 ^ 64 →
    ((i : ℕ) → HasBit entered i ↔ (HasBit (bit_and (get_or bodies n 0) (bit_not w64 (get_or headers n 0))) i × IsEnteredFrom edges bodies n i)) → more ≡ bit_or aside entered →
    AreAsideBelow edges bodies headers n aside → AreAsideBelow edges bodies headers (n + 1) more
aside_next edges bodies headers n aside entered more small low is e was = record {
  sound = λ i h. ⊎_elim (λ old. was.sound i old)
      (λ (new : HasBit entered i).
      let w = (is i).0 new in
      let b = has_and (get_or bodies n 0) (bit_not w64 (get_or headers n 0)) i w.0 in
      let il : i < 64 = bit_small (get_or bodies n 0) i small b.0 in
      record { from = w.1.0; to = n; edge = w.1.1; into = b.0; aside = has_not (get_or headers n 0) i low il b.1; outside = w.1.2 })
      (has_or aside entered i (ap (λ x. bit_at x i) (sym e) ∙ h));
  done = λ to i lt into apart enters. ⊎_elim
      (λ (at : to ≡ n).
      let here : HasBit (get_or bodies n 0) i = subst (λ x. IsFlagged bodies x i) at into in
      let il : i < 64 = bit_small (get_or bodies n 0) i small here in
      ap (λ x. bit_at x i) e ∙ or_right aside entered i ((is i).1 (
        and_both (get_or bodies n 0) (bit_not w64 (get_or headers n 0)) i here (not_has (get_or headers n 0) i low il (λ k. apart (subst (λ x. IsFlagged headers x i) (sym at) k))),
        subst (λ x. IsEnteredFrom edges bodies x i) at enters,
      )))
      (λ (ne : to ≡ n → ⊥). let d : to ≢ n = ne in ap (λ x. bit_at x i) e ∙ or_left aside entered i (was.done to i (omega arith) into apart enters))
      (cases_eq to n);
}

pub aside_all : (edges : EdgeView) (bodies headers : List ℕ) (n aside : ℕ) → ((v i : ℕ) → IsFlagged bodies v i → v < n) → AreAsideBelow edges bodies headers n aside → (i : ℕ) → HasBit aside i ↔ IsSideBit edges bodies headers i
aside_all edges bodies headers n aside end was i = (was.sound i, λ h. was.done h.to i (end h.to i h.into) h.into h.aside (h.from, h.edge, h.outside))

-- ---- a group
pub group_is : (edges : EdgeView) (loops : List LoopExtent) (bodies headers : List ℕ) (aside : ℕ) → AreBodyBits edges loops bodies → ((v i : ℕ) → IsFlagged headers v i ↔ OfLoop loops i (IsHeader v)) →
    ((i : ℕ) → HasBit aside i ↔ IsSideBit edges bodies headers i) → AreGroup edges loops bodies aside
group_is edges loops bodies headers aside is at side = record {
  size = is.size;
  nodes = is.nodes;
  entered = λ i. (
    λ h.
        let s = (side i).0 h in
        let led = (is.nodes s.to i).0 s.into in (
          led.0,
          led.1,
          record {
            from = s.from;
            to = s.to;
            edge = s.edge;
            into = led.2;
            aside = λ e. s.aside ((at s.to i).1 (led.0, led.1, e));
            outside = λ l. s.outside ((is.nodes s.from i).1 (led.0, led.1, l));
          },
        ),
    λ h.
        let loop = h.0 in
        let s = h.2 in
        (side i).1 (record {
          from = s.from;
          to = s.to;
          edge = s.edge;
          into = (is.nodes s.to i).1 (loop, h.1, s.into);
          aside = λ k. let w = (at s.to i).0 k in s.aside (w.2 ∙ ap (λ l. l.header) (some_same w.0 loop (slice_get loops i) w.1 h.1));
          outside = λ k. let w = (is.nodes s.from i).0 k in s.outside (subst (λ l. IsLed edges s.from l) (some_same w.0 loop (slice_get loops i) w.1 h.1) w.2);
        }),
  );
}

-- ---- the body of one loop
body_within : (edges : EdgeView) → AreEdges edges.sources edges.targets edges.count → (extent : ℕ → Bool) (header v : ℕ) → LeadsWithin edges.sources edges.targets extent header v → v < edges.count
body_within edges ends extent header v (at_once edge inside) = ends.from edge.0 v edge.1
body_within edges ends extent header v (onward u edge inside leads) = ends.from edge.0 v edge.1

pub body_nodes : (edges : EdgeView) → AreEdges edges.sources edges.targets edges.count → (extent : ℕ → Bool) (header : ℕ) (body : List ℕ) → IsBody edges.sources edges.targets extent header body → AreNodes edges.count body
body_nodes edges ends extent header body is = record {
  within = λ p v h. body_within edges ends extent header v ((is.nodes v).0 (p, h)).1;
  once = is.once;
}

pub led_bits : (edges : EdgeView) (loop : LoopExtent) (n : ℕ) (old new body : List ℕ) → IsBody edges.sources edges.targets (in_node_ranges loop.ranges.items) loop.header body → IsInside loop.header loop →
    ((v i : ℕ) → IsFlagged new v i ↔ (IsFlagged old v i ⊎ (IsIn body v × (i ≡ n)))) → (v i : ℕ) → IsFlagged new v i ↔ (IsFlagged old v i ⊎ (IsLed edges v loop × (i ≡ n)))
led_bits edges loop n old new body is inside set v i = (
  λ h. ⊎_elim (λ k. inl k) (λ (x : IsIn body v × (i ≡ n)). inr (((is.nodes v).0 x.0).1, x.1)) ((set v i).0 h),
  λ h. (set v i).1 (⊎_elim (λ k. inl k) (λ (x : IsLed edges v loop × (i ≡ n)). inr ((is.nodes v).1 (inside, x.0), x.1)) h),
)

pub below_bodies : (edges : EdgeView) (loops : List LoopExtent) (n : ℕ) (words : List ℕ) → length loops ≤ n → AreBitsBelow loops edges.count (λ v i loop. IsLed edges v loop) n words → AreBodyBits edges loops words
below_bodies edges loops n words end was = record { size = was.size; nodes = below_all loops edges.count (λ v i loop. IsLed edges v loop) n words end was }
