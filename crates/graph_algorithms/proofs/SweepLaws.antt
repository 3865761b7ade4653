-- Bits that are passed back over edges.
use Rattle.std.proofs.Common.{◌≡◌, ◌≢◌, ℕ, ◌*◌, ◌%◌, ◌^◌, ◌<◌, ◌↔◌, Bool, true, false, List, length, get_or, set, sym, ap, ◌∙◌, subst, arith, Option, Some, ◌⊎◌, inl, inr, ⊎_elim, get_or-set_same, get_or-set_other, length-set, bit_and, bit_or}
use Rattle.std.specs.Prelude.{slice_get, slice_index}
use Rattle.std.specs.Int.{bit_at}
use Rattle.std.proofs.lemmas.Bool.{cases_eq, both_ways}
use Rattle.graph_algorithms.specs.declared.bodies.extent.LoopExtent.{LoopExtent}
use Rattle.graph_algorithms.specs.Edges.{EdgeView, AreEdges}
use Rattle.graph_algorithms.specs.Bodies.{HasEdge, LeadsWithin, in_node_ranges}
use Rattle.graph_algorithms.specs.Bodies.LeadsWithin.{at_once, onward}
use Rattle.graph_algorithms.specs.BodySearch.{is_marked_at, AreUnmarked}
use Rattle.graph_algorithms.specs.Groups.{HasBit, IsFlagged, OfLoop, IsInside, IsLed, AreInside, Gains, IsPassedOn, IsPassedBack, ReachesBack, AreBitsSettled, IsSearched, IsTurn, AreBodyBits}
use Rattle.graph_algorithms.specs.Groups.ReachesBack.{here, back}
use Rattle.graph_algorithms.proofs.BitLaws.{has_or, or_left, or_right, has_and, and_both, flag_same, same_flag, flag_other, other_flag, shl_same, shl_only}

some_same : {A : Type 0} (a b : A) (o : Option A) → o ≡ Some a → o ≡ Some b → a ≡ b
some_same a b o p q = cc

-- ---- gains

pub gains_then : (P Q : ℕ → ℕ → Type 0) (f g h : List ℕ) (p q r : List Bool) → ((v i : ℕ) → Q v i → P v i) → Gains P f p g q → Gains Q g q h r → Gains P f p h r
gains_then P Q f g h p q r weaker one two = record {
  found_size = two.found_size ∙ one.found_size;
  pending_size = two.pending_size ∙ one.pending_size;
  kept = λ v i k. two.kept v i (one.kept v i k);
  only = λ v i k. ⊎_elim (λ old. one.only v i old) (λ new. inr (weaker v i new)) (two.only v i k);
  quiet = λ v k. let b = two.quiet v k in let a = one.quiet v b.1 in (b.0 ∙ a.0, a.1);
}

module _ (found : List ℕ) (pending : List Bool) (inside : List ℕ) (node bits more : ℕ) (lt : node < length found) (size : length pending ≡ length found) (e : more ≡ bit_or (get_or found node 0) (bit_and bits (get_or inside node 0))) where
  in_more : (i : ℕ) → IsFlagged found node i → HasBit more i
  in_more i h = ap (λ x. bit_at x i) e ∙ or_left (get_or found node 0) (bit_and bits (get_or inside node 0)) i h

  of_more : (i : ℕ) → HasBit more i → IsFlagged found node i ⊎ IsPassedOn inside bits node i
  of_more i h = ⊎_elim (λ old. inl old) (λ new. inr (has_and bits (get_or inside node 0) i new))
      (has_or (get_or found node 0) (bit_and bits (get_or inside node 0)) i (ap (λ x. bit_at x i) (sym e) ∙ h))

  new_more : (i : ℕ) → IsPassedOn inside bits node i → HasBit more i
  new_more i h = ap (λ x. bit_at x i) e ∙ or_right (get_or found node 0) (bit_and bits (get_or inside node 0)) i (and_both bits (get_or inside node 0) i h.0 h.1)

  pub gains_add : Gains (λ v i. (v ≡ node) × IsPassedOn inside bits v i) found pending (set found node more) (set pending node true)
  gains_add = record {
    found_size = length-set found node more;
    pending_size = length-set pending node true;
    kept = λ v i h. ⊎_elim
        (λ (at : v ≡ node). subst (λ x. IsFlagged (set found node more) x i) (sym at) (flag_same found node more i lt (in_more i (subst (λ x. IsFlagged found x i) at h))))
        (λ (ne : v ≡ node → ⊥). let d : v ≢ node = ne in flag_other found node v more i d h)
        (cases_eq v node);
    only = λ v i h. ⊎_elim
        (λ (at : v ≡ node). ⊎_elim
        (λ (old : IsFlagged found node i). inl (subst (λ x. IsFlagged found x i) (sym at) old))
        (λ (new : IsPassedOn inside bits node i). inr (at, subst (λ x. IsPassedOn inside bits x i) (sym at) new))
        (of_more i (same_flag found node more i lt (subst (λ x. IsFlagged (set found node more) x i) at h))))
        (λ (ne : v ≡ node → ⊥). let d : v ≢ node = ne in inl (other_flag found node v more i d h))
        (cases_eq v node);
    quiet = λ v h. ⊎_elim
        (λ (at : v ≡ node). absurd (both_ways (is_marked_at (set pending node true) v) h (ap (is_marked_at (set pending node true)) at ∙ get_or-set_same pending node true false (omega arith))))
        (λ (ne : v ≡ node → ⊥). let d : v ≢ node = ne in (get_or-set_other found node v more 0 d, sym (get_or-set_other pending node v true false d) ∙ h))
        (cases_eq v node);
  }

  pub added_all : (i : ℕ) → IsPassedOn inside bits node i → IsFlagged (set found node more) node i
  added_all i h = flag_same found node more i lt (new_more i h)

  -- where the word stays the same, nothing is new
  pub same_all : more ≡ get_or found node 0 → (i : ℕ) → IsPassedOn inside bits node i → IsFlagged found node i
  same_all s i h = ap (λ x. bit_at x i) (sym s) ∙ new_more i h

-- ---- the search
module _ (edges : EdgeView) (inside : List ℕ) where
  -- what isn't pending stays passed back
  pub settled_gains : (P : ℕ → ℕ → Type 0) (f g : List ℕ) (p q : List Bool) → Gains P f p g q → (u : ℕ) → is_marked_at q u ≡ false → ((v i : ℕ) → IsPassedBack edges inside (slice_index f u) u v i → IsFlagged f v i) →
      (v i : ℕ) → IsPassedBack edges inside (slice_index g u) u v i → IsFlagged g v i
  settled_gains P f g p q gains u quiet was v i passed =
      let same = (gains.quiet u quiet).0 in
      gains.kept v i (was v i (subst (λ x. IsPassedBack edges inside x u v i) same passed))

  pub settled_none : (f : List ℕ) (p : List Bool) → length f ≡ edges.count → length p ≡ edges.count → ((v i : ℕ) → IsFlagged f v i → ⊥) → AreBitsSettled edges inside f p
  settled_none f p fs ps none = record { found_size = fs; pending_size = ps; settled = λ u quiet v i passed. absurd (none u i passed.1.0) }

  pub settled_more : (P : ℕ → ℕ → Type 0) (f g : List ℕ) (p q : List Bool) → Gains P f p g q → AreBitsSettled edges inside f p → AreBitsSettled edges inside g q
  settled_more P f g p q gains was = record {
    found_size = gains.found_size ∙ was.found_size;
    pending_size = gains.pending_size ∙ was.pending_size;
    settled = λ u quiet. settled_gains P f g p q gains u quiet (was.settled u (gains.quiet u quiet).1);
  }

  -- the edges to one header more
  pub turned : (n header : ℕ) (f g : List ℕ) (p q : List Bool) → n < 64 → Gains (IsPassedBack edges inside (1 * 2 ^ n % 2 ^ 64) header) f p g q → ((v i : ℕ) → IsPassedBack edges inside (1 * 2 ^ n % 2 ^ 64) header v i → IsFlagged g v i) →
      (v i : ℕ) → IsFlagged g v i ↔ (IsFlagged f v i ⊎ ((HasEdge edges.sources edges.targets v header × IsFlagged inside v i) × (i ≡ n)))
  turned n header f g p q small gains all v i = (
    λ h. ⊎_elim (λ old. inl old)
        (λ (new : IsPassedBack edges inside (1 * 2 ^ n % 2 ^ 64) header v i). inr ((new.0, new.1.1), shl_only n i small new.1.0))
        (gains.only v i h),
    λ h. ⊎_elim (λ old. gains.kept v i old)
        (λ (x : (HasEdge edges.sources edges.targets v header × IsFlagged inside v i) × (i ≡ n)). all v i (x.0.0, (subst (λ j. HasBit (1 * 2 ^ n % 2 ^ 64) j) (sym x.1) (shl_same n small), x.0.1)))
        h,
  )

  -- ---- from words to words
  reached_on : (start found : List ℕ) → ((v i : ℕ) → IsFlagged found v i → ReachesBack edges inside start v i) → (v i : ℕ) → ReachesBack edges inside found v i → ReachesBack edges inside start v i
  reached_on start found from v i (here h) = from v i h
  reached_on start found from v i (back u edge inside_v more) = back u edge inside_v (reached_on start found from u i more)

  pub searched_same : (f : List ℕ) (p : List Bool) → AreBitsSettled edges inside f p → IsSearched edges inside f f p
  searched_same f p settled = record { kept = λ v i h. h; only = λ v i h. here h; settled = settled }

  pub searched_then : (f g h : List ℕ) (q r : List Bool) → IsSearched edges inside f g q → IsSearched edges inside g h r → IsSearched edges inside f h r
  searched_then f g h q r one two = record {
    kept = λ v i k. two.kept v i (one.kept v i k);
    only = λ v i k. reached_on f g one.only v i (two.only v i k);
    settled = two.settled;
  }

  -- what was found of one node is passed back
  pub searched_visit : (node bits : ℕ) (f g : List ℕ) (p q : List Bool) → bits ≡ slice_index f node → AreBitsSettled edges inside f p →
      Gains (IsPassedBack edges inside bits node) f (set p node false) g q → ((v i : ℕ) → IsPassedBack edges inside bits node v i → IsFlagged g v i) → IsSearched edges inside f g q
  searched_visit node bits f g p q be was gains all = record {
    kept = gains.kept;
    only = λ v i h. ⊎_elim (λ old. here old)
        (λ (new : IsPassedBack edges inside bits node v i). back node new.0 new.1.1 (here (subst (λ x. HasBit x i) be new.1.0)))
        (gains.only v i h);
    settled = record {
      found_size = gains.found_size ∙ was.found_size;
      pending_size = gains.pending_size ∙ (length-set p node false ∙ was.pending_size);
      settled = λ u quiet v i passed.
          let still = gains.quiet u quiet in
          ⊎_elim
          (λ (at : u ≡ node).
          let same : slice_index g u ≡ bits = still.0 ∙ (ap (slice_index f) at ∙ sym be) in
          all v i (subst (λ x. IsPassedBack edges inside bits x v i) at (subst (λ x. IsPassedBack edges inside x u v i) same passed)))
          (λ (ne : u ≡ node → ⊥). let d : u ≢ node = ne in
          settled_gains (IsPassedBack edges inside bits node) f g (set p node false) q gains u quiet (was.settled u (sym (get_or-set_other p node u false false d) ∙ still.1)) v i passed)
          (cases_eq u node);
    };
  }

  -- where nothing is pending, all that leads to a header is found, and nothing else
  module _ (loops : List LoopExtent) (start f : List ℕ) (p : List Bool) (ends : AreEdges edges.sources edges.targets edges.count) (is : AreInside loops edges.count inside) (starts : (v i : ℕ) → IsFlagged start v i ↔ OfLoop loops i (IsTurn edges inside v i))
      (was : IsSearched edges inside start f p) (quiet : AreUnmarked p) where
    all_found : (i : ℕ) (loop : LoopExtent) → slice_get loops i ≡ Some loop → (v : ℕ) → LeadsWithin edges.sources edges.targets (in_node_ranges loop.ranges.items) loop.header v → IsFlagged f v i
    all_found i loop at v (at_once edge within) = was.kept v i ((starts v i).1 (loop, at, (edge, (is.nodes v i (ends.from edge.0 v edge.1)).1 (loop, at, within))))
    all_found i loop at v (onward u edge within leads) =
        was.settled.settled u (quiet u) v i (edge, (all_found i loop at u leads, (is.nodes v i (ends.from edge.0 v edge.1)).1 (loop, at, within)))

    inside_of : (i v u : ℕ) (loop : LoopExtent) → slice_get loops i ≡ Some loop → HasEdge edges.sources edges.targets v u → IsFlagged inside v i → IsInside v loop
    inside_of i v u loop at edge h =
        let w = (is.nodes v i (ends.from edge.0 v edge.1)).0 h in
        subst (IsInside v) (some_same w.0 loop (slice_get loops i) w.1 at) w.2

    all_led : (v i : ℕ) → ReachesBack edges inside start v i → OfLoop loops i (IsLed edges v)
    all_led v i (here h) = let t = (starts v i).0 h in (t.0, t.1, at_once t.2.0 (inside_of i v t.0.header t.0 t.1 t.2.0 t.2.1))
    all_led v i (back u edge within more) = let t = all_led u i more in (t.0, t.1, onward u edge (inside_of i v u t.0 t.1 edge within) t.2)

    pub searched_all : AreBodyBits edges loops f
    searched_all = record {
      size = was.settled.found_size;
      nodes = λ v i. (λ h. all_led v i (was.only v i h), λ led. all_found i led.0 led.1 v led.2);
    }
