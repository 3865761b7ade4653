-- Ranges that have the nodes of some extents.
use Rattle.std.proofs.Common.{◌≡◌, ℕ, suc, ◌<◌, ◌≤◌, Bool, true, false, ◌&&◌, ◌||◌, nat_le, nat_lt, List, [], ◌∷◌, length, refl, ap, ◌∙◌, subst, arith, Some, ◌⊎◌, inl, inr, ⊎_elim}
use Rattle.std.specs.Prelude.{slice_get}
use Rattle.std.proofs.lemmas.Bool.{leb-true, ltb-true}
use Rattle.std.proofs.lemmas.Option.{slice_get_within}
use Rattle.graph_algorithms.specs.declared.bodies.extent.LoopExtent.{LoopExtent}
use Rattle.graph_algorithms.specs.declared.bodies.extent.NodeRange.{NodeRange}
use Rattle.graph_algorithms.specs.Edges.{EdgeView, AreEdges}
use Rattle.graph_algorithms.specs.Bodies.{LeadsWithin, in_node_ranges, in_node_range}
use Rattle.graph_algorithms.specs.Bodies.LeadsWithin.{at_once, onward}
use Rattle.graph_algorithms.specs.Groups.{IsFlagged, IsInside, IsInSpan, IsSpan, AreBodyBits}

or_cases : (a b : Bool) → (a || b) ≡ true → (a ≡ true) ⊎ (b ≡ true)
or_cases true b h = inl refl
or_cases false b h = inr h

and_cases : (a b : Bool) → (a && b) ≡ true → (a ≡ true) × (b ≡ true)
and_cases true b h = (refl, h)
and_cases false b h = let bad : ⊥ = cc in absurd bad

-- one of some ranges has a node
abbrev HasNode : List NodeRange → ℕ → Type 0
HasNode ranges v = (p : ℕ) × (r : NodeRange) × (slice_get ranges p ≡ Some r) × IsInSpan r v

in_one : (ranges : List NodeRange) (v : ℕ) → in_node_ranges ranges v ≡ true → HasNode ranges v
in_one [] v h = let bad : ⊥ = cc in absurd bad
in_one (r ∷ rs) v h = ⊎_elim
    (λ (here : in_node_range v r ≡ true). let b = and_cases (nat_le r.from v) (nat_lt v r.to) here in (0, r, refl, (leb-true r.from v b.0, ltb-true v r.to b.1)))
    (λ (later : in_node_ranges rs v ≡ true). let w = in_one rs v later in (suc w.0, w.1, w.2, w.3))
    (or_cases (in_node_range v r) (in_node_ranges rs v) h)

-- a range has another one
abbrev pub HasRange : NodeRange → NodeRange → Type 0
HasRange whole part = (whole.from ≤ part.from) × (part.to ≤ whole.to)

has_among : (a b : NodeRange) (v : ℕ) → HasRange a b → IsInSpan b v → IsInSpan a v
has_among a b v one two = let p = one.0 in let q = one.1 in let r = two.0 in let s = two.1 in ((let x : a.from ≤ v = omega arith in x), (let x : v < a.to = omega arith in x))

-- ---- a range and the first n of an extent
pub record AreJoined (range : NodeRange) (extent : List NodeRange) (n : ℕ) (whole : NodeRange) : Type 0 where
  pub kept : HasRange whole range
  pub parts : (p : ℕ) (r : NodeRange) → p < n → slice_get extent p ≡ Some r → HasRange whole r

pub joined_none : (range : NodeRange) (extent : List NodeRange) → AreJoined range extent 0 range
joined_none range extent = record { kept = ((let x : range.from ≤ range.from = omega arith in x), (let x : range.to ≤ range.to = omega arith in x)); parts = λ p r lt. let bad : ⊥ = omega arith in absurd bad }

pub joined_all : (range : NodeRange) (extent : List NodeRange) (n : ℕ) (whole : NodeRange) → length extent ≤ n → AreJoined range extent n whole → (v : ℕ) → in_node_ranges extent v ≡ true → IsInSpan whole v
joined_all range extent n whole end was v h =
    let w = in_one extent v h in
    let lt = slice_get_within extent w.0 w.1 w.2 in
    has_among whole w.1 v (was.parts w.0 w.1 (omega arith) w.2) w.3

-- ---- the first n loops
abbrev pub AreSpanned : List LoopExtent → ℕ → NodeRange → Type 0
AreSpanned loops n whole = (i v : ℕ) (loop : LoopExtent) → i < n → slice_get loops i ≡ Some loop → IsInside v loop → IsInSpan whole v

pub spanned_none : (loops : List LoopExtent) (whole : NodeRange) → AreSpanned loops 0 whole
spanned_none loops whole i v loop lt = let bad : ⊥ = omega arith in absurd bad

pub spanned_all : (loops : List LoopExtent) (count n : ℕ) (whole range : NodeRange) → length loops ≤ n → AreSpanned loops n whole → range.to ≤ count → ((v : ℕ) → v < count → IsInSpan whole v → IsInSpan range v) → IsSpan count loops range
spanned_all loops count n whole range end was within all = record {
  within = within;
  nodes = λ i v loop at lt inside. let il = slice_get_within loops i loop at in all v lt (was i v loop (omega arith) at inside);
}

-- ---- bodies lie in the range
led_within : (edges : EdgeView) → AreEdges edges.sources edges.targets edges.count → (extent : ℕ → Bool) (header v : ℕ) → LeadsWithin edges.sources edges.targets extent header v → (v < edges.count) × (extent v ≡ true)
led_within edges ends extent header v (at_once edge inside) = (ends.from edge.0 v edge.1, inside)
led_within edges ends extent header v (onward u edge inside leads) = (ends.from edge.0 v edge.1, inside)

pub bodies_among : (edges : EdgeView) (loops : List LoopExtent) (bodies : List ℕ) (range : NodeRange) → AreEdges edges.sources edges.targets edges.count → AreBodyBits edges loops bodies → IsSpan edges.count loops range → (v i : ℕ) → IsFlagged bodies v i → IsInSpan range v
bodies_among edges loops bodies range ends is span v i h =
    let w = (is.nodes v i).0 h in
    let l = led_within edges ends (in_node_ranges w.0.ranges.items) w.0.header v w.2 in
    span.nodes i v w.0 w.1 l.0 l.1

-- the same, where the edges and the count have other names
pub bodies_in : (own edges : EdgeView) (loops : List LoopExtent) (count : ℕ) (bodies : List ℕ) (range : NodeRange) → own ≡ edges → count ≡ own.count → AreEdges own.sources own.targets own.count → IsSpan count loops range → AreBodyBits edges loops bodies → (v i : ℕ) → IsFlagged bodies v i → IsInSpan range v
bodies_in own edges loops count bodies range same e ends span is =
    bodies_among edges loops bodies range (subst (λ (x : EdgeView). AreEdges x.sources x.targets x.count) same ends) is (subst (λ n. IsSpan n loops range) (e ∙ ap (λ x. x.count) same) span)
