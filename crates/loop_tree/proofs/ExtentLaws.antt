-- Ranges of addresses as ranges of nodes.
use Rattle.std.proofs.Common.{◌≡◌, ℕ, ◌+◌, ◌<◌, ◌≤◌, Bool, true, false, ◌&&◌, ◌||◌, ◌==◌, nat_le, nat_lt, List, [], ◌∷◌, ◌++◌, take, get_or, refl, sym, ap, ◌∙◌, Some, ⊎_elim}
use Rattle.std.specs.Prelude.{slice_get}
use Rattle.std.specs.List.{list_any}
use Rattle.std.proofs.lemmas.Bool.{cases_lt, lt-ltb, le-ltb, le-leb, lt-leb}
use Rattle.std.proofs.lemmas.List.Folds.{list_any-append, list_any_more}
use Rattle.std.proofs.lemmas.Option.{slice_get_within, get_or_from_slice_get}
use Rattle.scale_base.specs.declared.ranges.Range.{Range}
use Rattle.scale_base.specs.Image as image
use Rattle.flow_graph.specs.FlowGraph.{FlowGraph}
use Rattle.graph_algorithms.specs.declared.bodies.extent.NodeRange.{NodeRange}
use Rattle.graph_algorithms.specs.Bodies as bodies
use Rattle.loop_file.specs.declared.notes.LoopNote.{LoopNote}
use Rattle.loop_tree.specs.Passes.{IsCountBelow}

-- ---- ranges
lt_same : (nodes : List ℕ) (at n k a : ℕ) → IsCountBelow nodes at n → slice_get nodes k ≡ Some a → nat_lt k n ≡ nat_lt a at
lt_same nodes at n k a count g = ⊎_elim
    (λ (lt : k < n). lt-ltb k n lt ∙ sym (lt-ltb a at (count.below k a lt g)))
    (λ (ge : n ≤ k). le-ltb k n ge ∙ sym (le-ltb a at (count.above k a ge g)))
    (cases_lt k n)

le_same : (nodes : List ℕ) (at n k a : ℕ) → IsCountBelow nodes at n → slice_get nodes k ≡ Some a → nat_le n k ≡ nat_le at a
le_same nodes at n k a count g = ⊎_elim
    (λ (lt : k < n). lt-leb n k lt ∙ sym (lt-leb at a (count.below k a lt g)))
    (λ (ge : n ≤ k). le-leb n k ge ∙ sym (le-leb at a (count.above k a ge g)))
    (cases_lt k n)

both : (a b c d : Bool) → a ≡ c → b ≡ d → (a && b) ≡ (c && d)
both a b c d p q = ap (λ x. x && b) p ∙ ap (λ x. c && x) q

range_same : (nodes : List ℕ) (r : Range) (s : NodeRange) (k a : ℕ) → IsCountBelow nodes r.from s.from → IsCountBelow nodes r.to s.to → slice_get nodes k ≡ Some a → bodies.in_node_range k s ≡ image.is_in a r
range_same nodes r s k a from to g = both (nat_le s.from k) (nat_lt k s.to) (nat_le r.from a) (nat_lt a r.to) (le_same nodes r.from s.from k a from g) (lt_same nodes r.to s.to k a to g)

-- ---- an extent, with the first ranges of a note
abbrev pub AreFirstRanges : FlowGraph → LoopNote → ℕ → List NodeRange → Type 0
AreFirstRanges v note n extent = (k at : ℕ) → slice_get v.code.nodes k ≡ Some at → bodies.in_node_ranges extent k ≡ ((at == note.header) || list_any (image.is_in at) (take n note.ranges))

or_step : (a b c : Bool) → ((a || b) || (c || false)) ≡ (a || (b || c))
or_step true b c = refl
or_step false true c = refl
or_step false false true = refl
or_step false false false = refl

pub ranges_next : (v : FlowGraph) (note : LoopNote) (n : ℕ) (r : Range) (s : NodeRange) (extent longer : List NodeRange) → longer ≡ extent ++ s ∷ [] → slice_get note.ranges n ≡ Some r →
    IsCountBelow v.code.nodes r.from s.from → IsCountBelow v.code.nodes r.to s.to → AreFirstRanges v note n extent → AreFirstRanges v note (n + 1) longer
ranges_next v note n r s extent longer e at from to was k a g =
    let q : Range → Bool = image.is_in a in
    let here : get_or note.ranges n r ≡ r = get_or_from_slice_get note.ranges n r r at in
    let more : list_any (image.is_in a) (take (n + 1) note.ranges) ≡ (list_any (image.is_in a) (take n note.ranges) || image.is_in a r) =
    list_any_more (image.is_in a) note.ranges n r (slice_get_within note.ranges n r at) ∙ ap (λ x. list_any (image.is_in a) (take n note.ranges) || image.is_in a x) here in
    ap (λ xs. bodies.in_node_ranges xs k) e ∙ (list_any-append (bodies.in_node_range k) extent (s ∷ []) ∙
    (ap (λ x. x || (bodies.in_node_range k s || false)) (was k a g) ∙
    (ap (λ x. ((a == note.header) || list_any (image.is_in a) (take n note.ranges)) || (x || false)) (range_same v.code.nodes r s k a from to g) ∙
    (or_step (a == note.header) (list_any (image.is_in a) (take n note.ranges)) (image.is_in a r) ∙
    ap (λ x. (a == note.header) || x) (sym more)))))
