-- The places of segments without the key.
use Rattle.std.proofs.Common.{◌≡◌, ℕ, ◌+◌, List, [], ◌∷◌, ◌++◌, take, map, Some, sym, ap, ◌∙◌}
use Rattle.std.specs.Prelude.{slice_get, ◌==◌, ◌&&◌}
use Rattle.std.specs.Bool.{Decides}
use Rattle.std.proofs.lemmas.Bool.Decides.{Decides-like, Decides-and, Decides-eqb}
use Rattle.scale_base.specs.declared.ranges.Range.{Range}
use Rattle.std.specs.List.{filter}
use Rattle.std.proofs.lemmas.List.{map-append}
use Rattle.std.proofs.lemmas.List.Elements.{filter-append}
use Rattle.scale_base.specs.Image.{LoadSegment}
use Rattle.scale_base.specs.Layout.{is_plain_segment}
use Rattle.foreign_scan.specs.Scanned.{SegmentPlace, segment_place}
use Rattle.foreign_scan.proofs.ListLaws.{take_one}

pub places_more : (segments : List LoadSegment) (k : ℕ) (s : LoadSegment) (old new : List SegmentPlace) → slice_get segments k ≡ Some s → old ≡ map segment_place (filter is_plain_segment (take k segments))
    → new ≡ old ++ map segment_place (filter is_plain_segment (s ∷ [])) → new ≡ map segment_place (filter is_plain_segment (take (k + 1) segments))
places_more segments k s old new there before added =
    added ∙ (ap (λ xs. xs ++ map segment_place (filter is_plain_segment (s ∷ []))) before
    ∙ (sym (map-append segment_place (filter is_plain_segment (take k segments)) (filter is_plain_segment (s ∷ [])))
    ∙ (ap (map segment_place) (sym (filter-append is_plain_segment (take k segments) (s ∷ [])))
    ∙ ap (λ xs. map segment_place (filter is_plain_segment xs)) (sym (take_one segments k s there)))))

-- ---- equal ranges and places

range_same : (a b : Range) → (a.from ≡ b.from) × (a.to ≡ b.to) → a ≡ b
range_same a b h = let f : ℕ → Range = λ x. record { from = x; to = a.to } in let g : ℕ → Range = λ y. record { from = b.from; to = y } in ap f h.0 ∙ ap g h.1

pub range_decides : (a b : Range) → Decides ((a.from == b.from) && (a.to == b.to)) (a ≡ b)
range_decides a b = Decides-like ((a.from == b.from) && (a.to == b.to)) (range_same a b) (λ e. (ap (λ (r : Range). r.from) e, ap (λ (r : Range). r.to) e))
    (Decides-and (a.from == b.from) (a.to == b.to) (Decides-eqb a.from b.from) (Decides-eqb a.to b.to))

place_same : (a b : SegmentPlace) → (a.from ≡ b.from) × ((a.len ≡ b.len) × (a.flags ≡ b.flags)) → a ≡ b
place_same a b h =
    let f : ℕ → SegmentPlace = λ x. record { from = x; len = a.len; flags = a.flags } in
    let g : ℕ → SegmentPlace = λ y. record { from = b.from; len = y; flags = a.flags } in
    let k : ℕ → SegmentPlace = λ z. record { from = b.from; len = b.len; flags = z } in
    ap f h.0 ∙ (ap g h.1.0 ∙ ap k h.1.1)

pub place_decides : (a b : SegmentPlace) → Decides ((a.from == b.from) && ((a.len == b.len) && (a.flags == b.flags))) (a ≡ b)
place_decides a b = Decides-like ((a.from == b.from) && ((a.len == b.len) && (a.flags == b.flags))) (place_same a b)
    (λ e. (ap (λ (p : SegmentPlace). p.from) e, (ap (λ (p : SegmentPlace). p.len) e, ap (λ (p : SegmentPlace). p.flags) e)))
    (Decides-and (a.from == b.from) ((a.len == b.len) && (a.flags == b.flags)) (Decides-eqb a.from b.from) (Decides-and (a.len == b.len) (a.flags == b.flags) (Decides-eqb a.len b.len) (Decides-eqb a.flags b.flags)))
