-- What loads at the addresses of an interval give, and that no store changes the bytes of parts that the image has.
use Rattle.std.proofs.Common.{◌≡◌, ◌<◌, ◌≤◌, ◌+◌, ◌-◌, ◌*◌, ◌/◌, ◌%◌, ◌^◌, ℕ, suc, Bool, true, false, ◌&&◌, not, List, [], ◌∷◌, length, refl, sym, ap, ◌∙◌, subst, arith, Option, Some, None}
use Rattle.std.specs.List.{All, find, list_any, filter}
use Rattle.std.specs.Prelude.{map, slice_get, nat_le, nat_lt}
use Rattle.std.proofs.lemmas.Bool.{and_parts, both_ways, cond_both, false_from_ne_true, leb-true, ltb-true, or_from}
use Rattle.std.proofs.lemmas.Option.{get_or_from_slice_get}
use Rattle.flow_graph.proofs.Laws.{some_is}
use Rattle.scale_base.specs.declared.instruction.LoadOp.{LoadOp}
use Rattle.scale_base.specs.declared.ranges.Span.{Span}
use Rattle.scale_base.specs.Elf.{has}
use Rattle.scale_base.specs.Spans.{in_span}
use Rattle.scale_base.specs.Image.{Image, LoadSegment, PF_W, addresses_of, loaded_byte}
use Rattle.scale_base.specs.Layout.{Part, part_of, is_plain_segment, in_stack, in_text, layout_of, may_write}
use Rattle.bound_laws.specs.Values.{Arc}
use Rattle.stack_laws.specs.Fixed.{AreFixedIn, AreUnwritten, GivesFixed}
use Rattle.stack_tables.specs.declared.tables.FixedPart.{FixedPart}
use Rattle.stack_tables.specs.Tables.{byte_of, fixed_in, has_address}
use Rattle.stack_tables.proofs.Laws.{each_number}
use Rattle.stack_checks.specs.declared.cells.Loading.{Loading}
use Rattle.stack_checks.specs.Checked.{GivesAt, IsApartFrom, IsFixedPart}

-- ---- loads

-- What is so at so many numbers of an interval, a stride from one to the next, is so at all of them.
pub gives_all : (fixed : ℕ → Option ℕ) (x : Loading) (place : Arc) (count : ℕ) → (0 < place.stride → count ≡ place.more / place.stride) →
    ((n : ℕ) → n < count + 1 → GivesAt fixed x ((place.low + place.stride * n) % 2 ^ 32)) → GivesFixed fixed x.op place x.values
gives_all fixed x place count last each = each_number (GivesAt fixed x) place count last each

-- of the same bytes by other words
pub gives_same : (f g : ℕ → Option ℕ) → ((at : ℕ) → f at ≡ g at) → (op : LoadOp) (place : Arc) (values : Option Arc) → GivesFixed f op place values → GivesFixed g op place values
gives_same f g same op place values gives at inside aligned bytes are = gives at inside aligned bytes (λ x byte is. are x byte (sym (same x) ∙ is))

-- ---- parts

-- a span that ends before a part begins, or begins where it ends or behind that
pub apart_below : (span : Span) (p : FixedPart) → span.from + span.len ≤ p.from → IsApartFrom span p
apart_below span p below at has_it = false_from_ne_true (in_span span at) (λ on.
    let a = and_parts (nat_le span.from at) (nat_lt at (span.from + span.len)) on in
    let b = and_parts (nat_le p.from at) (nat_lt at (p.from + length p.bytes.items)) has_it in
    let high : at < span.from + span.len = ltb-true at (span.from + span.len) a.1 in
    let low : p.from ≤ at = leb-true p.from at b.0 in
    omega (arith, high, low, below))

pub apart_above : (span : Span) (p : FixedPart) → p.from + length p.bytes.items ≤ span.from → IsApartFrom span p
apart_above span p above at has_it = false_from_ne_true (in_span span at) (λ on.
    let a = and_parts (nat_le span.from at) (nat_lt at (span.from + span.len)) on in
    let b = and_parts (nat_le p.from at) (nat_lt at (p.from + length p.bytes.items)) has_it in
    let low : span.from ≤ at = leb-true span.from at a.0 in
    let high : at < p.from + length p.bytes.items = ltb-true at (p.from + length p.bytes.items) b.1 in
    omega (arith, high, low, above))

-- what a test finds in a list passes it, and is as all are
found_so : {A : Type 0} (P : A → Type 0) (p : A → Bool) (xs : List A) → All P xs → (x : A) → find p xs ≡ Some x → P x × (p x ≡ true)
found_so P p [] all x e = let bad : ⊥ = cc in absurd bad
found_so P p (y ∷ xs) all x e = cond_both (p y) (Some y) (find p xs) (λ o. o ≡ Some x → P x × (p x ≡ true))
    (λ yes h. (subst P (some_is y x h) (all 0 y (omega arith)), subst (λ z. p z ≡ true) (some_is y x h) yes))
    (λ no h. found_so P p xs (λ k d lt. all (suc k) d (omega (arith, lt))) x h) e

-- a part of memory that may be written, and has the address
abbrev writes_at : ℕ → Part → Bool
writes_at at p = p.writable && in_span p.span at

not_there : (at : ℕ) (s : LoadSegment) → (has s.flags PF_W ≡ true → in_span (addresses_of s) at ≡ false) → writes_at at (part_of s) ≡ false
not_there at s none = false_from_ne_true (writes_at at (part_of s)) (λ on.
    let p = and_parts (has s.flags PF_W) (in_span (addresses_of s) at) on in
    both_ways (in_span (addresses_of s) at) (none p.0) p.1)

no_part : (at : ℕ) (segments : List LoadSegment) → All (λ (s : LoadSegment). has s.flags PF_W ≡ true → in_span (addresses_of s) at ≡ false) segments → list_any (writes_at at) (map part_of (filter is_plain_segment segments)) ≡ false
no_part at [] all = refl
no_part at (s ∷ segments) all =
    let rest : list_any (writes_at at) (map part_of (filter is_plain_segment segments)) ≡ false = no_part at segments (λ k d lt. all (suc k) d (omega (arith, lt))) in
    cond_both (is_plain_segment s) (s ∷ filter is_plain_segment segments) (filter is_plain_segment segments) (λ (kept : List LoadSegment). list_any (writes_at at) (map part_of kept) ≡ false)
    (λ plain. or_from (writes_at at (part_of s)) (list_any (writes_at at) (map part_of (filter is_plain_segment segments))) (not_there at s (all 0 s (omega arith))) rest) (λ keyed. rest)

-- each part of a list is one that the image has
module _ (image : Image) (parts : List FixedPart) (fixed : ℕ → Option ℕ) (same : (at : ℕ) → fixed_in parts at ≡ fixed at) (all : All (IsFixedPart image) parts) where
  abbrev IsFrom : ℕ → ℕ → Type 0
  IsFrom at byte = (p : FixedPart) × IsFixedPart image p × (has_address at p ≡ true) × (slice_get p.bytes.items (at - p.from) ≡ Some byte)

  found : (at byte : ℕ) → fixed at ≡ Some byte → IsFrom at byte
  found at byte is = by (find (has_address at) parts) refl
    where
      by : (o : Option FixedPart) → find (has_address at) parts ≡ o → IsFrom at byte
      by None e = let bad : None ≡ Some byte = sym (ap (byte_of at) e) ∙ (same at ∙ is) in let no : ⊥ = cc in absurd no
      by (Some p) e = let so = found_so (IsFixedPart image) (has_address at) parts all p e in (p, so.0, so.1, sym (ap (byte_of at) e) ∙ (same at ∙ is))

  pub are_fixed_of : AreFixedIn fixed (loaded_byte image)
  are_fixed_of at byte is =
      let f = found at byte is in
      let p : FixedPart = f.0 in
      let h = and_parts (nat_le p.from at) (nat_lt at (p.from + length p.bytes.items)) f.2 in
      let low : p.from ≤ at = leb-true p.from at h.0 in
      let high : at < p.from + length p.bytes.items = ltb-true at (p.from + length p.bytes.items) h.1 in
      let place : p.from + (at - p.from) ≡ at = omega (arith, low) in
      sym (ap (loaded_byte image) place) ∙ (f.1.bytes (at - p.from) (omega (arith, low, high)) ∙ get_or_from_slice_get p.bytes.items (at - p.from) byte 0 f.3)

  pub are_unwritten_of : AreUnwritten (layout_of image) fixed
  unfolding may_write layout_of
  are_unwritten_of at byte is =
      let f = found at byte is in
      or_from (in_stack at) _ (f.1.below at f.2)
      (ap (λ (b : Bool). b && not (in_text (layout_of image) at)) (no_part at image.segments (λ k s lt writes. f.1.unwritten k s lt writes at f.2)))
