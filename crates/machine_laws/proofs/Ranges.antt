-- The ranges of the text are those of its parts, in another order.
use Rattle.std.proofs.Common.{◌≡◌, ℕ, ◌%◌, ◌<◌, ◌≤◌, Bool, true, false, cond, ◌||◌, List, [], ◌∷◌, map, fold, Ok, refl, sym, ap, subst, ◌∙◌, arith}
use Rattle.std.specs.Prelude.{nat_lt}
use Rattle.std.specs.List.{list_any, list_all, All}
use Rattle.std.proofs.lemmas.Bool.{and_parts, cond_both, ltb-true}
use Rattle.std.proofs.lemmas.List.Elements.{All-nil, All-cons, All-head, All-tail}
use Rattle.scale_base.specs.declared.ranges.Range.{Range}
use Rattle.scale_base.specs.declared.ranges.TextPart.{TextPart}
use Rattle.scale_base.specs.declared.headers.ProgramHeader.{ProgramHeader}
use Rattle.scale_base.specs.Image.{Image, image_of, contents, insert_range, ascending, range_of, ranges_of, text_parts, text_ranges, loaded_headers, holds_part, is_fit, is_text_place}
use Rattle.scale_base.proofs.Laws.{rules_kept, contents-are, rules_of}
use Rattle.machine_laws.proofs.Tests.{found_from_any, found_passes, found_keeps, list_any-map}
use Rattle.machine_laws.proofs.Segments.{segments_of}
use Rattle.machine_laws.proofs.Parts.{IsPlaced, part_placed, part_held, file_fits, code_below, parts_placed, parts_nonempty, is_nonempty}

-- ---- what some range has

swap_or : (a b c : Bool) → (a || (b || c)) ≡ (b || (a || c))
swap_or true true c = refl
swap_or true false c = refl
swap_or false b c = refl

or_assoc : (a b c : Bool) → ((a || b) || c) ≡ (b || (a || c))
or_assoc true true c = refl
or_assoc true false c = refl
or_assoc false b c = refl

or_false : (a : Bool) → (a || false) ≡ a
or_false true = refl
or_false false = refl

-- putting a range in its place changes nothing of what some range passes
any-insert : (p : Range → Bool) (xs : List Range) (r : Range) → list_any p (insert_range xs r) ≡ (p r || list_any p xs)
any-insert p [] r = refl
any-insert p (x ∷ xs) r = any_step (nat_lt r.from x.from) p x r xs (any-insert p xs r)
  where
    any_step : (b : Bool) (p : Range → Bool) (x r : Range) (xs : List Range) → list_any p (insert_range xs r) ≡ (p r || list_any p xs)
        → list_any p (cond b (r ∷ x ∷ xs) (x ∷ insert_range xs r)) ≡ (p r || (p x || list_any p xs))
    any_step true p x r xs go = refl
    any_step false p x r xs go = ap (λ (b : Bool). p x || b) go ∙ swap_or (p x) (p r) (list_any p xs)

any-fold : (p : Range → Bool) (acc ranges : List Range) → list_any p (fold insert_range acc ranges) ≡ (list_any p ranges || list_any p acc)
any-fold p acc [] = refl
any-fold p acc (r ∷ ranges) =
    any-fold p (insert_range acc r) ranges ∙ ap (λ (b : Bool). list_any p ranges || b) (any-insert p acc r) ∙ sym (or_assoc (p r) (list_any p ranges) (list_any p acc))

-- some range of the text passes a test exactly where that of some part does
pub list_any-ranges_of : (p : Range → Bool) (parts : List TextPart) → list_any p (ranges_of parts) ≡ list_any (λ part. p (range_of part)) parts
unfolding ascending
list_any-ranges_of p parts = any-fold p [] (map range_of parts) ∙ or_false (list_any p (map range_of parts)) ∙ list_any-map p range_of parts

-- ---- what each range has

all-insert : (P : Range → Type 0) (xs : List Range) (r : Range) → P r → All P xs → All P (insert_range xs r)
all-insert P [] r here h = All-cons P r [] here (All-nil P)
all-insert P (x ∷ xs) r here h =
    cond_both (nat_lt r.from x.from) (r ∷ x ∷ xs) (x ∷ insert_range xs r) (λ ys. All P ys) (λ _. All-cons P r (x ∷ xs) here h)
    (λ _. All-cons P x (insert_range xs r) (All-head P x xs h) (all-insert P xs r here (All-tail P x xs h)))

all-fold : (P : Range → Type 0) (acc ranges : List Range) → All P acc → All P ranges → All P (fold insert_range acc ranges)
all-fold P acc [] so_far h = so_far
all-fold P acc (r ∷ ranges) so_far h = all-fold P (insert_range acc r) ranges (all-insert P acc r (All-head P r ranges h) so_far) (All-tail P r ranges h)

-- what holds of the range of each part holds of each range of the text
pub All-ranges_of : (P : Range → Type 0) (parts : List TextPart) → All P (map range_of parts) → All P (ranges_of parts)
unfolding ascending
All-ranges_of P parts h = all-fold P [] (map range_of parts) (All-nil P) h

-- ---- the ranges of an accepted file

-- what is so of each range of the text
pub record IsTextRange (r : Range) : Type 0 where
  pub first : r.from % 4 ≡ 0
  pub last : r.to % 4 ≡ 0
  pub nonempty : r.from < r.to
  pub below : r.to ≤ 0xFF000000

part_range : (hs : List ProgramHeader) (part : TextPart) → list_all is_fit hs ≡ true → IsPlaced hs part → is_nonempty part ≡ true → IsTextRange (range_of part)
part_range hs part fit is some =
    let found = found_from_any (holds_part part) hs is.held in
    let held = part_held part found.0 (found_passes (holds_part part) hs found.0 found.1) in
    let fits = found_keeps (holds_part part) is_fit hs found.0 found.1 fit in
    let less = ltb-true 0 part.span.len some in
    let low = file_fits found.0 fits in
    let high = code_below found.0 fits held.code in
    let first = is.first in
    let size = is.size in
    let end = held.high in
    record { first = first; last = omega (arith, first, size); nonempty = omega (arith, less); below = omega (arith, low, high, end) }

each_range : (file : List ℕ) (hs : List ProgramHeader) (parts : List TextPart) → list_all is_fit hs ≡ true → list_all (is_text_place file hs) parts ≡ true → list_all is_nonempty parts ≡ true → All IsTextRange (map range_of parts)
each_range file hs [] fit placed some = All-nil IsTextRange
each_range file hs (part ∷ parts) fit placed some =
    let p = and_parts (is_text_place file hs part) (list_all (is_text_place file hs) parts) placed in
    let s = and_parts (is_nonempty part) (list_all is_nonempty parts) some in
    All-cons IsTextRange (range_of part) (map range_of parts) (part_range hs part fit (part_placed file hs part p.0) s.0) (each_range file hs parts fit p.1 s.1)

ranges_kept : (file : List ℕ) (image : Image) → image_of file ≡ Ok image → All IsTextRange (contents file).text
unfolding contents text_ranges
ranges_kept file image e =
    let hs = loaded_headers file in
    let parts = text_parts file hs in
    let rules = rules_of file (rules_kept file image e) in
    All-ranges_of IsTextRange parts (each_range file hs parts (segments_of file image e).fit (parts_placed file rules.text) (parts_nonempty file hs))

-- each range of the text of an image begins and ends at a multiple of 4, has an address, and ends below the addresses that a program may not use
pub text_ranges_kept : (file : List ℕ) (image : Image) → image_of file ≡ Ok image → All IsTextRange image.text
text_ranges_kept file image e =
    let P : Image → Type 0 = λ i. All IsTextRange i.text in
    subst P (contents-are file image e) (ranges_kept file image e)
