-- A held image is an image again, and where its empty block stands.
use Rattle.std.proofs.Common.{◌≡◌, ℕ, ◌+◌, ◌≤◌, false, not, List, [], ◌∷◌, length, map, Ok, subst, refl, sym, ap, arith}
use Rattle.std.specs.List.{list_any}
use Rattle.scale_base.specs.declared.ranges.Span.{Span}
use Rattle.scale_base.specs.Spans.{overlap}
use Rattle.scale_base.specs.Image.{Image, image_of, contents, stack, addresses_of}
use Rattle.scale_base.proofs.Laws.{rules_kept, tables-kept, contents-are, parts_in_file, has_table}
use Rattle.elf_patch.specs.Stored.{stored_image, text_end, window, IsStubBase, held_base}
use Rattle.elf_patch.proofs.Laws.{page_at-mod, page_at-le, page_at-least}
use Rattle.stored_laws.specs.StoredView.{IsStorable, stored_view}
use Rattle.stored_laws.proofs.Fields.{stored-is}
use Rattle.stored_laws.proofs.Whole.{law}
use Rattle.stored_laws.specs.Held.{IsHeldImage, OfHeldImages}
use Rattle.stored_laws.proofs.Contents.{off_phoff, off_phnum, HasBytes, bytes_same, layout_is}

-- ---- the base

-- an empty span touches none
touches_none : (base : ℕ) (spans : List Span) → list_any (overlap (record { from = base; len = 0 })) spans ≡ false
touches_none base [] = refl
touches_none base (s ∷ spans) = touches_none base spans

-- it is the lowest place of an empty block
pub held_place : (image : Image) → IsStubBase image 0 (held_base image)
held_place image = record {
  place = record {
    page = page_at-mod (text_end image.text);
    behind = page_at-le (text_end image.text);
    free = ap not (touches_none (held_base image) (stack ∷ window ∷ map addresses_of image.segments));
  };
  least = λ other h. page_at-least (text_end image.text) other h.page h.behind;
}

-- ---- the law

-- no patch changes a byte
has_bytes : (file : List ℕ) (base start : ℕ) → image_of file ≡ Ok (contents file) → length file ≤ 4194304 → HasBytes file (stored_image file [] base [] start)
has_bytes file base start e short =
    let t = has_table file (contents file) e in
    let s = stored-is file [] base start [] t.long short t.few (omega arith) (λ k d lt. absurd (omega arith)) in
    record {
      longer = omega (arith, s.size, s.at_is, s.above);
      same = λ p lt z. s.low p lt (off_phoff p z) (off_phnum p z) (λ k d l. absurd (omega arith));
    }

-- the file of an image
pub file_of : (file : List ℕ) (image : Image) → contents file ≡ image → image.file ≡ file
unfolding contents
file_of file image are = ap (λ (i : Image). i.file) (sym are)

-- the original over the stored file, with the empty block
held_view : (file : List ℕ) (image : Image) (base start : ℕ) → contents file ≡ image → image_of file ≡ Ok image → length file ≤ 4194304
    → image_of (stored_image file [] base [] start) ≡ Ok (stored_view image (stored_image file [] base [] start) base [] start)
    → IsHeldImage file image base start (stored_view image (stored_image file [] base [] start) base [] start)
unfolding stored_view
held_view file image base start are e short is =
    let s = stored_image file [] base [] start in
    let P : Image → Type 0 = λ i. image_of file ≡ Ok i in
    let same = bytes_same file s base start (has_bytes file base start (subst P (sym are) e) short) (parts_in_file file (tables-kept file (rules_kept file image e))) in
    let z : base + 0 ≡ base = omega arith in
    record {
      accepted = is;
      entry = refl;
      bytes = rw are at same;
      layout = layout_is image s base start;
      keyed = rw z refl;
      text = refl;
    }

pub a_held_image : OfHeldImages IsHeldImage
a_held_image = λ file image start e none short small.
    let base = held_base image in
    let s = stored_image file [] base [] start in
    let are = contents-are file image e in
    let storable : IsStorable image [] base [] start = record {
      file = rw (file_of file image are) short;
      no_key = none;
      words = λ k d lt. absurd (omega arith);
      place = held_place image;
      block_short = omega arith;
      start_small = small;
    } in
    let is = law file image [] base [] start e storable in
    let P : Image → Type 0 = IsHeldImage file image base start in
    subst P (sym (contents-are s (stored_view image s base [] start) is)) (held_view file image base start are e short is)
