-- A versioned image by its parts, and where there is none.
use Rattle.std.proofs.Common.{◌≡◌, ℕ, ◌*◌, ◌≤◌, ◌<◌, ◌^◌, true, false, List, length, All, arith, sym, ap, subst, ◌∙◌, Ok}
use Rattle.std.proofs.lemmas.Bool.{both_ways}
use Rattle.scale_base.specs.Image.{Image, image_of, contents}
use Rattle.scale_base.proofs.Laws.{contents-are}
use Rattle.elf_patch.specs.Stored.{IsStubBase}
use Rattle.loop_versions.specs.declared.pieces.Piece.{Piece}
use Rattle.loop_versions.specs.declared.pieces.Site.{Site}
use Rattle.loop_versions.specs.Fitting.{are_fit}
use Rattle.loop_versions.specs.Made.{versioned_file}
use Rattle.versioned_images.specs.Versioned.{pieces_len, IsOpen, IsVersionedBy, HasNone}
use Rattle.versioned_images.proofs.Fit.{len_is}

pub file_of_image : (file : List ℕ) (image : Image) → image_of file ≡ Ok image → image.file ≡ file
unfolding contents
file_of_image file image e = sym (ap (λ (i : Image). i.file) (contents-are file image e))

module _ (image : Image) (pieces : List Piece) (sites : List Site) where
  module _ (base : ℕ) (place : IsStubBase image (pieces_len pieces) base) where
    base_is : (made : List ℕ) (its words : ℕ) (by : IsVersionedBy image pieces sites made its words) → its ≡ base
    base_is made its words by =
        let v = by.is_versioned in
        let there = subst (λ n. IsStubBase image n its) (len_is image pieces sites its v.fit) v.place in
        let low = there.least base place.place in
        let high = place.least its there.place in
        omega (arith, low, high)

    pub far : 4294819804 ≤ base → HasNone image pieces sites
    far h = λ made its words by. let e = base_is made its words by in omega (arith, h, e)

    pub unfit : are_fit image pieces sites base ≡ false → HasNone image pieces sites
    unfit h = λ made its words by.
        let fit = subst (λ b. are_fit image pieces sites b ≡ true) (base_is made its words by) by.is_versioned.fit in
        absurd (both_ways (are_fit image pieces sites base) h fit)

    pub no_image : (file : List ℕ) → file ≡ versioned_file image base pieces sites → ((i : Image) → image_of file ≡ Ok i → ⊥) → HasNone image pieces sites
    no_image file is h = λ made its words by.
        let v = by.is_versioned in
        let there : by.versioned.file ≡ versioned_file image base pieces sites = v.made ∙ ap (λ b. versioned_file image b pieces sites) (base_is made its words by) in
        absurd (h by.versioned (ap image_of (is ∙ sym there) ∙ v.read_too))

    pub made_of : (file : List ℕ) (words : ℕ) → image_of image.file ≡ Ok image → All (λ b. b < 2 ^ 8) image.file → IsOpen image → length pieces ≤ 4096 → are_fit image pieces sites base ≡ true →
        file ≡ versioned_file image base pieces sites → 4 * words ≡ pieces_len pieces → (i : Image) → image_of file ≡ Ok i → IsVersionedBy image pieces sites file base words
    made_of file words read bytes free few fit is long i again =
        let same = file_of_image file i again in
        let len = len_is image pieces sites base fit in
        record {
          versioned = i;
          is_versioned = record {
            read = read;
            short = free.0;
            bytes = bytes;
            few = few;
            room = free.1;
            no_key = free.2;
            place = subst (λ n. IsStubBase image n base) (sym len) place;
            fit = fit;
            made = same ∙ is;
            read_too = ap image_of same ∙ again;
          };
          file = same;
          words_are = omega (arith, len, long);
        }
