-- What is told of a version that is made.
use Rattle.std.proofs.Common.{◌≡◌, ℕ, List, Some, length, sym, ap, subst, ◌∙◌}
use Rattle.std.specs.Prelude.{find, Ok, Option, None, IfSome, Vec}
use Rattle.std.specs.declared.alloc.Global.{Global}
use Rattle.scale_base.specs.Image.{Image, image_of}
use Rattle.loop_versions.specs.declared.pieces.Piece.{Piece}
use Rattle.loop_versions.specs.declared.pieces.Piece.TheVariants.{Guard}
use Rattle.loop_versions.specs.declared.pieces.Site.{Site}
use Rattle.loop_versions.specs.Pieces.{pieces_code}
use Rattle.loop_versions.specs.Made.{IsVersioned}
use Rattle.versioned_images.specs.declared.versions.Version.{Version}
use Rattle.versioned_images.specs.Versioned.{IsVersionedBy}
use Rattle.versioned_images.specs.Versions.{IsVersionOf, is_choice}

-- a version with this code, this file and so many instructions
record IsMadeBy (pieces : List Piece) (sites : List Site) (file : List ℕ) (base words : ℕ) (version : Version) : Type 0 where
  pieces_are : pieces ≡ version.pieces.items
  sites_are : sites ≡ version.sites.items
  base_is : base ≡ version.base
  file_is : version.file.items ≡ file
  words_are : version.words ≡ words

is_version : (image : Image) (pieces : List Piece) (sites : List Site) (file : List ℕ) (base words to : ℕ) (choice : Piece) (version : Version) →
    image_of image.file ≡ Ok image → IsVersionedBy image pieces sites file base words → find is_choice pieces ≡ Some choice →
    choice ≡ Guard version.header version.larger version.smaller version.limit to → IsMadeBy pieces sites file base words version → IsVersionOf image.file version
is_version image pieces sites file base words to choice version read by first is made =
    let with_pieces = subst (λ (ps : List Piece). IsVersioned image by.versioned ps sites base) made.pieces_are by.is_versioned in
    let with_sites = subst (λ (ss : List Site). IsVersioned image by.versioned version.pieces.items ss base) made.sites_are with_pieces in
    record {
      image = image;
      versioned = by.versioned;
      to = to;
      is_read = read;
      is_versioned = subst (λ b. IsVersioned image by.versioned version.pieces.items version.sites.items b) made.base_is with_sites;
      file = by.file ∙ sym made.file_is;
      guard = ap (find is_choice) (sym made.pieces_are) ∙ (first ∙ ap Some is);
      words = (made.words_are ∙ by.words_are) ∙ (ap (λ ps. length (pieces_code image base ps)) made.pieces_are ∙ ap (λ b. length (pieces_code image b version.pieces.items)) made.base_is);
    }

pub told_version : (image : Image) (pieces : List Piece) (sites : List Site) (own : Vec Piece Global) (its : Vec Site Global) (file : List ℕ) (base words : ℕ) (choice : Piece) (told : Option Version) →
    own.items ≡ pieces → its.items ≡ sites → image_of image.file ≡ Ok image → IsVersionedBy image pieces sites file base words → find is_choice pieces ≡ Some choice →
    IfSome told (λ version. (to : ℕ) × (choice ≡ Guard version.header version.larger version.smaller version.limit to)) →
    IfSome told (λ version. (version.file.items ≡ file) × (version.words ≡ words) × (version.base ≡ base)) →
    IfSome told (λ version. (version.pieces ≡ own) × (version.sites ≡ its)) → IfSome told (IsVersionOf image.file)
told_version image pieces sites own its file base words choice None same_pieces same_sites read by first is made code = tt
told_version image pieces sites own its file base words choice (Some version) same_pieces same_sites read by first is made code =
    is_version image pieces sites file base words is.0 choice version read by first is.1 (record {
      pieces_are = sym (ap (λ (ps : Vec Piece Global). ps.items) code.0 ∙ same_pieces);
      sites_are = sym (ap (λ (ss : Vec Site Global). ss.items) code.1 ∙ same_sites);
      base_is = sym made.2;
      file_is = made.0;
      words_are = made.1;
    })
