-- What fits, by parts: the words for which pieces stand, the jumps of sites, and the code of pieces.
use Rattle.std.proofs.Common.{◌≡◌, ℕ, ◌*◌, ◌<◌, ◌≤◌, true, List, [], ◌∷◌, length, All, arith, length-append, Some, Ok}
use Rattle.std.specs.Prelude.{◌&&◌}
use Rattle.std.proofs.lemmas.Bool.{and_parts}
use Rattle.std.proofs.lemmas.List.Elements.{All-nil, All-cons, All-append, All-weaker}
use Rattle.scale_base.specs.declared.instruction.Instr.{Instr}
use Rattle.scale_base.specs.Image.{Image, image_of, is_word_address}
use Rattle.scale_base.specs.Word.{FieldsInRange}
use Rattle.bound_laws.proofs.Laws.{loaded_small}
use Rattle.stub_writer.specs.Stubs.{jump}
use Rattle.image_lower.specs.Trees.{fits}
use Rattle.loop_versions.specs.declared.pieces.Piece.{Piece}
use Rattle.loop_versions.specs.declared.pieces.Site.{Site}
use Rattle.loop_versions.specs.Pieces.{origin_of, behind, read, piece_code, pieces_code}
use Rattle.loop_versions.specs.Fitting.{are_fit, are_right, is_right, is_site_right}
use Rattle.loop_versions.proofs.Laws.{fit_parts, right_site, code_fields, code_few, code_len, read_fields}
use Rattle.versioned_images.specs.Versioned.{pieces_len}

module _ (image : Image) (pieces : List Piece) (base : ℕ) where
  record IsFirst (place : ℕ) (p : Piece) (ps : List Piece) : Type 0 where
    word : is_word_address image (origin_of p) ≡ true
    right : is_right image pieces base place p ≡ true
    others : are_right image pieces base (behind place p) ps ≡ true

  first_of : (place : ℕ) (p : Piece) (ps : List Piece) → are_right image pieces base place (p ∷ ps) ≡ true → IsFirst place p ps
  first_of place p ps h =
      let a = and_parts (is_word_address image (origin_of p) && is_right image pieces base place p) (are_right image pieces base (behind place p) ps) h in
      let b = and_parts (is_word_address image (origin_of p)) (is_right image pieces base place p) a.0 in
      record { word = b.0; right = b.1; others = a.1 }

  right_words : (place : ℕ) (some : List Piece) → are_right image pieces base place some ≡ true → All (λ p. is_word_address image (origin_of p) ≡ true) some
  right_words place [] h = All-nil (λ p. is_word_address image (origin_of p) ≡ true)
  right_words place (p ∷ ps) h =
      let f = first_of place p ps h in
      All-cons (λ q. is_word_address image (origin_of q) ≡ true) p ps f.word (right_words (behind place p) ps f.others)

  right_fields : ((at : ℕ) (i : Instr) → read image at ≡ Some i → FieldsInRange i) → (place : ℕ) (some : List Piece) → are_right image pieces base place some ≡ true →
      All FieldsInRange (pieces_code image place some)
  right_fields text place [] h = All-nil FieldsInRange
  right_fields text place (p ∷ ps) h =
      let f = first_of place p ps h in
      All-append FieldsInRange (piece_code image place p) (pieces_code image (behind place p) ps) (code_fields image pieces base text place p f.right)
      (right_fields text (behind place p) ps f.others)

  right_len : (place : ℕ) (some : List Piece) → are_right image pieces base place some ≡ true → 4 * length (pieces_code image place some) ≡ pieces_len some
  right_len place [] h = omega arith
  right_len place (p ∷ ps) h =
      let f = first_of place p ps h in
      let one = code_len image pieces base place p f.right in
      let rest = right_len (behind place p) ps f.others in
      let both = length-append (piece_code image place p) (pieces_code image (behind place p) ps) in
      omega (arith, one, rest, both)

module _ (image : Image) (pieces : List Piece) (sites : List Site) (base : ℕ) (fit : are_fit image pieces sites base ≡ true) where
  pub words_there : All (λ p. is_word_address image (origin_of p) ≡ true) pieces
  words_there = right_words image pieces base base pieces (fit_parts image pieces sites base fit).right

  pub sites_near : All (λ (s : Site). fits (jump s.at s.to) ≡ true) sites
  sites_near =
      All-weaker (λ (s : Site). is_site_right image pieces sites base s ≡ true) (λ (s : Site). fits (jump s.at s.to) ≡ true)
      (λ s h. (right_site image pieces sites base s h).near) sites (fit_parts image pieces sites base fit).sites_right

  pub len_is : 4 * length (pieces_code image base pieces) ≡ pieces_len pieces
  len_is = right_len image pieces base base pieces (fit_parts image pieces sites base fit).right

  pub code_short : length (pieces_code image base pieces) ≤ 9 * length pieces
  code_short = code_few image pieces sites base base pieces (fit_parts image pieces sites base fit).right

  pub fields_there : (file : List ℕ) → image_of file ≡ Ok image → All (λ b. b < 256) file → All FieldsInRange (pieces_code image base pieces)
  fields_there file read small = right_fields image pieces base (read_fields image pieces base (loaded_small file image read small)) base pieces (fit_parts image pieces sites base fit).right
