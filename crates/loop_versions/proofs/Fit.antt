-- What the test of pieces and sites says, part by part.
use Rattle.std.proofs.Common.{◌≡◌, ℕ, ◌<◌, Bool, true, List, [], ◌∷◌, length}
use Rattle.std.specs.Prelude.{◌==◌, ◌&&◌, not, nat_lt, All, count_by}
use Rattle.std.specs.List.{list_all}
use Rattle.std.proofs.lemmas.Bool.{and_parts, eqb-true, ltb-true}
use Rattle.std.proofs.lemmas.List.Elements.{All-nil, All-cons}
use Rattle.scale_base.specs.Image.{Image, is_word_address}
use Rattle.stub_writer.specs.Stubs.{jump}
use Rattle.image_lower.specs.FarJumps.{is_in_table}
use Rattle.image_lower.specs.Trees.{fits}
use Rattle.loop_versions.specs.declared.pieces.Piece.{Piece}
use Rattle.loop_versions.specs.declared.pieces.Site.{Site}
use Rattle.loop_versions.specs.Fitting.{origin, begins, calls_at, stays_in, stands_for, are_right, is_free, are_free, are_there, is_site_right, are_fit, ways}

pub each_passes : {A : Type 0} (p : A → Bool) (xs : List A) → list_all p xs ≡ true → All (λ x. p x ≡ true) xs
each_passes p [] e = All-nil (λ x. p x ≡ true)
each_passes p (x ∷ xs) e = let a = and_parts (p x) (list_all p xs) e in All-cons (λ x. p x ≡ true) x xs a.0 (each_passes p xs a.1)

-- what fits, part by part
pub record AreFit (image : Image) (pieces : List Piece) (sites : List Site) (base : ℕ) : Type 0 where
  pub entry : is_word_address image image.entry ≡ true
  pub some : 0 < length pieces
  pub right : are_right image pieces base base pieces ≡ true
  pub sites_right : All (λ (s : Site). is_site_right image pieces sites base s ≡ true) sites
  pub free : are_free pieces sites base base pieces ≡ true
  pub sites_free : All (λ (s : Site). is_free (ways pieces sites base) 8 s.at ≡ true) sites

pub fit_parts : (image : Image) (pieces : List Piece) (sites : List Site) (base : ℕ) → are_fit image pieces sites base ≡ true → AreFit image pieces sites base
unfolding are_fit
fit_parts image pieces sites base h =
    let free_sites = list_all (λ (s : Site). is_free (ways pieces sites base) 8 s.at) sites in
    let right = are_right image pieces base base pieces in
    let each = list_all (is_site_right image pieces sites base) sites in
    let a = and_parts (are_there image pieces && right && each && are_free pieces sites base base pieces) free_sites h in
    let b = and_parts (are_there image pieces && right && each) (are_free pieces sites base base pieces) a.0 in
    let c = and_parts (are_there image pieces && right) each b.0 in
    let d = and_parts (are_there image pieces) right c.0 in
    let e = and_parts (is_word_address image image.entry) (nat_lt 0 (length pieces)) d.0 in
    record {
      entry = e.0;
      some = ltb-true 0 (length pieces) e.1;
      right = d.1;
      sites_right = each_passes (is_site_right image pieces sites base) sites c.1;
      free = b.1;
      sites_free = each_passes (λ (s : Site). is_free (ways pieces sites base) 8 s.at) sites a.1;
    }

pub record IsRightSite (image : Image) (pieces : List Piece) (sites : List Site) (base : ℕ) (s : Site) : Type 0 where
  pub word : is_word_address image s.at ≡ true
  pub once : count_by (λ (o : Site). o.at == s.at) sites ≡ 1
  pub there : origin pieces base s.to ≡ s.at
  pub calls : begins (calls_at pieces base s.to) (calls_at pieces base s.at) ≡ true
  pub near : fits (jump s.at s.to) ≡ true

pub right_site : (image : Image) (pieces : List Piece) (sites : List Site) (base : ℕ) (s : Site) → is_site_right image pieces sites base s ≡ true → IsRightSite image pieces sites base s
right_site image pieces sites base s h =
    let count = count_by (λ (o : Site). o.at == s.at) sites in
    let z = and_parts (is_word_address image s.at && not (is_in_table image.file s.at) && (count == 1) && stands_for pieces base s.to s.at && stays_in pieces base s.at s.to) (fits (jump s.at s.to)) h in
    let a = and_parts (is_word_address image s.at && not (is_in_table image.file s.at) && (count == 1) && stands_for pieces base s.to s.at) (stays_in pieces base s.at s.to) z.0 in
    let b = and_parts (is_word_address image s.at && not (is_in_table image.file s.at) && (count == 1)) (stands_for pieces base s.to s.at) a.0 in
    let c = and_parts (is_word_address image s.at && not (is_in_table image.file s.at)) (count == 1) b.0 in
    let d = and_parts (is_word_address image s.at) (not (is_in_table image.file s.at)) c.0 in
    record { word = d.0; once = eqb-true count 1 c.1; there = eqb-true (origin pieces base s.to) s.at b.1; calls = a.1; near = z.1 }
