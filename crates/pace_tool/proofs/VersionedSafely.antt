-- A versioned image of a file follows it.
use Rattle.std.proofs.Common.{◌≡◌, ℕ, List, sym, ap, subst}
use Rattle.std.specs.Prelude.{Ok}
use Rattle.scale_base.specs.Image.{Image, contents, image_of}
use Rattle.scale_base.proofs.Laws.{contents-are}
use Rattle.loop_drafts.specs.Kept.{AreBytes}
use Rattle.loop_drafts.proofs.Laws.{nothing_trusted, returns_go_back}
use Rattle.loop_versions.specs.declared.pieces.Piece.{Piece}
use Rattle.loop_versions.specs.declared.pieces.Site.{Site}
use Rattle.loop_versions.specs.Made.{IsVersioned}
use Rattle.version_laws.proofs.Laws.{versioned_runs_exit, versioned_runs_follow}
use Rattle.pace_tool.specs.Promise.{IsVersionedSafely}

pub read_file : (file : List ℕ) (image : Image) → image_of file ≡ Ok image → image.file ≡ file
unfolding contents
read_file file image is = sym (ap (λ (i : Image). i.file) (contents-are file image is))

pub versioned_safely : (plain tried : List ℕ) (image versioned : Image) (pieces : List Piece) (sites : List Site) (base : ℕ) → image_of plain ≡ Ok image → IsVersioned image versioned pieces sites base →
    versioned.file ≡ tried → IsVersionedSafely plain tried
versioned_safely plain tried image versioned pieces sites base read is file = record {
  image = image;
  versioned = versioned;
  pieces = pieces;
  sites = sites;
  base = base;
  is_read = read;
  is_versioned = is;
  file = file;
  exits = λ levels input n status bytes back exited. versioned_runs_exit image versioned pieces sites base levels input n status is bytes back exited;
  follows = λ levels input n bytes outside back. versioned_runs_follow image versioned pieces sites base levels input n is bytes outside back;
  goes_back = λ limit draft drafted none proved levels input n bytes has.
      let own = subst AreBytes (read_file plain image read) is.bytes in
      let back = returns_go_back plain limit draft image levels input n own bytes drafted read proved (nothing_trusted image draft.trust levels input n none) in
      (back.0, back.1);
}
