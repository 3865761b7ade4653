-- The loop file of a versioned image beside that of its original, and the law that its bounds are kept.
use Rattle.std.specs.Prelude.{◌≡◌, ℕ, List, Ok}
use Rattle.scale_base.specs.Image.{Image, image_of}
use Rattle.scale_base.specs.Run.{HasExited, run_of}
use Rattle.cost_theory.specs.Reached.{Code}
use Rattle.graph_runs.specs.KeptRuns.{IsKeptUpTo}
use Rattle.loop_file.specs.declared.notes.LoopNote.{LoopNote}
use Rattle.loop_file.specs.Kept.{noted_loops}
use Rattle.loop_file.specs.Loops.{read_loops}
use Rattle.loop_versions.specs.Made.{IsVersioned}
use Rattle.loop_drafts.specs.Kept.{AreBytes}
use Rattle.version_laws.specs.Exits.{ExitsAlike}
use Rattle.copy_bounds.specs.Laws.{AreCovered}
use Rattle.versioned_images.specs.declared.versions.Version.{Version}

-- The bytes of an image and of its loop file, a version of that image, and the bytes of a loop file of the version: each of its loops has a bound that every
-- run of the version keeps, or copies a loop of the original whose bound is no greater.
pub record IsVersionFile (plain loops : List ℕ) (version : Version) (file : List ℕ) : Type 0 where
  pub image : Image
  pub versioned : Image
  pub olds : List LoopNote
  pub notes : List LoopNote
  pub code : Code
  pub is_read : image_of plain ≡ Ok image
  pub olds_are : read_loops image loops ≡ Ok olds
  pub is_versioned : IsVersioned image versioned version.pieces.items version.sites.items version.base
  pub made : versioned.file ≡ version.file.items
  pub notes_are : read_loops versioned file ≡ Ok notes
  pub covered : (levels : ℕ) (input : List ℕ) → AreBytes input →
      AreCovered versioned version.pieces.items version.sites.items version.base levels input code (noted_loops olds) (noted_loops notes)

-- Where the original exits at the end of a run that keeps its loop file, the version exits alike, at the end of a run that keeps its own.
abbrev pub VersionFilesAreKept : Type 0
VersionFilesAreKept =
    (plain loops file : List ℕ) (version : Version) (is : IsVersionFile plain loops version file) (levels : ℕ) (input : List ℕ) (n status : ℕ) →
    AreBytes input → IsKeptUpTo is.image levels input (noted_loops is.olds) n → (run_of is.image levels input n).standing ≡ HasExited status →
    (m : ℕ) × ExitsAlike is.image is.versioned version.pieces.items version.sites.items version.base status (run_of is.image levels input n)
    (run_of is.versioned levels input m) × IsKeptUpTo is.versioned levels input (noted_loops is.notes) m
