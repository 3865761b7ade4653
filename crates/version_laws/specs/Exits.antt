-- Runs that exit: those of the original go to no address of the pieces, so the versioned image exits, too.
use Rattle.std.specs.Prelude.{◌≡◌, ℕ, ◌^◌, ◌<◌, not, List, map, filter, All}
use Rattle.scale_base.specs.declared.stepping.Stepped.{Stepped}
use Rattle.scale_base.specs.Image.{Image}
use Rattle.scale_base.specs.Run.{Run, HasExited, run_of}
use Rattle.loop_versions.specs.declared.pieces.Piece.{Piece}
use Rattle.loop_versions.specs.declared.pieces.Site.{Site}
use Rattle.loop_versions.specs.Made.{IsVersioned}
use Rattle.loop_versions.specs.Follows.{StaysOutside, GoesBack, is_extra_step}

-- A run of the original that exits stays outside the block.
abbrev pub ExitedRunsStayOutside : Type 0
ExitedRunsStayOutside =
    (image versioned : Image) (pieces : List Piece) (sites : List Site) (base levels : ℕ) (input : List ℕ) (n status : ℕ) →
    IsVersioned image versioned pieces sites base → (run_of image levels input n).standing ≡ HasExited status →
    StaysOutside image versioned pieces sites base levels input n

-- The versioned run exits as the original: with the same status and output. Without the steps at sites, bridges and guards its steps are
-- of the same classes.
pub record ExitsAlike (image versioned : Image) (pieces : List Piece) (sites : List Site) (base status : ℕ) (raw own : Run) : Type 0 where
  pub standing : own.standing ≡ HasExited status
  pub output : own.state.output ≡ raw.state.output
  pub classes : map (λ (x : Stepped). x.class) (filter (λ x. not (is_extra_step image versioned pieces sites base x)) own.steps) ≡
      map (λ (x : Stepped). x.class) raw.steps

-- Where the original exits, and goes back where calls are inlined, so does the versioned image, at some number of its own steps.
abbrev pub VersionedRunsExit : Type 0
VersionedRunsExit =
    (image versioned : Image) (pieces : List Piece) (sites : List Site) (base levels : ℕ) (input : List ℕ) (n status : ℕ) →
    IsVersioned image versioned pieces sites base → All (λ b. b < 2 ^ 8) input →
    GoesBack image versioned pieces sites base levels input n →
    (run_of image levels input n).standing ≡ HasExited status →
    (m : ℕ) × ExitsAlike image versioned pieces sites base status (run_of image levels input n) (run_of versioned levels input m)
