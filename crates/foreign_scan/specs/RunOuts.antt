-- Scaffold: fragments one after another.
use Rattle.std.specs.Prelude.{◌⊎◌, ℕ, ◌≤◌, List, length, All}
use Rattle.std.specs.List.{flat_map}
use Rattle.scale_base.specs.Image.{Image}
use Rattle.foreign_scan.specs.declared.fragment.ForeignFragment.{ForeignFragment}
use Rattle.foreign_scan.specs.Form.{Hold, IsForeign, foreign_code, behind_fragments}
use Rattle.foreign_scan.specs.KeyWords.{FragmentStandsAt}

-- at most 64 fragments stand one after another from an address on
pub record AreAt (image : Image) (at : ℕ) (fs : List ForeignFragment) : Type 0 where
  pub few : length fs ≤ 64
  pub foreign : All IsForeign fs
  pub code : Hold image at (flat_map foreign_code fs)

-- there are 64 of them, or no fragment stands behind them
abbrev pub IsWhole : Image → ℕ → List ForeignFragment → Type 0
IsWhole image at fs = (64 ≤ length fs) ⊎ ((f : ForeignFragment) → FragmentStandsAt image (behind_fragments at fs) f → ⊥)
