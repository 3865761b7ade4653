-- Scaffold: what a scan answers.
use Rattle.std.specs.Prelude.{◌≡◌, ℕ, length, slice_get, Some, None}
use Rattle.scale_base.specs.declared.edges.Edge.{Edge}
use Rattle.cost_theory.specs.Graph.{Loops}
use Rattle.cost_theory.specs.Reached.{Code}
use Rattle.scale_base.specs.Image.{Image}
use Rattle.foreign_scan.specs.declared.list_scan.Scanned.{Scanned}
use Rattle.foreign_scan.specs.declared.list_scan.Scanned.TheVariants.{Found as IsFound, Fails}
use Rattle.foreign_scan.specs.Scanned.{Found, is_changed, IsScanned, IsFirstWhy, IsLaidAlike, IsOddByte, IsChanged, IsPatch}
use Rattle.foreign_scan.specs.Shown.{ScannedSites}

-- what is found, by node and by edge
pub record IsShownBy (original foreign : Image) (code : Code) (found : Found) (s : ScannedSites) : Type 0 where
  pub nodes : length s.patched ≡ length code.nodes
  pub edges : length s.fragments ≡ length code.edges
  pub patched : (k at : ℕ) → slice_get code.nodes k ≡ Some at → slice_get s.patched k ≡ Some (is_changed original foreign at)
  pub fragments : (e : ℕ) (edge : Edge) → slice_get code.edges e ≡ Some edge → slice_get s.fragments e ≡ Some (found edge.at edge.kind)

-- What is found, where none of the causes holds; or the first of them that holds.
abbrev pub IsScanOf : (original foreign : Image) → Code → Loops → Scanned → Type 0
IsScanOf original foreign code l (IsFound s) = (found : Found) × IsScanned original foreign code l found ×
    IsShownBy original foreign code found s
IsScanOf original foreign code l (Fails why) = IsFirstWhy original foreign code l why

-- none of the causes that come before those of stubs
pub record IsPatchedWell (original foreign : Image) (code : Code) : Type 0 where
  pub key : foreign.keyed_segment ≡ None → ⊥
  pub layout : IsLaidAlike original foreign
  pub bytes : (a : ℕ) → IsOddByte original foreign a → ⊥
  pub patches : (at : ℕ) → IsChanged original foreign at → IsPatch original foreign code at
