-- Scaffold: the laws that what a scan finds is determined, and which of its causes holds first, as statements for the contract of a function.
use Rattle.std.specs.Prelude.{◌≡◌, ℕ}
use Rattle.scale_base.specs.declared.edges.EdgeKind.{EdgeKind}
use Rattle.scale_base.specs.Image.{Image}
use Rattle.cost_theory.specs.Graph.{Loops}
use Rattle.cost_theory.specs.Reached.{Code}
use Rattle.code_text.specs.Text.{text_of}
use Rattle.code_text.specs.TextGraph.{IsReachedCode}
use Rattle.scale_base.specs.declared.verdict.Why.{Why}
use Rattle.foreign_scan.specs.Scanned.{Found, IsScanned, IsFirstWhy}

-- where none of the causes holds, none holds first,
abbrev pub ScanIsNotRefused : Type 0
ScanIsNotRefused = (original foreign : Image) (code : Code) (l : Loops) (found : Found) (why : Why) →
    IsReachedCode (text_of original) code → IsScanned original foreign code l found → IsFirstWhy original foreign code l why → ⊥

-- two that hold first are one,
abbrev pub CausesAgree : Type 0
CausesAgree = (original foreign : Image) (code : Code) (l : Loops) (why why' : Why) → IsReachedCode (text_of original) code →
    IsFirstWhy original foreign code l why → IsFirstWhy original foreign code l why' → why ≡ why'

-- and one edge has the same fragments, however they are found.
abbrev pub FoundAgree : Type 0
FoundAgree = (original foreign : Image) (code : Code) (l : Loops) (found found' : Found) → IsReachedCode (text_of original) code →
    IsScanned original foreign code l found → IsScanned original foreign code l found' → (at : ℕ) (kind : EdgeKind) →
    found at kind ≡ found' at kind
