-- Scaffold: what is known of the words of nodes, and what a scan gives.
use Rattle.std.specs.Prelude.{◌≡◌, ℕ, ℤ, nat_eq, Bool, true, false, if◌then◌else◌, List, [], ◌∷◌, length, slice_get, Option, Some, None}
use Rattle.scale_base.specs.declared.instruction.Instr.{Instr}
use Rattle.scale_base.specs.declared.instruction.Instr.TheVariants as instr
use Rattle.scale_base.specs.Arith.{moved_by}
use Rattle.scale_base.specs.Image.{Image, loaded_byte}
use Rattle.scale_base.specs.Reading.{instr_of}
use Rattle.scale_base.specs.State.{word_at}
use Rattle.scale_base.specs.declared.edges.EdgeKind.{EdgeKind}
use Rattle.code_text.specs.Text.{text_of, instr_at}
use Rattle.foreign_scan.specs.declared.fragment.ForeignFragment.{ForeignFragment}
use Rattle.foreign_scan.specs.declared.site.Site.{Site}
use Rattle.foreign_scan.specs.declared.site.Site.TheVariants.{Same, Broken, Kept}
use Rattle.foreign_scan.specs.declared.stub.StubFragments.{StubFragments}
use Rattle.foreign_scan.specs.Form.{IsStub}
use Rattle.foreign_scan.specs.Scanned.{Found, is_changed}
use Rattle.foreign_scan.specs.Stubs.{fragments_of, IsOfInstr}

-- the word of a node is another jump than the original's instruction, which leads to a stub with these fragments
pub record IsKeptAt (original foreign : Image) (at : ℕ) (s : StubFragments) : Type 0 where
  pub changed : is_changed original foreign at ≡ true
  pub old_instr : Instr
  pub old : instr_at (text_of original) at ≡ Some old_instr
  pub offset : ℤ
  pub new : instr_of (word_at (loaded_byte foreign) at) ≡ Some (instr.Jal 0 offset)
  pub stub : IsStub foreign at (moved_by at offset) old_instr (fragments_of s)
  pub shape : IsOfInstr old_instr s

-- it leads to no stub
pub record IsBrokenAt (original foreign : Image) (at : ℕ) : Type 0 where
  pub changed : is_changed original foreign at ≡ true
  pub none : (old : Instr) (offset : ℤ) (others : EdgeKind → List ForeignFragment) → instr_at (text_of original) at ≡ Some old →
      instr_of (word_at (loaded_byte foreign) at) ≡ Some (instr.Jal 0 offset)
      → IsStub foreign at (moved_by at offset) old others → ⊥

abbrev pub IsSiteAt : (original foreign : Image) → ℕ → Site → Type 0
IsSiteAt original foreign at Same = is_changed original foreign at ≡ false
IsSiteAt original foreign at Broken = IsBrokenAt original foreign at
IsSiteAt original foreign at (Kept s) = IsKeptAt original foreign at s

-- by node, what is known of its word
pub record AreWordSites (original foreign : Image) (nodes : List ℕ) (sites : List Site) : Type 0 where
  pub size : length sites ≡ length nodes
  pub each : (k at : ℕ) (site : Site) → slice_get nodes k ≡ Some at → slice_get sites k ≡ Some site → IsSiteAt original foreign at site

-- ---- the fragments of edges

abbrev pub site_fragments : Option Site → EdgeKind → List ForeignFragment
site_fragments (Some (Kept s)) kind = fragments_of s kind
site_fragments o kind = []

-- what stands beside an address
abbrev pub site_beside : List ℕ → List Site → ℕ → Option Site
site_beside [] sites at = None
site_beside (u ∷ us) [] at = None
site_beside (u ∷ us) (site ∷ sites) at = if nat_eq u at then Some site else site_beside us sites at

-- the fragments of the stubs of nodes, by the address and the kind of an edge
abbrev pub found_in : List ℕ → List Site → Found
found_in nodes sites at = site_fragments (site_beside nodes sites at)

abbrev pub is_site_patched : Site → Bool
is_site_patched Same = false
is_site_patched Broken = true
is_site_patched (Kept s) = true
