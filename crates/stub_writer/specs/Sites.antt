-- Scaffold: a marked instruction as a place with its ways.
use Rattle.std.specs.Prelude.{◌≡◌, ℕ, ◌≤◌, ◌==◌, List, [], ◌∷◌, length, if◌then◌else◌}
use Rattle.std.specs.List.{All}
use Rattle.scale_base.specs.declared.instruction.Instr.{Instr}
use Rattle.scale_base.specs.declared.instruction.Instr.TheVariants.{Jal, Branch}
use Rattle.scale_base.specs.Arith.{moved_by, plus}
use Rattle.scale_base.specs.Word.{FieldsInRange}
use Rattle.scale_base.specs.declared.fragments.Fragment.{Fragment}
use Rattle.scale_base.specs.declared.edges.EdgeKind.{EdgeKind}
use Rattle.scale_base.specs.declared.edges.EdgeKind.TheVariants as kinds
use Rattle.stub_writer.specs.declared.site.StubEdge.{StubEdge}
use Rattle.stub_writer.specs.declared.site.StubSite.{StubSite}
use Rattle.stub_writer.specs.Fragments.{IsFragment}
use Rattle.stub_writer.specs.Stubs.{Site, Way, Place, Forked, Straight}

abbrev pub kind_number : EdgeKind → ℕ
kind_number kinds.Taken = 0
kind_number kinds.Untaken = 1
kind_number kinds.Jump = 2
kind_number kinds.Next = 3
kind_number kinds.CallNext = 4
kind_number kinds.End = 5

-- the fragments of the first edge of the kind; none where it isn't marked
abbrev pub fragments_by : (kind : ℕ) → List StubEdge → List Fragment
fragments_by kind [] = []
fragments_by kind (e ∷ es) = if kind_number e.edge.kind == kind then e.fragments else fragments_by kind es

abbrev pub way_by : (kind to : ℕ) → List StubEdge → Way
way_by kind to edges = record { to = to; fragments = fragments_by kind edges }

abbrev pub place_of : ℕ → Instr → List StubEdge → Place
place_of at (Branch op rs1 rs2 offset) edges =
    Forked op rs1 rs2 (way_by 1 (plus at 4) edges) (way_by 0 (moved_by at offset) edges)
place_of at (Jal rd offset) edges = Straight (way_by 2 (moved_by at offset) edges)
place_of at i edges = Straight (record { to = at; fragments = [] })

abbrev pub site_of : StubSite → Site
site_of s = record { at = s.at; place = place_of s.at s.instr s.edges }

abbrev pub IsSitesInstr : Instr → Type 0
IsSitesInstr (Branch op rs1 rs2 offset) = FieldsInRange (Branch op rs1 rs2 offset)
IsSitesInstr (Jal rd offset) = (rd ≡ 0) × FieldsInRange (Jal rd offset)
IsSitesInstr i = ⊥

abbrev pub IsEdge : StubEdge → Type 0
IsEdge e = (length e.fragments ≤ 17) × All IsFragment e.fragments

abbrev pub IsSite : StubSite → Type 0
IsSite s = IsSitesInstr s.instr × (length s.edges ≤ 2) × All IsEdge s.edges
