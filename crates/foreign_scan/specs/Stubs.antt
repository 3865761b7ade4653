-- Scaffold: the fragments of a stub, by the edges of its instruction.
use Rattle.std.specs.Prelude.{◌≡◌, List, []}
use Rattle.scale_base.specs.declared.instruction.Instr.{Instr}
use Rattle.scale_base.specs.declared.instruction.Instr.TheVariants as instr
use Rattle.scale_base.specs.declared.edges.EdgeKind.{EdgeKind}
use Rattle.scale_base.specs.declared.edges.EdgeKind.TheVariants.{Taken, Untaken, Jump}
use Rattle.foreign_scan.specs.declared.fragment.ForeignFragment.{ForeignFragment}
use Rattle.foreign_scan.specs.declared.stub.StubFragments.{StubFragments}
use Rattle.foreign_scan.specs.declared.stub.StubFragments.TheVariants as stub

-- what a stub holds for the edge of a kind
abbrev pub fragments_of : StubFragments → EdgeKind → List ForeignFragment
fragments_of (stub.Branch untaken taken) Untaken = untaken.items
fragments_of (stub.Branch untaken taken) Taken = taken.items
fragments_of (stub.Jump fragments) Jump = fragments.items
fragments_of s kind = []

-- they are the same for each edge of the instruction
abbrev pub AreSameOn : Instr → (found others : EdgeKind → List ForeignFragment) → Type 0
AreSameOn (instr.Branch op rs1 rs2 offset) found others = (found Untaken ≡ others Untaken) × (found Taken ≡ others Taken)
AreSameOn (instr.Jal rd offset) found others = found Jump ≡ others Jump
AreSameOn i found others = Unit {0}

-- the fragments are those of a branch or of a jump, as the instruction is
abbrev pub IsOfInstr : Instr → StubFragments → Type 0
IsOfInstr (instr.Branch op rs1 rs2 offset) (stub.Branch untaken taken) = Unit {0}
IsOfInstr (instr.Jal rd offset) (stub.Jump fragments) = Unit {0}
IsOfInstr i s = ⊥
