-- The numbers of the fragments of stubs fit.
use Rattle.std.proofs.Common.{ℕ}
use Rattle.std.specs.Prelude.{All}
use Rattle.std.proofs.lemmas.List.Elements.{All-nil}
use Rattle.scale_base.specs.declared.edges.EdgeKind.{EdgeKind}
use Rattle.scale_base.specs.declared.edges.EdgeKind.TheVariants.{Taken, Untaken, Jump, Next, CallNext, End}
use Rattle.scale_base.specs.declared.instruction.Instr.{Instr}
use Rattle.scale_base.specs.declared.instruction.Instr.TheVariants as instr
use Rattle.scale_base.specs.Image.{Image}
use Rattle.foreign_scan.specs.declared.stub.StubFragments.{StubFragments}
use Rattle.foreign_scan.specs.declared.stub.StubFragments.TheVariants as stub
use Rattle.foreign_scan.specs.Form.{IsForeign, IsStub}
use Rattle.foreign_scan.specs.Rows.{StubIsForeign}
use Rattle.foreign_scan.specs.Stubs.{fragments_of, IsOfInstr}

-- the numbers of its fragments fit
pub stub_foreign : (image : Image) (at to : ℕ) (i : Instr) (s : StubFragments) → IsOfInstr i s → IsStub image at to i (fragments_of s) → StubIsForeign s
stub_foreign image at to (instr.Branch op rs1 rs2 z) (stub.Branch untaken taken) h is = (is.passed.foreign, is.taken.foreign)
stub_foreign image at to (instr.Jal rd z) (stub.Jump fragments) h is = is.foreign
stub_foreign image at to i s h is = absurd h

pub kind_foreign : (s : StubFragments) (kind : EdgeKind) → StubIsForeign s → All IsForeign (fragments_of s kind)
kind_foreign (stub.Branch untaken taken) Untaken h = h.0
kind_foreign (stub.Branch untaken taken) Taken h = h.1
kind_foreign (stub.Branch untaken taken) Jump h = All-nil IsForeign
kind_foreign (stub.Branch untaken taken) Next h = All-nil IsForeign
kind_foreign (stub.Branch untaken taken) CallNext h = All-nil IsForeign
kind_foreign (stub.Branch untaken taken) End h = All-nil IsForeign
kind_foreign (stub.Jump fragments) Jump h = h
kind_foreign (stub.Jump fragments) Untaken h = All-nil IsForeign
kind_foreign (stub.Jump fragments) Taken h = All-nil IsForeign
kind_foreign (stub.Jump fragments) Next h = All-nil IsForeign
kind_foreign (stub.Jump fragments) CallNext h = All-nil IsForeign
kind_foreign (stub.Jump fragments) End h = All-nil IsForeign
