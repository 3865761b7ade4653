use Rattle.std.proofs.Common.{◌≡◌, ◌∙◌, ap, sym, subst, w32, of_z, to_z, rules, List}
use Rattle.std.specs.Prelude.{FitsSigned, IfOk, IfSome, IfNone}
use Rattle.std.proofs.lemmas.Int.{to_z-of_z}
use Rattle.scale_base.specs.declared.instruction.Instr.TheVariants.{Branch, Jal}
use Rattle.scale_base.specs.declared.edges.EdgeKind.{EdgeKind}
use Rattle.foreign_scan.specs.declared.fragment.ForeignFragment.{ForeignFragment}
use Rattle.foreign_scan.specs.Form.{IsStub}
use Rattle.foreign_scan.specs.Stubs.{fragments_of, AreSameOn, IsOfInstr}
use Rattle.foreign_scan.proofs.stub.read_stub.Goals as goal

pub returns-in-Branch : goal.returns-in-Branch
returns-in-Branch c =
    let f : FitsSigned w32 c.in-Branch.offset = search rules in
    let same : Branch c.in-Branch.op c.in-Branch.rs1 c.in-Branch.rs2 (to_z w32 (of_z w32 c.in-Branch.offset)) ≡ c.args.instr.now = ap (Branch c.in-Branch.op c.in-Branch.rs1 c.in-Branch.rs2) (to_z-of_z w32 c.in-Branch.offset f) ∙ sym c.in-Branch.is in
    let key = c.args.key.now in
    let at = c.args.at in
    let stub = c.args.stub in
    record {
      found = subst (λ i. IfOk c.read_fork.result (λ o. IfSome o (λ s. IsStub key at stub i (fragments_of s)))) same c.read_fork.ensures.found;
      only = subst (λ i. IfOk c.read_fork.result (λ o. IfSome o (λ s. (others : EdgeKind → List ForeignFragment) → IsStub key at stub i others → AreSameOn i others (fragments_of s)))) same c.read_fork.ensures.only;
      none = subst (λ i. IfOk c.read_fork.result (λ o. IfNone o ((others : EdgeKind → List ForeignFragment) → IsStub key at stub i others → ⊥))) same c.read_fork.ensures.none;
      shape = subst (λ i. IfOk c.read_fork.result (λ o. IfSome o (λ s. IsOfInstr i s))) same c.read_fork.ensures.shape;
    }

pub returns-in-Jal : goal.returns-in-Jal
returns-in-Jal c =
    let f : FitsSigned w32 c.in-Jal.offset = search rules in
    let same : Jal c.in-Jal.rd (to_z w32 (of_z w32 c.in-Jal.offset)) ≡ c.args.instr.now = ap (Jal c.in-Jal.rd) (to_z-of_z w32 c.in-Jal.offset f) ∙ sym c.in-Jal.is in
    let key = c.args.key.now in
    let at = c.args.at in
    let stub = c.args.stub in
    record {
      found = subst (λ i. IfOk c.read_jump.result (λ o. IfSome o (λ s. IsStub key at stub i (fragments_of s)))) same c.read_jump.ensures.found;
      only = subst (λ i. IfOk c.read_jump.result (λ o. IfSome o (λ s. (others : EdgeKind → List ForeignFragment) → IsStub key at stub i others → AreSameOn i others (fragments_of s)))) same c.read_jump.ensures.only;
      none = subst (λ i. IfOk c.read_jump.result (λ o. IfNone o ((others : EdgeKind → List ForeignFragment) → IsStub key at stub i others → ⊥))) same c.read_jump.ensures.none;
      shape = subst (λ i. IfOk c.read_jump.result (λ o. IfSome o (λ s. IsOfInstr i s))) same c.read_jump.ensures.shape;
    }
