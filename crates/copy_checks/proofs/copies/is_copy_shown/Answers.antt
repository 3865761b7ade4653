use Rattle.std.proofs.Common.{ℕ, refl, sym, subst}
use Rattle.copy_checks.specs.Checked.{IsBegun, IsCase}
use Rattle.copy_checks.specs.declared.tables.CopyCase.{CopyCase}
use Rattle.copy_checks.proofs.Whole.{copies}
use Rattle.copy_checks.proofs.copies.is_copy_shown.Goals as goal

pub returns : goal.returns
returns c so m t notes olds k n of start are note few old =
    let case : CopyCase = record { graph = c.args.code.now.graph; meant = c.args.code.now.meant; note = c.args.note; header = c.in-Some.header; old = c.args.old; table = c.args.table } in
    let is : IsCase case = record {
      flow = c.node_count-nodes.ensures.graph;
      header = (c.in-Some.ensures c.in-Some.header).0 refl;
      meant = c.if-not-has_entries.ensures.meant refl;
      entries = c.if-not-has_entries.ensures.table refl;
    } in
    copies case is m t are of (subst (λ (x : ℕ). IsBegun case x) (sym start) (c.if-not-is_copied.ensures.begun refl)) (c.if-not-is_copied.ensures.edges refl) (c.if-not-is_copied.ensures.apart refl) (c.is_enough.ensures so) notes olds k n note few old
