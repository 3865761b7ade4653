use Rattle.std.proofs.Common.{◌≡◌, ◌∙◌, ap, sym, subst, Some, w32, rules}
use Rattle.std.specs.Prelude.{FitsSigned}
use Rattle.std.proofs.lemmas.Int.{to_z-of_z}
use Rattle.scale_base.specs.declared.instruction.Instr.TheVariants.{Branch}
use Rattle.foreign_scan.specs.Form.{HoldsAt}
use Rattle.foreign_scan.specs.Parts.{branch_offset_of}
use Rattle.foreign_scan.proofs.ReadLaws.{same_some}
use Rattle.foreign_scan.proofs.stub.branch_again.Goals as goal

pub returns-in-None : goal.returns-in-None
returns-in-None c =
    λ offset. (λ e. absurd cc, λ h. absurd (let q = sym c.in-None.is ∙ (c.branch_offset.ensures ∙ ap branch_offset_of ((c.instr.ensures (Branch c.args.op c.args.rs1 c.args.rs2 offset)).1 h)) in cc))

pub returns-else-holds_at : goal.returns-else-holds_at
returns-else-holds_at c =
    λ offset. (
      λ e. absurd cc,
      λ h. absurd (
          let f : FitsSigned w32 c.in-Some.offset = search rules in
          let again = Branch c.args.op c.args.rs1 c.args.rs2 in
          let same : c.in-Some.offset ≡ offset = same_some c.in-Some.offset offset (sym c.in-Some.is ∙ (c.branch_offset.ensures ∙ ap branch_offset_of ((c.instr.ensures (again offset)).1 h))) in
          let there = c.branch-op.ensures ∙ (ap again (to_z-of_z w32 c.in-Some.offset f) ∙ ap again same) in
          let yes = c.holds_at.ensures.1 (subst (HoldsAt c.args.key.now c.args.at) (sym there) h) in
          cc),
    )

pub returns-then-holds_at : goal.returns-then-holds_at
returns-then-holds_at c =
    λ offset.
    let f : FitsSigned w32 c.in-Some.offset = search rules in
    let again = Branch c.args.op c.args.rs1 c.args.rs2 in
    let kept = to_z-of_z w32 c.in-Some.offset f in (
      λ s. subst (HoldsAt c.args.key.now c.args.at) (c.branch-op.ensures ∙ ap again (same_some _ offset s)) (c.holds_at.ensures.0 c.if-holds_at.true),
      λ h. let same : c.in-Some.offset ≡ offset = same_some c.in-Some.offset offset (sym c.in-Some.is ∙ (c.branch_offset.ensures ∙ ap branch_offset_of ((c.instr.ensures (again offset)).1 h))) in
          ap Some (kept ∙ same),
    )
