use Rattle.std.proofs.Common.{ℕ, ◌∙◌, ap, subst, sym}
use Rattle.scale_base.specs.declared.instruction.Instr.{Instr}
use Rattle.scale_base.specs.declared.instruction.Instr.TheVariants.{Reg}
use Rattle.stack_laws.specs.Telling.{IsHanded}
use Rattle.stack_tables.specs.Tables.{told_view}
use Rattle.stack_checks.specs.Checked.{from, values_along}
use Rattle.stack_checks.proofs.telling.is_handed.Goals as goal

pub returns-then-rd-y-2 : goal.returns-then-rd-y-2
returns-then-rd-y-2 c so =
    subst (λ (i : Instr). IsHanded (values_along c.args.way.now) i (from c.args.way.now) (told_view c.args.z.now) (told_view c.args.y.now)) (sym (c.in-Reg.is ∙ ap (λ (r : ℕ). Reg c.in-Reg.op r c.in-Reg.rs1 c.in-Reg.rs2) c.if-rd-y-2.true))
    (c.is_handed_of.ensures so (values_along c.args.way.now) (from c.args.way.now))
