use Rattle.std.proofs.Common.{◌≡◌, ◌∙◌, ap, refl, subst, sym}
use Rattle.std.specs.Int.{w32}
use Rattle.std.proofs.lemmas.Int.{to_z-of_z}
use Rattle.scale_base.specs.Arith.{unsigned}
use Rattle.scale_base.specs.declared.instruction.ImmOp.{ImmOp}
use Rattle.scale_base.specs.declared.instruction.Instr.TheVariants.{Imm}
use Rattle.stack_laws.specs.Digits.IsLess.{copied, shifted, shifted_low}
use Rattle.stack_checks.proofs.Dwindlings.{if_some}
use Rattle.stack_checks.proofs.dwindling.lost_with.Goals as goal

pub returns-then-is_nothing : goal.returns-then-is_nothing
returns-then-is_nothing c = copied c.args.n (subst (λ (o : ImmOp). c.args.way.now.instr ≡ Imm o c.args.y.now.value c.args.z.now.value c.args.n) c.in-Addi.is c.requires.instruction) (ap unsigned (sym (to_z-of_z w32 c.args.n c.ranges.n)) ∙ c.is_nothing.ensures c.if-is_nothing.true) refl

pub returns-in-Srli : goal.returns-in-Srli
returns-in-Srli c = if_some c.shift.result c.shift.ensures (λ k so. shifted c.args.n (subst (λ (o : ImmOp). c.args.way.now.instr ≡ Imm o c.args.y.now.value c.args.z.now.value c.args.n) c.in-Srli.is c.requires.instruction) (ap unsigned (sym (to_z-of_z w32 c.args.n c.ranges.n)) ∙ so.0) so.1)

pub returns-then-is_low : goal.returns-then-is_low
returns-then-is_low c = if_some c.shift-then-is_low.result c.shift-then-is_low.ensures (λ k so. shifted_low c.args.n (subst (λ (o : ImmOp). c.args.way.now.instr ≡ Imm o c.args.y.now.value c.args.z.now.value c.args.n) c.in-Srai.is c.requires.instruction) (ap unsigned (sym (to_z-of_z w32 c.args.n c.ranges.n)) ∙ so.0) so.1 (c.is_low.ensures c.if-is_low.true))
