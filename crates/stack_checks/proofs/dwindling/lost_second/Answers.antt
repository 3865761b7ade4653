use Rattle.std.proofs.Common.{◌≡◌, refl, subst}
use Rattle.scale_base.specs.declared.instruction.RegOp.{RegOp}
use Rattle.scale_base.specs.declared.instruction.Instr.TheVariants.{Reg}
use Rattle.stack_laws.specs.Digits.IsLess.{multiplied_by, multiplied_by_low, added_to}
use Rattle.stack_checks.proofs.Dwindlings.{if_some}
use Rattle.stack_checks.proofs.dwindling.lost_second.Goals as goal

pub returns-in-Mulhu : goal.returns-in-Mulhu
returns-in-Mulhu c = if_some c.product_bits.result c.product_bits.ensures (λ k so. multiplied_by c.args.other (subst (λ (o : RegOp). c.args.way.now.instr ≡ Reg o c.args.y.now.value c.args.other c.args.z.now.value) c.in-Mulhu.is c.requires.instruction) so)

pub returns-then-are_low : goal.returns-then-are_low
returns-then-are_low c = if_some c.product_bits-then-are_low.result c.product_bits-then-are_low.ensures (λ k so. multiplied_by_low c.args.other (subst (λ (o : RegOp). c.args.way.now.instr ≡ Reg o c.args.y.now.value c.args.other c.args.z.now.value) c.in-Mulh.is c.requires.instruction) (c.are_low.ensures.first c.if-are_low.true) (c.are_low.ensures.second c.if-are_low.true) so)

pub returns-then-is_zero : goal.returns-then-is_zero
returns-then-is_zero c = added_to c.args.other (subst (λ (o : RegOp). c.args.way.now.instr ≡ Reg o c.args.y.now.value c.args.other c.args.z.now.value) c.in-Add.is c.requires.instruction) (c.is_zero.ensures c.if-is_zero.true) refl
