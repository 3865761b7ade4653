use Rattle.std.proofs.Common.{◌≡◌, refl, subst}
use Rattle.scale_base.specs.declared.instruction.RegOp.{RegOp}
use Rattle.scale_base.specs.declared.instruction.Instr.TheVariants.{Reg}
use Rattle.stack_laws.specs.Digits.IsLess.{divided, divided_low, multiplied, multiplied_low, added, subtracted}
use Rattle.stack_checks.proofs.Dwindlings.{if_some}
use Rattle.stack_checks.proofs.dwindling.lost_first.Goals as goal

pub returns-in-Divu : goal.returns-in-Divu
returns-in-Divu c = if_some c.quotient_bits.result c.quotient_bits.ensures (λ k so. divided c.args.other (subst (λ (o : RegOp). c.args.way.now.instr ≡ Reg o c.args.y.now.value c.args.z.now.value c.args.other) c.in-Divu.is c.requires.instruction) so)

pub returns-then-are_low : goal.returns-then-are_low
returns-then-are_low c = if_some c.quotient_bits-then-are_low.result c.quotient_bits-then-are_low.ensures (λ k so. divided_low c.args.other (subst (λ (o : RegOp). c.args.way.now.instr ≡ Reg o c.args.y.now.value c.args.z.now.value c.args.other) c.in-Div.is c.requires.instruction) (c.are_low.ensures.first c.if-are_low.true) (c.are_low.ensures.second c.if-are_low.true) so)

pub returns-in-Mulhu : goal.returns-in-Mulhu
returns-in-Mulhu c = if_some c.product_bits.result c.product_bits.ensures (λ k so. multiplied c.args.other (subst (λ (o : RegOp). c.args.way.now.instr ≡ Reg o c.args.y.now.value c.args.z.now.value c.args.other) c.in-Mulhu.is c.requires.instruction) so)

pub returns-then-are_low-2 : goal.returns-then-are_low-2
returns-then-are_low-2 c = if_some c.product_bits-then-are_low-2.result c.product_bits-then-are_low-2.ensures (λ k so. multiplied_low c.args.other (subst (λ (o : RegOp). c.args.way.now.instr ≡ Reg o c.args.y.now.value c.args.z.now.value c.args.other) c.in-Mulh.is c.requires.instruction) (c.are_low-in-Mulh.ensures.first c.if-are_low-2.true) (c.are_low-in-Mulh.ensures.second c.if-are_low-2.true) so)

pub returns-then-is_zero : goal.returns-then-is_zero
returns-then-is_zero c = added c.args.other (subst (λ (o : RegOp). c.args.way.now.instr ≡ Reg o c.args.y.now.value c.args.z.now.value c.args.other) c.in-Add.is c.requires.instruction) (c.is_zero.ensures c.if-is_zero.true) refl

pub returns-then-is_zero-2 : goal.returns-then-is_zero-2
returns-then-is_zero-2 c = subtracted c.args.other (subst (λ (o : RegOp). c.args.way.now.instr ≡ Reg o c.args.y.now.value c.args.z.now.value c.args.other) c.in-Sub.is c.requires.instruction) (c.is_zero-in-Sub.ensures c.if-is_zero-2.true) refl
