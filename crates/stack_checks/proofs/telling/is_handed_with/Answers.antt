use Rattle.std.proofs.Common.{◌≡◌, ◌∙◌, ap, subst, sym}
use Rattle.std.specs.Int.{w32}
use Rattle.std.proofs.lemmas.Int.{to_z-of_z}
use Rattle.scale_base.specs.Arith.{unsigned}
use Rattle.scale_base.specs.declared.instruction.ImmOp.{ImmOp}
use Rattle.scale_base.specs.declared.instruction.Instr.TheVariants.{Imm}
use Rattle.stack_laws.specs.Telling.IsHanded.{copied, is_zero, turned, masked}
use Rattle.stack_checks.proofs.telling.is_handed_with.Goals as goal

pub returns-then-is_same_by : goal.returns-then-is_same_by
returns-then-is_same_by c so = copied c.args.n
    (subst (λ (o : ImmOp). c.args.way.now.instr ≡ Imm o c.args.y.now.teller c.args.z.now.teller c.args.n) c.in-Addi.is c.requires.instruction)
    (ap unsigned (sym (to_z-of_z w32 c.args.n c.ranges.n)) ∙ c.is_same_by.ensures.number c.if-is_same_by.true) (c.is_word.ensures so) (c.is_same_by.ensures.kind c.if-is_same_by.true)

pub returns-in-Sltiu : goal.returns-in-Sltiu
returns-in-Sltiu c so = is_zero c.args.n
    (subst (λ (o : ImmOp). c.args.way.now.instr ≡ Imm o c.args.y.now.teller c.args.z.now.teller c.args.n) c.in-Sltiu.is c.requires.instruction)
    (ap unsigned (sym (to_z-of_z w32 c.args.n c.ranges.n)) ∙ c.is_turned_by.ensures.number so) (c.is_turned_by.ensures.kind so)

pub returns-then-is_turned_by : goal.returns-then-is_turned_by
returns-then-is_turned_by c so = turned c.args.n
    (subst (λ (o : ImmOp). c.args.way.now.instr ≡ Imm o c.args.y.now.teller c.args.z.now.teller c.args.n) c.in-Xori.is c.requires.instruction)
    (ap unsigned (sym (to_z-of_z w32 c.args.n c.ranges.n)) ∙ c.is_turned_by-in-Xori.ensures.number c.if-is_turned_by.true) (c.is_truth.ensures so) (c.is_turned_by-in-Xori.ensures.kind c.if-is_turned_by.true)

pub returns-in-Andi : goal.returns-in-Andi
returns-in-Andi c so = masked c.args.n
    (subst (λ (o : ImmOp). c.args.way.now.instr ≡ Imm o c.args.y.now.teller c.args.z.now.teller c.args.n) c.in-Andi.is c.requires.instruction)
    (c.are_both.ensures.z so) (c.are_both.ensures.y so)
