use Rattle.std.proofs.Common.{◌≡◌, ◌∙◌, ap, subst, sym}
use Rattle.std.specs.Int.{w32}
use Rattle.std.proofs.lemmas.Int.{to_z-of_z}
use Rattle.scale_base.specs.Arith.{unsigned}
use Rattle.scale_base.specs.declared.instruction.ImmOp.{ImmOp}
use Rattle.scale_base.specs.declared.instruction.Instr.TheVariants.{Imm}
use Rattle.stack_laws.specs.Digits.IsCounted.{raised}
use Rattle.stack_checks.proofs.dwindling.more_with.Goals as goal

pub returns-in-Addi : goal.returns-in-Addi
returns-in-Addi c =
    let number : c.cast_unsigned.result ≡ unsigned c.args.n = c.cast_unsigned.ensures ∙ ap unsigned (to_z-of_z w32 c.args.n c.ranges.n) in
    raised c.args.n (subst (λ (o : ImmOp). c.args.way.now.instr ≡ Imm o c.args.y.now.count c.args.z.now.count c.args.n) c.in-Addi.is c.requires.instruction) (sym number)
