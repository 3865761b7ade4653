use Rattle.std.proofs.Common.{ℕ, ◌≡◌, ◌∙◌, Some, ap, subst}
use Rattle.std.specs.Int.{w32}
use Rattle.std.proofs.lemmas.Int.{to_z-of_z}
use Rattle.scale_base.specs.Arith.{unsigned}
use Rattle.scale_base.specs.declared.instruction.ImmOp.{ImmOp}
use Rattle.scale_base.specs.declared.instruction.Instr.TheVariants.{Imm}
use Rattle.bound_laws.specs.Values.{Covers, sum_with}
use Rattle.stack_laws.specs.Telling.IsCarried.{summed}
use Rattle.stack_checks.proofs.telling.is_summed.Goals as goal

pub returns-in-Addi : goal.returns-in-Addi
returns-in-Addi c so =
    let number : c.cast_unsigned.result ≡ unsigned c.args.n = c.cast_unsigned.ensures ∙ ap unsigned (to_z-of_z w32 c.args.n c.ranges.n) in
    summed c.args.n (subst (λ (o : ImmOp). c.args.way.now.instr ≡ Imm o c.args.y.now.about c.args.z.now.about c.args.n) c.in-Addi.is c.requires.instruction)
    (subst (λ (n : ℕ). Covers (Some c.args.y.now.arc) (sum_with (Some c.args.z.now.arc) n)) number (c.is_more.ensures so))
