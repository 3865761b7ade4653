use Rattle.std.proofs.Common.{◌≡◌, ℕ, refl, subst}
use Rattle.scale_base.specs.declared.instruction.RegOp.TheVariants.{Add}
use Rattle.scale_base.specs.declared.instruction.Instr.TheVariants.{Reg}
use Rattle.stack_laws.specs.Making.IsMade.{added, added_to}
use Rattle.stack_checks.proofs.made.is_made_by_sum.Goals as goal

pub is_spread-requires-clause-made : goal.is_spread-requires-clause-made
is_spread-requires-clause-made c = added c.args.rs2 (subst (λ (x : ℕ). c.args.way.now.instr ≡ Reg Add c.args.m.register x c.args.rs2) c.if-rs1-m.true c.requires.origin) refl

pub is_spread-requires-then-rs2-m-clause-made : goal.is_spread-requires-then-rs2-m-clause-made
is_spread-requires-then-rs2-m-clause-made c = added_to c.args.rs1 (subst (λ (x : ℕ). c.args.way.now.instr ≡ Reg Add c.args.m.register c.args.rs1 x) c.if-rs2-m.true c.requires.origin) refl
