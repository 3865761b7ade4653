use Rattle.std.proofs.Common.{rules, ◌≡◌, ◌∙◌, ℕ, List, sym, ap, subst}
use Rattle.scale_base.specs.Arith.{moved_by}
use Rattle.scale_base.specs.declared.instruction.Instr.{Instr}
use Rattle.scale_base.specs.declared.instruction.Instr.TheVariants.{Store}
use Rattle.scale_base.specs.State.{reg, word_at}
use Rattle.scale_base.specs.Step.{performs}
use Rattle.tidy_runs.proofs.Missing.{store_leaves, other_leaves}
use Rattle.tidy_runs.proofs.writing.written_by.Goals as goal

pub returns-in-Store : goal.returns-in-Store
returns-in-Store c env s at same low apart =
    let there : c.wrapping_add_signed.result ≡ moved_by (reg c.args.regs.now c.in-Store.rs1) c.in-Store.offset = search rules in
    subst (λ (j : Instr). word_at (performs env s j j).state.bytes at ≡ word_at s.bytes at) (sym c.in-Store.is)
    (store_leaves env s at (Store c.in-Store.op c.in-Store.rs1 c.in-Store.rs2 c.in-Store.offset) c.in-Store.op c.in-Store.rs1 c.in-Store.rs2 c.in-Store.offset _ _ low
    (there ∙ ap (λ (rs : List ℕ). moved_by (reg rs c.in-Store.rs1) c.in-Store.offset) (sym same)) c.width.ensures.is apart)

pub returns-in_default : goal.returns-in_default
returns-in_default c env s at same low misses = other_leaves env s at _ _ c.in_default.not-Store c.in_default.not-Ecall
