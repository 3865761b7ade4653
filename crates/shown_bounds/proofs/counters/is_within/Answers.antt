use Rattle.std.proofs.Common.{subst, sym}
use Rattle.stack_laws.specs.Counting.{IsWithin}
use Rattle.stack_tables.specs.Tables.{claim_stacks, claim_values}
use Rattle.shown_bounds.specs.declared.counters.StackCounter.{StackCounter}
use Rattle.shown_bounds.specs.Certified.{counter_view}
use Rattle.shown_bounds.proofs.counters.is_within.Goals as goal

pub returns-in-InRegisters : goal.returns-in-InRegisters
returns-in-InRegisters c so a at =
    subst (λ (x : StackCounter). IsWithin (claim_values c.args.claim.now) (claim_stacks c.args.claim.now) c.args.width (counter_view x) a) (sym c.in-InRegisters.is) (c.is_sum_within.ensures so a at)

pub returns-in-InWord : goal.returns-in-InWord
returns-in-InWord c so a at =
    subst (λ (x : StackCounter). IsWithin (claim_values c.args.claim.now) (claim_stacks c.args.claim.now) c.args.width (counter_view x) a) (sym c.in-InWord.is) (c.is_word_within.ensures so a at)
