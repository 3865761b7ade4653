use Rattle.std.proofs.Common.{subst, sym}
use Rattle.stack_laws.specs.Counting.{IsAdded}
use Rattle.stack_tables.specs.Tables.{claim_stacks, claim_values}
use Rattle.shown_bounds.specs.declared.counters.StackCounter.{StackCounter}
use Rattle.shown_bounds.specs.Certified.{counter_view}
use Rattle.shown_bounds.proofs.counters.is_added.Goals as goal

pub returns-in-InWord : goal.returns-in-InWord
returns-in-InWord c so a at =
    subst (λ (x : StackCounter). IsAdded (claim_values c.args.claim.now) (claim_stacks c.args.claim.now) (counter_view x) a c.args.i c.args.adds) (sym c.in-InWord.is) (c.is_added_to_word.ensures so c.in-InWord.shift a at)
