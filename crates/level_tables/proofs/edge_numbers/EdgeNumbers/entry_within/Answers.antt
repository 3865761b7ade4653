use Rattle.std.proofs.Common.{arith, rules, sym, ◌∙◌}
use Rattle.level_tables.specs.Budgets.{meets_in_budget, budget_at}
use Rattle.level_tables.proofs.Searching.{first-some, first-none, one-more}
use Rattle.level_tables.proofs.edge_numbers.EdgeNumbers.entry_within.Goals as goal

pub returns-then-meets-clause-entry : goal.returns-then-meets-clause-entry
returns-then-meets-clause-entry c =
    first-some c.args.from (meets_in_budget c.args.power.now (budget_at c.args.budgets.now) c.args.self.now c.args.from) c.args.from c.loop-l.l (omega arith) (search rules) c.loop-l.invariant.fails

pub returns-clause-entry : goal.returns-clause-entry
returns-clause-entry c =
    first-none c.args.from (meets_in_budget c.args.power.now (budget_at c.args.budgets.now) c.args.self.now c.args.from) c.args.from (λ j h. c.loop-l.invariant.fails j (omega arith))

pub loop-l-preserved : goal.loop-l-preserved
loop-l-preserved c =
    record {
      fails = one-more (meets_in_budget c.args.power.now (budget_at c.args.budgets.now) c.args.self.now c.args.from) c.loop-l.l c.loop-l.invariant.fails (sym c.meets.ensures ∙ c.if-meets.false);
    }
