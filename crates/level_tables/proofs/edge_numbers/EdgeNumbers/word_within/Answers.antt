use Rattle.std.proofs.Common.{◌≡◌, ◌-◌, arith}
use Rattle.level_tables.specs.Tables.{entry_by}
use Rattle.level_tables.specs.Budgets.{meets_in_budget, budget_at}
use Rattle.level_tables.proofs.Entries.{word-more, all-held}
use Rattle.level_tables.proofs.edge_numbers.EdgeNumbers.word_within.Goals as goal

pub overflow_mul-word : goal.overflow_mul-word
overflow_mul-word c =
    let more = word-more c.args.power.now (meets_in_budget c.args.power.now (budget_at c.args.budgets.now)) c.args.self.now c.loop-i.i c.loop-i.word c.entry_within-entry.result c.loop-i.invariant.few (omega arith) c.loop-i.invariant.up_to c.loop-i.invariant.word c.entry_within-entry.ensures.entry in
    let fits = more.1 in
    omega (arith, fits)

pub overflow_add-word : goal.overflow_add-word
overflow_add-word c =
    let more = word-more c.args.power.now (meets_in_budget c.args.power.now (budget_at c.args.budgets.now)) c.args.self.now c.loop-i.i c.loop-i.word c.entry_within-entry.result c.loop-i.invariant.few (omega arith) c.loop-i.invariant.up_to c.loop-i.invariant.word c.entry_within-entry.ensures.entry in
    let fits = more.1 in
    let same : c.from.result ≡ c.entry_within-entry.result = cc in
    omega (arith, fits)

pub loop-i-preserved : goal.loop-i-preserved
loop-i-preserved c =
    let entry : c.from.result ≡ entry_by (meets_in_budget c.args.power.now (budget_at c.args.budgets.now)) c.args.self.now (c.loop-i.i - 1) = cc in
    record {
      up_to = omega arith;
      few = c.loop-i.invariant.few;
      word = (word-more c.args.power.now (meets_in_budget c.args.power.now (budget_at c.args.budgets.now)) c.args.self.now c.loop-i.i c.loop-i.word c.from.result c.loop-i.invariant.few (omega arith) c.loop-i.invariant.up_to c.loop-i.invariant.word entry).0;
    }

-- the last word, of all levels
pub returns-clause-holds : goal.returns-clause-holds
returns-clause-holds c =
    all-held c.args.power.now (meets_in_budget c.args.power.now (budget_at c.args.budgets.now)) c.args.self.now c.loop-i.i c.loop-i.word c.loop-i.invariant.few (omega arith) c.loop-i.invariant.word
