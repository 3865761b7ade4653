use Rattle.std.proofs.Common.{◌≡◌, ◌<◌, ◌&&◌, length, sym, ap, ◌∙◌, arith}
use Rattle.std.specs.Prelude.{nat_le, nat_lt}
use Rattle.cost_theory.proofs.Laws.{any-some, none-any}
use Rattle.power_model.specs.Numbers.{PowerModel}
use Rattle.level_tables.specs.Budgets.{meets_in_budget, budget_at}
use Rattle.level_tables.specs.Tables.{entry_by}
use Rattle.paced_images.proofs.useful.lowers_some.Goals as goal

pub returns-then-lowers_from : goal.returns-then-lowers_from
returns-then-lowers_from c =
    let lt : c.loop-i.i < length c.args.power.now.levels = (let same : length c.power.inside.levels ≡ length c.args.power.now.levels = ap (λ (p : PowerModel). length p.levels) c.power.view_is in let count = c.count-i-end.ensures.count in let test = c.loop-i-test.true in omega (arith, count, test, same)) in
    sym (any-some (length c.args.power.now.levels) (λ k. nat_le k c.args.start && nat_lt (entry_by (meets_in_budget c.args.power.now (budget_at c.args.budgets.now)) c.args.told.now k) k) c.loop-i.i lt
    (sym c.lowers_from.ensures ∙ c.if-lowers_from.true))

pub returns : goal.returns
returns c =
    sym (none-any (length c.args.power.now.levels) (λ k. nat_le k c.args.start && nat_lt (entry_by (meets_in_budget c.args.power.now (budget_at c.args.budgets.now)) c.args.told.now k) k)
    (λ k lt. c.loop-i.invariant k (let same : length c.power.inside.levels ≡ length c.args.power.now.levels = ap (λ (p : PowerModel). length p.levels) c.power.view_is in let count = c.count-i-end.ensures.count in let test = c.loop-i-test.false in omega (arith, count, test, lt, same))))
