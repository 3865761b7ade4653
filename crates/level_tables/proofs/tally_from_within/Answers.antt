use Rattle.std.proofs.Common.{◌≡◌, ◌+◌, ◌*◌, ◌/◌, ◌^◌, ◌<◌, ◌≤◌, ℕ, true, false, sym, ap, ◌∙◌, subst, arith}
use Rattle.std.proofs.Math.Nat.{mul-le-mul_right}
use Rattle.level_tables.specs.Tables.{behind_turns, goes_lowest, tally_shift}
use Rattle.level_tables.specs.declared.edge_numbers.EdgeNumbers.{EdgeNumbers}
use Rattle.level_tables.specs.Budgets.{meets_in_budget, budget_at}
use Rattle.level_tables.proofs.Lowest.{lowest_not_before, tally_found}
use Rattle.level_tables.proofs.tally_from_within.Goals as goal

-- the middle goes there
pub loop-low-preserved-then-lowest_within : goal.loop-low-preserved-then-lowest_within
loop-low-preserved-then-lowest_within c =
    let middle = (c.loop-low.low + c.loop-low.high) / 2 in
    let P : EdgeNumbers → Type 0 = λ edge. goes_lowest c.args.power.now (meets_in_budget c.args.power.now (budget_at c.args.budgets.now)) edge ≡ true in
    let here : P c.behind_turns-behind.result = sym c.lowest_within.ensures ∙ c.if-lowest_within.true in
    let rest : c.behind_turns-behind.result ≡ behind_turns (middle * 2 ^ tally_shift c.args.bound) c.args.iteration c.args.edge.now = c.behind_turns-behind.ensures ∙ ap (λ n. behind_turns n c.args.iteration c.args.edge.now) (c.turns_of.ensures ∙ ap (λ s. middle * 2 ^ s) c.loop-low.invariant.shift) in
    record {
      some = c.loop-low.invariant.some;
      order = omega arith;
      few = omega arith;
      shift = c.loop-low.invariant.shift;
      fails = c.loop-low.invariant.fails;
      goes = λ h. subst P rest here;
    }

-- it doesn't, and so no less does
pub loop-low-preserved : goal.loop-low-preserved
loop-low-preserved c =
    let middle = (c.loop-low.low + c.loop-low.high) / 2 in
    let width = 2 ^ tally_shift c.args.bound in
    let P : EdgeNumbers → Type 0 = λ edge. goes_lowest c.args.power.now (meets_in_budget c.args.power.now (budget_at c.args.budgets.now)) edge ≡ false in
    let here : P c.behind_turns-behind.result = sym c.lowest_within.ensures ∙ c.if-lowest_within.false in
    let rest : c.behind_turns-behind.result ≡ behind_turns (middle * 2 ^ tally_shift c.args.bound) c.args.iteration c.args.edge.now = c.behind_turns-behind.ensures ∙ ap (λ n. behind_turns n c.args.iteration c.args.edge.now) (c.turns_of.ensures ∙ ap (λ s. middle * 2 ^ s) c.loop-low.invariant.shift) in
    record {
      some = omega arith;
      order = omega arith;
      few = c.loop-low.invariant.few;
      shift = c.loop-low.invariant.shift;
      fails = λ k some lt.
          let le : k ≤ middle = omega (arith, lt) in
          lowest_not_before c.args.power.now (budget_at c.args.budgets.now) c.args.edge.now c.args.iteration (k * width) (middle * width) c.in_range.ensures (mul-le-mul_right width le) (subst P rest here);
      goes = c.loop-low.invariant.goes;
    }

pub returns-clause-from : goal.returns-clause-from
returns-clause-from c =
    let some = c.loop-low.invariant.some in
    let few = c.loop-low.invariant.few in
    let order = c.loop-low.invariant.order in
    let met : c.loop-low.high ≤ c.loop-low.low = c.loop-low-test.false in
    let same : c.loop-low.high ≡ c.loop-low.low = omega (arith, order, met) in
    let P : ℕ → Type 0 = λ h. h < 2047 → goes_lowest c.args.power.now (meets_in_budget c.args.power.now (budget_at c.args.budgets.now)) (behind_turns (h * 2 ^ tally_shift c.args.bound) c.args.iteration c.args.edge.now) ≡ true in
    let goes : P c.loop-low.low = subst P same c.loop-low.invariant.goes in
    tally_found c.args.power.now (meets_in_budget c.args.power.now (budget_at c.args.budgets.now)) c.args.bound c.args.iteration c.args.edge.now c.loop-low.low some (omega (arith, few, order)) c.loop-low.invariant.fails goes
