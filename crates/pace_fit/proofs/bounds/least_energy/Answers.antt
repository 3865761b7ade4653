use Rattle.std.proofs.Common.{◌≡◌, ◌^◌, ◌≤◌, length, sym, ap, ◌∙◌, subst, arith}
use Rattle.std.specs.Prelude.{max}
use Rattle.power_model.specs.Numbers.{PowerModel}
use Rattle.pace_fit.specs.Least.{bound_at, bound_with, split_energy}
use Rattle.pace_fit.proofs.Rates.{greatest_more, least_energy_is, most_small}
use Rattle.pace_fit.proofs.Splits.{least_below}
use Rattle.pace_fit.proofs.bounds.least_energy.Goals as goal

pub loop-j-preserved : goal.loop-j-preserved
loop-j-preserved c = record {
  value = c.max-most.ensures
      ∙ (ap (max c.loop-j.most) c.bound_with.ensures.bound ∙ greatest_more (bound_with c.args.power.now c.args.cycles) (bound_at c.args.power.now c.args.cycles 0 1) c.loop-j.j c.loop-j.most c.loop-j.invariant.value);
  small = subst (λ n. n ≤ 2 ^ 121) (sym c.max-most.ensures) (most_small c.loop-j.most c.bound_with.result (2 ^ 121) c.loop-j.invariant.small c.bound_with.ensures.small);
}

pub returns-clause-exact : goal.returns-clause-exact
returns-clause-exact c =
    let size : c.count-j-end.result ≡ length c.args.power.now.levels = c.count-j-end.ensures.count ∙ ap (λ (p : PowerModel). length p.levels) c.power.view_is in
    let last : c.loop-j.j ≡ length c.args.power.now.levels = omega (arith, c.loop-j-test.false, c.loop-j.auto.j-end, size) in
    least_energy_is c.args.power.now c.args.cycles c.loop-j.j c.loop-j.most last c.loop-j.invariant.value

pub returns-clause-least : goal.returns-clause-least
returns-clause-least c =
    let size : c.count-j-end.result ≡ length c.args.power.now.levels = c.count-j-end.ensures.count ∙ ap (λ (p : PowerModel). length p.levels) c.power.view_is in
    let last : c.loop-j.j ≡ length c.args.power.now.levels = omega (arith, c.loop-j-test.false, c.loop-j.auto.j-end, size) in
    let exact = least_energy_is c.args.power.now c.args.cycles c.loop-j.j c.loop-j.most last c.loop-j.invariant.value in
    λ split is. subst (λ n. n ≤ split_energy c.args.power.now split) (sym exact) (least_below c.args.power.now c.args.cycles split is)
