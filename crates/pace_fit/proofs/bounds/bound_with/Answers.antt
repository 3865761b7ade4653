use Rattle.std.proofs.Common.{◌≡◌, ◌^◌, ◌≤◌, sym, ap, ◌∙◌, subst, arith}
use Rattle.std.specs.Prelude.{max}
use Rattle.power_model.specs.Levels.{level}
use Rattle.power_model.specs.Numbers.{PowerModel}
use Rattle.pace_fit.specs.Least.{pair_bound}
use Rattle.pace_fit.proofs.Rates.{greatest_more, most_small, pair_is, pair_ranked}
use Rattle.pace_fit.proofs.bounds.bound_with.Goals as goal

pub loop-i-preserved : goal.loop-i-preserved
loop-i-preserved c =
    let power = c.args.power.now in
    let slower : c.get-slower.result ≡ level power.levels c.loop-i.i = c.get-slower.ensures ∙ ap (λ (p : PowerModel). level p.levels c.loop-i.i) c.power.view_is in
    let faster : c.get-faster.result ≡ level power.levels c.args.j = c.get-faster.ensures ∙ ap (λ (p : PowerModel). level p.levels c.args.j) c.power.view_is in
    let bound : c.bound_at.result ≡ pair_bound power c.args.cycles c.loop-i.i c.args.j =
    pair_is power c.args.cycles c.loop-i.i c.args.j c.get-slower.result c.get-faster.result c.bound_at.result slower faster c.bound_at.ensures.bound in
    record {
      value = c.max-most.ensures ∙ (ap (max c.loop-i.most) bound ∙ greatest_more (λ i. pair_bound power c.args.cycles i c.args.j) 0 c.loop-i.i c.loop-i.most c.loop-i.invariant.value);
      small = subst (λ n. n ≤ 2 ^ 121) (sym c.max-most.ensures) (most_small c.loop-i.most c.bound_at.result (2 ^ 121) c.loop-i.invariant.small c.bound_at.ensures.small);
    }

pub overflow_sub-a : goal.overflow_sub-a
overflow_sub-a c =
    let power = c.args.power.now in
    let slower : c.get-slower.result ≡ level power.levels c.loop-i.i = c.get-slower.ensures ∙ ap (λ (p : PowerModel). level p.levels c.loop-i.i) c.power.view_is in
    let faster : c.get-faster.result ≡ level power.levels c.args.j = c.get-faster.ensures ∙ ap (λ (p : PowerModel). level p.levels c.args.j) c.power.view_is in
    let is = pair_ranked power.levels c.requires.power.ranked c.loop-i.i c.args.j c.get-slower.result c.get-faster.result c.loop-i-test.true c.requires.level slower faster in
    omega (arith, is.energy)

pub overflow_sub-b : goal.overflow_sub-b
overflow_sub-b c =
    let power = c.args.power.now in
    let slower : c.get-slower.result ≡ level power.levels c.loop-i.i = c.get-slower.ensures ∙ ap (λ (p : PowerModel). level p.levels c.loop-i.i) c.power.view_is in
    let faster : c.get-faster.result ≡ level power.levels c.args.j = c.get-faster.ensures ∙ ap (λ (p : PowerModel). level p.levels c.args.j) c.power.view_is in
    let is = pair_ranked power.levels c.requires.power.ranked c.loop-i.i c.args.j c.get-slower.result c.get-faster.result c.loop-i-test.true c.requires.level slower faster in
    omega (arith, is.period)

pub bound_at-requires-clause-positive : goal.bound_at-requires-clause-positive
bound_at-requires-clause-positive c =
    let power = c.args.power.now in
    let slower : c.get-slower.result ≡ level power.levels c.loop-i.i = c.get-slower.ensures ∙ ap (λ (p : PowerModel). level p.levels c.loop-i.i) c.power.view_is in
    let faster : c.get-faster.result ≡ level power.levels c.args.j = c.get-faster.ensures ∙ ap (λ (p : PowerModel). level p.levels c.args.j) c.power.view_is in
    let is = pair_ranked power.levels c.requires.power.ranked c.loop-i.i c.args.j c.get-slower.result c.get-faster.result c.loop-i-test.true c.requires.level slower faster in
    omega (arith, is.period)
