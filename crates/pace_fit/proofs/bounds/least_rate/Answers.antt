use Rattle.std.proofs.Common.{◌≡◌, ◌^◌, ◌<◌, length, sym, ap, ◌∙◌, subst, arith}
use Rattle.std.specs.Prelude.{min}
use Rattle.power_model.specs.Levels.{level}
use Rattle.power_model.specs.Numbers.{PowerModel}
use Rattle.pace_fit.specs.Least.{rate}
use Rattle.pace_fit.proofs.Rates.{rate_more, least_small}
use Rattle.pace_fit.proofs.bounds.least_rate.Goals as goal

pub loop-k-preserved : goal.loop-k-preserved
loop-k-preserved c =
    let levels = c.args.power.now.levels in
    let at : c.get-in-loop-k.result ≡ level levels c.loop-k.k = c.get-in-loop-k.ensures ∙ ap (λ (p : PowerModel). level p.levels c.loop-k.k) c.power.view_is in
    let one : c.rate.result ≡ rate c.args.a c.args.b (level levels c.loop-k.k) = c.rate.ensures.rate ∙ ap (rate c.args.a c.args.b) at in
    let size : c.count-k-end.result ≡ length levels = c.count-k-end.ensures.count ∙ ap (λ (p : PowerModel). length p.levels) c.power.view_is in
    let below : c.loop-k.k < length levels = omega (arith, c.loop-k-test.true, size) in
    record {
      value = c.min-least.ensures ∙ (ap (min c.loop-k.least) one ∙ rate_more (rate c.args.a c.args.b) (rate c.args.a c.args.b (level levels 0)) levels c.loop-k.k c.loop-k.least below c.loop-k.invariant.value);
      small = subst (λ n. n < 2 ^ 65) (sym c.min-least.ensures) (least_small c.loop-k.least c.rate.result (2 ^ 65) c.loop-k.invariant.small);
    }
