use Rattle.std.proofs.Common.{rules, ◌≡◌, ℕ, ◌+◌, ◌<◌, slice_index, length, below_more, subst, sym}
use Rattle.power_model.specs.Price.{cycles_of}
use Rattle.image_check.specs.Weights.{IsExtraAt}
use Rattle.image_check.proofs.Extras.{extras_are}
use Rattle.image_check.proofs.weights.extra_weights.Goals as goal

pub loop-e-preserved : goal.loop-e-preserved
loop-e-preserved c = record { size = search rules; each = each }
  where
    old : (d : ℕ) → d < c.loop-e.e → slice_index c.push.new.self.items d ≡ slice_index c.loop-e.weights.items d
    old = search rules

    new : slice_index c.push.new.self.items c.loop-e.e ≡ c.extra_cycles.result
    new = search rules

    each : (d : ℕ) → d < c.loop-e.e + 1 → IsExtraAt c.args.costs.now c.args.graph.now c.args.sites.now d (slice_index c.push.new.self.items d)
    each = below_more (λ d. IsExtraAt c.args.costs.now c.args.graph.now c.args.sites.now d (slice_index c.push.new.self.items d)) c.loop-e.e
        (λ d lt. subst (IsExtraAt c.args.costs.now c.args.graph.now c.args.sites.now d) (sym (old d lt)) (c.loop-e.invariant.each d lt))
        (subst (IsExtraAt c.args.costs.now c.args.graph.now c.args.sites.now c.loop-e.e) (sym new) c.extra_cycles.ensures.extra)

pub returns-clause-weights : goal.returns-clause-weights
returns-clause-weights c = λ original foreign t owner found is.
    let size : length c.loop-e.weights.items ≡ length c.args.graph.now.code.edges = search rules in
    let end : (d : ℕ) → d < length c.args.graph.now.code.edges → d < c.loop-e.e = search rules in
    rw c.from_vec.ensures (extras_are original foreign c.args.graph.now t owner found c.args.sites.now is (cycles_of c.args.costs.now) c.loop-e.weights.items size
    (λ d lt. c.loop-e.invariant.each d (end d lt) original foreign t owner found is))
