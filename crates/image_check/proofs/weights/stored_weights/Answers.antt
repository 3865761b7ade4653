use Rattle.std.proofs.Common.{rules, ◌≡◌, ℕ, ◌+◌, ◌<◌, ◌≤◌, slice_index, length, map, below_more, ap, ◌∙◌, arith}
use Rattle.power_model.specs.Price.{cycles_of}
use Rattle.code_text.specs.EdgeCosts.{cost_of}
use Rattle.image_check.specs.Weights.{IsExtraAt}
use Rattle.image_check.proofs.Extras.{stored_are, base_small}
use Rattle.image_check.proofs.weights.stored_weights.Goals as goal

pub overflow_add-get : goal.overflow_add-get
overflow_add-get c =
    let base : slice_index (map (cost_of (cycles_of c.args.costs.now)) c.args.graph.now.classes) c.loop-e.e ≤ 65535 = base_small c.args.costs.now c.args.graph.now.classes c.small_costs.ensures c.loop-e.e in
    let same : c.get.result.now ≡ slice_index (map (cost_of (cycles_of c.args.costs.now)) c.args.graph.now.classes) c.loop-e.e = c.get.ensures ∙ ap (λ xs. slice_index xs c.loop-e.e) c.in_ok-base.ensures.weights in
    let small = c.extra_cycles.ensures.small in
    omega arith

pub loop-e-preserved : goal.loop-e-preserved
loop-e-preserved c = record { size = search rules; each = each; small = small }
  where
    base : ℕ → ℕ
    base d = slice_index (map (cost_of (cycles_of c.args.costs.now)) c.args.graph.now.classes) d

    old : (d : ℕ) → d < c.loop-e.e → slice_index c.push.new.self.items d ≡ slice_index c.loop-e.weights.items d
    old = search rules

    new : slice_index c.push.new.self.items c.loop-e.e ≡ c.get.result.now + c.extra_cycles.result
    new = search rules

    same : c.get.result.now ≡ base c.loop-e.e
    same = c.get.ensures ∙ ap (λ xs. slice_index xs c.loop-e.e) c.in_ok-base.ensures.weights

    each : (d : ℕ) → d < c.loop-e.e + 1 → (extra : ℕ) × IsExtraAt c.args.costs.now c.args.graph.now c.args.sites.now d extra × (slice_index c.push.new.self.items d ≡ slice_index (map (cost_of (cycles_of c.args.costs.now)) c.args.graph.now.classes) d + extra)
    each = below_more (λ d. (extra : ℕ) × IsExtraAt c.args.costs.now c.args.graph.now c.args.sites.now d extra × (slice_index c.push.new.self.items d ≡ slice_index (map (cost_of (cycles_of c.args.costs.now)) c.args.graph.now.classes) d + extra)) c.loop-e.e
        (λ d lt. let x = c.loop-e.invariant.each d lt in (x.0, x.1, old d lt ∙ x.2))
        (c.extra_cycles.result, c.extra_cycles.ensures.extra, new ∙ ap (λ x. x + c.extra_cycles.result) same)

    small : (d : ℕ) → d < c.loop-e.e + 1 → slice_index c.push.new.self.items d ≤ 4294967295
    small = below_more (λ d. slice_index c.push.new.self.items d ≤ 4294967295) c.loop-e.e
        (λ d lt. let a = old d lt in let b = c.loop-e.invariant.small d lt in omega (arith, a, b))
        (let a = new in
        let b = base_small c.args.costs.now c.args.graph.now.classes c.small_costs.ensures c.loop-e.e in
        let e = same in
        let s = c.extra_cycles.ensures.small in
        omega (arith, a, b, e, s))

pub returns-clause-weights : goal.returns-clause-weights
returns-clause-weights c = λ original foreign t owner found is.
    let size : length c.loop-e.weights.items ≡ length c.args.graph.now.code.edges = search rules in
    let end : (d : ℕ) → d < length c.args.graph.now.code.edges → d < c.loop-e.e = search rules in
    rw c.from_vec.ensures (stored_are original foreign c.args.graph.now t owner found c.args.sites.now is (cycles_of c.args.costs.now) c.loop-e.weights.items size
    (λ d lt. let x = c.loop-e.invariant.each d (end d lt) in (x.0, x.1 original foreign t owner found is, x.2)))
