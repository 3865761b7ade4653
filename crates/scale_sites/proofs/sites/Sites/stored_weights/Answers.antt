use Rattle.std.proofs.Common.{rules, ◌≡◌, ℕ, ◌+◌, ◌<◌, ◌≤◌, slice_index, map, ⊎_elim, sym, ap, ◌∙◌, subst, arith}
use Rattle.std.proofs.lemmas.Bool.{cases_lt}
use Rattle.scale_sites.specs.Weights.{extra_of}
use Rattle.scale_sites.specs.Sites.{marks_at_edge}
use Rattle.power_model.specs.Price.{cycles_of}
use Rattle.code_text.specs.EdgeCosts.{cost_of}
use Rattle.scale_sites.proofs.SiteLaws.{base_small}
use Rattle.scale_sites.proofs.sites.Sites.stored_weights.Goals as goal

pub overflow_add-get : goal.overflow_add-get
overflow_add-get c =
    let base : slice_index (map (cost_of (cycles_of c.args.costs.now)) c.args.graph.now.classes) c.loop-e.e ≤ 65535 = base_small c.args.costs.now c.args.graph.now.classes (record { each = c.small_costs.ensures }) c.loop-e.e in
    let same : c.get.result.now ≡ slice_index (map (cost_of (cycles_of c.args.costs.now)) c.args.graph.now.classes) c.loop-e.e = c.get.ensures ∙ ap (λ xs. slice_index xs c.loop-e.e) c.in_ok-base.ensures.weights in
    let small = c.extra.ensures.small in
    omega arith

pub loop-e-preserved : goal.loop-e-preserved
loop-e-preserved c = record { size = search rules; each = each; small = λ d lt. ⊎_elim (λ (below : d < c.loop-e.e). before d lt below) (λ (ge : c.loop-e.e ≤ d). (let q : d ≡ c.loop-e.e = omega arith in subst (λ k. slice_index c.push.new.self.items k ≤ 4294967295) (sym q) last)) (cases_lt d c.loop-e.e) }
  where
    each : (d : ℕ) → d < c.loop-e.e + 1 → slice_index c.push.new.self.items d ≡ slice_index (map (cost_of (cycles_of c.args.costs.now)) c.args.graph.now.classes) d + extra_of c.args.costs.now (slice_index c.args.self.now.jumps d) (marks_at_edge c.args.self.now d)
    each = search rules

    before : (d : ℕ) → d < c.loop-e.e + 1 → d < c.loop-e.e → slice_index c.push.new.self.items d ≤ 4294967295
    before d lt below = let a = each d lt in let b = c.loop-e.invariant.each d below in let s = c.loop-e.invariant.small d below in omega (arith, a, b, s)

    last : slice_index c.push.new.self.items c.loop-e.e ≤ 4294967295
    last =
        let a = each c.loop-e.e (omega arith) in
        let base : slice_index (map (cost_of (cycles_of c.args.costs.now)) c.args.graph.now.classes) c.loop-e.e ≤ 65535 = base_small c.args.costs.now c.args.graph.now.classes (record { each = c.small_costs.ensures }) c.loop-e.e in
        let same = c.extra.ensures.extra in
        let small = c.extra.ensures.small in
        omega (arith, a, base, same, small)
