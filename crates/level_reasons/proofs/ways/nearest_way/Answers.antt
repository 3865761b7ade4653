use Rattle.std.proofs.Common.{◌≡◌, length, ap, subst, arith}
use Rattle.cost_theory.specs.Lists.{body_of}
use Rattle.level_reasons.specs.Reasons.{IsWayOut}
use Rattle.level_reasons.specs.Ways.{IsWayAmong}
use Rattle.level_reasons.proofs.BodyFacts.{among_all}
use Rattle.level_reasons.proofs.NearFacts.{nearest_same}
use Rattle.level_reasons.proofs.ways.nearest_way.Goals as goal

pub returns-clause-nearest : goal.returns-clause-nearest
returns-clause-nearest c =
    let v = c.args.program.now.graph.now in
    let t = c.args.program.now.tree.now in
    let tree = c.requires.program.tree in
    let size : length c.body-i-end.result.now ≡ length (body_of t.bodies c.args.l) = ap length c.body-i-end.ensures in
    let all : length (body_of t.bodies c.args.l) ≡ c.loop-i.i = omega arith in
    λ n holds. nearest_same c.args.program.now.power.now c.args.program.now.start n.told (IsWayAmong v t c.args.l c.loop-i.i) (IsWayOut v t c.args.l)
    (λ d among. among.way) (λ d way. subst (λ m. IsWayAmong v t c.args.l m d) all (among_all v t tree.0 c.requires.program.flow tree.1 c.args.l d way))
    c.loop-i.nearest (c.loop-i.invariant.kept n holds)
