use Rattle.std.proofs.Common.{rules, arith, ◌≡◌, ◌<◌, ◌∙◌, Some, sym, ap, subst, inr, ⊎_elim, true}
use Rattle.graph_algorithms.specs.Bodies.{in_node_ranges}
use Rattle.graph_algorithms.proofs.EdgeLaws.{ArePassed, place, place_less, passed_next, passed_end, get_from_key}
use Rattle.graph_algorithms.proofs.BodyLaws.{grows_then}
use Rattle.graph_algorithms.proofs.bodies.visit.visit_sources.Goals as goal

pub source-requires : goal.source-requires
source-requires c = (c.loop-next.invariant.edge c.in-Some.edge c.in-Some.is).0

pub before-next-requires : goal.before-next-requires
before-next-requires c = (c.loop-next.invariant.edge c.in-Some.edge c.in-Some.is).0

pub loop-next-smaller : goal.loop-next-smaller
loop-next-smaller c =
    let key = (c.loop-next.invariant.edge c.in-Some.edge c.in-Some.is).1 in
    subst (λ o. place c.before-next.result < place o) (sym c.in-Some.is)
    (place_less c.before-next.result c.in-Some.edge (λ r e. ((c.before-next.ensures c.args.node key).place r e).0))

pub loop-next-preserved : goal.loop-next-preserved
loop-next-preserved c =
    let sources = c.args.edges.now.sources in
    let targets = c.args.edges.now.targets in
    let extent = in_node_ranges c.args.extent.now in
    let node = c.args.node in
    let edge = c.in-Some.edge in
    let within = (c.loop-next.invariant.edge c.in-Some.edge c.in-Some.is).0 in
    let key = (c.loop-next.invariant.edge c.in-Some.edge c.in-Some.is).1 in
    let before = c.before-next.ensures node key in
    record {
      size = search rules;
      marked = c.in_ok-visit.ensures.marked;
      grows = grows_then c.args.found.now c.loop-next.found c.visit.new.found c.args.body.now.items c.loop-next.body.items c.visit.new.body.items c.loop-next.invariant.grows c.in_ok-visit.ensures.grows;
      only = λ p v h. ⊎_elim
          (λ old. c.loop-next.invariant.only p v old)
          (λ (new : (v ≡ c.source.result) × (in_node_ranges c.args.extent.now v ≡ true)). inr ((edge, c.source.ensures.source ∙ ap Some (sym new.0), get_from_key targets edge node key), new.1))
          (c.in_ok-visit.ensures.only p v h);
      edge = λ e is. let b = before.place e is in let lt = b.0 in (omega arith, b.1);
      passed = passed_next sources targets extent node c.loop-next.found c.visit.new.found edge c.source.result c.before-next.result c.in_ok-visit.ensures.grows.kept c.source.ensures.source c.in_ok-visit.ensures.found before
          (subst (λ o. ArePassed sources targets extent c.loop-next.found node o) c.in-Some.is c.loop-next.invariant.passed);
    }

pub returns-clause-settled : goal.returns-clause-settled
returns-clause-settled c = passed_end c.args.edges.now.sources c.args.edges.now.targets (in_node_ranges c.args.extent.now) c.args.node c.loop-next.found c.loop-next.next c.in_default.is c.loop-next.invariant.passed
