use Rattle.std.proofs.Common.{◌≡◌, ap, sym, ◌∙◌, arith}
use Rattle.cost_theory.specs.Graph.{sum_below}
use Rattle.image_check.specs.Safe.{one_where}
use Rattle.image_check.specs.Uses.{exit_from}
use Rattle.image_check.proofs.TreeFacts.{exits_start, exits_more, exits_end}
use Rattle.image_check.proofs.uses.exits_from.Goals as goal

pub loop-e-init : goal.loop-e-init
loop-e-init c =
    let is = c.requires.found.3 in
    record {
      total = sym (exits_start c.args.graph.now c.args.tree.now is.tree.0 is.code.flow is.tree.1 c.args.k c.args.n c.edges_of-first.result.0 c.edges_of-first.result.1 c.edges_of-first.ensures.within c.edges_of-first.ensures.edges);
      few = omega arith;
    }

pub loop-e-preserved : goal.loop-e-preserved
loop-e-preserved c =
    let is = c.requires.found.3 in
    let few = c.loop-e.invariant.few in
    let small = c.one_where-found.ensures.small in
    record {
      total = exits_more c.args.graph.now c.args.tree.now is.tree.0 is.code.flow is.tree.1 c.args.k c.args.n c.edges_of-first.result.0 c.edges_of-first.result.1 c.edges_of-first.ensures.within c.edges_of-first.ensures.edges
          c.loop-e.e c.loop-e.found c.one_where-found.result c.loop-e.auto.e c.loop-e-test.true c.loop-e.invariant.total (c.one_where-found.ensures.value ∙ ap one_where c.leaves.ensures);
      few = omega (arith, few, small);
    }

pub returns-clause-value : goal.returns-clause-value
returns-clause-value c =
    let is = c.requires.found.3 in
    let within = c.edges_of-first.ensures.within in
    let up = c.loop-e.auto.e-end in
    let last : c.loop-e.e ≡ c.edges_of-first.result.1 = (let some = within.0 in let to = up (omega (arith, some)) in omega (arith, to)) in
    c.loop-e.invariant.total ∙ (ap (λ m. sum_below m (exit_from c.args.graph.now c.args.tree.now c.args.k c.args.n)) last
    ∙ exits_end c.args.graph.now c.args.tree.now is.tree.0 is.code.flow is.tree.1 c.args.k c.args.n c.edges_of-first.result.0 c.edges_of-first.result.1 c.edges_of-first.ensures.within c.edges_of-first.ensures.edges)
