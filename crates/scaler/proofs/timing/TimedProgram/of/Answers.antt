use Rattle.std.proofs.lemmas.Result.{err_from_is_err_and}
use Rattle.scaler.proofs.TimedFacts.{numbers_stop, calls, too_long, late, slow_of}
use Rattle.scaler.proofs.timing.TimedProgram.of.Goals as goal

pub worst-requires-clause-calls : goal.worst-requires-clause-calls
worst-requires-clause-calls c = calls c.args.sources.now.power c.args.sources.now.view c.args.sources.now.notes c.in_ok-graph.graph c.in_ok-tree.tree c.in_ok-graph.ensures c.in_ok-tree.ensures c.in_ok-weights.weights c.in_ok-weights.ensures

pub returns-in_err-numbers : goal.returns-in_err-numbers
returns-in_err-numbers c =
    let p = err_from_is_err_and c.from_residual-in_err-numbers.result c.from_residual-in_err-numbers.ensures.1 in
    rw (p.1, p.2) (numbers_stop c.args.sources.now.power c.args.sources.now.view c.args.sources.now.notes _
    (λ refusal h. too_long c.args.sources.now.power c.args.sources.now.view c.args.sources.now.notes c.in_ok-graph.graph c.in_ok-tree.tree c.in_ok-graph.ensures c.in_ok-tree.ensures c.in_ok-weights.weights c.in_ok-weights.ensures refusal h)
    c.in_err-numbers.field-0.0 c.in_err-numbers.ensures.found)

pub returns-in_err-start : goal.returns-in_err-start
returns-in_err-start c =
    let p = err_from_is_err_and c.from_residual-in_err-start.result c.from_residual-in_err-start.ensures.1 in
    rw (p.1, p.2) (late c.args.sources.now.power c.args.sources.now.view c.args.sources.now.notes c.in_ok-graph.graph c.in_ok-tree.tree c.in_ok-graph.ensures c.in_ok-tree.ensures c.in_ok-weights.weights c.in_ok-weights.ensures
    c.in_ok-numbers.numbers c.total-total.result c.in_ok-numbers.ensures.found c.total-total.ensures c.in_err-start.field-0.0 c.in_err-start.ensures)

pub returns : goal.returns
returns c = record {
  code_is = c.in_ok-graph.ensures;
  tree_is = c.in_ok-tree.ensures;
  weights_are = c.in_ok-weights.ensures;
  worst_is = c.in_ok-numbers.ensures.found;
  sizes = c.in_ok-numbers.ensures.sizes;
  left = c.in_ok-numbers.ensures.left;
  total = c.total-total.result;
  total_is = c.total-total.ensures;
  in_time = slow_of c.args.sources.now.power c.total-total.result c.in_ok-start.start c.in_ok-start.ensures;
}
