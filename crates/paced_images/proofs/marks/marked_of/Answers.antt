use Rattle.std.proofs.lemmas.Result.{err_from_is_err_and}
use Rattle.marked_images.proofs.Laws.{counted_as}
use Rattle.paced_images.proofs.MarkedFacts.{counters_stop, marking_stops}
use Rattle.paced_images.proofs.marks.marked_of.Goals as goal

pub returns-in_err-counters : goal.returns-in_err-counters
returns-in_err-counters c =
    let p = err_from_is_err_and c.from_residual-in_err-counters.result c.from_residual-in_err-counters.ensures.1 in
    rw (p.1, p.2) (counters_stop c.args.power.now c.args.view.now c.args.notes.now c.args.chosen.now.sites.now c.args.chosen.now.tallied.now c.args.chosen.now.share c.in_ok-graph.graph c.in_ok-tree.tree c.in_err-counters.field-0.0 c.in_ok-graph.ensures c.in_ok-tree.ensures c.in_err-counters.ensures)

pub marking_with-requires-clause-marks : goal.marking_with-requires-clause-marks
marking_with-requires-clause-marks c = (_, c.in_ok-sites.ensures)

pub budgeted-requires-clause-found : goal.budgeted-requires-clause-found
budgeted-requires-clause-found c = (c.args.view.now, _, _, _, c.in_ok-marking.ensures c.args.view.now _ c.in_ok-graph.ensures c.in_ok-sites.ensures)

pub returns-in_err-marking : goal.returns-in_err-marking
returns-in_err-marking c =
    let p = err_from_is_err_and c.from_residual-in_err-marking.result c.from_residual-in_err-marking.ensures.1 in
    rw (p.1, p.2) (marking_stops c.args.power.now c.args.view.now c.args.notes.now c.args.chosen.now.sites.now c.args.chosen.now.tallied.now c.args.chosen.now.share c.in_ok-graph.graph c.in_ok-tree.tree c.in_ok-graph.ensures c.in_ok-tree.ensures (counted_as c.in_ok-graph.graph c.in_ok-tree.tree c.in_ok-counters.counters c.in_ok-counters.ensures) c.in_err-marking.field-0.0 (c.in_err-marking.ensures c.args.view.now _ c.in_ok-graph.ensures c.in_ok-sites.ensures))

pub returns : goal.returns
returns c = record {
  code_is = c.in_ok-graph.ensures;
  tree_is = c.in_ok-tree.ensures;
  counters = counted_as c.in_ok-graph.graph c.in_ok-tree.tree c.in_ok-counters.counters c.in_ok-counters.ensures;
  found = c.budgeted.ensures c.args.view.now _ _ _ (c.in_ok-marking.ensures c.args.view.now _ c.in_ok-graph.ensures c.in_ok-sites.ensures);
}
