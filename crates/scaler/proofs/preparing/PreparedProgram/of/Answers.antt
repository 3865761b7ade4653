use Rattle.std.proofs.Common.{List, subst}
use Rattle.std.proofs.lemmas.Result.{err_from_is_err_and}
use Rattle.loop_file.specs.declared.notes.LoopNote.{LoopNote}
use Rattle.loop_forest.specs.Tree.{IsTreeOf}
use Rattle.scaler.proofs.PreparedFacts.{program_stops, sources_stop}
use Rattle.scaler.proofs.preparing.PreparedProgram.of.Goals as goal

pub tree_of-requires-clause-flow : goal.tree_of-requires-clause-flow
tree_of-requires-clause-flow c = (c.in_ok-sources.sources.view, c.in_ok-program.ensures.code_is)

pub tree_of-requires-clause-tree : goal.tree_of-requires-clause-tree
tree_of-requires-clause-tree c = (c.in_ok-sources.sources.notes, c.in_ok-program.program.tree, c.in_ok-program.ensures.tree_is, c.uncounted-notes.ensures)

pub returns-in_err-sources : goal.returns-in_err-sources
returns-in_err-sources c =
    let p = err_from_is_err_and c.from_residual.result c.from_residual.ensures.1 in
    rw (p.1, p.2) (sources_stop c.args.image.now c.args.machine.now c.args.loops.now c.in_err-sources.field-0.0 c.in_err-sources.ensures.sources)

pub returns-in_err-program : goal.returns-in_err-program
returns-in_err-program c =
    let p = err_from_is_err_and c.from_residual-in_err-program.result c.from_residual-in_err-program.ensures.1 in
    rw (p.1, p.2) (program_stops c.args.image.now c.args.machine.now c.args.loops.now c.in_ok-sources.sources c.in_err-program.field-0.0 c.in_ok-sources.ensures.sources c.in_err-program.ensures)

pub returns : goal.returns
returns c = record {
  notes = c.in_ok-sources.sources.notes;
  sources_are = c.in_ok-sources.ensures.sources;
  in_range = c.in_ok-sources.ensures.in_range;
  timed = c.in_ok-program.ensures;
  uncounted = subst (λ (notes : List LoopNote). IsTreeOf c.in_ok-program.program.graph notes c.in_ok-uncounted.uncounted) c.uncounted-notes.ensures c.in_ok-uncounted.ensures;
}
