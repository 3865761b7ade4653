use Rattle.graph_runs.proofs.Programs.{runs_are_moves, runs_are_kept_moves, image_runs_are_kept_transitions}
use Rattle.graph_runs.proofs.Images.{image_starts}
use Rattle.graph_runs.proofs.runs_follow_the_graph.Goals as goal

pub returns-clause-moves : goal.returns-clause-moves
returns-clause-moves c = runs_are_moves

pub returns-clause-kept : goal.returns-clause-kept
returns-clause-kept c = runs_are_kept_moves

pub returns-clause-start : goal.returns-clause-start
returns-clause-start c = image_starts

pub returns-clause-image : goal.returns-clause-image
returns-clause-image c = image_runs_are_kept_transitions
