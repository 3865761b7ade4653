use Rattle.std.proofs.Common.{◌≡◌, ◌+◌, ℕ, ◌∷◌, [], ◌++◌, sym, ◌∙◌, subst}
use Rattle.flow_graph.specs.FlowGraph.{graph}
use Rattle.loop_forest.specs.Tree.{loops}
use Rattle.worst_walks.proofs.Laws.{loop_within}
use Rattle.worst_lines.specs.Kept.{course_of, AreLinesBelow}
use Rattle.worst_lines.proofs.LineLaws.{loop_more, loop_skipped}
use Rattle.worst_lines.proofs.lines.push_loop.Goals as goal

pub returns-then-entries-eq0 : goal.returns-then-entries-eq0
returns-then-entries-eq0 c = λ n are w worst is.
    loop_skipped c.args.walked.now.names.now.file (graph c.args.walked.now.graph.now) (loops c.args.walked.now.graph.now c.args.walked.now.tree.now) w (course_of c.args.walked.now w worst is)
    n c.args.l c.args.lines.now.items (are w worst is)
    (sym (is.walk.entries c.args.l (loop_within c.args.walked.now.graph.now c.args.walked.now.tree.now c.requires.counts.tree.0 c.requires.counts.tree.1 c.args.l c.requires.within)) ∙ sym c.number_at-entries.ensures ∙ c.if-entries-eq0.true)

pub returns : goal.returns
returns c = λ n are w worst is.
    rw c.in_ok-push.ensures.items (loop_more c.args.walked.now.names.now.file (graph c.args.walked.now.graph.now) (loops c.args.walked.now.graph.now c.args.walked.now.tree.now) w (course_of c.args.walked.now w worst is)
    n c.args.l c.args.lines.now.items c.in_ok-line.line (loop_within c.args.walked.now.graph.now c.args.walked.now.tree.now c.requires.counts.tree.0 c.requires.counts.tree.1 c.args.l c.requires.within)
    (are w worst is) (c.in_ok-line.ensures w worst is))
