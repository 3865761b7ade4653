use Rattle.std.proofs.Common.{◌≡◌, ◌+◌, ℕ, ◌∷◌, [], ◌++◌, sym, ◌∙◌, subst}
use Rattle.flow_graph.specs.FlowGraph.{graph}
use Rattle.loop_forest.specs.Tree.{loops}
use Rattle.worst_lines.specs.Kept.{course_of, AreLinesBelow}
use Rattle.worst_lines.proofs.LineLaws.{function_more, function_skipped}
use Rattle.worst_lines.proofs.lines.push_function.Goals as goal

pub returns-then-calls-eq0 : goal.returns-then-calls-eq0
returns-then-calls-eq0 c = λ are w worst is.
    function_skipped c.args.walked.now.names.now.file (graph c.args.walked.now.graph.now) (loops c.args.walked.now.graph.now c.args.walked.now.tree.now) w (course_of c.args.walked.now w worst is)
    c.args.f 0 c.args.lines.now.items (are w worst is) (sym (is.walk.calls c.args.f c.requires.within) ∙ sym c.number_at-calls.ensures ∙ c.if-calls-eq0.true)

pub returns : goal.returns
returns c = λ are w worst is.
    rw c.in_ok-push.ensures.items (function_more c.args.walked.now.names.now.file (graph c.args.walked.now.graph.now) (loops c.args.walked.now.graph.now c.args.walked.now.tree.now) w (course_of c.args.walked.now w worst is)
    c.args.f 0 c.args.lines.now.items c.in_ok-line.line c.requires.within (are w worst is) (c.in_ok-line.ensures w worst is))
