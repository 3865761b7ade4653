use Rattle.std.proofs.Common.{◌≡◌, ℕ, length, arith, subst}
use Rattle.flow_graph.specs.FlowGraph.{graph}
use Rattle.loop_forest.specs.Tree.{loops}
use Rattle.worst_lines.specs.Kept.{course_of, AreLinesOf}
use Rattle.worst_lines.proofs.LineLaws.{no_lines}
use Rattle.worst_lines.proofs.lines.function_lines.Goals as goal

pub loop-f-init : goal.loop-f-init
loop-f-init c = λ w worst is. rw c.new-lines.ensures.items (no_lines c.args.walked.now.names.now.file (graph c.args.walked.now.graph.now) (loops c.args.walked.now.graph.now c.args.walked.now.tree.now) w (course_of c.args.walked.now w worst is))

pub loop-f-preserved : goal.loop-f-preserved
loop-f-preserved c = c.in_ok-push_function.ensures c.loop-f.invariant

pub returns : goal.returns
returns c =
    let all : c.loop-f.f ≡ length c.args.walked.now.graph.now.code.functions = omega arith in
    subst (λ (n : ℕ). AreLinesOf c.args.walked.now n 0 c.loop-f.lines.items) all c.loop-f.invariant
