use Rattle.std.proofs.Common.{◌≡◌, ℕ, ◌+◌, List, length, slice_get, Some, subst}
use Rattle.std.specs.List.{sum_by}
use Rattle.flow_graph.specs.FlowGraph.{graph}
use Rattle.loop_forest.specs.Tree.{loops}
use Rattle.worst_walks.proofs.Laws.{loop_below}
use Rattle.worst_lines.specs.declared.shown.Line.{Line}
use Rattle.worst_lines.specs.Kept.{course_of}
use Rattle.worst_lines.specs.Lines.{IsBefore}
use Rattle.worst_lines.proofs.LineLaws.{lines_moved}
use Rattle.worst_lines.proofs.lines.walk_lines.Goals as goal

pub returns : goal.returns
returns c = λ w is.
    let x = c.args.walked.now in
    let v = c.args.walked.now.graph.now in
    let t = c.args.walked.now.tree.now in
    let n : ℕ = length c.args.walked.now.graph.now.code.functions in
    let are = lines_moved x.names.now.file (graph v) (loops v t) w (course_of x w c.args.worst is) n (length t.headers) c.push_loops.new.lines.items c.sort_by.new.self.items c.sort_by.ensures.permutation
    (c.in_ok-push_loops.ensures n c.in_ok-lines.ensures w c.args.worst is) in
    record {
      course = course_of x w c.args.worst is;
      walked = is.walk.walked;
      takes = is.walk.takes;
      innermost = is.walk.innermost;
      functions = are.functions;
      loops = λ k kl. are.loops k (loop_below v t c.requires.tree.0 c.requires.tree.1 k kl);
      only_these = are.only_these;
      in_order = subst (λ (lines : List Line). (i : ℕ) (a b : Line) → slice_get lines i ≡ Some a → slice_get lines (i + 1) ≡ Some b → IsBefore a b) c.deref-else-not-adds_up.ensures.value (c.are_in_order.ensures c.if-not-are_in_order.false);
      adds_up = subst (λ (lines : List Line). sum_by (λ (line : Line). line.own) lines ≡ c.args.worst) c.deref.ensures.value (c.adds_up.ensures c.if-not-adds_up.false);
    }
