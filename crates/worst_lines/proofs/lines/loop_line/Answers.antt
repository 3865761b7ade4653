use Rattle.std.proofs.Common.{◌≡◌, ℕ, ◌+◌, ◌<◌, sym, ap, ap₂, ◌∙◌, subst}
use Rattle.std.proofs.lemmas.Option.{same_Some}
use Rattle.cost_theory.specs.Graph.{total}
use Rattle.graph_algorithms.specs.Arcs.{number_in_place}
use Rattle.flow_graph.specs.FlowGraph.{graph}
use Rattle.loop_forest.specs.Tree.{loops}
use Rattle.worst_walks.specs.Explained.{turns_of}
use Rattle.worst_walks.proofs.Laws.{header_address, loop_within}
use Rattle.worst_lines.specs.declared.shown.Part.TheVariants.{Loop}
use Rattle.worst_lines.specs.Kept.{course_of}
use Rattle.worst_lines.specs.Lines.{entries}
use Rattle.worst_lines.proofs.lines.loop_line.Goals as goal

pub returns : goal.returns
returns c = λ w worst is.
    let k = c.args.l in
    let v = c.args.walked.now.graph.now in
    let t = c.args.walked.now.tree.now in
    let within : k < (loops v t).loops = loop_within v t c.requires.counts.tree.0 c.requires.counts.tree.1 k c.requires.within in
    let count : number_in_place c.args.walked.now.counts.now.entries.items k ≡ entries (graph v) (loops v t) (course_of c.args.walked.now w worst is) k = is.walk.entries k within in
    let turned : number_in_place c.args.walked.now.counts.now.turns.items k ≡ total (turns_of (graph v) (loops v t) k) (is.walk.walks.whole 0) = is.walk.turns.each k within in
    record {
      entered = subst (λ (n : ℕ). 0 < n) count c.requires.entered;
      part = ap₂ (λ (n m : ℕ). Loop (k + 1) n m) (c.number_at-entries.ensures ∙ count) (c.number_at-turns.ensures ∙ turned);
      at = same_Some _ _ (sym c.node-at.ensures ∙ header_address v t c.requires.counts.tree.0 c.requires.counts.tree.1 k c.header.result c.header.ensures);
      place = c.in_ok-place.ensures;
      own = c.number_at-own.ensures ∙ is.walk.loop_own.each k within;
      all = c.number_at-all.ensures ∙ is.all.loops.each k within;
    }
