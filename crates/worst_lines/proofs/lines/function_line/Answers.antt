use Rattle.std.proofs.Common.{◌≡◌, ℕ, ◌*◌, ◌<◌, sym, ap, ◌∙◌, subst}
use Rattle.std.proofs.lemmas.Option.{same_Some}
use Rattle.cost_theory.specs.Graph.{total}
use Rattle.graph_algorithms.specs.Arcs.{number_in_place}
use Rattle.flow_graph.specs.FlowGraph.{graph}
use Rattle.worst_lines.specs.declared.shown.Part.TheVariants.{Function}
use Rattle.worst_lines.specs.Kept.{course_of}
use Rattle.worst_lines.specs.Lines.{calls}
use Rattle.worst_lines.proofs.lines.function_line.Goals as goal

pub returns : goal.returns
returns c = λ w worst is.
    let f = c.args.f in
    let count : number_in_place c.args.walked.now.counts.now.calls.items f ≡ calls (graph c.args.walked.now.graph.now) (course_of c.args.walked.now w worst is) f = is.walk.calls f c.requires.within in
    record {
      called = subst (λ (k : ℕ). 0 < k) count c.requires.called;
      part = ap Function (c.number_at-calls.ensures ∙ count);
      at = same_Some _ _ (sym c.node-at.ensures ∙ c.entry_node.ensures.node);
      place = c.in_ok-place.ensures;
      own = c.number_at-own.ensures ∙ is.walk.function_own.each f c.requires.within;
      all = c.number_at-all.ensures ∙ is.all.functions f c.requires.within ∙ ap (λ (k : ℕ). k * total w (is.walk.walks.whole f)) count;
    }
