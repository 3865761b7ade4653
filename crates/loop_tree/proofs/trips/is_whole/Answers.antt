use Rattle.std.proofs.Common.{◌≡◌, ◌<◌, length, slice_get, slice_index, Some, sym, ap, ◌∙◌, subst}
use Rattle.std.proofs.lemmas.Option.{slice_get_within, slice_get-get_or}
use Rattle.graph_algorithms.specs.Bodies.{in_node_ranges}
use Rattle.loop_tree.proofs.trips.is_whole.Goals as goal

pub returns : goal.returns
returns c = (
  λ h i at g held.
      let low : i < c.node_count-count.result = subst (λ n. i < n) (sym c.node_count-count.ensures.count) (slice_get_within c.args.graph.now.code.nodes i at g) in
      c.has_ranges.ensures.0 h i (ap (λ xs. in_node_ranges xs i) c.deref.ensures.value ∙ c.in_ok-extent.ensures i at g ∙ held) low,
  λ w. c.has_ranges.ensures.1 (λ k ink kl.
      let low : k < length c.args.graph.now.code.nodes = subst (λ n. k < n) c.node_count-count.ensures.count kl in
      let g : slice_get c.args.graph.now.code.nodes k ≡ Some (slice_index c.args.graph.now.code.nodes k) = slice_get-get_or c.args.graph.now.code.nodes k 0 low in
      w k (slice_index c.args.graph.now.code.nodes k) g (sym (c.in_ok-extent.ensures k (slice_index c.args.graph.now.code.nodes k) g) ∙ sym (ap (λ xs. in_node_ranges xs k) c.deref.ensures.value) ∙ ink)),
)
