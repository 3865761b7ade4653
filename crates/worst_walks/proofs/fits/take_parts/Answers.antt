use Rattle.std.proofs.Common.{◌≡◌, ℕ, ◌+◌, ◌*◌, ◌<◌, List, Vec, Some, length, slice_index, ◌∙◌, subst}
use Rattle.std.specs.declared.alloc.Global.{Global}
use Rattle.cost_theory.specs.Graph.{IsPlainPath, IsClosing}
use Rattle.cost_theory.specs.Lists.{body_of}
use Rattle.graph_algorithms.specs.Arcs.{number_in_place}
use Rattle.graph_algorithms.specs.Nesting.{bodies_of}
use Rattle.flow_graph.specs.FlowGraph.{graph}
use Rattle.loop_forest.specs.Tree.{loops}
use Rattle.worst_walks.specs.Tallies.{taken_sum, lists_sum}
use Rattle.worst_walks.proofs.WalkLaws.{taken_is}
use Rattle.worst_walks.proofs.fits.take_parts.Goals as goal

pub returns-then-take_lists-2 : goal.returns-then-take_lists-2
returns-then-take_lists-2 c =
    let turns_each = rw c.in-Some.is at c.in_ok-turns.ensures.each in
    let size = c.in_ok-taken.ensures.size ∙ c.edge_count.ensures.count in
    taken_is c.args.graph.now c.args.tree.now c.requires.tree.0 c.node_count-nodes.ensures.graph c.requires.tree.1
    (bodies_of c.args.parts.now.paths.items) (bodies_of c.args.parts.now.turns.items) c.args.times.now.calls.now c.args.times.now.entries.now c.in-Some.turns.items c.in_ok-taken.taken.items
    c.take_lists.new.taken.items c.take_lists-then-take_lists.new.taken.items (length c.args.parts.now.paths.items) (length c.args.parts.now.turns.items)
    (c.take_lists-then-take_lists.ensures.size ∙ c.take_lists.ensures.size ∙ size)
    (subst (λ (xs : List (Vec ℕ Global)). (f : ℕ) → f < length c.args.graph.now.code.functions → IsPlainPath (graph c.args.graph.now) (loops c.args.graph.now c.args.tree.now) (Some ((graph c.args.graph.now).entry f)) (body_of (bodies_of xs) f))
    c.deref.ensures.value (c.are_paths.ensures c.if-not-are_paths.false))
    (subst (λ (xs : List (Vec ℕ Global)). (k : ℕ) → k < length c.args.tree.now.headers → IsClosing (graph c.args.graph.now) (loops c.args.graph.now c.args.tree.now) k (Some ((loops c.args.graph.now c.args.tree.now).header k)) (body_of (bodies_of xs) k))
    c.deref-else-not-are_paths.ensures.value (c.are_turns.ensures c.if-not-are_turns.false))
    (λ e el. c.in_ok-taken.ensures.each e (subst (λ n. e < n) c.in_ok-taken.ensures.size el))
    c.requires.entries
    (subst (λ (bounds : List ℕ). (k : ℕ) → k < length c.args.times.now.entries.now → number_in_place c.in-Some.turns.items k ≡ number_in_place c.args.times.now.entries.now k * slice_index bounds k) c.bounds.ensures turns_each)
    c.requires.paths c.requires.turns
    (subst (λ (xs : List (Vec ℕ Global)). (m : ℕ → ℕ) → taken_sum c.take_lists.new.taken.items m ≡ taken_sum c.in_ok-taken.taken.items m + lists_sum (length xs) (bodies_of xs) c.args.times.now.calls.now m)
    c.deref-2.ensures.value (c.take_lists.ensures.taken c.if-take_lists.true))
    (subst (λ (times : List ℕ). (m : ℕ → ℕ) → taken_sum c.take_lists-then-take_lists.new.taken.items m ≡ taken_sum c.take_lists.new.taken.items m + lists_sum (length c.args.parts.now.turns.items) (bodies_of c.args.parts.now.turns.items) times m) c.deref-then-take_lists-2.ensures.value
    (subst (λ (xs : List (Vec ℕ Global)). (m : ℕ → ℕ) → taken_sum c.take_lists-then-take_lists.new.taken.items m ≡ taken_sum c.take_lists.new.taken.items m + lists_sum (length xs) (bodies_of xs) c.deref-then-take_lists-2.result.now m)
    c.deref-then-take_lists.ensures.value (c.take_lists-then-take_lists.ensures.taken c.if-take_lists-2.true)))
