use Rattle.std.proofs.Common.{◌≡◌, length, map, sym, ap, ◌∙◌, subst}
use Rattle.graph_algorithms.specs.Nesting.{AreLoops, IsNesting, bodies_of}
use Rattle.loop_forest.specs.Found.{LoopsView}
use Rattle.loop_file.specs.declared.notes.LoopNote.{LoopNote}
use Rattle.loop_file.specs.Kept.{noted_loops}
use Rattle.loop_forest.specs.Stored.{IsStoredTree}
use Rattle.loop_forest.specs.Tree.{IsTreeOf}
use Rattle.loop_tree.proofs.NestLaws.{loops_nested}
use Rattle.loop_tree.proofs.TreeLaws.{seen, bounds_in, stored, tree_of, same_view}
use Rattle.loop_tree.proofs.assembling.assemble.Goals as goal

pub nest_loops-requires : goal.nest_loops-requires
nest_loops-requires c =
    let hs : c.args.found.headers ≡ c.deref-2.result.now = sym (c.deref-2.ensures.value ∙ ap (λ (t : LoopsView). t.headers) c.found.view_is) in
    let bs : c.args.found.bodies ≡ bodies_of c.deref.result.now = sym (ap bodies_of c.deref.ensures.value ∙ ap (λ (t : LoopsView). t.bodies) c.found.view_is) in
    let loops : AreLoops c.args.found.bodies c.args.found.headers (length c.args.graph.now.code.nodes) =
    loops_nested c.args.graph.now c.args.found.headers (bounds_in c.args.notes.now) c.args.found.bodies (noted_loops c.args.notes.now).inside (seen c.args.graph.now c.args.notes.now c.args.found c.requires.flow c.requires.loops) in
    record {
      loops = subst (λ n. AreLoops (bodies_of c.deref.result.now) c.deref-2.result.now n) (sym c.node_count.ensures.count)
          (subst (λ xs. AreLoops (bodies_of c.deref.result.now) xs (length c.args.graph.now.code.nodes)) hs
          (subst (λ xs. AreLoops xs c.args.found.headers (length c.args.graph.now.code.nodes)) bs loops));
    }

pub of-requires : goal.of-requires
of-requires c =
    let bs : bodies_of c.deref.result.now ≡ c.args.found.bodies = ap bodies_of c.deref.ensures.value ∙ ap (λ (t : LoopsView). t.bodies) c.found.view_is in
    let size : length c.in_ok-nesting.nesting.parent ≡ length c.args.found.bodies = c.in_ok-nesting.ensures.loops ∙ ap length bs in
    subst IsStoredTree
    (same_view c.args.edges.backs.items c.args.edges.order.items c.in_ok-least_trips.least_trips.items c.args.found.headers c.found.inside.headers.items (bounds_in c.args.notes.now) c.in_ok-bounds.bounds.items (map (λ (note : LoopNote). note.counted) c.args.notes.now) c.in_ok-counted.counted.items
    c.args.found.bodies (bodies_of c.found.inside.bodies.items) c.in_ok-nesting.nesting.innermost c.into_parts-innermost.result.0.items c.in_ok-nesting.nesting.parent c.into_parts-innermost.result.1.items
    (sym (ap (λ (t : LoopsView). t.headers) c.found.view_is)) (sym c.in_ok-bounds.ensures.bounds) (sym c.in_ok-counted.ensures) (sym (ap (λ (t : LoopsView). t.bodies) c.found.view_is)) (sym c.into_parts-innermost.ensures.innermost) (sym c.into_parts-innermost.ensures.parent))
    (stored c.args.graph.now c.args.notes.now c.args.found c.in_ok-least_trips.least_trips.items c.args.edges.backs.items c.in_ok-nesting.nesting.innermost c.in_ok-nesting.nesting.parent c.args.edges.order.items c.bounds_of.ensures.in_range c.requires.loops c.in_ok-least_trips.ensures size)

pub returns : goal.returns
returns c =
    let hs : c.deref-2.result.now ≡ c.args.found.headers = c.deref-2.ensures.value ∙ ap (λ (t : LoopsView). t.headers) c.found.view_is in
    let bs : bodies_of c.deref.result.now ≡ c.args.found.bodies = ap bodies_of c.deref.ensures.value ∙ ap (λ (t : LoopsView). t.bodies) c.found.view_is in
    let nesting : IsNesting c.args.found.bodies c.args.found.headers (length c.args.graph.now.code.nodes) c.in_ok-nesting.nesting =
    subst (λ n. IsNesting c.args.found.bodies c.args.found.headers n c.in_ok-nesting.nesting) c.node_count.ensures.count
    (subst (λ xs. IsNesting c.args.found.bodies xs c.node_count.result c.in_ok-nesting.nesting) hs
    (subst (λ xs. IsNesting xs c.deref-2.result.now c.node_count.result c.in_ok-nesting.nesting) bs c.in_ok-nesting.ensures)) in
    subst (IsTreeOf c.args.graph.now c.args.notes.now)
    (same_view c.args.edges.backs.items c.args.edges.order.items c.in_ok-least_trips.least_trips.items c.args.found.headers c.found.inside.headers.items (bounds_in c.args.notes.now) c.in_ok-bounds.bounds.items (map (λ (note : LoopNote). note.counted) c.args.notes.now) c.in_ok-counted.counted.items
    c.args.found.bodies (bodies_of c.found.inside.bodies.items) c.in_ok-nesting.nesting.innermost c.into_parts-innermost.result.0.items c.in_ok-nesting.nesting.parent c.into_parts-innermost.result.1.items
    (sym (ap (λ (t : LoopsView). t.headers) c.found.view_is)) (sym c.in_ok-bounds.ensures.bounds) (sym c.in_ok-counted.ensures) (sym (ap (λ (t : LoopsView). t.bodies) c.found.view_is)) (sym c.into_parts-innermost.ensures.innermost) (sym c.into_parts-innermost.ensures.parent) ∙ sym c.of.ensures)
    (tree_of c.args.graph.now c.args.notes.now c.args.found c.in_ok-least_trips.least_trips.items c.args.edges.backs.items c.in_ok-nesting.nesting.innermost c.in_ok-nesting.nesting.parent c.args.edges.order.items c.requires.flow c.bounds_of.ensures.in_range c.requires.loops c.in_ok-least_trips.ensures c.requires.backs c.requires.order nesting)
