use Rattle.std.proofs.Common.{◌≡◌, ℕ, Bool, true, false, cond, sym, ap, ◌∙◌}
use Rattle.std.proofs.lemmas.Option.{same_Some}
use Rattle.flow_graph.specs.FlowGraph.{graph}
use Rattle.loop_forest.specs.Tree.{loops}
use Rattle.worst_cycles.specs.Worst.{rest_at}
use Rattle.plan_graphs.proofs.BlockFacts.{place_is}
use Rattle.plan_graphs.proofs.edges.left_of.Goals as goal

pub returns-then-is_return : goal.returns-then-is_return
returns-then-is_return c = λ told holds.
    let v = c.args.sketch.now.graph.now in
    let l = loops v c.args.sketch.now.tree.now in
    let e = c.args.e in
    let f_is : c.owner.result ≡ (graph v).owner ((graph v).source e) = c.owner.ensures.owner ∙ ap (λ (at : ℕ). (graph v).owner at) (place_is v c.source.result ((graph v).source e) c.source.ensures.node) in
    let value : c.context.result ≡ told.numbers.context c.owner.result = same_Some c.context.result (told.numbers.context c.owner.result) (sym c.context.ensures ∙ holds.context c.owner.result c.owner.ensures.within) in
    let is : (graph v).returns e ≡ true = sym c.is_return.ensures ∙ c.if-is_return.true in
    value ∙ ap (λ (f : ℕ). told.numbers.context f) f_is ∙ sym (ap (λ (b : Bool). cond b (told.numbers.context ((graph v).owner ((graph v).source e))) (rest_at (graph v) l told.numbers e)) is)

pub returns-else-is_return : goal.returns-else-is_return
returns-else-is_return c = λ told holds.
    let v = c.args.sketch.now.graph.now in
    let l = loops v c.args.sketch.now.tree.now in
    let e = c.args.e in
    let value : c.rest.result ≡ rest_at (graph v) l told.numbers e = same_Some c.rest.result (rest_at (graph v) l told.numbers e) (sym c.rest.ensures ∙ holds.rest e c.requires.edge) in
    let is : (graph v).returns e ≡ false = sym c.is_return.ensures ∙ c.if-is_return.false in
    value ∙ sym (ap (λ (b : Bool). cond b (told.numbers.context ((graph v).owner ((graph v).source e))) (rest_at (graph v) l told.numbers e)) is)
