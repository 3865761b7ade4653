use Rattle.std.proofs.Common.{◌≡◌, ◌≤◌, ◌-◌, ℕ, slice_get, Some, refl, ap, sym, subst, ◌∙◌, arith}
use Rattle.std.specs.Prelude.{Option, IsSome}
use Rattle.std.proofs.lemmas.Option.{slice_get_within, same_Some}
use Rattle.scale_base.specs.declared.ranges.Range.{Range}
use Rattle.plan_graphs.proofs.BlockFacts.{last_there, long}
use Rattle.plan_graphs.proofs.blocks.last_node.Goals as goal

pub overflow_sub-range : goal.overflow_sub-range
overflow_sub-range c =
    let h : 4 ≤ c.block-range.result.to = long c.args.graph.now c.node_count-nodes.ensures.graph c.block-range.result (c.block_count-blocks.ensures.blocks.each c.args.b c.block-range.result c.block-range.ensures) in
    omega (arith, h)

pub unwrap-requires : goal.unwrap-requires
unwrap-requires c =
    let k = last_there c.args.graph.now c.node_count-nodes.ensures.graph c.block-range.result (c.block_count-blocks.ensures.blocks.each c.args.b c.block-range.result c.block-range.ensures) in
    let found = (c.find.ensures k.0).1 k.1 in
    subst (λ (o : Option ℕ). IsSome o) (sym found) refl

pub returns-clause-node : goal.returns-clause-node
returns-clause-node c = λ range e.
    let same : c.block-range.result ≡ range = same_Some c.block-range.result range (sym c.block-range.ensures ∙ e) in
    subst (λ (r : Range). slice_get c.args.graph.now.code.nodes c.unwrap.result ≡ Some (r.to - 4)) same ((c.find.ensures c.unwrap.result).0 c.unwrap.ensures)

pub returns-clause-within : goal.returns-clause-within
returns-clause-within c = slice_get_within c.args.graph.now.code.nodes c.unwrap.result (c.block-range.result.to - 4) ((c.find.ensures c.unwrap.result).0 c.unwrap.ensures)
