use Rattle.std.proofs.Common.{◌≡◌, true, false, Some, None, slice_get, sym, ap, ◌∙◌}
use Rattle.std.proofs.lemmas.Option.{slice_get-get_or, same_Some}
use Rattle.loop_forest.specs.Noted.{node_address}
use Rattle.loop_forest.specs.Tree.{loops}
use Rattle.worst_walks.proofs.EnterLaws.{innermost_at, loop_below, header_address, entered_outside, entered_loop, entered_within, entered_back, other_address}
use Rattle.worst_walks.proofs.keys.entered_loop.Goals as goal
use Rattle.worst_walks.proofs.keys.entered_loop.Goals.{then-header-to-via-then-header-to, then-header-to-via-else-header-to+then-is_back_edge}

pub returns-in_default-innermost : goal.returns-in_default-innermost
returns-in_default-innermost c =
    let here : slice_get c.args.graph.now.code.nodes c.in-Some.to ≡ Some (node_address c.args.graph.now c.in-Some.to) = slice_get-get_or c.args.graph.now.code.nodes c.in-Some.to 0 (c.target.ensures.within c.in-Some.to c.in-Some.is) in
    entered_outside c.args.graph.now c.args.tree.now c.requires.tree.0 c.node_count-nodes.ensures.graph c.requires.tree.1 c.args.e (node_address c.args.graph.now c.in-Some.to) c.requires.edge
    (c.target.ensures.some c.in-Some.to c.in-Some.is ∙ here) (innermost_at c.args.graph.now c.args.tree.now c.requires.tree.0 c.requires.tree.1 c.in-Some.to (node_address c.args.graph.now c.in-Some.to) None here c.in_default-innermost.ensures)

pub header-requires : goal.header-requires
header-requires c =
    let here : slice_get c.args.graph.now.code.nodes c.in-Some.to ≡ Some (node_address c.args.graph.now c.in-Some.to) = slice_get-get_or c.args.graph.now.code.nodes c.in-Some.to 0 (c.target.ensures.within c.in-Some.to c.in-Some.is) in
    loop_below c.args.graph.now c.args.tree.now c.requires.tree.0 c.requires.tree.1 c.in-Some-innermost.l
    (innermost_at c.args.graph.now c.args.tree.now c.requires.tree.0 c.requires.tree.1 c.in-Some.to (node_address c.args.graph.now c.in-Some.to) (Some c.in-Some-innermost.l) here c.in-Some-innermost.ensures).0

pub returns-then-header-to : goal.returns-then-header-to
returns-then-header-to c =
    let here : slice_get c.args.graph.now.code.nodes c.in-Some.to ≡ Some (node_address c.args.graph.now c.in-Some.to) = slice_get-get_or c.args.graph.now.code.nodes c.in-Some.to 0 (c.target.ensures.within c.in-Some.to c.in-Some.is) in
    let inner = innermost_at c.args.graph.now c.args.tree.now c.requires.tree.0 c.requires.tree.1 c.in-Some.to (node_address c.args.graph.now c.in-Some.to) (Some c.in-Some-innermost.l) here c.in-Some-innermost.ensures in
    let leads = c.target.ensures.some c.in-Some.to c.in-Some.is ∙ here in
    elim c.then-header-to.branch [
      | then-header-to-via-then-header-to w ↦ entered_within c.args.graph.now c.args.tree.now c.requires.tree.0 c.node_count-nodes.ensures.graph c.requires.tree.1 c.args.e c.in-Some-innermost.l (node_address c.args.graph.now c.in-Some.to) c.requires.edge leads inner
          (other_address c.args.graph.now c.args.tree.now c.requires.tree.0 c.node_count-nodes.ensures.graph c.requires.tree.1 c.in-Some.to c.header.result (node_address c.args.graph.now c.in-Some.to) ((loops c.args.graph.now c.args.tree.now).header c.in-Some-innermost.l) here
          (header_address c.args.graph.now c.args.tree.now c.requires.tree.0 c.requires.tree.1 c.in-Some-innermost.l c.header.result c.header.ensures) (λ q. w.if-header-to.true (sym q)))
      | then-header-to-via-else-header-to+then-is_back_edge w ↦ entered_back c.args.graph.now c.args.tree.now c.requires.tree.0 c.node_count-nodes.ensures.graph c.requires.tree.1 c.args.e c.in-Some-innermost.l (node_address c.args.graph.now c.in-Some.to) c.requires.edge leads inner
          (w.is_back_edge.ensures.0 w.if-is_back_edge.true)
    ]

pub returns : goal.returns
returns c =
    let here : slice_get c.args.graph.now.code.nodes c.in-Some.to ≡ Some (node_address c.args.graph.now c.in-Some.to) = slice_get-get_or c.args.graph.now.code.nodes c.in-Some.to 0 (c.target.ensures.within c.in-Some.to c.in-Some.is) in
    let inner = innermost_at c.args.graph.now c.args.tree.now c.requires.tree.0 c.requires.tree.1 c.in-Some.to (node_address c.args.graph.now c.in-Some.to) (Some c.in-Some-innermost.l) here c.in-Some-innermost.ensures in
    let leads = c.target.ensures.some c.in-Some.to c.in-Some.is ∙ here in
    entered_loop c.args.graph.now c.args.tree.now c.requires.tree.0 c.node_count-nodes.ensures.graph c.requires.tree.1 c.args.e c.in-Some-innermost.l (node_address c.args.graph.now c.in-Some.to) c.requires.edge leads inner
    (same_Some _ _ (sym here ∙ ap (slice_get c.args.graph.now.code.nodes) (sym c.if-header-to.false) ∙ header_address c.args.graph.now c.args.tree.now c.requires.tree.0 c.requires.tree.1 c.in-Some-innermost.l c.header.result c.header.ensures))
    (λ b. let t : c.is_back_edge.result ≡ true = c.is_back_edge.ensures.1 b in let f : c.is_back_edge.result ≡ false = c.if-is_back_edge.false in let bad : true ≡ false = sym t ∙ f in true_not_false bad)
  where
    true_not_false : true ≡ false → ⊥
    true_not_false e = let bad : ⊥ = cc in bad
