use Rattle.std.proofs.Common.{◌+◌, ap, sym, ◌∙◌}
use Rattle.code_graph.specs.Finding.{reach_of}
use Rattle.code_graph.proofs.Lists.{none_is}
use Rattle.code_graph.proofs.NodeLaws.{nodes_none, nodes_one, nodes_same}
use Rattle.code_graph.proofs.nodes.nodes_of.Goals as goal
use Rattle.code_graph.proofs.nodes.nodes_of.Goals.{in-Some+in_ok-push+in_ok-push-2+in_ok-push-3, in_default}

pub loop-k-preserved : goal.loop-k-preserved
loop-k-preserved c =
    elim c.match-owner_of.branch [
      | in-Some+in_ok-push+in_ok-push-2+in_ok-push-3 w ↦ nodes_same (reach_of c.args.reach.now) (c.loop-k.k + 1) _ c.match-owner_of.addresses.items _ c.match-owner_of.kinds.items _ c.match-owner_of.owners.items
          (ap (λ v. v.items) w.addresses-is ∙ w.in_ok-push.ensures.items) (ap (λ v. v.items) w.kinds-is ∙ w.in_ok-push-2.ensures.items) (ap (λ v. v.items) w.owners-is ∙ w.in_ok-push-3.ensures.items)
          (nodes_one (reach_of c.args.reach.now) c.loop-k.k c.loop-k.addresses.items c.loop-k.kinds.items c.loop-k.owners.items w.in-Some.owner w.address.result w.kind.result c.requires.1.table.rising c.loop-k.invariant
          (sym c.owner_of.ensures ∙ w.in-Some.is) w.address.ensures w.kind.ensures)
      | in_default w ↦ nodes_same (reach_of c.args.reach.now) (c.loop-k.k + 1) _ c.match-owner_of.addresses.items _ c.match-owner_of.kinds.items _ c.match-owner_of.owners.items
          (ap (λ v. v.items) w.addresses-is) (ap (λ v. v.items) w.kinds-is) (ap (λ v. v.items) w.owners-is)
          (nodes_none (reach_of c.args.reach.now) c.loop-k.k c.loop-k.addresses.items c.loop-k.kinds.items c.loop-k.owners.items c.loop-k.invariant (sym c.owner_of.ensures ∙ none_is c.owner_of.result w.in_default.not-Some))
    ]
