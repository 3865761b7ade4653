use Rattle.std.proofs.Common.{◌∙◌, subst}
use Rattle.std.proofs.lemmas.Bool.{both_ways}
use Rattle.graph_algorithms.specs.Bodies.{IsIn}
use Rattle.loop_tree.proofs.EntryLaws.{pair_same, pair_more, entry_here, one_entry}
use Rattle.loop_tree.proofs.natural.entries.side_entry.Goals as goal
use Rattle.loop_tree.proofs.natural.entries.side_entry.Goals.{else-entry-header-via-then-entry-header+else-is_among, else-entry-header-via-else-entry-header}

pub returns-then-is_among-clause-entry : goal.returns-then-is_among-clause-entry
returns-then-is_among-clause-entry c =
    let v = c.args.graph.now in
    let header = c.args.header in
    let body = c.args.body.now in
    let flow = c.requires.edges.graph.flow in
    let entry = c.entry_of-entry.result in
    pair_more v c.args.search.now header body c.side_entry-least.result entry c.lesser_pair.result (c.is_among.ensures.0 c.if-is_among.true) c.if-entry-header.true
    (entry_here v flow header entry c.requires.header c.entry_of-entry.ensures)
    (one_entry v flow header entry body c.requires.owned c.entry_of-entry.ensures) c.lesser_pair.ensures c.side_entry-least.ensures.entry

pub returns-clause-entry : goal.returns-clause-entry
returns-clause-entry c =
    let v = c.args.graph.now in
    let header = c.args.header in
    let body = c.args.body.now in
    let flow = c.requires.edges.graph.flow in
    let entry = c.entry_of-entry.result in
    let one = one_entry v flow header entry body c.requires.owned c.entry_of-entry.ensures in
    elim c.else-entry-header.branch [
      | else-entry-header-via-then-entry-header+else-is_among w ↦
          pair_same v c.args.search.now header body c.side_entry-least.result
          (λ i here ne is. both_ways w.is_among.result w.if-is_among.false (w.is_among.ensures.1 (subst (IsIn c.args.body.now) (one i here is) here))) c.side_entry-least.ensures.entry
      | else-entry-header-via-else-entry-header w ↦
          pair_same v c.args.search.now header body c.side_entry-least.result (λ i here ne is. ne (one i here is ∙ w.if-entry-header.false)) c.side_entry-least.ensures.entry
    ]
