use Rattle.std.proofs.Common.{rules, ◌≡◌, ap, sym, subst, Some, None, slice_index_or}
use Rattle.scale_base.specs.declared.refusal.Refusal.TheVariants.{SideEntry}
use Rattle.graph_algorithms.specs.Bodies.{IsLeastPair}
use Rattle.loop_tree.specs.Passes.{IsNumberedBody, IsSidePair}
use Rattle.loop_tree.proofs.EntryLaws.{body_owned, pair_found, pair_within}
use Rattle.loop_tree.proofs.ReadyLaws.{header_at, header_within, entered_none, entered_by}
use Rattle.loop_tree.proofs.natural.entries.check_entry.Goals as goal

pub loop_body-requires-clause-header : goal.loop_body-requires-clause-header
loop_body-requires-clause-header c = header_at c.args.noted.now.graph.now c.args.search.now c.args.noted.now.notes.now c.args.noted.now.headers.now c.requires.ready c.args.k c.note.result.now c.note.ensures.note

pub side_entry-requires-clause-header : goal.side_entry-requires-clause-header
side_entry-requires-clause-header c = header_within c.args.noted.now.graph.now c.args.search.now c.args.noted.now.notes.now c.args.noted.now.headers.now c.requires.ready c.args.k c.requires.within

pub side_entry-requires-clause-owned : goal.side_entry-requires-clause-owned
side_entry-requires-clause-owned c = body_owned c.args.noted.now.graph.now c.note.result.now _ c.deref.result.now
    (header_at c.args.noted.now.graph.now c.args.search.now c.args.noted.now.notes.now c.args.noted.now.headers.now c.requires.ready c.args.k c.note.result.now c.note.ensures.note)
    (subst (λ b. IsNumberedBody c.args.noted.now.graph.now c.note.result.now b) (sym c.deref.ensures.value) c.in_ok-body.ensures.body)

pub node-requires : goal.node-requires
node-requires c =
    let least = pair_found c.args.noted.now.graph.now c.loop_body.new.search c.args.search.now (slice_index_or c.args.noted.now.headers.now c.args.k 0) c.deref.result.now c.in_ok-body.body.items (Some (c.in-Some.from, c.in-Some.to))
    c.in_ok-body.ensures.same c.deref.ensures.value c.in-Some.ensures.entry in
    (pair_within c.args.noted.now.graph.now c.args.search.now c.requires.ready.edges (slice_index_or c.args.noted.now.headers.now c.args.k 0) c.in_ok-body.body.items c.in_ok-body.ensures.body.nodes c.in-Some.from c.in-Some.to least.0).0

pub node-requires-in-Some : goal.node-requires-in-Some
node-requires-in-Some c =
    let least = pair_found c.args.noted.now.graph.now c.loop_body.new.search c.args.search.now (slice_index_or c.args.noted.now.headers.now c.args.k 0) c.deref.result.now c.in_ok-body.body.items (Some (c.in-Some.from, c.in-Some.to))
    c.in_ok-body.ensures.same c.deref.ensures.value c.in-Some.ensures.entry in
    (pair_within c.args.noted.now.graph.now c.args.search.now c.requires.ready.edges (slice_index_or c.args.noted.now.headers.now c.args.k 0) c.in_ok-body.body.items c.in_ok-body.ensures.body.nodes c.in-Some.from c.in-Some.to least.0).1

pub returns-in-Some-clause-entry : goal.returns-in-Some-clause-entry
returns-in-Some-clause-entry c =
    let least = pair_found c.args.noted.now.graph.now c.loop_body.new.search c.args.search.now (slice_index_or c.args.noted.now.headers.now c.args.k 0) c.deref.result.now c.in_ok-body.body.items (Some (c.in-Some.from, c.in-Some.to))
    c.in_ok-body.ensures.same c.deref.ensures.value c.in-Some.ensures.entry in
    entered_by c.args.noted.now.graph.now c.args.search.now c.args.noted.now.notes.now c.args.noted.now.headers.now c.requires.ready c.args.k c.note.result.now c.note.ensures.note c.in_ok-body.body.items
    c.in_ok-body.ensures.body (c.in-Some.from, c.in-Some.to) c.node.result c.node-in-Some.result _ least c.node.ensures c.node-in-Some.ensures
    (ap (λ k. SideEntry k c.node.result c.node-in-Some.result) c.number_of.ensures)

pub returns-clause-entry : goal.returns-clause-entry
returns-clause-entry c =
    let none : c.side_entry.result ≡ None = search rules in
    let least = pair_found c.args.noted.now.graph.now c.loop_body.new.search c.args.search.now (slice_index_or c.args.noted.now.headers.now c.args.k 0) c.deref.result.now c.in_ok-body.body.items None
    c.in_ok-body.ensures.same c.deref.ensures.value
    (subst (IsLeastPair (IsSidePair c.args.noted.now.graph.now c.loop_body.new.search (slice_index_or c.args.noted.now.headers.now c.args.k 0) c.deref.result.now)) none c.side_entry.ensures.entry) in
    entered_none c.args.noted.now.graph.now c.args.search.now c.args.noted.now.notes.now c.args.noted.now.headers.now c.requires.ready c.args.k c.note.result.now c.note.ensures.note c.in_ok-body.body.items c.in_ok-body.ensures.body least
