use Rattle.std.proofs.Common.{Vec, Global, ◌≡◌, ◌+◌, ◌*◌, ◌<◌, ◌≤◌, ℕ, [], length, get_or, map, Some, Ok, Err, ap, sym, ◌∙◌, subst, arith}
use Rattle.std.specs.Prelude.{slice_get}
use Rattle.cost_theory.specs.Reached.{callee_of, edge_to}
use Rattle.code_text.specs.Text.{text_of}
use Rattle.code_text.specs.EdgeCosts.{edge_class}
use Rattle.scale_base.specs.Answer.{AnswersBy}
use Rattle.code_graph.specs.Building.{IsBuilt}
use Rattle.code_graph.specs.Finding.{reach_of}
use Rattle.flow_graph.specs.FlowGraph.{IsGraphOf}
use Rattle.flow_graph.specs.Stored.{AreFirsts}
use Rattle.code_graph.specs.Assembling.{AreEnds, AreBlocksBy, AreEdgesOf, AreCallsWithin, IsOrdered, entry_addresses}
use Rattle.code_text.specs.Walk.{RiseStrictly}
use Rattle.code_graph.proofs.Parts.{AreParts}
use Rattle.code_graph.proofs.Calls.{calls_within}
use Rattle.code_graph.proofs.Whole.{rising, source_is, target_is, owner_function, few_entries, low_nodes, edge_word, word_test, callee_within, refused_part, round_refused, stored_is, graph_is}
use Rattle.code_graph.proofs.build.graph_of.Goals as goal

pub call_order_of-requires-clause-entries : goal.call_order_of-requires-clause-entries
call_order_of-requires-clause-entries c =
    let parts : AreParts (text_of c.args.view.now) (reach_of c.args.reach.now) c.in_ok-nodes.nodes.addresses.items c.in_ok-nodes.nodes.kinds.items c.in_ok-nodes.nodes.owners.items c.in_ok-functions.functions.items c.in_ok-returning.returning.items c.in_ok-callees.callees.items = record {
      reach = c.requires.reach;
      fine = c.requires.words;
      apart = c.requires.apart;
      nodes_are = c.in_ok-nodes.ensures;
      entries_are = c.in_ok-functions.ensures;
      returning_are = c.in_ok-returning.ensures;
      callees_are = c.in_ok-callees.ensures ∙ ap (map (callee_of (entry_addresses (reach_of c.args.reach.now)))) c.deref.ensures.value;
    } in
    let few = few_entries (text_of c.args.view.now) (reach_of c.args.reach.now) c.in_ok-nodes.nodes.addresses.items c.in_ok-nodes.nodes.kinds.items c.in_ok-nodes.nodes.owners.items c.in_ok-functions.functions.items c.in_ok-returning.returning.items c.in_ok-callees.callees.items parts in
    let most = c.requires.few in
    let same : length c.deref-2.result.now ≡ length c.in_ok-functions.functions.items = ap length c.deref-2.ensures.value in
    omega arith

pub call_order_of-requires-clause-within : goal.call_order_of-requires-clause-within
call_order_of-requires-clause-within c =
    let parts : AreParts (text_of c.args.view.now) (reach_of c.args.reach.now) c.in_ok-nodes.nodes.addresses.items c.in_ok-nodes.nodes.kinds.items c.in_ok-nodes.nodes.owners.items c.in_ok-functions.functions.items c.in_ok-returning.returning.items c.in_ok-callees.callees.items = record {
      reach = c.requires.reach;
      fine = c.requires.words;
      apart = c.requires.apart;
      nodes_are = c.in_ok-nodes.ensures;
      entries_are = c.in_ok-functions.ensures;
      returning_are = c.in_ok-returning.ensures;
      callees_are = c.in_ok-callees.ensures ∙ ap (map (callee_of (entry_addresses (reach_of c.args.reach.now)))) c.deref.ensures.value;
    } in
    let within : AreCallsWithin (length c.deref-2.result.now) c.deref-3.result.now c.deref-4.result.now =
    subst (λ xs. AreCallsWithin (length xs) c.deref-3.result.now c.deref-4.result.now) (sym c.deref-2.ensures.value) (subst (λ xs. AreCallsWithin (length c.in_ok-functions.functions.items) xs c.deref-4.result.now) (sym c.deref-3.ensures.value) (subst (λ xs. AreCallsWithin (length c.in_ok-functions.functions.items) c.in_ok-nodes.nodes.owners.items xs) (sym c.deref-4.ensures.value) (calls_within (text_of c.args.view.now) (reach_of c.args.reach.now) c.in_ok-nodes.nodes.addresses.items c.in_ok-nodes.nodes.kinds.items c.in_ok-nodes.nodes.owners.items c.in_ok-functions.functions.items c.in_ok-returning.returning.items c.in_ok-callees.callees.items parts))) in
    within

pub edges_of-requires-clause-low : goal.edges_of-requires-clause-low
edges_of-requires-clause-low c =
    let parts : AreParts (text_of c.args.view.now) (reach_of c.args.reach.now) c.in_ok-nodes.nodes.addresses.items c.in_ok-nodes.nodes.kinds.items c.in_ok-nodes.nodes.owners.items c.in_ok-functions.functions.items c.in_ok-returning.returning.items c.in_ok-callees.callees.items = record {
      reach = c.requires.reach;
      fine = c.requires.words;
      apart = c.requires.apart;
      nodes_are = c.in_ok-nodes.ensures;
      entries_are = c.in_ok-functions.ensures;
      returning_are = c.in_ok-returning.ensures;
      callees_are = c.in_ok-callees.ensures ∙ ap (map (callee_of (entry_addresses (reach_of c.args.reach.now)))) c.deref.ensures.value;
    } in
    subst (λ xs. (k : ℕ) → k < length xs → get_or xs k 0 + 4 < 4294967296) (sym c.deref-5.ensures.value) (low_nodes (text_of c.args.view.now) (reach_of c.args.reach.now) c.in_ok-nodes.nodes.addresses.items c.in_ok-nodes.nodes.kinds.items c.in_ok-nodes.nodes.owners.items c.in_ok-functions.functions.items c.in_ok-returning.returning.items c.in_ok-callees.callees.items parts)

pub edges_of-requires-clause-functions : goal.edges_of-requires-clause-functions
edges_of-requires-clause-functions c =
    let parts : AreParts (text_of c.args.view.now) (reach_of c.args.reach.now) c.in_ok-nodes.nodes.addresses.items c.in_ok-nodes.nodes.kinds.items c.in_ok-nodes.nodes.owners.items c.in_ok-functions.functions.items c.in_ok-returning.returning.items c.in_ok-callees.callees.items = record {
      reach = c.requires.reach;
      fine = c.requires.words;
      apart = c.requires.apart;
      nodes_are = c.in_ok-nodes.ensures;
      entries_are = c.in_ok-functions.ensures;
      returning_are = c.in_ok-returning.ensures;
      callees_are = c.in_ok-callees.ensures ∙ ap (map (callee_of (entry_addresses (reach_of c.args.reach.now)))) c.deref.ensures.value;
    } in
    subst (λ cs. (k f : ℕ) → slice_get cs k ≡ Some (Some f) → f < length c.deref-8.result.now) (sym c.deref-7.ensures.value)
    (subst (λ rs. (k f : ℕ) → slice_get c.in_ok-callees.callees.items k ≡ Some (Some f) → f < length rs) (sym c.deref-8.ensures.value) (callee_within (text_of c.args.view.now) (reach_of c.args.reach.now) c.in_ok-nodes.nodes.addresses.items c.in_ok-nodes.nodes.kinds.items c.in_ok-nodes.nodes.owners.items c.in_ok-functions.functions.items c.in_ok-returning.returning.items c.in_ok-callees.callees.items parts))

pub classes_of-requires-clause-words : goal.classes_of-requires-clause-words
classes_of-requires-clause-words c =
    let parts : AreParts (text_of c.args.view.now) (reach_of c.args.reach.now) c.in_ok-nodes.nodes.addresses.items c.in_ok-nodes.nodes.kinds.items c.in_ok-nodes.nodes.owners.items c.in_ok-functions.functions.items c.in_ok-returning.returning.items c.in_ok-callees.callees.items = record {
      reach = c.requires.reach;
      fine = c.requires.words;
      apart = c.requires.apart;
      nodes_are = c.in_ok-nodes.ensures;
      entries_are = c.in_ok-functions.ensures;
      returning_are = c.in_ok-returning.ensures;
      callees_are = c.in_ok-callees.ensures ∙ ap (map (callee_of (entry_addresses (reach_of c.args.reach.now)))) c.deref.ensures.value;
    } in
    let edges_are : AreEdgesOf (length c.in_ok-nodes.nodes.addresses.items) c.in_ok-nodes.nodes.addresses.items c.in_ok-nodes.nodes.kinds.items c.in_ok-callees.callees.items c.in_ok-returning.returning.items c.in_ok-lists.lists.edges.items =
    subst (λ xs. AreEdgesOf (length xs) xs c.in_ok-nodes.nodes.kinds.items c.in_ok-callees.callees.items c.in_ok-returning.returning.items c.in_ok-lists.lists.edges.items) c.deref-5.ensures.value (subst (λ xs. AreEdgesOf (length c.deref-5.result.now) c.deref-5.result.now xs c.in_ok-callees.callees.items c.in_ok-returning.returning.items c.in_ok-lists.lists.edges.items) c.deref-6.ensures.value (subst (λ xs. AreEdgesOf (length c.deref-5.result.now) c.deref-5.result.now c.deref-6.result.now xs c.in_ok-returning.returning.items c.in_ok-lists.lists.edges.items) c.deref-7.ensures.value (subst (λ xs. AreEdgesOf (length c.deref-5.result.now) c.deref-5.result.now c.deref-6.result.now c.deref-7.result.now xs c.in_ok-lists.lists.edges.items) c.deref-8.ensures.value c.in_ok-lists.ensures.edges))) in
    λ e x at. word_test c.args.view.now x.at (edge_word (text_of c.args.view.now) (reach_of c.args.reach.now) c.in_ok-nodes.nodes.addresses.items c.in_ok-nodes.nodes.kinds.items c.in_ok-nodes.nodes.owners.items c.in_ok-functions.functions.items c.in_ok-returning.returning.items c.in_ok-callees.callees.items parts c.in_ok-lists.lists.edges.items edges_are e x (sym (ap (λ xs. slice_get xs e) c.deref-9.ensures.value) ∙ at))

pub ends_of-requires-clause-rising : goal.ends_of-requires-clause-rising
ends_of-requires-clause-rising c =
    let parts : AreParts (text_of c.args.view.now) (reach_of c.args.reach.now) c.in_ok-nodes.nodes.addresses.items c.in_ok-nodes.nodes.kinds.items c.in_ok-nodes.nodes.owners.items c.in_ok-functions.functions.items c.in_ok-returning.returning.items c.in_ok-callees.callees.items = record {
      reach = c.requires.reach;
      fine = c.requires.words;
      apart = c.requires.apart;
      nodes_are = c.in_ok-nodes.ensures;
      entries_are = c.in_ok-functions.ensures;
      returning_are = c.in_ok-returning.ensures;
      callees_are = c.in_ok-callees.ensures ∙ ap (map (callee_of (entry_addresses (reach_of c.args.reach.now)))) c.deref.ensures.value;
    } in
    subst RiseStrictly (sym c.deref-10.ensures.value) (rising (text_of c.args.view.now) (reach_of c.args.reach.now) c.in_ok-nodes.nodes.addresses.items c.in_ok-nodes.nodes.kinds.items c.in_ok-nodes.nodes.owners.items c.in_ok-functions.functions.items c.in_ok-returning.returning.items c.in_ok-callees.callees.items parts)

pub ends_of-requires-clause-sources : goal.ends_of-requires-clause-sources
ends_of-requires-clause-sources c =
    let parts : AreParts (text_of c.args.view.now) (reach_of c.args.reach.now) c.in_ok-nodes.nodes.addresses.items c.in_ok-nodes.nodes.kinds.items c.in_ok-nodes.nodes.owners.items c.in_ok-functions.functions.items c.in_ok-returning.returning.items c.in_ok-callees.callees.items = record {
      reach = c.requires.reach;
      fine = c.requires.words;
      apart = c.requires.apart;
      nodes_are = c.in_ok-nodes.ensures;
      entries_are = c.in_ok-functions.ensures;
      returning_are = c.in_ok-returning.ensures;
      callees_are = c.in_ok-callees.ensures ∙ ap (map (callee_of (entry_addresses (reach_of c.args.reach.now)))) c.deref.ensures.value;
    } in
    let edges_are : AreEdgesOf (length c.in_ok-nodes.nodes.addresses.items) c.in_ok-nodes.nodes.addresses.items c.in_ok-nodes.nodes.kinds.items c.in_ok-callees.callees.items c.in_ok-returning.returning.items c.in_ok-lists.lists.edges.items =
    subst (λ xs. AreEdgesOf (length xs) xs c.in_ok-nodes.nodes.kinds.items c.in_ok-callees.callees.items c.in_ok-returning.returning.items c.in_ok-lists.lists.edges.items) c.deref-5.ensures.value (subst (λ xs. AreEdgesOf (length c.deref-5.result.now) c.deref-5.result.now xs c.in_ok-callees.callees.items c.in_ok-returning.returning.items c.in_ok-lists.lists.edges.items) c.deref-6.ensures.value (subst (λ xs. AreEdgesOf (length c.deref-5.result.now) c.deref-5.result.now c.deref-6.result.now xs c.in_ok-returning.returning.items c.in_ok-lists.lists.edges.items) c.deref-7.ensures.value (subst (λ xs. AreEdgesOf (length c.deref-5.result.now) c.deref-5.result.now c.deref-6.result.now c.deref-7.result.now xs c.in_ok-lists.lists.edges.items) c.deref-8.ensures.value c.in_ok-lists.ensures.edges))) in
    λ e x at. subst (λ ns. (k : ℕ) × (slice_get ns k ≡ Some x.at)) (sym c.deref-10.ensures.value) (source_is (text_of c.args.view.now) (reach_of c.args.reach.now) c.in_ok-nodes.nodes.addresses.items c.in_ok-nodes.nodes.kinds.items c.in_ok-nodes.nodes.owners.items c.in_ok-functions.functions.items c.in_ok-returning.returning.items c.in_ok-callees.callees.items parts c.in_ok-lists.lists.edges.items edges_are e x (sym (ap (λ xs. slice_get xs e) c.deref-11.ensures.value) ∙ at))

pub ends_of-requires-clause-targets : goal.ends_of-requires-clause-targets
ends_of-requires-clause-targets c =
    let parts : AreParts (text_of c.args.view.now) (reach_of c.args.reach.now) c.in_ok-nodes.nodes.addresses.items c.in_ok-nodes.nodes.kinds.items c.in_ok-nodes.nodes.owners.items c.in_ok-functions.functions.items c.in_ok-returning.returning.items c.in_ok-callees.callees.items = record {
      reach = c.requires.reach;
      fine = c.requires.words;
      apart = c.requires.apart;
      nodes_are = c.in_ok-nodes.ensures;
      entries_are = c.in_ok-functions.ensures;
      returning_are = c.in_ok-returning.ensures;
      callees_are = c.in_ok-callees.ensures ∙ ap (map (callee_of (entry_addresses (reach_of c.args.reach.now)))) c.deref.ensures.value;
    } in
    let edges_are : AreEdgesOf (length c.in_ok-nodes.nodes.addresses.items) c.in_ok-nodes.nodes.addresses.items c.in_ok-nodes.nodes.kinds.items c.in_ok-callees.callees.items c.in_ok-returning.returning.items c.in_ok-lists.lists.edges.items =
    subst (λ xs. AreEdgesOf (length xs) xs c.in_ok-nodes.nodes.kinds.items c.in_ok-callees.callees.items c.in_ok-returning.returning.items c.in_ok-lists.lists.edges.items) c.deref-5.ensures.value (subst (λ xs. AreEdgesOf (length c.deref-5.result.now) c.deref-5.result.now xs c.in_ok-callees.callees.items c.in_ok-returning.returning.items c.in_ok-lists.lists.edges.items) c.deref-6.ensures.value (subst (λ xs. AreEdgesOf (length c.deref-5.result.now) c.deref-5.result.now c.deref-6.result.now xs c.in_ok-returning.returning.items c.in_ok-lists.lists.edges.items) c.deref-7.ensures.value (subst (λ xs. AreEdgesOf (length c.deref-5.result.now) c.deref-5.result.now c.deref-6.result.now c.deref-7.result.now xs c.in_ok-lists.lists.edges.items) c.deref-8.ensures.value c.in_ok-lists.ensures.edges))) in
    let ordered : IsOrdered c.in_ok-functions.functions.items c.in_ok-nodes.nodes.owners.items c.in_ok-callees.callees.items (Ok c.in_ok-order.order.items) =
    subst (λ xs. IsOrdered xs c.in_ok-nodes.nodes.owners.items c.in_ok-callees.callees.items (Ok c.in_ok-order.order.items)) c.deref-2.ensures.value (subst (λ xs. IsOrdered c.deref-2.result.now xs c.in_ok-callees.callees.items (Ok c.in_ok-order.order.items)) c.deref-3.ensures.value (subst (λ xs. IsOrdered c.deref-2.result.now c.deref-3.result.now xs (Ok c.in_ok-order.order.items)) c.deref-4.ensures.value c.in_ok-order.ensures)) in
    let classes : c.in_ok-classes.classes.items ≡ map (λ e. edge_class (text_of c.args.view.now) (Some e)) c.in_ok-lists.lists.edges.items = c.in_ok-classes.ensures ∙ ap (map (λ e. edge_class (text_of c.args.view.now) (Some e))) c.deref-9.ensures.value in
    λ e a to. subst (λ ns. (k : ℕ) × (slice_get ns k ≡ Some a)) (sym c.deref-10.ensures.value)
    (target_is (text_of c.args.view.now) (reach_of c.args.reach.now) c.in_ok-nodes.nodes.addresses.items c.in_ok-nodes.nodes.kinds.items c.in_ok-nodes.nodes.owners.items c.in_ok-functions.functions.items c.in_ok-returning.returning.items c.in_ok-callees.callees.items parts c.in_ok-lists.lists.edges.items edges_are c.in_ok-classes.classes.items c.in_ok-order.order.items c.in_ok-lists.lists.firsts.items [] ordered.0 ordered.1 ordered.2 ordered.3 classes e a (sym (ap (λ xs. edge_to (slice_get xs e)) c.deref-11.ensures.value) ∙ to))

pub blocks_of-requires-clause-functions : goal.blocks_of-requires-clause-functions
blocks_of-requires-clause-functions c =
    let parts : AreParts (text_of c.args.view.now) (reach_of c.args.reach.now) c.in_ok-nodes.nodes.addresses.items c.in_ok-nodes.nodes.kinds.items c.in_ok-nodes.nodes.owners.items c.in_ok-functions.functions.items c.in_ok-returning.returning.items c.in_ok-callees.callees.items = record {
      reach = c.requires.reach;
      fine = c.requires.words;
      apart = c.requires.apart;
      nodes_are = c.in_ok-nodes.ensures;
      entries_are = c.in_ok-functions.ensures;
      returning_are = c.in_ok-returning.ensures;
      callees_are = c.in_ok-callees.ensures ∙ ap (map (callee_of (entry_addresses (reach_of c.args.reach.now)))) c.deref.ensures.value;
    } in
    subst (λ fs. (k o : ℕ) → slice_get c.in_ok-nodes.nodes.owners.items k ≡ Some o → o < length fs) (sym c.deref-12.ensures.value) (owner_function (text_of c.args.view.now) (reach_of c.args.reach.now) c.in_ok-nodes.nodes.addresses.items c.in_ok-nodes.nodes.kinds.items c.in_ok-nodes.nodes.owners.items c.in_ok-functions.functions.items c.in_ok-returning.returning.items c.in_ok-callees.callees.items parts)

pub blocks_of-requires-clause-low : goal.blocks_of-requires-clause-low
blocks_of-requires-clause-low c =
    let parts : AreParts (text_of c.args.view.now) (reach_of c.args.reach.now) c.in_ok-nodes.nodes.addresses.items c.in_ok-nodes.nodes.kinds.items c.in_ok-nodes.nodes.owners.items c.in_ok-functions.functions.items c.in_ok-returning.returning.items c.in_ok-callees.callees.items = record {
      reach = c.requires.reach;
      fine = c.requires.words;
      apart = c.requires.apart;
      nodes_are = c.in_ok-nodes.ensures;
      entries_are = c.in_ok-functions.ensures;
      returning_are = c.in_ok-returning.ensures;
      callees_are = c.in_ok-callees.ensures ∙ ap (map (callee_of (entry_addresses (reach_of c.args.reach.now)))) c.deref.ensures.value;
    } in
    low_nodes (text_of c.args.view.now) (reach_of c.args.reach.now) c.in_ok-nodes.nodes.addresses.items c.in_ok-nodes.nodes.kinds.items c.in_ok-nodes.nodes.owners.items c.in_ok-functions.functions.items c.in_ok-returning.returning.items c.in_ok-callees.callees.items parts

pub blocks_of-requires-clause-firsts : goal.blocks_of-requires-clause-firsts
blocks_of-requires-clause-firsts c = subst (λ xs. AreFirsts (length xs) xs c.in_ok-lists.lists.edges.items c.in_ok-lists.lists.firsts.items) c.deref-5.ensures.value c.in_ok-lists.ensures.firsts

pub blocks_of-requires-clause-ends : goal.blocks_of-requires-clause-ends
blocks_of-requires-clause-ends c =
    subst (λ xs. AreEnds (length xs) c.in_ok-nodes.nodes.addresses.items xs c.in_ok-ends.ends.sources.items c.in_ok-ends.ends.targets.items) c.deref-11.ensures.value
    (subst (λ ns. AreEnds (length c.deref-11.result.now) ns c.deref-11.result.now c.in_ok-ends.ends.sources.items c.in_ok-ends.ends.targets.items) c.deref-10.ensures.value c.in_ok-ends.ensures)

pub of-requires : goal.of-requires
of-requires c =
    let parts : AreParts (text_of c.args.view.now) (reach_of c.args.reach.now) c.in_ok-nodes.nodes.addresses.items c.in_ok-nodes.nodes.kinds.items c.in_ok-nodes.nodes.owners.items c.in_ok-functions.functions.items c.in_ok-returning.returning.items c.in_ok-callees.callees.items = record {
      reach = c.requires.reach;
      fine = c.requires.words;
      apart = c.requires.apart;
      nodes_are = c.in_ok-nodes.ensures;
      entries_are = c.in_ok-functions.ensures;
      returning_are = c.in_ok-returning.ensures;
      callees_are = c.in_ok-callees.ensures ∙ ap (map (callee_of (entry_addresses (reach_of c.args.reach.now)))) c.deref.ensures.value;
    } in
    let edges_are : AreEdgesOf (length c.in_ok-nodes.nodes.addresses.items) c.in_ok-nodes.nodes.addresses.items c.in_ok-nodes.nodes.kinds.items c.in_ok-callees.callees.items c.in_ok-returning.returning.items c.in_ok-lists.lists.edges.items =
    subst (λ xs. AreEdgesOf (length xs) xs c.in_ok-nodes.nodes.kinds.items c.in_ok-callees.callees.items c.in_ok-returning.returning.items c.in_ok-lists.lists.edges.items) c.deref-5.ensures.value (subst (λ xs. AreEdgesOf (length c.deref-5.result.now) c.deref-5.result.now xs c.in_ok-callees.callees.items c.in_ok-returning.returning.items c.in_ok-lists.lists.edges.items) c.deref-6.ensures.value (subst (λ xs. AreEdgesOf (length c.deref-5.result.now) c.deref-5.result.now c.deref-6.result.now xs c.in_ok-returning.returning.items c.in_ok-lists.lists.edges.items) c.deref-7.ensures.value (subst (λ xs. AreEdgesOf (length c.deref-5.result.now) c.deref-5.result.now c.deref-6.result.now c.deref-7.result.now xs c.in_ok-lists.lists.edges.items) c.deref-8.ensures.value c.in_ok-lists.ensures.edges))) in
    let firsts : AreFirsts (length c.in_ok-nodes.nodes.addresses.items) c.in_ok-nodes.nodes.addresses.items c.in_ok-lists.lists.edges.items c.in_ok-lists.lists.firsts.items = subst (λ xs. AreFirsts (length xs) xs c.in_ok-lists.lists.edges.items c.in_ok-lists.lists.firsts.items) c.deref-5.ensures.value c.in_ok-lists.ensures.firsts in
    let few : length c.in_ok-lists.lists.edges.items ≤ 2 * length c.in_ok-nodes.nodes.addresses.items = subst (λ xs. length c.in_ok-lists.lists.edges.items ≤ 2 * length xs) c.deref-5.ensures.value c.in_ok-lists.ensures.few in
    let ordered : IsOrdered c.in_ok-functions.functions.items c.in_ok-nodes.nodes.owners.items c.in_ok-callees.callees.items (Ok c.in_ok-order.order.items) =
    subst (λ xs. IsOrdered xs c.in_ok-nodes.nodes.owners.items c.in_ok-callees.callees.items (Ok c.in_ok-order.order.items)) c.deref-2.ensures.value (subst (λ xs. IsOrdered c.deref-2.result.now xs c.in_ok-callees.callees.items (Ok c.in_ok-order.order.items)) c.deref-3.ensures.value (subst (λ xs. IsOrdered c.deref-2.result.now c.deref-3.result.now xs (Ok c.in_ok-order.order.items)) c.deref-4.ensures.value c.in_ok-order.ensures)) in
    let classes : c.in_ok-classes.classes.items ≡ map (λ e. edge_class (text_of c.args.view.now) (Some e)) c.in_ok-lists.lists.edges.items = c.in_ok-classes.ensures ∙ ap (map (λ e. edge_class (text_of c.args.view.now) (Some e))) c.deref-9.ensures.value in
    let ends : AreEnds (length c.in_ok-lists.lists.edges.items) c.in_ok-nodes.nodes.addresses.items c.in_ok-lists.lists.edges.items c.in_ok-ends.ends.sources.items c.in_ok-ends.ends.targets.items =
    subst (λ xs. AreEnds (length xs) c.in_ok-nodes.nodes.addresses.items xs c.in_ok-ends.ends.sources.items c.in_ok-ends.ends.targets.items) c.deref-11.ensures.value
    (subst (λ ns. AreEnds (length c.deref-11.result.now) ns c.deref-11.result.now c.in_ok-ends.ends.sources.items c.in_ok-ends.ends.targets.items) c.deref-10.ensures.value c.in_ok-ends.ensures) in
    let by : AreBlocksBy c.in_ok-nodes.nodes.addresses.items c.in_ok-nodes.nodes.owners.items c.in_ok-functions.functions.items c.in_ok-lists.lists.edges.items c.in_ok-lists.lists.firsts.items c.in_ok-ends.ends.sources.items c.in_ok-ends.ends.targets.items c.in_ok-blocks.blocks.items =
    subst (λ fs. AreBlocksBy c.in_ok-nodes.nodes.addresses.items c.in_ok-nodes.nodes.owners.items fs c.in_ok-lists.lists.edges.items c.in_ok-lists.lists.firsts.items c.in_ok-ends.ends.sources.items c.in_ok-ends.ends.targets.items c.in_ok-blocks.blocks.items) c.deref-12.ensures.value c.in_ok-blocks.ensures in
    stored_is (text_of c.args.view.now) (reach_of c.args.reach.now) c.in_ok-nodes.nodes.addresses.items c.in_ok-nodes.nodes.kinds.items c.in_ok-nodes.nodes.owners.items c.in_ok-functions.functions.items c.in_ok-returning.returning.items c.in_ok-callees.callees.items parts c.in_ok-lists.lists.edges.items edges_are c.in_ok-classes.classes.items c.in_ok-order.order.items c.in_ok-lists.lists.firsts.items c.in_ok-blocks.blocks.items ordered.0 ordered.1 ordered.2 ordered.3 classes c.requires.few few firsts
    c.in_ok-ends.ends.sources.items c.in_ok-ends.ends.targets.items ends by

pub returns : goal.returns
returns c =
    let parts : AreParts (text_of c.args.view.now) (reach_of c.args.reach.now) c.in_ok-nodes.nodes.addresses.items c.in_ok-nodes.nodes.kinds.items c.in_ok-nodes.nodes.owners.items c.in_ok-functions.functions.items c.in_ok-returning.returning.items c.in_ok-callees.callees.items = record {
      reach = c.requires.reach;
      fine = c.requires.words;
      apart = c.requires.apart;
      nodes_are = c.in_ok-nodes.ensures;
      entries_are = c.in_ok-functions.ensures;
      returning_are = c.in_ok-returning.ensures;
      callees_are = c.in_ok-callees.ensures ∙ ap (map (callee_of (entry_addresses (reach_of c.args.reach.now)))) c.deref.ensures.value;
    } in
    let edges_are : AreEdgesOf (length c.in_ok-nodes.nodes.addresses.items) c.in_ok-nodes.nodes.addresses.items c.in_ok-nodes.nodes.kinds.items c.in_ok-callees.callees.items c.in_ok-returning.returning.items c.in_ok-lists.lists.edges.items =
    subst (λ xs. AreEdgesOf (length xs) xs c.in_ok-nodes.nodes.kinds.items c.in_ok-callees.callees.items c.in_ok-returning.returning.items c.in_ok-lists.lists.edges.items) c.deref-5.ensures.value (subst (λ xs. AreEdgesOf (length c.deref-5.result.now) c.deref-5.result.now xs c.in_ok-callees.callees.items c.in_ok-returning.returning.items c.in_ok-lists.lists.edges.items) c.deref-6.ensures.value (subst (λ xs. AreEdgesOf (length c.deref-5.result.now) c.deref-5.result.now c.deref-6.result.now xs c.in_ok-returning.returning.items c.in_ok-lists.lists.edges.items) c.deref-7.ensures.value (subst (λ xs. AreEdgesOf (length c.deref-5.result.now) c.deref-5.result.now c.deref-6.result.now c.deref-7.result.now xs c.in_ok-lists.lists.edges.items) c.deref-8.ensures.value c.in_ok-lists.ensures.edges))) in
    let ordered : IsOrdered c.in_ok-functions.functions.items c.in_ok-nodes.nodes.owners.items c.in_ok-callees.callees.items (Ok c.in_ok-order.order.items) =
    subst (λ xs. IsOrdered xs c.in_ok-nodes.nodes.owners.items c.in_ok-callees.callees.items (Ok c.in_ok-order.order.items)) c.deref-2.ensures.value (subst (λ xs. IsOrdered c.deref-2.result.now xs c.in_ok-callees.callees.items (Ok c.in_ok-order.order.items)) c.deref-3.ensures.value (subst (λ xs. IsOrdered c.deref-2.result.now c.deref-3.result.now xs (Ok c.in_ok-order.order.items)) c.deref-4.ensures.value c.in_ok-order.ensures)) in
    let classes : c.in_ok-classes.classes.items ≡ map (λ e. edge_class (text_of c.args.view.now) (Some e)) c.in_ok-lists.lists.edges.items = c.in_ok-classes.ensures ∙ ap (map (λ e. edge_class (text_of c.args.view.now) (Some e))) c.deref-9.ensures.value in
    subst (IsGraphOf (text_of c.args.view.now)) (sym c.of.ensures) (graph_is (text_of c.args.view.now) (reach_of c.args.reach.now) c.in_ok-nodes.nodes.addresses.items c.in_ok-nodes.nodes.kinds.items c.in_ok-nodes.nodes.owners.items c.in_ok-functions.functions.items c.in_ok-returning.returning.items c.in_ok-callees.callees.items parts c.in_ok-lists.lists.edges.items edges_are c.in_ok-classes.classes.items c.in_ok-order.order.items c.in_ok-lists.lists.firsts.items c.in_ok-blocks.blocks.items ordered.0 ordered.1 ordered.2 ordered.3 classes)

pub returns-in_err-order : goal.returns-in_err-order
returns-in_err-order c =
    let parts : AreParts (text_of c.args.view.now) (reach_of c.args.reach.now) c.in_ok-nodes.nodes.addresses.items c.in_ok-nodes.nodes.kinds.items c.in_ok-nodes.nodes.owners.items c.in_ok-functions.functions.items c.in_ok-returning.returning.items c.in_ok-callees.callees.items = record {
      reach = c.requires.reach;
      fine = c.requires.words;
      apart = c.requires.apart;
      nodes_are = c.in_ok-nodes.ensures;
      entries_are = c.in_ok-functions.ensures;
      returning_are = c.in_ok-returning.ensures;
      callees_are = c.in_ok-callees.ensures ∙ ap (map (callee_of (entry_addresses (reach_of c.args.reach.now)))) c.deref.ensures.value;
    } in
    let part : AnswersBy (λ (order : Vec ℕ Global). order.items) (Err c.in_err-order.field-0.0) (IsOrdered c.in_ok-functions.functions.items c.in_ok-nodes.nodes.owners.items c.in_ok-callees.callees.items) =
    subst (λ xs. AnswersBy (λ (order : Vec ℕ Global). order.items) (Err c.in_err-order.field-0.0) (IsOrdered xs c.in_ok-nodes.nodes.owners.items c.in_ok-callees.callees.items)) c.deref-2.ensures.value
    (subst (λ xs. AnswersBy (λ (order : Vec ℕ Global). order.items) (Err c.in_err-order.field-0.0) (IsOrdered c.deref-2.result.now xs c.in_ok-callees.callees.items)) c.deref-3.ensures.value
    (subst (λ xs. AnswersBy (λ (order : Vec ℕ Global). order.items) (Err c.in_err-order.field-0.0) (IsOrdered c.deref-2.result.now c.deref-3.result.now xs)) c.deref-4.ensures.value c.in_err-order.ensures)) in
    refused_part (λ (order : Vec ℕ Global). order.items) (λ graph. graph) c.from_residual-in_err-order.result c.in_err-order.field-0.0 (IsBuilt (text_of c.args.view.now)) (IsOrdered c.in_ok-functions.functions.items c.in_ok-nodes.nodes.owners.items c.in_ok-callees.callees.items)
    c.from_residual-in_err-order.ensures.1 part (round_refused (text_of c.args.view.now) (reach_of c.args.reach.now) c.in_ok-nodes.nodes.addresses.items c.in_ok-nodes.nodes.kinds.items c.in_ok-nodes.nodes.owners.items c.in_ok-functions.functions.items c.in_ok-returning.returning.items c.in_ok-callees.callees.items parts)
