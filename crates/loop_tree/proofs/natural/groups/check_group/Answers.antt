use Rattle.std.proofs.Common.{rules, arith, ℕ, ◌≡◌, ◌+◌, ◌<◌, ◌≤◌, length, count_ones, sym, subst}
use Rattle.std.specs.Prelude.{slice_index}
use Rattle.std.proofs.lemmas.Bool.{both_ways}
use Rattle.graph_algorithms.specs.Groups.{AreGroup, AreLoopExtents}
use Rattle.loop_forest.specs.Noted.{IsNotedSideEntry}
use Rattle.loop_tree.proofs.EntryLaws.{depth_small}
use Rattle.loop_tree.proofs.ReadyLaws.{header_within, none_next}
use Rattle.loop_tree.proofs.GroupLaws.{loops_are, clean_at, depths_group}
use Rattle.loop_tree.proofs.natural.groups.check_group.Goals as goal
use Rattle.loop_tree.proofs.natural.groups.check_group.Goals.{then-is_entered+in_ok-check_entry, else-is_entered}

pub group-requires : goal.group-requires
group-requires c =
    subst (AreLoopExtents c.args.search.now.count) (sym c.deref.ensures.value)
    (loops_are c.args.noted.now.graph.now c.args.search.now c.requires.ready.edges c.args.noted.now.notes.now c.args.noted.now.headers.now c.requires.ready.numbers c.args.numbers.first c.args.numbers.last c.in_ok-loops.loops.items c.in_ok-loops.ensures c.requires.within c.requires.few)

pub is_entered-requires-clause-header : goal.is_entered-requires-clause-header
is_entered-requires-clause-header c =
    let within = c.requires.within in
    header_within c.args.noted.now.graph.now c.args.search.now c.args.noted.now.notes.now c.args.noted.now.headers.now c.requires.ready c.loop-k.k (let lt : c.loop-k.k < c.args.numbers.last = search rules in omega arith)

pub loop-k-preserved : goal.loop-k-preserved
loop-k-preserved c =
    let lt : c.loop-k.k < c.args.numbers.last = search rules in
    let le : c.args.numbers.first ≤ c.loop-k.k = search rules in
    let group : AreGroup c.args.search.now c.in_ok-loops.loops.items c.in_ok-group.group.bodies.items c.in_ok-group.group.aside =
    subst (λ xs. AreGroup c.args.search.now xs c.in_ok-group.group.bodies.items c.in_ok-group.group.aside) c.deref.ensures.value c.in_ok-group.ensures.group in
    let here : (a b : ℕ) → IsNotedSideEntry c.args.noted.now.graph.now c.args.noted.now.notes.now c.loop-k.k a b → ⊥ =
    elim c.if-is_entered.branch [
      | then-is_entered+in_ok-check_entry w ↦ w.in_ok-check_entry.ensures.entry
      | else-is_entered w ↦
          clean_at c.args.noted.now.graph.now c.args.search.now c.requires.ready.edges c.args.noted.now.notes.now c.args.noted.now.headers.now c.requires.ready.numbers c.args.numbers.first c.args.numbers.last c.in_ok-loops.loops.items c.in_ok-loops.ensures c.requires.within
          c.in_ok-group.group.bodies.items c.in_ok-group.group.aside group c.loop-k.k le lt (λ entered. both_ways c.is_entered.result w.if-is_entered.false (c.is_entered.ensures.1 entered))
    ] in
    record {
      same = search rules;
      none = none_next c.args.noted.now.graph.now c.args.noted.now.notes.now c.loop-k.k here c.loop-k.invariant.none;
    }

pub add_group-requires-clause-small : goal.add_group-requires-clause-small
add_group-requires-clause-small c = λ i lt.
    let few = c.requires.ready.few in
    let order = c.requires.order in
    let within = c.requires.within in
    let small = depth_small c.args.noted.now.graph.now c.args.noted.now.notes.now c.args.numbers.first c.args.depths.now c.requires.entered.counts i lt in
    omega arith

pub returns-clause-group : goal.returns-clause-group
returns-clause-group c =
    let end : c.args.numbers.last ≤ c.loop-k.k = search rules in
    let group : AreGroup c.args.search.now c.in_ok-loops.loops.items c.in_ok-group.group.bodies.items c.in_ok-group.group.aside =
    subst (λ xs. AreGroup c.args.search.now xs c.in_ok-group.group.bodies.items c.in_ok-group.group.aside) c.deref.ensures.value c.in_ok-group.ensures.group in
    let added : (j : ℕ) → j < length c.args.depths.now → slice_index c.add_group.new.depths j ≡ slice_index c.args.depths.now j + count_ones (slice_index c.in_ok-group.group.bodies.items j) =
    subst (λ xs. (j : ℕ) → j < length c.args.depths.now → slice_index c.add_group.new.depths j ≡ slice_index c.args.depths.now j + count_ones (slice_index xs j)) c.deref-2.ensures.value c.add_group.ensures.counts in
    record {
      none = λ j a b lt h. c.loop-k.invariant.none j a b (omega arith) h;
      counts = depths_group c.args.noted.now.graph.now c.args.search.now c.requires.ready.edges c.args.noted.now.notes.now c.args.noted.now.headers.now c.requires.ready.numbers c.args.numbers.first c.args.numbers.last c.in_ok-loops.loops.items c.in_ok-loops.ensures c.requires.within
          c.in_ok-group.group.bodies.items c.in_ok-group.group.aside group c.args.depths.now c.add_group.new.depths c.requires.entered.counts c.add_group.ensures.size added;
    }
