use Rattle.std.proofs.Common.{rules, ◌≡◌, ◌∙◌, ◌<◌, ◌≤◌, ◌+◌, ℕ, List, None, length, arith, refl, sym, ap, subst, inl, inr}
use Rattle.scale_base.specs.declared.refusal.Refusal.TheVariants.{SameHeader}
use Rattle.loop_tree.specs.Passes.{IsReady, AreShallow, AreEntriesFound, depth_at}
use Rattle.loop_forest.specs.Refused.{AreLoopsFound}
use Rattle.loop_tree.proofs.EndLaws.{both_ends}
use Rattle.loop_tree.proofs.WalkLaws.{ends_edges}
use Rattle.loop_tree.proofs.ReadyLaws.{header_within}
use Rattle.loop_tree.proofs.FoundLaws.{natural, pair_refused, pair_low, edges_at, ready_at, depth_refused, passed_on}
use Rattle.loop_tree.proofs.natural.find_loops.Goals as goal

abbrev IsShallow : List ℕ → List ℕ → Type 0
IsShallow headers depths = (k : ℕ) → k < length headers → depth_at headers depths k ≤ 16

pub number_of-requires : goal.number_of-requires
number_of-requires c = (pair_low c.args.graph.now c.args.notes.now c.in_ok-headers.headers.items c.deref.result.now c.in_ok-one.field-0 c.in-Some.one c.in-Some.two c.in_ok-headers.ensures c.deref.ensures.value c.in_ok-one.ensures c.in-Some.is).1

pub number_of-requires-in-Some : goal.number_of-requires-in-Some
number_of-requires-in-Some c = (pair_low c.args.graph.now c.args.notes.now c.in_ok-headers.headers.items c.deref.result.now c.in_ok-one.field-0 c.in-Some.one c.in-Some.two c.in_ok-headers.ensures c.deref.ensures.value c.in_ok-one.ensures c.in-Some.is).2

pub returns-in-Some : goal.returns-in-Some
returns-in-Some c =
    inr (inl (pair_refused c.args.graph.now c.node_count-count.ensures.graph c.args.notes.now c.in_ok-headers.headers.items c.in_ok-headers.ensures c.in-Some.one c.in-Some.two _
    (pair_low c.args.graph.now c.args.notes.now c.in_ok-headers.headers.items c.deref.result.now c.in_ok-one.field-0 c.in-Some.one c.in-Some.two c.in_ok-headers.ensures c.deref.ensures.value c.in_ok-one.ensures c.in-Some.is).0
    (ap (λ k. SameHeader k c.number_of-in-Some.result) c.number_of.ensures ∙ ap (λ k. SameHeader (c.in-Some.one + 1) k) c.number_of-in-Some.ensures)))

pub new-requires : goal.new-requires
new-requires c = ends_edges c.args.graph.now (record { sources = c.sources.result.now; targets = c.targets.result.now; count = c.node_count-count.result })
    (edges_at c.args.graph.now c.sources.result.now c.targets.result.now c.node_count-count.result (record { sources = c.sources.result.now; targets = c.targets.result.now; count = c.node_count-count.result }) c.node_count-count.ensures.graph c.node_count-count.ensures.count c.node_count-count.ensures.few (both_ends c.args.graph.now c.sources.result.now c.targets.result.now c.sources.ensures c.targets.ensures) refl)

pub check_back_edges-requires : goal.check_back_edges-requires
check_back_edges-requires c =
    let none : c.in_ok-one.field-0 ≡ None = search rules in
    ready_at c.args.graph.now c.in_ok-search.search c.args.notes.now c.in_ok-headers.headers.items c.deref.result.now c.deref-2.result.now c.in_ok-one.field-0
    (edges_at c.args.graph.now c.sources.result.now c.targets.result.now c.node_count-count.result c.in_ok-search.search c.node_count-count.ensures.graph c.node_count-count.ensures.count c.node_count-count.ensures.few (both_ends c.args.graph.now c.sources.result.now c.targets.result.now c.sources.ensures c.targets.ensures) c.in_ok-search.ensures)
    c.in_ok-headers.ensures c.deref.ensures.value c.in_ok-one.ensures none c.deref-2.ensures.value

pub check_entries-requires-clause-ready : goal.check_entries-requires-clause-ready
check_entries-requires-clause-ready c =
    let none : c.in_ok-one.field-0 ≡ None = search rules in
    ready_at c.args.graph.now c.in_ok-search.search c.args.notes.now c.in_ok-headers.headers.items c.deref.result.now c.deref-3.result.now c.in_ok-one.field-0
    (edges_at c.args.graph.now c.sources.result.now c.targets.result.now c.node_count-count.result c.in_ok-search.search c.node_count-count.ensures.graph c.node_count-count.ensures.count c.node_count-count.ensures.few (both_ends c.args.graph.now c.sources.result.now c.targets.result.now c.sources.ensures c.targets.ensures) c.in_ok-search.ensures)
    c.in_ok-headers.ensures c.deref.ensures.value c.in_ok-one.ensures none c.deref-3.ensures.value

pub check_depths-requires-clause-few : goal.check_depths-requires-clause-few
check_depths-requires-clause-few c =
    let size = c.in_ok-headers.ensures.size in
    let few = c.in_ok-headers.ensures.few in
    let same = ap length c.deref-4.ensures.value in
    omega arith

pub check_depths-requires-clause-within : goal.check_depths-requires-clause-within
check_depths-requires-clause-within c =
    let none : c.in_ok-one.field-0 ≡ None = search rules in
    let is = ready_at c.args.graph.now c.in_ok-search.search c.args.notes.now c.in_ok-headers.headers.items c.deref.result.now c.deref-4.result.now c.in_ok-one.field-0
    (edges_at c.args.graph.now c.sources.result.now c.targets.result.now c.node_count-count.result c.in_ok-search.search c.node_count-count.ensures.graph c.node_count-count.ensures.count c.node_count-count.ensures.few (both_ends c.args.graph.now c.sources.result.now c.targets.result.now c.sources.ensures c.targets.ensures) c.in_ok-search.ensures)
    c.in_ok-headers.ensures c.deref.ensures.value c.in_ok-one.ensures none c.deref-4.ensures.value in
    λ k lt.
    let below = header_within c.args.graph.now c.in_ok-search.search c.args.notes.now c.deref-4.result.now is k (let size = is.numbers.size in omega arith) in
    let nodes = c.in_ok-depths.ensures.entries.counts.size in
    let same = ap length c.deref-5.ensures.value in
    omega arith

pub returns-in_err-check_depths : goal.returns-in_err-check_depths
returns-in_err-check_depths c =
    let none : c.in_ok-one.field-0 ≡ None = search rules in
    let is = ready_at c.args.graph.now c.in_ok-search.search c.args.notes.now c.in_ok-headers.headers.items c.deref.result.now c.deref-4.result.now c.in_ok-one.field-0
    (edges_at c.args.graph.now c.sources.result.now c.targets.result.now c.node_count-count.result c.in_ok-search.search c.node_count-count.ensures.graph c.node_count-count.ensures.count c.node_count-count.ensures.few (both_ends c.args.graph.now c.sources.result.now c.targets.result.now c.sources.ensures c.targets.ensures) c.in_ok-search.ensures)
    c.in_ok-headers.ensures c.deref.ensures.value c.in_ok-one.ensures none c.deref-4.ensures.value in
    passed_on (λ t. t) c.from_residual-in_err-check_depths.result c.in_err-check_depths.field-0.0 (AreShallow c.deref-4.result.now c.deref-5.result.now) (AreLoopsFound c.args.graph.now c.args.notes.now)
    (λ e deep. inr (inr (inr (inr (depth_refused c.args.graph.now c.in_ok-search.search c.args.notes.now c.deref-4.result.now c.deref-5.result.now e is c.in_ok-check_back_edges.ensures
    (subst (AreEntriesFound c.args.graph.now c.args.notes.now) (sym c.deref-5.ensures.value) c.in_ok-depths.ensures.entries) deep))))) c.from_residual-in_err-check_depths.ensures.1 c.in_err-check_depths.ensures

pub keep_bodies-requires : goal.keep_bodies-requires
keep_bodies-requires c =
    let none : c.in_ok-one.field-0 ≡ None = search rules in
    subst (λ s. IsReady c.args.graph.now s c.args.notes.now c.deref-6.result.now) (sym c.in_ok-depths.ensures.same)
    (ready_at c.args.graph.now c.in_ok-search.search c.args.notes.now c.in_ok-headers.headers.items c.deref.result.now c.deref-6.result.now c.in_ok-one.field-0
    (edges_at c.args.graph.now c.sources.result.now c.targets.result.now c.node_count-count.result c.in_ok-search.search c.node_count-count.ensures.graph c.node_count-count.ensures.count c.node_count-count.ensures.few (both_ends c.args.graph.now c.sources.result.now c.targets.result.now c.sources.ensures c.targets.ensures) c.in_ok-search.ensures)
    c.in_ok-headers.ensures c.deref.ensures.value c.in_ok-one.ensures none c.deref-6.ensures.value)

pub returns : goal.returns
returns c =
    let none : c.in_ok-one.field-0 ≡ None = search rules in
    let is = ready_at c.args.graph.now c.in_ok-search.search c.args.notes.now c.in_ok-headers.headers.items c.deref.result.now c.in_ok-headers.headers.items c.in_ok-one.field-0
    (edges_at c.args.graph.now c.sources.result.now c.targets.result.now c.node_count-count.result c.in_ok-search.search c.node_count-count.ensures.graph c.node_count-count.ensures.count c.node_count-count.ensures.few (both_ends c.args.graph.now c.sources.result.now c.targets.result.now c.sources.ensures c.targets.ensures) c.in_ok-search.ensures)
    c.in_ok-headers.ensures c.deref.ensures.value c.in_ok-one.ensures none refl in
    natural c.args.graph.now c.in_ok-search.search c.args.notes.now c.in_ok-headers.headers.items _ is c.in_ok-bodies.ensures.bodies c.in_ok-depths.depths.items c.in_ok-check_back_edges.ensures c.in_ok-depths.ensures.entries
    (subst (λ xs. IsShallow xs c.in_ok-depths.depths.items) c.deref-4.ensures.value (subst (IsShallow c.deref-4.result.now) c.deref-5.ensures.value c.in_ok-check_depths.ensures))
