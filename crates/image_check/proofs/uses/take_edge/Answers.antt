use Rattle.std.proofs.Common.{◌≡◌, ◌≤◌, List, [], length, All, sym, ap, ◌∙◌, subst, arith}
use Rattle.std.specs.Prelude.{slice_index_or}
use Rattle.std.proofs.lemmas.Option.{get_or_from_slice_get}
use Rattle.foreign_scan.specs.declared.fragment.ForeignFragment.{ForeignFragment}
use Rattle.foreign_scan.specs.Form.{IsForeign}
use Rattle.image_check.specs.Known.{owner_by}
use Rattle.image_check.specs.Uses.{on_edge, fits_on, taken, no_tally}
use Rattle.image_check.proofs.FoundFacts.{fine_on}
use Rattle.image_check.proofs.UseLaws.{edge_last}
use Rattle.image_check.proofs.uses.take_edge.Goals as goal

pub take_fragment-requires-clause-foreign : goal.take_fragment-requires-clause-foreign
take_fragment-requires-clause-foreign c =
    let on : on_edge c.args.scanned.now.sites.now c.args.e ≡ c.fragments-fragments.result.now = get_or_from_slice_get c.args.scanned.now.sites.now.fragments c.args.e c.fragments-fragments.result.now [] c.fragments-fragments.ensures in
    let fine = fine_on c.requires.found.0 c.requires.found.1 c.args.scanned.now.graph.now c.args.scanned.now.tree.now c.requires.found.2 c.args.scanned.now.sites.now c.requires.found.3 c.args.e c.requires.edge in
    (subst (λ (fs : List ForeignFragment). All IsForeign fs) on fine.foreign) c.loop-fragment.fragment-index _ c.loop-fragment-test.true

pub take_fragment-requires-clause-counts : goal.take_fragment-requires-clause-counts
take_fragment-requires-clause-counts c = λ k.
    let on : on_edge c.args.scanned.now.sites.now c.args.e ≡ c.fragments-fragments.result.now = get_or_from_slice_get c.args.scanned.now.sites.now.fragments c.args.e c.fragments-fragments.result.now [] c.fragments-fragments.ensures in
    let fine = fine_on c.requires.found.0 c.requires.found.1 c.args.scanned.now.graph.now c.args.scanned.now.tree.now c.requires.found.2 c.args.scanned.now.sites.now c.requires.found.3 c.args.e c.requires.edge in
    let few = subst (λ (fs : List ForeignFragment). length fs ≤ 64) on fine.few in
    let small = (c.loop-fragment.invariant.small k).0 in
    let lt = c.loop-fragment-test.true in
    let edges = c.requires.few in
    omega (arith, few, small, lt, edges)

pub take_fragment-requires-clause-clears : goal.take_fragment-requires-clause-clears
take_fragment-requires-clause-clears c = λ k.
    let on : on_edge c.args.scanned.now.sites.now c.args.e ≡ c.fragments-fragments.result.now = get_or_from_slice_get c.args.scanned.now.sites.now.fragments c.args.e c.fragments-fragments.result.now [] c.fragments-fragments.ensures in
    let fine = fine_on c.requires.found.0 c.requires.found.1 c.args.scanned.now.graph.now c.args.scanned.now.tree.now c.requires.found.2 c.args.scanned.now.sites.now c.requires.found.3 c.args.e c.requires.edge in
    let few = subst (λ (fs : List ForeignFragment). length fs ≤ 64) on fine.few in
    let small = (c.loop-fragment.invariant.small k).1 in
    let lt = c.loop-fragment-test.true in
    let edges = c.requires.few in
    omega (arith, few, small, lt, edges)

pub returns-clause-taken : goal.returns-clause-taken
returns-clause-taken c =
    let on : on_edge c.args.scanned.now.sites.now c.args.e ≡ c.fragments-fragments.result.now = get_or_from_slice_get c.args.scanned.now.sites.now.fragments c.args.e c.fragments-fragments.result.now [] c.fragments-fragments.ensures in (
      c.loop-fragment.invariant.size,
      λ k.
          edge_last (fits_on c.args.scanned.now.graph.now c.args.scanned.now.tree.now c.args.scanned.now.sites.now (owner_by c.args.owners.now k) k c.args.e) k c.fragments-fragments.result.now c.loop-fragment.fragment-index (slice_index_or c.loop-fragment.tallies.items k no_tally)
          (taken k (fits_on c.args.scanned.now.graph.now c.args.scanned.now.tree.now c.args.scanned.now.sites.now (owner_by c.args.owners.now k) k c.args.e) c.fragments-fragments.result.now (slice_index_or c.args.tallies.now.items k no_tally)) c.loop-fragment-test.false (c.loop-fragment.invariant.taken k)
          ∙ ap (λ xs. taken k (fits_on c.args.scanned.now.graph.now c.args.scanned.now.tree.now c.args.scanned.now.sites.now (owner_by c.args.owners.now k) k c.args.e) xs (slice_index_or c.args.tallies.now.items k no_tally)) (sym on),
    )

pub returns-clause-small : goal.returns-clause-small
returns-clause-small c = λ k.
    let on : on_edge c.args.scanned.now.sites.now c.args.e ≡ c.fragments-fragments.result.now = get_or_from_slice_get c.args.scanned.now.sites.now.fragments c.args.e c.fragments-fragments.result.now [] c.fragments-fragments.ensures in
    let fine = fine_on c.requires.found.0 c.requires.found.1 c.args.scanned.now.graph.now c.args.scanned.now.tree.now c.requires.found.2 c.args.scanned.now.sites.now c.requires.found.3 c.args.e c.requires.edge in
    let few = subst (λ (fs : List ForeignFragment). length fs ≤ 64) on fine.few in
    let counts = (c.loop-fragment.invariant.small k).0 in
    let clears = (c.loop-fragment.invariant.small k).1 in
    let end = c.loop-fragment.auto.fragment-index-end in
    (omega (arith, few, counts, end), omega (arith, few, clears, end))
