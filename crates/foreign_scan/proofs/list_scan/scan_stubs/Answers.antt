use Rattle.std.proofs.Common.{◌<◌, length, get_or, Some, None, sym, subst, arith}
use Rattle.std.specs.Prelude.{All}
use Rattle.std.proofs.lemmas.Option.{slice_get_within, slice_get-get_or}
use Rattle.foreign_scan.specs.Counts.{AreSized, AreCountLimits, numbered_fragments}
use Rattle.foreign_scan.specs.Rows.{SiteIsForeign, IsFirstUnsound}
use Rattle.foreign_scan.proofs.GlueLaws.{are_sized, sites_foreign, scan_found, scan_fails}
use Rattle.foreign_scan.proofs.list_scan.scan_stubs.Goals as goal

pub counter_limits-requires-clause-sizes : goal.counter_limits-requires-clause-sizes
counter_limits-requires-clause-sizes c =
    subst (λ xs. AreSized c.args.lists.now (length xs)) (sym c.deref.ensures.value) (are_sized c.args.original.now c.args.foreign.now c.requires.0 c.requires.1 c.args.lists.now c.in_ok-sites.sites.items c.requires.2 c.in_ok-sites.ensures)

pub counter_limits-requires-clause-foreign : goal.counter_limits-requires-clause-foreign
counter_limits-requires-clause-foreign c =
    subst (All SiteIsForeign) (sym c.deref.ensures.value) (sites_foreign c.args.original.now c.args.foreign.now c.requires.0 c.requires.1 c.args.lists.now c.in_ok-sites.sites.items c.requires.2 c.in_ok-sites.ensures)

pub first_unsound-requires-clause-foreign : goal.first_unsound-requires-clause-foreign
first_unsound-requires-clause-foreign c =
    subst (All SiteIsForeign) (sym c.deref-3.ensures.value) (sites_foreign c.args.original.now c.args.foreign.now c.requires.0 c.requires.1 c.args.lists.now c.in_ok-sites.sites.items c.requires.2 c.in_ok-sites.ensures)

pub bounds-lists-k : goal.bounds-lists-k
bounds-lists-k c =
    let low = slice_get_within c.deref-3.result.now c.in-Some.k c.in-Some.ensures.0.0 c.in-Some.ensures.0.1 in
    let size = c.in_ok-sites.ensures.size in
    omega (arith, low, size, c.deref-3.ensures.len)

pub show-requires : goal.show-requires
show-requires c = are_sized c.args.original.now c.args.foreign.now c.requires.0 c.requires.1 c.args.lists.now c.in_ok-sites.sites.items c.requires.2 c.in_ok-sites.ensures

pub returns-in-Some : goal.returns-in-Some
returns-in-Some c =
    let lists = c.args.lists.now in
    let low = slice_get_within c.deref-3.result.now c.in-Some.k c.in-Some.ensures.0.0 c.in-Some.ensures.0.1 in
    let size = c.in_ok-sites.ensures.size in
    let lt : c.in-Some.k < length c.args.lists.now.nodes.now = omega (arith, low, size, c.deref-3.ensures.len) in
    scan_fails c.args.original.now c.args.foreign.now lists c.in_ok-sites.sites.items c.in_ok-limits.limits.items c.in-Some.k (get_or lists.nodes.now c.in-Some.k 0) c.in_ok-sites.ensures c.in_ok-limits.ensures.size
    (subst (λ xs. AreCountLimits lists.edges.now lists.backs.now lists.bounds.now (numbered_fragments lists.sources.now lists.edges.now xs) c.in_ok-limits.limits.items) c.deref.ensures.value c.in_ok-limits.ensures.limits)
    (subst (λ xs. IsFirstUnsound c.args.foreign.now c.in_ok-limits.limits.items xs (Some c.in-Some.k)) c.deref-3.ensures.value
    (subst (λ ns. IsFirstUnsound c.args.foreign.now ns c.deref-3.result.now (Some c.in-Some.k)) c.deref-2.ensures.value c.in-Some.ensures)) (slice_get-get_or lists.nodes.now c.in-Some.k 0 lt)

pub returns : goal.returns
returns c =
    let lists = c.args.lists.now in
    scan_found c.args.original.now c.args.foreign.now lists c.in_ok-sites.sites.items c.in_ok-limits.limits.items c.in_ok-show-in-None.field-0 c.in_ok-sites.ensures c.in_ok-limits.ensures.size
    (subst (λ xs. AreCountLimits lists.edges.now lists.backs.now lists.bounds.now (numbered_fragments lists.sources.now lists.edges.now xs) c.in_ok-limits.limits.items) c.deref.ensures.value c.in_ok-limits.ensures.limits)
    (subst (λ xs. IsFirstUnsound c.args.foreign.now c.in_ok-limits.limits.items xs None) c.deref-3.ensures.value
    (subst (λ ns. IsFirstUnsound c.args.foreign.now ns c.deref-3.result.now None) c.deref-2.ensures.value c.in-None.ensures)) c.in_ok-show-in-None.ensures
