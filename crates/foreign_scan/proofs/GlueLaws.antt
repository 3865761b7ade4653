-- A scan over the lists of a graph.
use Rattle.std.proofs.Common.{◌≡◌, ℕ, ◌<◌, List, length, Some, None, Result, Ok, Err, sym, ap, ◌∙◌, subst, arith}
use Rattle.std.specs.Prelude.{slice_get, All, IfOk}
use Rattle.std.proofs.lemmas.Option.{slice_get_within}
use Rattle.cost_theory.specs.Graph.{Loops}
use Rattle.cost_theory.specs.Reached.{Code}
use Rattle.scale_base.specs.Image.{Image}
use Rattle.scale_base.specs.declared.verdict.Why.TheVariants as why
use Rattle.foreign_scan.specs.declared.lists.GraphLists.{GraphLists}
use Rattle.foreign_scan.specs.declared.list_scan.Scanned.TheVariants as scan
use Rattle.foreign_scan.specs.declared.site.Site.{Site}
use Rattle.foreign_scan.specs.Counts.{numbered_fragments, AreCountLimits, AreSized}
use Rattle.foreign_scan.specs.Lists.{AreListsOf}
use Rattle.foreign_scan.specs.Rows.{IsFirstUnsound, SiteIsForeign}
use Rattle.foreign_scan.specs.Scans.{IsScanOf, IsPatchedWell}
use Rattle.foreign_scan.specs.Shown.{ScannedSites, ShowsSites}
use Rattle.foreign_scan.specs.Sites.{AreWordSites, found_in}
use Rattle.foreign_scan.proofs.FoundLaws.{all_foreign}
use Rattle.foreign_scan.proofs.ScanLaws.{is_scanned, is_first_why, is_shown}

pub are_sized : (original foreign : Image) (code : Code) (l : Loops) (lists : GraphLists) (sites : List Site) → AreListsOf original code l lists → AreWordSites original foreign lists.nodes.now sites → AreSized lists (length sites)
are_sized original foreign code l lists sites all known = record {
  sources = all.sources_size ∙ ap length all.edges;
  within = λ e k here.
      let low = slice_get_within code.nodes k _ (all.source e k here) in
      let size = known.size in
      let same = ap length all.nodes in
      omega (arith, low, size, same);
  backs = all.backs_size ∙ ap length all.edges;
  loops = λ e k back. subst (λ n. k < n) (sym all.bounds_size) ((all.back e k).0 back).1;
}

known_by : (original foreign : Image) (code : Code) (l : Loops) (lists : GraphLists) (sites : List Site) → AreListsOf original code l lists → AreWordSites original foreign lists.nodes.now sites → AreWordSites original foreign code.nodes sites
known_by original foreign code l lists sites all known = subst (λ ns. AreWordSites original foreign ns sites) (sym all.nodes) known

pub sites_foreign : (original foreign : Image) (code : Code) (l : Loops) (lists : GraphLists) (sites : List Site) → AreListsOf original code l lists → AreWordSites original foreign lists.nodes.now sites → All SiteIsForeign sites
sites_foreign original foreign code l lists sites all known = all_foreign original foreign code all.reached sites (known_by original foreign code l lists sites all known)

limited_by : (original : Image) (code : Code) (l : Loops) (lists : GraphLists) (sites : List Site) (limits : List ℕ) → AreListsOf original code l lists
    → AreCountLimits lists.edges.now lists.backs.now lists.bounds.now (numbered_fragments lists.sources.now lists.edges.now sites) limits → AreCountLimits code.edges lists.backs.now lists.bounds.now (numbered_fragments lists.sources.now code.edges sites) limits
limited_by original code l lists sites limits all h = subst (λ es. AreCountLimits es lists.backs.now lists.bounds.now (numbered_fragments lists.sources.now es sites) limits) (sym all.edges) h

pub scan_found : (original foreign : Image) (lists : GraphLists) (sites : List Site) (limits : List ℕ) (s : ScannedSites) → AreWordSites original foreign lists.nodes.now sites → length limits ≡ 512
    → AreCountLimits lists.edges.now lists.backs.now lists.bounds.now (numbered_fragments lists.sources.now lists.edges.now sites) limits → IsFirstUnsound foreign limits sites None → ShowsSites lists.sources.now lists.edges.now sites s
    → (code : Code) (l : Loops) → AreListsOf original code l lists → IsPatchedWell original foreign code → IsScanOf original foreign code l (scan.Found s)
scan_found original foreign lists sites limits s known size limited sound shows code l all well =
    let k = known_by original foreign code l lists sites all known in
    let m = limited_by original code l lists sites limits all limited in
    let w : ShowsSites lists.sources.now code.edges sites s = subst (λ es. ShowsSites lists.sources.now es sites s) (sym all.edges) shows in (
      found_in code.nodes sites,
      is_scanned original foreign code l lists all sites k limits size m well sound,
      is_shown original foreign code l lists all sites k limits size m s w,
    )

pub scan_fails : (original foreign : Image) (lists : GraphLists) (sites : List Site) (limits : List ℕ) (b at : ℕ) → AreWordSites original foreign lists.nodes.now sites → length limits ≡ 512
    → AreCountLimits lists.edges.now lists.backs.now lists.bounds.now (numbered_fragments lists.sources.now lists.edges.now sites) limits → IsFirstUnsound foreign limits sites (Some b) → slice_get lists.nodes.now b ≡ Some at
    → (code : Code) (l : Loops) → AreListsOf original code l lists → IsPatchedWell original foreign code → IsScanOf original foreign code l (scan.Fails (why.Stub at))
scan_fails original foreign lists sites limits b at known size limited first node code l all well =
    let k = known_by original foreign code l lists sites all known in
    let m = limited_by original code l lists sites limits all limited in
    is_first_why original foreign code l lists all sites k limits size m well b at (ap (λ ns. slice_get ns b) all.nodes ∙ node) first

pub ok_then : {X E : Type 0} {P Q : X → Type 0} (r : Result X E) → IfOk r P → ((x : X) → P x → Q x) → IfOk r Q
ok_then (Ok x) h f = f x h
ok_then (Err e) h f = tt
