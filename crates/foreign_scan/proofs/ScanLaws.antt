-- What a scan answers, from what is known of the words of nodes and of rows.
use Rattle.std.proofs.Common.{◌≡◌, ℕ, zero, suc, ◌+◌, ◌/◌, ◌^◌, ◌<◌, true, false, ◌&&◌, inl, inr, List, [], ◌∷◌, length, Some, refl, sym, ap, ◌∙◌, subst, arith}
use Rattle.std.specs.Prelude.{slice_get, slice_index, All, option_map}
use Rattle.std.proofs.lemmas.Bool.{cases_Bool, cases_lt, both_ways, and_parts}
use Rattle.std.proofs.lemmas.List.{length-map}
use Rattle.std.proofs.lemmas.List.Elements.{All-head, All-tail}
use Rattle.std.proofs.lemmas.Option.{slice_get_within, slice_get-map, get_or_from_slice_get}
use Rattle.cost_theory.specs.Graph.{Loops}
use Rattle.cost_theory.specs.Reached.{Code, edge_at}
use Rattle.scale_base.specs.declared.edges.EdgeKind.{EdgeKind}
use Rattle.scale_base.specs.declared.edges.EdgeKind.TheVariants.{Taken, Untaken, Jump, Next, CallNext, End}
use Rattle.scale_base.specs.Arith.{moved_by}
use Rattle.scale_base.specs.Image.{Image}
use Rattle.foreign_scan.specs.declared.fragment.ForeignFragment.{ForeignFragment}
use Rattle.foreign_scan.specs.declared.fragment.ForeignFragment.TheVariants.{Switch, Exit, Reset, Count}
use Rattle.scale_base.specs.declared.verdict.Why.TheVariants as why
use Rattle.foreign_scan.specs.declared.site.Site.{Site}
use Rattle.foreign_scan.specs.declared.site.Site.TheVariants.{Same, Broken, Kept}
use Rattle.foreign_scan.specs.declared.stub.StubFragments.{StubFragments}
use Rattle.foreign_scan.specs.declared.stub.StubFragments.TheVariants as stub
use Rattle.foreign_scan.specs.Counts.{numbered_fragments, AreCountLimits}
use Rattle.foreign_scan.specs.Lists.{AreListsOf}
use Rattle.foreign_scan.specs.declared.lists.GraphLists.{GraphLists}
use Rattle.foreign_scan.specs.Form.{IsForeign, AreRowsIn}
use Rattle.foreign_scan.specs.Rows.{rows_in, has_rows, all_have_rows, stub_has_rows, is_sound, IsFirstUnsound}
use Rattle.foreign_scan.specs.Scanned.{IsOn, IsChanged, is_changed, KeepsForm, HasRows, IsBadStub, IsScanned, IsFirstWhy}
use Rattle.foreign_scan.specs.Scans.{IsPatchedWell, IsShownBy}
use Rattle.foreign_scan.specs.Shown.{ScannedSites, place_fragments, ShowsSites}
use Rattle.foreign_scan.specs.Sites.{IsKeptAt, IsSiteAt, AreWordSites, site_fragments, found_in, is_site_patched}
use Rattle.foreign_scan.specs.Stubs.{fragments_of}
use Rattle.foreign_scan.proofs.ListLaws.{get_there}
use Rattle.foreign_scan.proofs.EdgeLaws.{node_word}
use Rattle.foreign_scan.proofs.ForeignLaws.{kind_foreign, stub_foreign}
use Rattle.foreign_scan.proofs.FoundLaws.{kept_form, broken_form, found_at, are_found}
use Rattle.foreign_scan.proofs.LimitLaws.{last_row_there, last_row_only}
use Rattle.foreign_scan.proofs.ReadLaws.{same_some}
use Rattle.foreign_scan.proofs.RowLaws.{rows_lie, rows_test, row_of, missing_row}

-- ---- the rows of a stub, kind by kind

kind_rows : (image : Image) (limits : List ℕ) (s : StubFragments) (kind : EdgeKind) → stub_has_rows image limits s ≡ true → all_have_rows image limits (fragments_of s kind) ≡ true
kind_rows image limits (stub.Branch untaken taken) Untaken e = (and_parts (all_have_rows image limits untaken.items) (all_have_rows image limits taken.items) e).0
kind_rows image limits (stub.Branch untaken taken) Taken e = (and_parts (all_have_rows image limits untaken.items) (all_have_rows image limits taken.items) e).1
kind_rows image limits (stub.Branch untaken taken) Jump e = refl
kind_rows image limits (stub.Branch untaken taken) Next e = refl
kind_rows image limits (stub.Branch untaken taken) CallNext e = refl
kind_rows image limits (stub.Branch untaken taken) End e = refl
kind_rows image limits (stub.Jump fragments) Jump e = e
kind_rows image limits (stub.Jump fragments) Untaken e = refl
kind_rows image limits (stub.Jump fragments) Taken e = refl
kind_rows image limits (stub.Jump fragments) Next e = refl
kind_rows image limits (stub.Jump fragments) CallNext e = refl
kind_rows image limits (stub.Jump fragments) End e = refl

missing_kind : (image : Image) (limits : List ℕ) (s : StubFragments) → stub_has_rows image limits s ≡ false → (kind : EdgeKind) × (all_have_rows image limits (fragments_of s kind) ≡ false)
missing_kind image limits (stub.Branch untaken taken) e =
    elim (cases_Bool (all_have_rows image limits untaken.items)) [
      | inr fails ↦ (Untaken, fails)
      | inl holds ↦ (Taken, sym (ap (λ b. b && all_have_rows image limits taken.items) holds) ∙ e)
    ]
missing_kind image limits (stub.Jump fragments) e = (Jump, e)

foreign_at : (fs : List ForeignFragment) (f : ForeignFragment) (i : ℕ) → All IsForeign fs → slice_get fs i ≡ Some f → IsForeign f
foreign_at [] f i all e = absurd cc
foreign_at (g ∷ gs) f zero all e = subst IsForeign (same_some g f e) (All-head IsForeign g gs all)
foreign_at (g ∷ gs) f (suc i) all e = foreign_at gs f i (All-tail IsForeign g gs all) e

module _ (original foreign : Image) (code : Code) (l : Loops) (lists : GraphLists) (all : AreListsOf original code l lists) (sites : List Site) (known : AreWordSites original foreign code.nodes sites)
    (limits : List ℕ) (size : length limits ≡ 512) (limited : AreCountLimits code.edges lists.backs.now lists.bounds.now (numbered_fragments lists.sources.now code.edges sites) limits) where
  -- the limit of a shadow counter
  limit_at : (c : ℕ) → c < 511 → (n : ℕ) × (slice_get limits c ≡ Some n) × (slice_index limits c ≡ n)
  limit_at c low = let r = get_there limits c (omega (arith, low, size)) in (r.0, r.1, get_or_from_slice_get limits c r.0 0 r.1)

  fit_of : (at : ℕ) (s : StubFragments) (kind : EdgeKind) → IsKeptAt original foreign at s → All IsForeign (fragments_of s kind)
  fit_of at s kind kept = kind_foreign s kind (stub_foreign foreign at (moved_by at kept.offset) kept.old_instr s kept.shape kept.stub)

  -- a kept stub whose rows lie in the keyed segment
  rows_of_sound : (at : ℕ) (s : StubFragments) → IsKeptAt original foreign at s → found_in code.nodes sites at ≡ fragments_of s → stub_has_rows foreign limits s ≡ true → HasRows original foreign code l (found_in code.nodes sites) at
  rows_of_sound at s kept same sound kind counter shift table last on row =
      let held : IsOn (Exit counter shift table) (fragments_of s kind) = subst (λ (fs : EdgeKind → List ForeignFragment). IsOn (Exit counter shift table) (fs kind)) same on in
      let fits = foreign_at (fragments_of s kind) (Exit counter shift table) held.0 (fit_of at s kind kept) held.1 in
      let limit = limit_at counter fits.0.1 in
      let m = limited counter limit.0 limit.1 in
      let here = row_of foreign limits (fragments_of s kind) (Exit counter shift table) held.0 (kind_rows foreign limits s kind sound) held.1 in
      let rows = rows_lie foreign table (slice_index limits counter / 2 ^ shift) here in
      let e : slice_index limits counter / 2 ^ shift ≡ last = ap (λ n. n / 2 ^ shift) limit.2 ∙ sym (last_row_only original foreign code l lists all sites known counter limit.0 shift last m.0 m.1 m.2 row) in
      subst (λ n. AreRowsIn foreign table (n + 1)) e rows

  no_row : (f : ForeignFragment) (P : Type 0) → has_rows foreign limits f ≡ false → ((counter shift table : ℕ) → f ≡ Exit counter shift table → rows_in foreign.keyed_segment table (slice_index limits counter / 2 ^ shift) ≡ false → P) → P
  no_row (Exit counter shift table) P e go = go counter shift table refl e
  no_row (Switch word) P e go = absurd cc
  no_row (Reset counter) P e go = absurd cc
  no_row (Count counter) P e go = absurd cc

  -- and one of which a row doesn't
  rows_of_unsound : (at : ℕ) (s : StubFragments) → IsKeptAt original foreign at s → found_in code.nodes sites at ≡ fragments_of s → stub_has_rows foreign limits s ≡ false → HasRows original foreign code l (found_in code.nodes sites) at → ⊥
  rows_of_unsound at s kept same unsound has =
      let kind = missing_kind foreign limits s unsound in
      let f = missing_row foreign limits (fragments_of s kind.0) kind.1 in
      no_row f.0 ⊥ f.2 (λ counter shift table e fails.
      let held : IsOn (Exit counter shift table) (fragments_of s kind.0) = subst (λ g. IsOn g (fragments_of s kind.0)) e f.1 in
      let on : IsOn (Exit counter shift table) (found_in code.nodes sites at kind.0) = subst (λ (fs : EdgeKind → List ForeignFragment). IsOn (Exit counter shift table) (fs kind.0)) (sym same) held in
      let fits = foreign_at (fragments_of s kind.0) (Exit counter shift table) held.0 (fit_of at s kind.0 kept) held.1 in
      let limit = limit_at counter fits.0.1 in
      let m = limited counter limit.0 limit.1 in
      let row = last_row_there original foreign code l lists all sites known counter limit.0 shift m.0 m.1 m.2 in
      let rows = has kind.0 counter shift table (limit.0 / 2 ^ shift) on row in
      both_ways (rows_in foreign.keyed_segment table (slice_index limits counter / 2 ^ shift)) fails
      (ap (λ n. rows_in foreign.keyed_segment table (n / 2 ^ shift)) limit.2 ∙ rows_test foreign table (limit.0 / 2 ^ shift) rows))

  module _ (well : IsPatchedWell original foreign code) where
    sound_holds : (k at : ℕ) (site : Site) → slice_get code.nodes k ≡ Some at → slice_get sites k ≡ Some site → IsChanged original foreign at → IsSiteAt original foreign at site → is_sound foreign limits site ≡ true
        → KeepsForm original foreign code (found_in code.nodes sites) at × HasRows original foreign code l (found_in code.nodes sites) at
    sound_holds k at Same node here changed h sound = absurd (both_ways (is_changed original foreign at) h changed.1)
    sound_holds k at Broken node here changed h sound = absurd cc
    sound_holds k at (Kept s) node here changed h sound =
        let same = found_at original foreign code all.reached sites known k at (Kept s) node here in
        (kept_form original foreign code (found_in code.nodes sites) at s h same, rows_of_sound at s h same sound)

    unsound_fails : (k at : ℕ) (site : Site) → slice_get code.nodes k ≡ Some at → slice_get sites k ≡ Some site → IsSiteAt original foreign at site → is_sound foreign limits site ≡ false
        → IsBadStub original foreign code l (found_in code.nodes sites) at
    unsound_fails k at Same node here h unsound = absurd cc
    unsound_fails k at Broken node here h unsound =
        let changed : IsChanged original foreign at = (node_word original code all.reached k at node, h.changed) in
        (changed, λ both. broken_form original foreign code (found_in code.nodes sites) at h (well.patches at changed) both.0)
    unsound_fails k at (Kept s) node here h unsound =
        let same = found_at original foreign code all.reached sites known k at (Kept s) node here in
        ((node_word original code all.reached k at node, h.changed), λ both. rows_of_unsound at s h same unsound both.1)

    at_changed : (at : ℕ) → IsChanged original foreign at → (k : ℕ) × (site : Site) × (slice_get code.nodes k ≡ Some at) × (slice_get sites k ≡ Some site)
    at_changed at changed =
        let p = well.patches at changed in
        let here = get_there sites p.node.0 (let lt = slice_get_within code.nodes p.node.0 at p.node.1 in let same = known.size in omega (arith, lt, same)) in
        (p.node.0, here.0, p.node.1, here.1)

    pub is_scanned : ((k : ℕ) (site : Site) → slice_get sites k ≡ Some site → is_sound foreign limits site ≡ true) → IsScanned original foreign code l (found_in code.nodes sites)
    is_scanned sound = record {
      key = well.key;
      layout = well.layout;
      bytes = well.bytes;
      patches = well.patches;
      found_are = are_found original foreign code all.reached sites known well;
      stubs = λ at changed. let p = at_changed at changed in sound_holds p.0 at p.1 p.2 p.3 changed (known.each p.0 at p.1 p.2 p.3) (sound p.0 p.1 p.3);
    }

    pub is_first_why : (b at : ℕ) → slice_get code.nodes b ≡ Some at → IsFirstUnsound foreign limits sites (Some b) → IsFirstWhy original foreign code l (why.Stub at)
    is_first_why b at node first = (
      well.key,
      well.layout,
      well.bytes,
      λ a bad. bad.1 (well.patches a bad.0),
      (
        found_in code.nodes sites,
        are_found original foreign code all.reached sites known well,
        (
          unsound_fails b at first.0.0 node first.0.1 (known.each b at first.0.0 node first.0.1) first.0.2,
          λ lower less bad.
              let p = at_changed lower bad.0 in
              let below : p.0 < b = before p.0 lower p.2 less in
              bad.1 (sound_holds p.0 lower p.1 p.2 p.3 bad.0 (known.each p.0 lower p.1 p.2 p.3) (first.1 p.0 p.1 below p.3)),
        ),
      ),
    )
      where
        before : (k lower : ℕ) → slice_get code.nodes k ≡ Some lower → lower < at → k < b
        before k lower there less =
            elim (cases_lt k b) [
              | inl lt ↦ lt
              | inr ge ↦
                  elim (cases_lt b k) [
                    | inl lt ↦ let high = all.reached.lists.ascending b k at lower lt node there in absurd (omega (arith, high, less))
                    | inr le ↦
                        let same : k ≡ b = omega (arith, ge, le) in
                        let one : lower ≡ at = same_some lower at (sym there ∙ (ap (slice_get code.nodes) same ∙ node)) in
                        absurd (omega (arith, one, less))
                  ]
            ]

  -- ---- what is shown

  patched_is : (at : ℕ) (site : Site) → IsSiteAt original foreign at site → is_site_patched site ≡ is_changed original foreign at
  patched_is at Same h = sym h
  patched_is at Broken h = sym h.changed
  patched_is at (Kept s) h = sym h.changed

  pub is_shown : (s : ScannedSites) → ShowsSites lists.sources.now code.edges sites s → IsShownBy original foreign code (found_in code.nodes sites) s
  is_shown s h = let places = h.0 in let are = h.1 in let view = h.2 in record {
    nodes = ap (λ (w : ScannedSites). length w.patched) view ∙ (length-map sites is_site_patched ∙ known.size);
    edges = ap (λ (w : ScannedSites). length w.fragments) view ∙ (length-map places (place_fragments sites) ∙ are.size);
    patched = λ k at node.
        let here = get_there sites k (let lt = slice_get_within code.nodes k at node in let same = known.size in omega (arith, lt, same)) in
        ap (λ (w : ScannedSites). slice_get w.patched k) view ∙ (slice_get-map is_site_patched sites k ∙ (ap (option_map is_site_patched) here.1 ∙ ap Some (patched_is at here.0 (known.each k at here.0 node here.1))));
    fragments = λ e edge there.
        let place = get_there places e (let lt = slice_get_within code.edges e edge there in let same = are.size in omega (arith, lt, same)) in
        let p = are.each e place.0 edge place.1 there in
        let node : slice_get code.nodes place.0.node ≡ Some edge.at = all.source e place.0.node p.0 ∙ ap (λ o. Some (edge_at o)) there in
        let site = get_there sites place.0.node (let lt = slice_get_within code.nodes place.0.node edge.at node in let same = known.size in omega (arith, lt, same)) in
        let one : place_fragments sites place.0 ≡ site_fragments (Some site.0) place.0.kind = ap (λ o. site_fragments o place.0.kind) site.1 in
        let two : site_fragments (Some site.0) place.0.kind ≡ site_fragments (Some site.0) edge.kind = ap (site_fragments (Some site.0)) p.1 in
        let three : found_in code.nodes sites edge.at edge.kind ≡ site_fragments (Some site.0) edge.kind = ap (λ (fs : EdgeKind → List ForeignFragment). fs edge.kind) (found_at original foreign code all.reached sites known place.0.node edge.at site.0 node site.1) in
        ap (λ (w : ScannedSites). slice_get w.fragments e) view ∙ (slice_get-map (place_fragments sites) places e ∙ (ap (option_map (place_fragments sites)) place.1 ∙ ap Some (one ∙ (two ∙ sym three))));
  }
