-- What is found in the stubs of an image, by what is known of the words of nodes.
use Rattle.std.proofs.Common.{◌≡◌, ℕ, suc, ◌⊎◌, inl, inr, ⊎_elim, List, [], ◌∷◌, Option, Some, None, refl, sym, ap, ◌∙◌, subst, arith}
use Rattle.std.specs.Prelude.{slice_get, All}
use Rattle.std.proofs.lemmas.Bool.{both_ways}
use Rattle.std.proofs.lemmas.List.Elements.{All-nil, All-cons}
use Rattle.std.proofs.lemmas.Option.{slice_get_within}
use Rattle.cost_theory.specs.Reached.{Code}
use Rattle.code_text.specs.Text.{text_of}
use Rattle.code_text.specs.TextGraph.{IsReachedCode}
use Rattle.scale_base.specs.declared.edges.EdgeKind.{EdgeKind}
use Rattle.scale_base.specs.declared.edges.EdgeKind.TheVariants.{Taken, Untaken, Jump, Next, CallNext, End}
use Rattle.scale_base.specs.declared.instruction.Instr.{Instr}
use Rattle.scale_base.specs.declared.instruction.Instr.TheVariants as instr
use Rattle.scale_base.specs.Arith.{moved_by}
use Rattle.scale_base.specs.Image.{Image}
use Rattle.foreign_scan.specs.declared.fragment.ForeignFragment.{ForeignFragment}
use Rattle.foreign_scan.specs.declared.site.Site.{Site}
use Rattle.foreign_scan.specs.declared.site.Site.TheVariants.{Same, Broken, Kept}
use Rattle.foreign_scan.specs.declared.stub.StubFragments.{StubFragments}
use Rattle.foreign_scan.specs.declared.stub.StubFragments.TheVariants as stub
use Rattle.foreign_scan.specs.Form.{IsStub}
use Rattle.foreign_scan.specs.Rows.{SiteIsForeign}
use Rattle.foreign_scan.specs.Scanned.{Found, is_changed, IsChanged, IsPatch, KeepsForm, IsOn, AreFound, CanBePatched}
use Rattle.foreign_scan.specs.Scans.{IsPatchedWell}
use Rattle.foreign_scan.specs.Sites.{IsKeptAt, IsBrokenAt, IsSiteAt, AreWordSites, site_fragments, site_beside, found_in}
use Rattle.foreign_scan.specs.Stubs.{fragments_of, IsOfInstr}
use Rattle.foreign_scan.proofs.ForeignLaws.{stub_foreign}
use Rattle.foreign_scan.proofs.ListLaws.{get_there}
use Rattle.foreign_scan.proofs.EdgeLaws.{one_number, node_word, HasEdge, has_edge}
use Rattle.foreign_scan.proofs.ReadLaws.{same_some}
use Rattle.foreign_scan.proofs.SiteLaws.{jal_same, beside_at, beside_from}

-- ---- the shape of a stub

-- what a stub holds for a kind is nothing, or the kind is one of the instruction's edges
held_kind : (i : Instr) (s : StubFragments) (kind : EdgeKind) → IsOfInstr i s → (fragments_of s kind ≡ []) ⊎ HasEdge i kind
held_kind (instr.Branch op rs1 rs2 z) (stub.Branch untaken taken) Taken h = inr tt
held_kind (instr.Branch op rs1 rs2 z) (stub.Branch untaken taken) Untaken h = inr tt
held_kind (instr.Branch op rs1 rs2 z) (stub.Branch untaken taken) Jump h = inl refl
held_kind (instr.Branch op rs1 rs2 z) (stub.Branch untaken taken) Next h = inl refl
held_kind (instr.Branch op rs1 rs2 z) (stub.Branch untaken taken) CallNext h = inl refl
held_kind (instr.Branch op rs1 rs2 z) (stub.Branch untaken taken) End h = inl refl
held_kind (instr.Jal rd z) (stub.Jump fragments) Jump h = inr tt
held_kind (instr.Jal rd z) (stub.Jump fragments) Taken h = inl refl
held_kind (instr.Jal rd z) (stub.Jump fragments) Untaken h = inl refl
held_kind (instr.Jal rd z) (stub.Jump fragments) Next h = inl refl
held_kind (instr.Jal rd z) (stub.Jump fragments) CallNext h = inl refl
held_kind (instr.Jal rd z) (stub.Jump fragments) End h = inl refl
held_kind i s kind h = absurd h

site_foreign : (original foreign : Image) (at : ℕ) (site : Site) → IsSiteAt original foreign at site → SiteIsForeign site
site_foreign original foreign at Same h = tt
site_foreign original foreign at Broken h = tt
site_foreign original foreign at (Kept s) h = stub_foreign foreign at (moved_by at h.offset) h.old_instr s h.shape h.stub

foreign_each : (xs : List Site) → ((k : ℕ) (site : Site) → slice_get xs k ≡ Some site → SiteIsForeign site) → All SiteIsForeign xs
foreign_each [] each = All-nil SiteIsForeign
foreign_each (x ∷ xs) each = All-cons SiteIsForeign x xs (each 0 x refl) (foreign_each xs (λ k site here. each (suc k) site here))

-- ---- forms

pub kept_form : (original foreign : Image) (code : Code) (found : Found) (at : ℕ) (s : StubFragments) → IsKeptAt original foreign at s → found at ≡ fragments_of s → KeepsForm original foreign code found at
kept_form original foreign code found at s kept is = λ p.
    let old : kept.old_instr ≡ p.old_instr = same_some kept.old_instr p.old_instr (sym kept.old ∙ p.old) in
    let way : kept.offset ≡ p.offset = jal_same kept.offset p.offset (sym kept.new ∙ p.new) in
    subst (λ (fs : EdgeKind → List ForeignFragment). IsStub foreign at (moved_by at p.offset) p.old_instr fs) (sym is)
    (subst (λ i. IsStub foreign at (moved_by at p.offset) i (fragments_of s)) old (subst (λ z. IsStub foreign at (moved_by at z) kept.old_instr (fragments_of s)) way kept.stub))

pub broken_form : (original foreign : Image) (code : Code) (found : Found) (at : ℕ) → IsBrokenAt original foreign at → IsPatch original foreign code at → KeepsForm original foreign code found at → ⊥
broken_form original foreign code found at broken p form = broken.none p.old_instr p.offset (found at) p.old p.new (form p)

module _ (original foreign : Image) (code : Code) (is : IsReachedCode (text_of original) code) (sites : List Site) (known : AreWordSites original foreign code.nodes sites) where
  -- what stands beside a node
  pub found_at : (k at : ℕ) (site : Site) → slice_get code.nodes k ≡ Some at → slice_get sites k ≡ Some site → found_in code.nodes sites at ≡ site_fragments (Some site)
  found_at k at site node here = ap site_fragments (beside_at code.nodes sites k at site (one_number original code is) node here)

  pub site_there : (k at : ℕ) → slice_get code.nodes k ≡ Some at → (site : Site) × (slice_get sites k ≡ Some site)
  site_there k at node = get_there sites k (let lt = slice_get_within code.nodes k at node in let size = known.size in omega (arith, lt, size))

  -- a fragment that is found is one of a kept stub
  pub held_stub : (at : ℕ) (kind : EdgeKind) (f : ForeignFragment) → IsOn f (found_in code.nodes sites at kind) → (k : ℕ) × (s : StubFragments) × (slice_get code.nodes k ≡ Some at) × IsKeptAt original foreign at s × (found_in code.nodes sites at ≡ fragments_of s)
  held_stub at kind f on = by_site (site_beside code.nodes sites at) refl
    where
      by_site : (o : Option Site) → site_beside code.nodes sites at ≡ o → (k : ℕ) × (s : StubFragments) × (slice_get code.nodes k ≡ Some at) × IsKeptAt original foreign at s × (found_in code.nodes sites at ≡ fragments_of s)
      by_site None e = let none = ap (λ o. slice_get (site_fragments o kind) on.0) (sym e) ∙ on.1 in absurd cc
      by_site (Some Same) e = let none = ap (λ o. slice_get (site_fragments o kind) on.0) (sym e) ∙ on.1 in absurd cc
      by_site (Some Broken) e = let none = ap (λ o. slice_get (site_fragments o kind) on.0) (sym e) ∙ on.1 in absurd cc
      by_site (Some (Kept s)) e = let r = beside_from code.nodes sites at (Kept s) e in (r.0, s, r.1, known.each r.0 at (Kept s) r.1 r.2, ap site_fragments e)

  pub kept_changed : (k at : ℕ) (s : StubFragments) → slice_get code.nodes k ≡ Some at → IsKeptAt original foreign at s → IsChanged original foreign at
  kept_changed k at s node kept = (node_word original code is k at node, kept.changed)

  pub all_foreign : All SiteIsForeign sites
  all_foreign = foreign_each sites (λ k site here. let node = get_there code.nodes k (let lt = slice_get_within sites k site here in let size = known.size in omega (arith, lt, size)) in site_foreign original foreign node.0 site (known.each k node.0 site node.1 here))

  module _ (well : IsPatchedWell original foreign code) where
    -- the stub of a changed word, if it leads to one
    pub changed_site : (at : ℕ) → IsChanged original foreign at → ((k : ℕ) × (s : StubFragments) × (slice_get code.nodes k ≡ Some at) × IsKeptAt original foreign at s × (found_in code.nodes sites at ≡ fragments_of s)) ⊎ IsBrokenAt original foreign at
    changed_site at changed =
        let p = well.patches at changed in
        let here = site_there p.node.0 at p.node.1 in
        by_site p.node.0 p.node.1 here.0 here.1 (known.each p.node.0 at here.0 p.node.1 here.1)
      where
        by_site : (k : ℕ) → slice_get code.nodes k ≡ Some at → (site : Site) → slice_get sites k ≡ Some site → IsSiteAt original foreign at site
            → ((k : ℕ) × (s : StubFragments) × (slice_get code.nodes k ≡ Some at) × IsKeptAt original foreign at s × (found_in code.nodes sites at ≡ fragments_of s)) ⊎ IsBrokenAt original foreign at
        by_site k node Same here h = absurd (both_ways (is_changed original foreign at) h changed.1)
        by_site k node Broken here h = inr h
        by_site k node (Kept s) here h = inl (k, s, node, h, found_at k at (Kept s) node here)

    nothing : (at : ℕ) (kind : EdgeKind) → ((k : ℕ) (s : StubFragments) → slice_get code.nodes k ≡ Some at → IsKeptAt original foreign at s → found_in code.nodes sites at ≡ fragments_of s → fragments_of s kind ≡ []) → found_in code.nodes sites at kind ≡ []
    nothing at kind none = by_site (site_beside code.nodes sites at) refl
      where
        by_site : (o : Option Site) → site_beside code.nodes sites at ≡ o → found_in code.nodes sites at kind ≡ []
        by_site None e = ap (λ o. site_fragments o kind) e
        by_site (Some Same) e = ap (λ o. site_fragments o kind) e
        by_site (Some Broken) e = ap (λ o. site_fragments o kind) e
        by_site (Some (Kept s)) e = let r = beside_from code.nodes sites at (Kept s) e in ap (λ o. site_fragments o kind) e ∙ none r.0 s r.1 (known.each r.0 at (Kept s) r.1 r.2) (ap site_fragments e)

    can_patch : (k at : ℕ) (s : StubFragments) → slice_get code.nodes k ≡ Some at → (kept : IsKeptAt original foreign at s) → CanBePatched kept.old_instr
    can_patch k at s node kept =
        let p = well.patches at (kept_changed k at s node kept) in
        subst CanBePatched (same_some p.old_instr kept.old_instr (sym p.old ∙ kept.old)) p.can_be

    pub are_found : AreFound original foreign code (found_in code.nodes sites)
    are_found = record {
      edges = λ at kind fails. nothing at kind (λ k s node kept same. ⊎_elim
          (λ none. none)
          (λ has. let e = has_edge original code is k at kept.old_instr kind node kept.old (can_patch k at s node kept) has in absurd (fails e.0 e.1 e.2 e.3 e.4))
          (held_kind kept.old_instr s kind kept.shape));
      plain = λ at kind fails. nothing at kind (λ k s node kept same. absurd (fails (kept_changed k at s node kept)));
      none = λ at kind changed fails. nothing at kind (λ k s node kept same. absurd (fails (kept_form original foreign code (found_in code.nodes sites) at s kept same)));
      some = λ at others changed form. ⊎_elim
          (λ h. kept_form original foreign code (found_in code.nodes sites) at h.1 h.3 h.4)
          (λ broken. absurd (broken_form original foreign code others at broken (well.patches at changed) form)) (changed_site at changed);
    }
