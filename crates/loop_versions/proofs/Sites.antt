-- The site at an address, and the words that the sites put into the text.
use Rattle.std.proofs.Common.{◌≡◌, ◌≢◌, ℕ, ◌≤◌, Bool, true, false, cond, List, [], ◌∷◌, Some, None, arith, refl, sym, ap, subst, ◌∙◌}
use Rattle.std.specs.Prelude.{◌==◌, ◌||◌, All, count_by}
use Rattle.std.specs.List.{list_any}
use Rattle.std.proofs.lemmas.Bool.{or_left, or_right, cond-true, cond-false, eqb-true, eqb-false, eq-eqb, false_from_ne_true}
use Rattle.std.proofs.lemmas.List.Elements.{All-nil, All-cons, All-head, All-tail}
use Rattle.std.proofs.lemmas.List.Sums.{sum_by-cons}
use Rattle.scale_base.specs.declared.ranges.Patch.{Patch}
use Rattle.scale_base.specs.Word.{word_of}
use Rattle.stub_writer.specs.Stubs.{jump}
use Rattle.loop_versions.specs.declared.pieces.Site.{Site}
use Rattle.loop_versions.specs.Pieces.{site_at, is_site}
use Rattle.loop_versions.specs.Made.{site_patch, site_patches}

-- a patch at another address
abbrev pub IsElsewhere : ℕ → Patch → Type 0
IsElsewhere pc p = p.at ≢ pc

-- where it is at the address, it has the word
abbrev pub HasWord : ℕ → ℕ → Patch → Type 0
HasWord pc w p = p.at ≡ pc → p.word ≡ w

abbrev count_at : ℕ → List Site → ℕ
count_at pc ss = count_by (λ (o : Site). o.at == pc) ss

abbrev ones : Bool → ℕ
ones b = cond b 1 0

choose : {A : Type 0} (b : Bool) → (b ≡ true → A) → (b ≡ false → A) → A
choose true on off = on refl
choose false on off = off refl

not_same : (a b : ℕ) → (a == b) ≡ false → (b == a) ≡ false
not_same a b e = false_from_ne_true (b == a) (λ on. eqb-false a b e (sym (eqb-true b a on)))

-- what holds of each patch holds of that of each site
pub each_patch : (P : Patch → Type 0) (ss : List Site) → All (λ (s : Site). P (site_patch s)) ss → All P (site_patches ss)
each_patch P [] h = All-nil P
each_patch P (s ∷ ss) h = All-cons P (site_patch s) (site_patches ss) (All-head (λ (s : Site). P (site_patch s)) s ss h) (each_patch P ss (All-tail (λ (s : Site). P (site_patch s)) s ss h))

-- ---- no site

none_counted : (pc : ℕ) (ss : List Site) → count_at pc ss ≡ 0 → All (λ (s : Site). s.at ≢ pc) ss
none_counted pc [] h = All-nil (λ (s : Site). s.at ≢ pc)
none_counted pc (s ∷ ss) h =
    let more = sum_by-cons (λ (o : Site). cond (o.at == pc) 1 0) s ss in
    All-cons (λ (s : Site). s.at ≢ pc) s ss
    (λ same. let one : ones (s.at == pc) ≡ 1 = ap ones (eq-eqb s.at pc same) in omega (arith, h, more, one))
    (none_counted pc ss (omega (arith, h, more)))

pub record IsNoSite (ss : List Site) (pc : ℕ) : Type 0 where
  pub listed : is_site ss pc ≡ false
  pub elsewhere : All (IsElsewhere pc) (site_patches ss)

pub no_site : (ss : List Site) (pc : ℕ) → site_at ss pc ≡ None → IsNoSite ss pc
no_site [] pc h = record { listed = refl; elsewhere = All-nil (IsElsewhere pc) }
no_site (s ∷ ss) pc h = choose (pc == s.at)
    (λ e. let bad : Some s ≡ None = sym (cond-true (pc == s.at) (Some s) (site_at ss pc) e) ∙ h in let never : ⊥ = cc in absurd never)
    (λ e.
    let rest = no_site ss pc (sym (cond-false (pc == s.at) (Some s) (site_at ss pc) e) ∙ h) in
    let off = not_same pc s.at e in
    record {
      listed = ap (λ b. b || is_site ss pc) off ∙ rest.listed;
      elsewhere = All-cons (IsElsewhere pc) (site_patch s) (site_patches ss) (eqb-false s.at pc off) rest.elsewhere;
    })

-- ---- a site

unmatched : (pc w : ℕ) (ps : List Patch) → All (IsElsewhere pc) ps → All (HasWord pc w) ps
unmatched pc w ps h k d lt same = absurd (h k d lt same)

pub record IsSiteOf (ss : List Site) (pc : ℕ) (s : Site) : Type 0 where
  pub at_is : s.at ≡ pc
  pub listed : is_site ss pc ≡ true
  pub some : list_any (λ (p : Patch). p.at == pc) (site_patches ss) ≡ true

pub site_of : (ss : List Site) (pc : ℕ) (s : Site) → site_at ss pc ≡ Some s → IsSiteOf ss pc s
site_of [] pc s h = let never : ⊥ = cc in absurd never
site_of (t ∷ ts) pc s h = choose (pc == t.at)
    (λ e.
    let found : Some t ≡ Some s = sym (cond-true (pc == t.at) (Some t) (site_at ts pc) e) ∙ h in
    let same : t ≡ s = cc in
    let here : t.at ≡ pc = sym (eqb-true pc t.at e) in
    record {
      at_is = ap (λ (x : Site). x.at) (sym same) ∙ here;
      listed = or_left (t.at == pc) (is_site ts pc) (eq-eqb t.at pc here);
      some = or_left (t.at == pc) (list_any (λ (p : Patch). p.at == pc) (site_patches ts)) (eq-eqb t.at pc here);
    })
    (λ e.
    let rest = site_of ts pc s (sym (cond-false (pc == t.at) (Some t) (site_at ts pc) e) ∙ h) in
    record {
      at_is = rest.at_is;
      listed = or_right (t.at == pc) (is_site ts pc) rest.listed;
      some = or_right (t.at == pc) (list_any (λ (p : Patch). p.at == pc) (site_patches ts)) rest.some;
    })

-- what holds of each site
pub site_passes : (P : Site → Type 0) (ss : List Site) (pc : ℕ) (s : Site) → All P ss → site_at ss pc ≡ Some s → P s
site_passes P [] pc s all h = let never : ⊥ = cc in absurd never
site_passes P (t ∷ ts) pc s all h = choose (pc == t.at)
    (λ e.
    let found : Some t ≡ Some s = sym (cond-true (pc == t.at) (Some t) (site_at ts pc) e) ∙ h in
    let same : t ≡ s = cc in
    subst P same (All-head P t ts all))
    (λ e. site_passes P ts pc s (All-tail P t ts all) (sym (cond-false (pc == t.at) (Some t) (site_at ts pc) e) ∙ h))

-- where it is there once, its word is the one at the address
pub site_words : (ss : List Site) (pc : ℕ) (s : Site) → site_at ss pc ≡ Some s → count_at pc ss ≤ 1 → All (HasWord pc (word_of (jump pc s.to))) (site_patches ss)
site_words [] pc s h once = let never : ⊥ = cc in absurd never
site_words (t ∷ ts) pc s h once =
    let more = sum_by-cons (λ (o : Site). cond (o.at == pc) 1 0) t ts in
    choose (pc == t.at)
    (λ e.
    let found : Some t ≡ Some s = sym (cond-true (pc == t.at) (Some t) (site_at ts pc) e) ∙ h in
    let same : t ≡ s = cc in
    let here : t.at ≡ pc = sym (eqb-true pc t.at e) in
    let one : ones (t.at == pc) ≡ 1 = ap ones (eq-eqb t.at pc here) in
    let others = none_counted pc ts (omega (arith, once, more, one)) in
    let w = word_of (jump pc s.to) in
    All-cons (HasWord pc w) (site_patch t) (site_patches ts)
    (λ _. ap (λ a. word_of (jump a t.to)) here ∙ ap (λ (x : Site). word_of (jump pc x.to)) same)
    (unmatched pc w (site_patches ts) (each_patch (IsElsewhere pc) ts others)))
    (λ e.
    let off = not_same pc t.at e in
    let rest = site_words ts pc s (sym (cond-false (pc == t.at) (Some t) (site_at ts pc) e) ∙ h) (omega (arith, once, more)) in
    All-cons (HasWord pc (word_of (jump pc s.to))) (site_patch t) (site_patches ts) (λ same. absurd (eqb-false t.at pc off same)) rest)
