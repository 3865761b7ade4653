-- The fragments of a program's edges determine its marked instructions, and these the base of their block.
use Rattle.std.proofs.Common.{◌≡◌, ◌≢◌, ℕ, ℤ, suc, ◌+◌, ◌<◌, ◌==◌, Bool, true, false, cond, List, [], ◌∷◌, length, slice_get, Option, Some, None, refl, sym, ap, ◌∙◌, subst, arith, ◌⊎◌, inl, inr, eqb-true, eq-eqb}
use Rattle.std.specs.Prelude.{All}
use Rattle.std.proofs.lemmas.Bool.{ne_eqb}
use Rattle.scale_base.specs.declared.fragments.Fragment.{Fragment}
use Rattle.scale_base.specs.declared.instruction.BranchOp.{BranchOp}
use Rattle.scale_base.specs.declared.instruction.Instr.TheVariants as instr
use Rattle.scale_base.specs.declared.stepping.Class.{Class}
use Rattle.scale_base.specs.declared.stepping.Class.TheVariants as classes
use Rattle.scale_base.specs.Arith.{moved_by}
use Rattle.scale_base.specs.Image.{Image, is_word_address}
use Rattle.elf_patch.specs.Stored.{IsStubBase}
use Rattle.scale_base.specs.declared.edges.Edge.{Edge}
use Rattle.scale_base.specs.declared.edges.EdgeKind.TheVariants.{Taken, Untaken}
use Rattle.cost_theory.specs.declared.flow.Flow.TheVariants as flow
use Rattle.cost_theory.specs.Reached.{Code, edge_at, edges_of, call_returns}
use Rattle.cost_theory.proofs.Laws.{source_reached, Within, word_edge}
use Rattle.code_text.specs.EdgeCosts.{class_by, edge_class}
use Rattle.code_text.specs.TextGraph.{IsReachedCode}
use Rattle.code_text.specs.Text.{text_of, instr_at, instr_kind, kind_at}
use Rattle.stub_writer.specs.Stubs.{Site, Way, Place, Forked, Straight}
use Rattle.stored_runs.specs.Marks.{place_at, fragments_of_class}
use Rattle.stored_runs.specs.Stubbed.{IsOfImage, AreAscending}
use Rattle.rewritten_runs.specs.Stubs.{AreSitesOf}
use Rattle.rewritten_runs.proofs.Laws.{edge_is}

-- ---- lists

all_within : {X : Type 0} (P : X → Type 0) (xs : List X) (x : X) → All P xs → Within x xs → P x
all_within P [] x all h = absurd h
all_within P (y ∷ ys) x all (inl e) = subst P e (all 0 y (omega arith))
all_within P (y ∷ ys) x all (inr h) = all_within P ys x (λ k d lt. all (suc k) d (omega arith)) h

-- what a list holds besides its first
tail_there : (x y : Site) (xs ys : List Site) → x ≡ y → AreAscending (x ∷ xs) → ((s : Site) → Within s (x ∷ xs) → Within s (y ∷ ys)) → (s : Site) → Within s xs → Within s ys
tail_there x y xs ys same up there s h = go (there s (inr h))
  where
    go : (y ≡ s) ⊎ Within s ys → Within s ys
    go (inl e) =
        let lt : x.at < s.at = all_within (λ (later : Site). x.at < later.at) xs s up.0 h in
        let here : x.at ≡ s.at = ap (λ (z : Site). z.at) (same ∙ e) in
        let bad : ⊥ = omega arith in absurd bad
    go (inr w) = w

same_lists : (xs ys : List Site) → AreAscending xs → AreAscending ys → ((s : Site) → Within s xs → Within s ys) → ((s : Site) → Within s ys → Within s xs) → xs ≡ ys
same_lists [] [] up up' there back = refl
same_lists [] (y ∷ ys) up up' there back = absurd (back y (inl refl))
same_lists (x ∷ xs) [] up up' there back = absurd (there x (inl refl))
same_lists (x ∷ xs) (y ∷ ys) up up' there back =
    let same : x ≡ y = head (there x (inl refl)) (back y (inl refl)) in
    let rest : xs ≡ ys = same_lists xs ys up.1 up'.1 (tail_there x y xs ys same up there) (tail_there y x ys xs (sym same) up' back) in
    ap (λ z. z ∷ xs) same ∙ ap (λ zs. y ∷ zs) rest
  where
    head : (y ≡ x) ⊎ Within x ys → (x ≡ y) ⊎ Within y xs → x ≡ y
    head (inl e) q = sym e
    head (inr h) (inl e) = e
    head (inr h) (inr k) =
        let low : y.at < x.at = all_within (λ (later : Site). y.at < later.at) ys x up'.0 h in
        let high : x.at < y.at = all_within (λ (later : Site). x.at < later.at) xs y up.0 k in
        let bad : ⊥ = omega arith in absurd bad

-- the marked instruction whose place stands at an address
pub record IsPlacedSite (sites : List Site) (at : ℕ) (p : Place) : Type 0 where
  pub site : Site
  pub within : Within site sites
  pub here : site.at ≡ at
  pub place : site.place ≡ p

placed_site : (sites : List Site) (at : ℕ) (p : Place) → place_at sites at ≡ Some p → IsPlacedSite sites at p
placed_site [] at p e = let bad : ⊥ = cc in absurd bad
placed_site (s ∷ sites) at p e = step (s.at == at) refl e (placed_site sites at p)
  where
    step : (b : Bool) → (s.at == at) ≡ b → cond b (Some s.place) (place_at sites at) ≡ Some p → (place_at sites at ≡ Some p → IsPlacedSite sites at p) → IsPlacedSite (s ∷ sites) at p
    step true is f go = record { site = s; within = inl refl; here = eqb-true s.at at is; place = (let q : s.place ≡ p = cc in q) }
    step false is f go = let r = go f in record { site = r.site; within = inr r.within; here = r.here; place = r.place }

found_place : (sites : List Site) → AreAscending sites → (s : Site) → Within s sites → place_at sites s.at ≡ Some s.place
found_place [] up s h = absurd h
found_place (x ∷ sites) up s (inl e) = subst (λ (z : Site). place_at (x ∷ sites) z.at ≡ Some z.place) e (ap (λ b. cond b (Some x.place) (place_at sites x.at)) (eq-eqb x.at x.at refl))
found_place (x ∷ sites) up s (inr h) =
    let lt : x.at < s.at = all_within (λ (later : Site). x.at < later.at) sites s up.0 h in
    let off : (x.at == s.at) ≡ false = ne_eqb x.at s.at (λ e. omega (arith, lt, e)) in
    ap (λ b. cond b (Some x.place) (place_at sites s.at)) off ∙ found_place sites up.1 s h

-- ---- the marked instructions of a program

-- these go by the list of edges alone
pub sites_moved : (image : Image) (code code' : Code) (frags frags' : ℕ → List Fragment) (sites : List Site) → code'.edges ≡ code.edges → frags' ≡ frags → AreSitesOf image code' frags' sites → AreSitesOf image code frags sites
sites_moved image code code' frags frags' sites e f are = record {
  ascending = are.ascending;
  words = are.words;
  some = subst (λ (es : List Edge). All (λ (site : Site). (i : ℕ) × (i < length es) × (edge_at (slice_get es i) ≡ site.at) × (frags i ≢ [])) sites) e
      (subst (λ (fs : ℕ → List Fragment). All (λ (site : Site). (i : ℕ) × (i < length code'.edges) × (edge_at (slice_get code'.edges i) ≡ site.at) × (fs i ≢ [])) sites) f are.some);
  ways = subst (λ (es : List Edge). (i : ℕ) (class : Class) → i < length es → edge_class (text_of image) (slice_get es i) ≡ Some class → fragments_of_class (place_at sites (edge_at (slice_get es i))) class ≡ frags i) e
      (subst (λ (fs : ℕ → List Fragment). (i : ℕ) (class : Class) → i < length code'.edges → edge_class (text_of image) (slice_get code'.edges i) ≡ Some class → fragments_of_class (place_at sites (edge_at (slice_get code'.edges i))) class ≡ fs i) f are.ways);
}

module _ (image : Image) (code : Code) (reached : IsReachedCode (text_of image) code) where
  -- an edge of a class at an address
  record HasEdge (at : ℕ) (class : Class) : Type 0 where
    pub edge : ℕ
    pub low : edge < length code.edges
    pub starts : edge_at (slice_get code.edges edge) ≡ at
    pub is : edge_class (text_of image) (slice_get code.edges edge) ≡ Some class

  -- at a branch there is an edge of both classes
  edge_there : (e : ℕ) (op : BranchOp) (rs1 rs2 : ℕ) (offset : ℤ) → e < length code.edges → instr_at (text_of image) (edge_at (slice_get code.edges e)) ≡ Some (instr.Branch op rs1 rs2 offset) →
      (x : Edge) (class : Class) → Within x (edges_of (flow.Branch (moved_by (edge_at (slice_get code.edges e)) offset)) (edge_at (slice_get code.edges e)) false) → x.at ≡ edge_at (slice_get code.edges e) → class_by (Some (instr.Branch op rs1 rs2 offset)) x.kind ≡ Some class →
      HasEdge (edge_at (slice_get code.edges e)) class
  edge_there e op rs1 rs2 offset lt at x class h starts c =
      let t = text_of image in
      let u = edge_at (slice_get code.edges e) in
      let from = edge_is t code reached e lt in
      let same : from.instr ≡ instr.Branch op rs1 rs2 offset = (let a = from.at in cc) in
      let kind : kind_at t u ≡ flow.Branch (moved_by u offset) = from.kind ∙ ap (instr_kind t u) same in
      let r = source_reached (kind_at t) t.entry code reached.lists reached.words e lt in
      let d = word_edge (kind_at t) t.entry code reached.lists r.0 u x r.1 (subst (λ q. Within x (edges_of q u (call_returns code q))) (sym kind) h) in
      record {
        edge = d.0;
        low = d.1;
        starts = ap edge_at d.2 ∙ starts;
        is = ap (edge_class t) d.2 ∙ (ap (λ o. class_by o x.kind) (ap (instr_at t) starts ∙ at) ∙ c);
      }

  taken_there : (e : ℕ) (op : BranchOp) (rs1 rs2 : ℕ) (offset : ℤ) → e < length code.edges → instr_at (text_of image) (edge_at (slice_get code.edges e)) ≡ Some (instr.Branch op rs1 rs2 offset) → HasEdge (edge_at (slice_get code.edges e)) classes.Taken
  taken_there e op rs1 rs2 offset lt at =
      let u = edge_at (slice_get code.edges e) in
      edge_there e op rs1 rs2 offset lt at (record { at = u; kind = Taken; to = moved_by u offset }) classes.Taken (inl refl) refl refl

  untaken_there : (e : ℕ) (op : BranchOp) (rs1 rs2 : ℕ) (offset : ℤ) → e < length code.edges → instr_at (text_of image) (edge_at (slice_get code.edges e)) ≡ Some (instr.Branch op rs1 rs2 offset) → HasEdge (edge_at (slice_get code.edges e)) classes.Untaken
  untaken_there e op rs1 rs2 offset lt at =
      let u = edge_at (slice_get code.edges e) in
      edge_there e op rs1 rs2 offset lt at (record { at = u; kind = Untaken; to = u + 4 }) classes.Untaken (inr (inl refl)) refl refl

  abbrev AgreeAt : ℕ → Place → Place → Type 0
  AgreeAt u p p' = (class : Class) → HasEdge u class → fragments_of_class (Some p) class ≡ fragments_of_class (Some p') class

  way_same : (way way' : Way) → way.to ≡ way'.to → way.fragments ≡ way'.fragments → way ≡ way'
  way_same way way' a b = ap {B = Way} (λ (x : ℕ). record way { to = x }) a ∙ ap {B = Way} (λ (fs : List Fragment). record way' { fragments = fs }) b

  -- two places of the instruction at an edge's address, with the same fragments on its edges
  place_same : (e : ℕ) (class : Class) (p p' : Place) → e < length code.edges → edge_class (text_of image) (slice_get code.edges e) ≡ Some class →
      IsOfImage image (edge_at (slice_get code.edges e)) p → IsOfImage image (edge_at (slice_get code.edges e)) p' → AgreeAt (edge_at (slice_get code.edges e)) p p' → p ≡ p'
  place_same e class (Forked op rs1 rs2 u t) (Forked op' rs1' rs2' u' t') lt is a a' agree =
      let two : Some (instr.Branch op rs1 rs2 a.0) ≡ Some (instr.Branch op' rs1' rs2' a'.0) = sym a.1 ∙ a'.1 in
      let same_op : op ≡ op' = cc in
      let same_one : rs1 ≡ rs1' = cc in
      let same_two : rs2 ≡ rs2' = cc in
      let same_offset : a.0 ≡ a'.0 = cc in
      let untaken : u ≡ u' = way_same u u' (a.2 ∙ sym a'.2) (agree classes.Untaken (untaken_there e op rs1 rs2 a.0 lt a.1)) in
      let taken : t ≡ t' = way_same t t' (a.3 ∙ (ap (moved_by (edge_at (slice_get code.edges e))) same_offset ∙ sym a'.3)) (agree classes.Taken (taken_there e op rs1 rs2 a.0 lt a.1)) in
      ap (λ x. Forked x rs1 rs2 u t) same_op ∙ ap (λ x. Forked op' x rs2 u t) same_one ∙ ap (λ x. Forked op' rs1' x u t) same_two ∙ ap (λ x. Forked op' rs1' rs2' x t) untaken ∙ ap (λ x. Forked op' rs1' rs2' u' x) taken
  place_same e class (Forked op rs1 rs2 u t) (Straight way') lt is a a' agree =
      let two : Some (instr.Branch op rs1 rs2 a.0) ≡ Some (instr.Jal 0 a'.0) = sym a.1 ∙ a'.1 in
      let bad : ⊥ = cc in absurd bad
  place_same e class (Straight way) (Forked op' rs1' rs2' u' t') lt is a a' agree =
      let two : Some (instr.Jal 0 a.0) ≡ Some (instr.Branch op' rs1' rs2' a'.0) = sym a.1 ∙ a'.1 in
      let bad : ⊥ = cc in absurd bad
  place_same e class (Straight way) (Straight way') lt is a a' agree =
      let two : Some (instr.Jal 0 a.0) ≡ Some (instr.Jal 0 a'.0) = sym a.1 ∙ a'.1 in
      let same_offset : a.0 ≡ a'.0 = cc in
      ap Straight (way_same way way' (a.2 ∙ (ap (moved_by (edge_at (slice_get code.edges e))) same_offset ∙ sym a'.2)) (agree class (record { edge = e; low = lt; starts = refl; is = is })))

  module _ (frags : ℕ → List Fragment) (classed : (e : ℕ) → e < length code.edges → frags e ≢ [] → (class : Class) × (edge_class (text_of image) (slice_get code.edges e) ≡ Some class)) where
    site_same : (s s' : Site) → s'.at ≡ s.at → s'.place ≡ s.place → s' ≡ s
    site_same s s' a b = ap {B = Site} (λ (x : ℕ). record s' { at = x }) a ∙ ap {B = Site} (λ (p : Place). record s { place = p }) b

    -- a marked instruction with fragments on this edge is also in the other list
    there_by : (sites sites' : List Site) → AreSitesOf image code frags sites → AreSitesOf image code frags sites' → (s : Site) → Within s sites →
        (e : ℕ) (class : Class) → e < length code.edges → edge_at (slice_get code.edges e) ≡ s.at → frags e ≢ [] → edge_class (text_of image) (slice_get code.edges e) ≡ Some class → Within s sites'
    there_by sites sites' are are' s h e class lt at some is = step (place_at sites' (edge_at (slice_get code.edges e))) refl
      where
        here : place_at sites (edge_at (slice_get code.edges e)) ≡ Some s.place
        here = ap (place_at sites) at ∙ found_place sites are.ascending s h

        agree : (p' : Place) → place_at sites' (edge_at (slice_get code.edges e)) ≡ Some p' → AgreeAt (edge_at (slice_get code.edges e)) s.place p'
        agree p' found c x =
            let one = are.ways x.edge c x.low x.is in
            let two = are'.ways x.edge c x.low x.is in
            sym (ap (λ o. fragments_of_class o c) (ap (place_at sites) x.starts ∙ here)) ∙ (one ∙ (sym two ∙ ap (λ o. fragments_of_class o c) (ap (place_at sites') x.starts ∙ found)))

        step : (o : Option Place) → place_at sites' (edge_at (slice_get code.edges e)) ≡ o → Within s sites'
        step None found = absurd (some (sym (are'.ways e class lt is) ∙ ap (λ o. fragments_of_class o class) found))
        step (Some p') found =
            let u = edge_at (slice_get code.edges e) in
            let x = placed_site sites' u p' found in
            let word = all_within (λ (site : Site). (is_word_address image site.at ≡ true) × IsOfImage image site.at site.place) sites s are.words h in
            let word' = all_within (λ (site : Site). (is_word_address image site.at ≡ true) × IsOfImage image site.at site.place) sites' x.site are'.words x.within in
            let of : IsOfImage image u s.place = subst (λ a. IsOfImage image a s.place) (sym at) word.1 in
            let of' : IsOfImage image u p' = subst (IsOfImage image u) x.place (subst (λ a. IsOfImage image a x.site.place) x.here word'.1) in
            let same : s.place ≡ p' = place_same e class s.place p' lt is of of' (agree p' found) in
            subst (λ (z : Site). Within z sites') (site_same s x.site (x.here ∙ at) (x.place ∙ sym same)) x.within

    site_there : (sites sites' : List Site) → AreSitesOf image code frags sites → AreSitesOf image code frags sites' → (s : Site) → Within s sites → Within s sites'
    site_there sites sites' are are' s h =
        let from = all_within (λ (site : Site). (e : ℕ) × (e < length code.edges) × (edge_at (slice_get code.edges e) ≡ site.at) × (frags e ≢ [])) sites s are.some h in
        let class = classed from.0 from.1 from.3 in
        there_by sites sites' are are' s h from.0 class.0 from.1 from.2 from.3 class.1

    pub sites_same : (sites sites' : List Site) → AreSitesOf image code frags sites → AreSitesOf image code frags sites' → sites ≡ sites'
    sites_same sites sites' are are' = same_lists sites sites' are.ascending are'.ascending (site_there sites sites' are are') (site_there sites' sites are' are)

-- ---- the base of the block

pub base_same : (image : Image) (len base base' : ℕ) → IsStubBase image len base → IsStubBase image len base' → base ≡ base'
base_same image len base base' is is' =
    let low = is.least base' is'.place in
    let high = is'.least base is.place in
    omega (arith, low, high)
