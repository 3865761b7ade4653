-- The fragments of an edge by its sites are those that are found on it, with their rows.
use Rattle.std.proofs.Common.{◌≡◌, ⊎_elim, ℕ, Bool, true, false, cond, List, [], ◌∷◌, map, refl, sym, ap, ◌∙◌, subst, slice_get, Some, None}
use Rattle.std.specs.Prelude.{◌==◌, ◌%◌, filter}
use Rattle.std.specs.List.{list_any}
use Rattle.std.proofs.lemmas.Bool.{eqb-true, eq-eqb, and_from, both_ways, cond-true, cond-false, eqb-false, false_from_ne_true}
use Rattle.scale_base.specs.declared.instruction.Instr.{Instr}
use Rattle.scale_base.specs.declared.instruction.Instr.TheVariants as instr
use Rattle.scale_base.specs.declared.stepping.Class.{Class}
use Rattle.scale_base.specs.declared.stepping.Class.TheVariants as classes
use Rattle.scale_base.specs.Image.{Image, is_in, is_word_address}
use Rattle.scale_base.specs.declared.edges.Edge.{Edge}
use Rattle.scale_base.specs.declared.edges.EdgeKind.{EdgeKind}
use Rattle.scale_base.specs.declared.edges.EdgeKind.TheVariants.{Taken, Untaken}
use Rattle.cost_theory.specs.Graph.{Loops}
use Rattle.cost_theory.specs.Reached.{Reached, Code, edges_of, call_returns}
use Rattle.cost_theory.proofs.Laws.{Within, get_within, edge_of_word}
use Rattle.code_text.specs.Text.{Text, text_of, instr_at, instr_kind, kind_at}
use Rattle.code_text.specs.EdgeCosts.{class_by, edge_class}
use Rattle.code_text.specs.TextGraph.{IsReachedCode}
use Rattle.code_text.proofs.Laws.{kind_facts}
use Rattle.stub_writer.specs.Stubs.{Site}
use Rattle.stored_runs.specs.Marks.{place_at, fragments_of_class}
use Rattle.foreign_scan.specs.Scanned.{Found, is_changed, IsChanged, CanBePatched, IsScanned}
use Rattle.image_check.specs.Safe.{Owner, all_with_rows, place_by, foreign_site, sites_of}

-- ---- the place at an address

module _ (site : ℕ → Site) (p : ℕ → Bool) (own : (v : ℕ) → (site v).at ≡ v) where
  pub in_sites : (nodes : List ℕ) (v : ℕ) → Within v nodes → p v ≡ true → place_at (map site (filter p nodes)) v ≡ Some (site v).place
  in_sites [] v there on = absurd there
  in_sites (u ∷ us) v there on = by_test (p u) refl (λ later. in_sites us v later on)
    where
      by_place : (b : Bool) → ((site u).at == v) ≡ b → (Within v us → place_at (map site (filter p us)) v ≡ Some (site v).place) → place_at (site u ∷ map site (filter p us)) v ≡ Some (site v).place
      by_place true e go =
          let same : u ≡ v = sym (own u) ∙ eqb-true (site u).at v e in
          cond-true ((site u).at == v) (Some (site u).place) (place_at (map site (filter p us)) v) e ∙ ap (λ x. Some (site x).place) same
      by_place false e go =
          cond-false ((site u).at == v) (Some (site u).place) (place_at (map site (filter p us)) v) e
          ∙ ⊎_elim (λ (same : u ≡ v). absurd (eqb-false (site u).at v e (own u ∙ same))) go there

      by_test : (b : Bool) → p u ≡ b → (Within v us → place_at (map site (filter p us)) v ≡ Some (site v).place) → place_at (map site (cond b (u ∷ filter p us) (filter p us))) v ≡ Some (site v).place
      by_test true e go = by_place ((site u).at == v) refl go
      by_test false e go = ⊎_elim (λ (same : u ≡ v). absurd (both_ways (p v) (ap p (sym same) ∙ e) on)) go there

  pub not_in : (nodes : List ℕ) (v : ℕ) → p v ≡ false → place_at (map site (filter p nodes)) v ≡ None
  not_in [] v off = refl
  not_in (u ∷ us) v off = by_test (p u) refl (not_in us v off)
    where
      by_test : (b : Bool) → p u ≡ b → place_at (map site (filter p us)) v ≡ None → place_at (map site (cond b (u ∷ filter p us) (filter p us))) v ≡ None
      by_test true e go =
          let other : ((site u).at == v) ≡ false = false_from_ne_true ((site u).at == v) (λ same. both_ways (p v) off (ap p (sym (eqb-true (site u).at v same) ∙ own u) ∙ e)) in
          cond-false ((site u).at == v) (Some (site u).place) (place_at (map site (filter p us)) v) other ∙ go
      by_test false e go = go

module _ (original foreign : Image) (code : Code) (l : Loops) (owner : Owner) (found : Found) (reached : IsReachedCode (text_of original) code) (is : IsScanned original foreign code l found) where
  abbrev t : Text
  t = text_of original

  abbrev sites : List Site
  sites = sites_of original foreign code l owner found

  -- a reached address is one of a word
  pub reached_word : (f v : ℕ) → Reached (kind_at t) t.entry f v → is_word_address original v ≡ true
  reached_word f v there =
      let facts = kind_facts t v (reached.words f v there) in
      and_from (v % 4 == 0) (list_any (is_in v) original.text) (eq-eqb (v % 4) 0 facts.0) facts.1

  pub changed_place : (v : ℕ) → IsChanged original foreign v → place_at sites v ≡ Some (place_by foreign l owner v (found v) (instr_at t v))
  changed_place v c =
      let p = is.patches v c in
      in_sites (foreign_site original foreign l owner found) (is_changed original foreign) (λ u. refl) code.nodes v (get_within code.nodes p.node.0 v p.node.1) c.1

  pub same_place : (v : ℕ) → is_changed original foreign v ≡ false → place_at sites v ≡ None
  same_place v off = not_in (foreign_site original foreign l owner found) (is_changed original foreign) (λ u. refl) code.nodes v off

  -- by the instruction of a patched word, and the edges of its kind
  by_instr : (v : ℕ) (kind : EdgeKind) (to : ℕ) (class : Class) (i : Instr) → CanBePatched i → (r : Bool) → Within (record { at = v; kind = kind; to = to }) (edges_of (instr_kind t v i) v r) → class_by (Some i) kind ≡ Some class
      → fragments_of_class (Some (place_by foreign l owner v (found v) (Some i))) class ≡ all_with_rows foreign l owner (found v kind)
  by_instr v kind to class (instr.Branch op rs1 rs2 offset) can r within is_class = ⊎_elim
      (λ e. by_kind kind (sym (ap (λ (x : Edge). x.kind) e)) is_class)
      (λ rest. ⊎_elim (λ e. by_other kind (sym (ap (λ (x : Edge). x.kind) e)) is_class) (λ none. absurd none) rest) within
    where
      by_kind : (k : EdgeKind) → k ≡ Taken → class_by (Some (instr.Branch op rs1 rs2 offset)) k ≡ Some class → fragments_of_class (Some (place_by foreign l owner v (found v) (Some (instr.Branch op rs1 rs2 offset)))) class ≡ all_with_rows foreign l owner (found v k)
      by_kind k e c =
          let there : classes.Taken ≡ class = (let d = ap (class_by (Some (instr.Branch op rs1 rs2 offset))) (sym e) ∙ c in cc) in
          ap (fragments_of_class (Some (place_by foreign l owner v (found v) (Some (instr.Branch op rs1 rs2 offset))))) (sym there) ∙ ap (λ q. all_with_rows foreign l owner (found v q)) (sym e)

      by_other : (k : EdgeKind) → k ≡ Untaken → class_by (Some (instr.Branch op rs1 rs2 offset)) k ≡ Some class → fragments_of_class (Some (place_by foreign l owner v (found v) (Some (instr.Branch op rs1 rs2 offset)))) class ≡ all_with_rows foreign l owner (found v k)
      by_other k e c =
          let there : classes.Untaken ≡ class = (let d = ap (class_by (Some (instr.Branch op rs1 rs2 offset))) (sym e) ∙ c in cc) in
          ap (fragments_of_class (Some (place_by foreign l owner v (found v) (Some (instr.Branch op rs1 rs2 offset))))) (sym there) ∙ ap (λ q. all_with_rows foreign l owner (found v q)) (sym e)
  by_instr v kind to class (instr.Jal rd offset) can r within is_class = at_zero rd can within
    where
      at_zero : (rd : ℕ) → rd ≡ 0 → Within (record { at = v; kind = kind; to = to }) (edges_of (instr_kind t v (instr.Jal rd offset)) v r) → fragments_of_class (Some (place_by foreign l owner v (found v) (Some (instr.Jal rd offset)))) class ≡ all_with_rows foreign l owner (found v kind)
      at_zero rd zero w = ⊎_elim (λ e. ap (λ q. all_with_rows foreign l owner (found v q)) (ap (λ (x : Edge). x.kind) e)) (λ none. absurd none)
          (subst (λ d. Within (record { at = v; kind = kind; to = to }) (edges_of (instr_kind t v (instr.Jal d offset)) v r)) zero w)
  by_instr v kind to class (instr.Lui rd imm) can r within is_class = absurd can
  by_instr v kind to class (instr.Auipc rd imm) can r within is_class = absurd can
  by_instr v kind to class (instr.Jalr rd rs1 offset) can r within is_class = absurd can
  by_instr v kind to class (instr.Load op rd rs1 offset) can r within is_class = absurd can
  by_instr v kind to class (instr.Store op rs1 rs2 offset) can r within is_class = absurd can
  by_instr v kind to class (instr.Imm op rd rs1 imm) can r within is_class = absurd can
  by_instr v kind to class (instr.Reg op rd rs1 rs2) can r within is_class = absurd can
  by_instr v kind to class (instr.Fence rd rs1 imm) can r within is_class = absurd can
  by_instr v kind to class instr.Ecall can r within is_class = absurd can
  by_instr v kind to class instr.Ebreak can r within is_class = absurd can

  pub fragments_on : (e : ℕ) (edge : Edge) (class : Class) → slice_get code.edges e ≡ Some edge → edge_class t (Some edge) ≡ Some class
      → fragments_of_class (place_at sites edge.at) class ≡ all_with_rows foreign l owner (found edge.at edge.kind)
  fragments_on e edge class there is_class = by_change (is_changed original foreign edge.at) refl
    where
      source : (v : ℕ) × ((f : ℕ) × Reached (kind_at t) t.entry f v) × Within edge (edges_of (kind_at t v) v (call_returns code (kind_at t v))) × (edge.at ≡ v)
      source = edge_of_word (kind_at t) t.entry code reached.lists e edge there

      word : is_word_address original edge.at ≡ true
      word = ap (is_word_address original) source.3 ∙ reached_word source.1.0 source.0 source.1.1

      by_change : (b : Bool) → is_changed original foreign edge.at ≡ b → fragments_of_class (place_at sites edge.at) class ≡ all_with_rows foreign l owner (found edge.at edge.kind)
      by_change false off =
          ap (λ o. fragments_of_class o class) (same_place edge.at off)
          ∙ sym (ap (all_with_rows foreign l owner) (is.found_are.plain edge.at edge.kind (λ c. both_ways (is_changed original foreign edge.at) off c.1)))
      by_change true on =
          let c : IsChanged original foreign edge.at = (word, on) in
          let p = is.patches edge.at c in
          let facts = kind_facts t source.0 (reached.words source.1.0 source.0 source.1.1) in
          let same : facts.2.0 ≡ p.old_instr = (let a = facts.2.1 in let b = ap (instr_at t) (sym source.3) ∙ p.old in cc) in
          let kind_is : kind_at t edge.at ≡ instr_kind t edge.at p.old_instr = ap (kind_at t) source.3 ∙ (facts.2.2 ∙ (ap (instr_kind t source.0) same ∙ ap (λ v. instr_kind t v p.old_instr) (sym source.3))) in
          let within : Within edge (edges_of (kind_at t edge.at) edge.at (call_returns code (kind_at t edge.at))) = subst (λ v. Within edge (edges_of (kind_at t v) v (call_returns code (kind_at t v)))) (sym source.3) source.2 in
          let there2 : Within edge (edges_of (instr_kind t edge.at p.old_instr) edge.at (call_returns code (kind_at t edge.at))) = subst (λ w. Within edge (edges_of w edge.at (call_returns code (kind_at t edge.at)))) kind_is within in
          ap (λ o. fragments_of_class o class) (changed_place edge.at c)
          ∙ (ap (λ o. fragments_of_class (Some (place_by foreign l owner edge.at (found edge.at) o)) class) p.old
          ∙ by_instr edge.at edge.kind edge.to class p.old_instr p.can_be (call_returns code (kind_at t edge.at)) there2 (ap (λ o. class_by o edge.kind) (sym p.old) ∙ is_class))
