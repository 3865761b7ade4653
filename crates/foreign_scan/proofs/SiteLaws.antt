-- What is known of the words of nodes, word by word.
use Rattle.std.proofs.Common.{◌≡◌, ℕ, ℤ, zero, suc, true, false, ◌⊎◌, inl, inr, ⊎_elim, List, [], ◌∷◌, ◌++◌, length, Option, Some, None, refl, sym, ap, ◌∙◌, subst, arith}
use Rattle.std.specs.Prelude.{slice_get, nat_eq}
use Rattle.std.proofs.lemmas.Bool.{cond-true, cond-false, eq-eqb, eqb-true, ne_eqb}
use Rattle.scale_base.specs.declared.edges.EdgeKind.{EdgeKind}
use Rattle.scale_base.specs.declared.instruction.Instr.{Instr}
use Rattle.scale_base.specs.declared.instruction.Instr.TheVariants as instr
use Rattle.scale_base.specs.Arith.{moved_by}
use Rattle.scale_base.specs.Image.{Image, loaded_byte}
use Rattle.scale_base.specs.Reading.{instr_of}
use Rattle.machine_laws.proofs.Laws.{found_in}
use Rattle.scale_base.specs.State.{word_at}
use Rattle.foreign_scan.specs.declared.fragment.ForeignFragment.{ForeignFragment}
use Rattle.foreign_scan.specs.declared.site.Site.{Site}
use Rattle.foreign_scan.specs.Form.{IsStub}
use Rattle.foreign_scan.specs.Least.{goto_target}
use Rattle.foreign_scan.specs.Scanned.{is_changed}
use Rattle.foreign_scan.specs.Sites.{IsBrokenAt, IsSiteAt, site_beside}
use Rattle.foreign_scan.proofs.PatchLaws.{target_from, target_to}
use Rattle.foreign_scan.proofs.ReadLaws.{same_some}

abbrev word_instr : Image → ℕ → Option Instr
word_instr image at = instr_of (word_at (loaded_byte image) at)

pub no_target : (original foreign : Image) (at : ℕ) (o : Option ℕ) → is_changed original foreign at ≡ true → o ≡ goto_target (word_instr foreign at) at → o ≡ None → IsBrokenAt original foreign at
no_target original foreign at o changed is none = record {
  changed = changed;
  none = λ old offset others eo en stub. let e = sym none ∙ (is ∙ target_to (word_instr foreign at) at offset en) in absurd cc;
}

pub jal_same : (y z : ℤ) → Some (instr.Jal 0 y) ≡ Some (instr.Jal 0 z) → y ≡ z
jal_same y z e = cc

pub broken_site : (original foreign key : Image) (at to : ℕ) (t : Option ℕ) (o : Option Instr) (old : Instr) → key ≡ foreign → is_changed original foreign at ≡ true
    → t ≡ goto_target (word_instr foreign at) at → t ≡ Some to → o ≡ word_instr original at → o ≡ Some old → ((others : EdgeKind → List ForeignFragment) → IsStub key at to old others → ⊥) → IsBrokenAt original foreign at
broken_site original foreign key at to t o old same changed is some read there no_stub =
    let jump = target_from (word_instr foreign at) at to (sym is ∙ some) in
    record {
      changed = changed;
      none = λ i offset others eo en stub.
          let one : old ≡ i = same_some old i (sym there ∙ (read ∙ eo)) in
          let way : offset ≡ jump.0 = jal_same offset jump.0 (sym en ∙ jump.1) in
          let place : moved_by at offset ≡ to = ap (moved_by at) way ∙ jump.2 in
          no_stub others (subst (λ k. IsStub k at to old others) (sym same) (subst (λ j. IsStub foreign at to j others) (sym one) (subst (λ a. IsStub foreign at a i others) place stub)));
    }

-- ---- the sites of the first nodes

pub record AreSitesBelow (original foreign : Image) (nodes : List ℕ) (n : ℕ) (sites : List Site) : Type 0 where
  pub size : length sites ≡ n
  pub each : (k at : ℕ) (site : Site) → slice_get nodes k ≡ Some at → slice_get sites k ≡ Some site → IsSiteAt original foreign at site

pub get_pushed : {A : Type 0} (xs : List A) (x y : A) (j : ℕ) → slice_get (xs ++ x ∷ []) j ≡ Some y → (slice_get xs j ≡ Some y) ⊎ ((j ≡ length xs) × (x ≡ y))
get_pushed [] x y zero e = inr (refl, same_some x y e)
get_pushed [] x y (suc j) e = absurd cc
get_pushed (z ∷ zs) x y zero e = inl e
get_pushed (z ∷ zs) x y (suc j) e = ⊎_elim (λ h. inl h) (λ h. inr (ap suc h.0, h.1)) (get_pushed zs x y j e)

-- ---- what stands beside an address

pub beside_at : (nodes : List ℕ) (sites : List Site) (k at : ℕ) (site : Site) → ((i j a : ℕ) → slice_get nodes i ≡ Some a → slice_get nodes j ≡ Some a → i ≡ j) → slice_get nodes k ≡ Some at → slice_get sites k ≡ Some site
    → site_beside nodes sites at ≡ Some site
beside_at [] sites k at site once node here = absurd cc
beside_at (u ∷ us) [] k at site once node here = absurd cc
beside_at (u ∷ us) (s ∷ sites) zero at site once node here =
    let same : u ≡ at = same_some u at node in
    cond-true (nat_eq u at) (Some s) (site_beside us sites at) (eq-eqb u at same) ∙ here
beside_at (u ∷ us) (s ∷ sites) (suc k) at site once node here =
    let other : nat_eq u at ≡ false = ne_eqb u at (λ same. let bad : 0 ≡ suc k = once 0 (suc k) at (ap Some same) node in absurd (omega (arith, bad))) in
    cond-false (nat_eq u at) (Some s) (site_beside us sites at) other
    ∙ beside_at us sites k at site (λ i j a ei ej. let e : suc i ≡ suc j = once (suc i) (suc j) a ei ej in omega (arith, e)) node here

pub beside_from : (nodes : List ℕ) (sites : List Site) (at : ℕ) (site : Site) → site_beside nodes sites at ≡ Some site → (k : ℕ) × (slice_get nodes k ≡ Some at) × (slice_get sites k ≡ Some site)
beside_from [] sites at site e = absurd cc
beside_from (u ∷ us) [] at site e = absurd cc
beside_from (u ∷ us) (s ∷ sites) at site e =
    elim (found_in (nat_eq u at) site s (site_beside us sites at) e) [
      | inl here ↦ (0, ap Some (eqb-true u at here.0), ap Some here.1)
      | inr there ↦ let r = beside_from us sites at site there.1 in (suc r.0, r.1, r.2)
    ]
