-- Patches, by their tests.
use Rattle.std.proofs.Common.{◌≡◌, ◌↔◌, ℕ, ℤ, zero, suc, ◌%◌, Bool, true, false, not, ◌&&◌, ◌⊎◌, inl, inr, List, [], ◌∷◌, length, Option, Some, None, refl, sym, ap, ◌∙◌, arith}
use Rattle.std.specs.Prelude.{◌==◌, nat_eq, nat_le, nat_lt, slice_get, is_some}
use Rattle.std.specs.List.{list_any}
use Rattle.std.proofs.lemmas.Bool.{cases_Bool, both_ways, and_parts, and_from, or_cases, not-true, eqb-true, eq-eqb, leb-true, ltb-true}
use Rattle.cost_theory.specs.Lists.{is_among, or_true}
use Rattle.cost_theory.specs.Reached.{Code}
use Rattle.machine_laws.proofs.Laws.{mapped_from}
use Rattle.scale_base.specs.declared.instruction.Instr.{Instr}
use Rattle.scale_base.specs.declared.instruction.Instr.TheVariants as instr
use Rattle.scale_base.specs.declared.ranges.Range.{Range}
use Rattle.scale_base.specs.Arith.{moved_by}
use Rattle.scale_base.specs.Image.{Image, loaded_byte, is_in, is_word_address}
use Rattle.scale_base.specs.Layout.{layout_of, is_keyed}
use Rattle.scale_base.specs.Reading.{instr_of}
use Rattle.scale_base.specs.State.{word_at}
use Rattle.foreign_scan.specs.Least.{IsInRanges, goto_target, is_patchable, is_key_place, leads_to_key, is_patch_at, is_bad_word}
use Rattle.foreign_scan.specs.Parts.{goto_of}
use Rattle.foreign_scan.specs.Scanned.{is_changed, CanBePatched, IsChanged, IsPatch, IsBadPatch}
use Rattle.foreign_scan.proofs.RunOutLaws.{goto_from}

-- ---- numbers in a list

or_true_cases : (a b : Bool) → or_true a b ≡ true → (a ≡ true) ⊎ (b ≡ true)
or_true_cases true b e = inl refl
or_true_cases false b e = inr e

pub among_place : (xs : List ℕ) (v : ℕ) → is_among v xs ≡ true → (k : ℕ) × (slice_get xs k ≡ Some v)
among_place [] v e = absurd cc
among_place (u ∷ us) v e =
    elim (or_true_cases (nat_eq u v) (is_among v us) e) [
      | inl here ↦ (0, ap Some (eqb-true u v here))
      | inr there ↦ let r = among_place us v there in (suc r.0, r.1)
    ]

or_true_left : (a b : Bool) → a ≡ true → or_true a b ≡ true
or_true_left a b e = ap (λ x. or_true x b) e

or_true_right : (a b : Bool) → b ≡ true → or_true a b ≡ true
or_true_right true b e = refl
or_true_right false b e = e

pub place_among : (xs : List ℕ) (v k : ℕ) → slice_get xs k ≡ Some v → is_among v xs ≡ true
place_among [] v k e = absurd cc
place_among (u ∷ us) v zero e = let same : u ≡ v = cc in or_true_left (nat_eq u v) (is_among v us) (eq-eqb u v same)
place_among (u ∷ us) v (suc k) e = or_true_right (nat_eq u v) (is_among v us) (place_among us v k e)

-- what is found by number tells whether the address is among them
pub found_among : (o : Option ℕ) (xs : List ℕ) (v : ℕ) → ((k : ℕ) → (o ≡ Some k) ↔ (slice_get xs k ≡ Some v)) → is_some o ≡ is_among v xs
found_among (Some k) xs v h = sym (place_among xs v k ((h k).0 refl))
found_among None xs v h =
    elim (cases_Bool (is_among v xs)) [
      | inr fails ↦ sym fails
      | inl holds ↦ let place = among_place xs v holds in let bad = (h place.0).1 place.1 in absurd cc
    ]

-- ---- instructions

pub target_from : (o : Option Instr) (at to : ℕ) → goto_target o at ≡ Some to → (z : ℤ) × (o ≡ Some (instr.Jal 0 z)) × (moved_by at z ≡ to)
target_from o at to e = let m = mapped_from (moved_by at) (goto_of o) to e in (m.0, goto_from o m.0 m.1, m.2)

pub target_to : (o : Option Instr) (at : ℕ) (z : ℤ) → o ≡ Some (instr.Jal 0 z) → goto_target o at ≡ Some (moved_by at z)
target_to o at z e = ap (λ i. goto_target i at) e

patchable_from : (o : Option Instr) → is_patchable o ≡ true → (i : Instr) × (o ≡ Some i) × CanBePatched i
patchable_from None e = absurd cc
patchable_from (Some (instr.Branch op rs1 rs2 z)) e = (instr.Branch op rs1 rs2 z, refl, tt)
patchable_from (Some (instr.Jal rd z)) e = (instr.Jal rd z, refl, eqb-true rd 0 e)
patchable_from (Some (instr.Lui rd imm)) e = absurd cc
patchable_from (Some (instr.Auipc rd imm)) e = absurd cc
patchable_from (Some (instr.Jalr rd rs1 z)) e = absurd cc
patchable_from (Some (instr.Load op rd rs1 z)) e = absurd cc
patchable_from (Some (instr.Store op rs1 rs2 z)) e = absurd cc
patchable_from (Some (instr.Imm op rd rs1 z)) e = absurd cc
patchable_from (Some (instr.Reg op rd rs1 rs2)) e = absurd cc
patchable_from (Some (instr.Fence rd rs1 z)) e = absurd cc
patchable_from (Some instr.Ecall) e = absurd cc
patchable_from (Some instr.Ebreak) e = absurd cc

patchable_to : (i : Instr) → CanBePatched i → is_patchable (Some i) ≡ true
patchable_to (instr.Branch op rs1 rs2 z) h = refl
patchable_to (instr.Jal rd z) h = eq-eqb rd 0 h
patchable_to (instr.Lui rd imm) h = absurd h
patchable_to (instr.Auipc rd imm) h = absurd h
patchable_to (instr.Jalr rd rs1 z) h = absurd h
patchable_to (instr.Load op rd rs1 z) h = absurd h
patchable_to (instr.Store op rs1 rs2 z) h = absurd h
patchable_to (instr.Imm op rd rs1 z) h = absurd h
patchable_to (instr.Reg op rd rs1 rs2) h = absurd h
patchable_to (instr.Fence rd rs1 z) h = absurd h
patchable_to instr.Ecall h = absurd h
patchable_to instr.Ebreak h = absurd h

key_place : (image : Image) (o : Option ℕ) → is_key_place image o ≡ true → (to : ℕ) × (o ≡ Some to) × (to % 4 ≡ 0) × (is_keyed (layout_of image) to ≡ true)
key_place image None e = absurd cc
key_place image (Some to) e = let p = and_parts (to % 4 == 0) (is_keyed (layout_of image) to) e in (to, refl, eqb-true (to % 4) 0 p.0, p.1)

-- ---- patches

abbrev new_instr : Image → ℕ → Option Instr
new_instr image at = instr_of (word_at (loaded_byte image) at)

pub patch_from : (original foreign : Image) (code : Code) (at : ℕ) → is_patch_at original foreign code.nodes at ≡ true → IsPatch original foreign code at
patch_from original foreign code at e =
    let p = and_parts (is_among at code.nodes) (is_patchable (new_instr original at) && leads_to_key foreign at) e in
    let q = and_parts (is_patchable (new_instr original at)) (leads_to_key foreign at) p.1 in
    let old = patchable_from (new_instr original at) q.0 in
    let key = key_place foreign (goto_target (new_instr foreign at) at) q.1 in
    let jump = target_from (new_instr foreign at) at key.0 key.1 in
    record {
      node = among_place code.nodes at p.0;
      old_instr = old.0;
      old = old.1;
      can_be = old.2;
      offset = jump.0;
      new = jump.1;
      even = ap (λ a. a % 4) jump.2 ∙ key.2;
      key = ap (is_keyed (layout_of foreign)) jump.2 ∙ key.3;
    }

pub patch_to : (original foreign : Image) (code : Code) (at : ℕ) → IsPatch original foreign code at → is_patch_at original foreign code.nodes at ≡ true
patch_to original foreign code at p =
    and_from (is_among at code.nodes) (is_patchable (new_instr original at) && leads_to_key foreign at) (place_among code.nodes at p.node.0 p.node.1)
    (and_from (is_patchable (new_instr original at)) (leads_to_key foreign at) (ap is_patchable p.old ∙ patchable_to p.old_instr p.can_be)
    (ap (λ o. is_key_place foreign (goto_target o at)) p.new
    ∙ and_from (moved_by at p.offset % 4 == 0) (is_keyed (layout_of foreign) (moved_by at p.offset)) (eq-eqb (moved_by at p.offset % 4) 0 p.even) p.key))

pub bad_from : (original foreign : Image) (code : Code) (at : ℕ) → is_bad_word original foreign code.nodes at ≡ true → IsBadPatch original foreign code at
bad_from original foreign code at e =
    let p = and_parts (is_word_address original at) (is_changed original foreign at && not (is_patch_at original foreign code.nodes at)) e in
    let q = and_parts (is_changed original foreign at) (not (is_patch_at original foreign code.nodes at)) p.1 in
    ((p.0, q.0), λ patch. both_ways (is_patch_at original foreign code.nodes at) (not-true (is_patch_at original foreign code.nodes at) q.1) (patch_to original foreign code at patch))

ranges_hold : (ranges : List Range) (at : ℕ) → list_any (is_in at) ranges ≡ true → IsInRanges ranges (length ranges) at
ranges_hold [] at e = absurd cc
ranges_hold (r ∷ ranges) at e =
    elim (or_cases (is_in at r) (list_any (is_in at) ranges) e) [
      | inl here ↦ let p = and_parts (nat_le r.from at) (nat_lt at r.to) here in (0, r, omega arith, refl, (leb-true r.from at p.0, ltb-true at r.to p.1))
      | inr there ↦ let h = ranges_hold ranges at there in (suc h.0, h.1, omega (arith, h.2), h.3, h.4)
    ]

pub word_in_ranges : (image : Image) (at : ℕ) → is_word_address image at ≡ true → IsInRanges image.text (length image.text) at
word_in_ranges image at e = ranges_hold image.text at (and_parts (at % 4 == 0) (list_any (is_in at) image.text) e).1

bad_word : (original foreign : Image) (code : Code) (at : ℕ) → IsChanged original foreign at → is_patch_at original foreign code.nodes at ≡ false → is_bad_word original foreign code.nodes at ≡ true
bad_word original foreign code at changed fails =
    and_from (is_word_address original at) (is_changed original foreign at && not (is_patch_at original foreign code.nodes at)) changed.0
    (and_from (is_changed original foreign at) (not (is_patch_at original foreign code.nodes at)) changed.1 (ap not fails))

pub bad_to : (original foreign : Image) (code : Code) (at : ℕ) → IsBadPatch original foreign code at → (is_bad_word original foreign code.nodes at ≡ true) × IsInRanges original.text (length original.text) at
bad_to original foreign code at bad = (
  bad_word original foreign code at bad.0
      (elim (cases_Bool (is_patch_at original foreign code.nodes at)) [
        | inl holds ↦ absurd (bad.1 (patch_from original foreign code at holds))
        | inr fails ↦ fails
      ]),
  word_in_ranges original at bad.0.0,
)

-- where no word is bad, all that are changed are patched
pub all_patched : (original foreign : Image) (code : Code) → ((a : ℕ) → IsInRanges original.text (length original.text) a → is_bad_word original foreign code.nodes a ≡ false) →
    (at : ℕ) → IsChanged original foreign at → IsPatch original foreign code at
all_patched original foreign code none at changed =
    elim (cases_Bool (is_patch_at original foreign code.nodes at)) [
      | inl holds ↦ patch_from original foreign code at holds
      | inr fails ↦ absurd (both_ways (is_bad_word original foreign code.nodes at) (none at (word_in_ranges original at changed.0)) (bad_word original foreign code at changed fails))
    ]
