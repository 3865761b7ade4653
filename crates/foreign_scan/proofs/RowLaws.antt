-- Rows, by their tests.
use Rattle.std.proofs.Common.{◌≡◌, ℕ, zero, suc, ◌+◌, ◌*◌, ◌%◌, true, false, ◌&&◌, inl, inr, List, [], ◌∷◌, Option, Some, None, refl, sym, ap, ◌∙◌, subst, arith}
use Rattle.std.specs.Prelude.{slice_get, nat_le, nat_lt, ◌==◌}
use Rattle.std.proofs.lemmas.Bool.{cases_Bool, and_parts, and_from, eqb-true, eq-eqb, leb-true, le-leb, ltb-true, lt-ltb}
use Rattle.scale_base.specs.declared.ranges.Keyed.{Keyed}
use Rattle.scale_base.specs.Image.{Image}
use Rattle.foreign_scan.specs.declared.fragment.ForeignFragment.{ForeignFragment}
use Rattle.foreign_scan.specs.Form.{AreRowsIn}
use Rattle.foreign_scan.specs.Rows.{rows_in, has_rows, all_have_rows}
use Rattle.foreign_scan.specs.Scanned.{IsOn}
use Rattle.foreign_scan.proofs.KeyLaws.{is_word, from_word, no_word}
use Rattle.foreign_scan.proofs.ReadLaws.{same_some}

rows_to : (image : Image) (o : Option Keyed) (table last : ℕ) → image.keyed_segment ≡ o → rows_in o table last ≡ true → AreRowsIn image table (last + 1)
rows_to image None table last key e = absurd cc
rows_to image (Some k) table last key e =
    let p = and_parts (table % 4 == 0) (nat_le k.range.from table && nat_lt (table + 4 * last + 3) k.range.to) e in
    let q = and_parts (nat_le k.range.from table) (nat_lt (table + 4 * last + 3) k.range.to) p.1 in
    let even = eqb-true (table % 4) 0 p.0 in
    let low = leb-true k.range.from table q.0 in
    let high = ltb-true (table + 4 * last + 3) k.range.to q.1 in
    λ j lt. is_word image k (table + 4 * j) key (omega (arith, even)) (omega (arith, low)) (omega (arith, high, lt))

rows_back : (image : Image) (o : Option Keyed) (table last : ℕ) → image.keyed_segment ≡ o → AreRowsIn image table (last + 1) → rows_in o table last ≡ true
rows_back image None table last key rows = absurd (no_word image (table + 4 * 0) key (rows 0 (omega arith)))
rows_back image (Some k) table last key rows =
    let first = rows 0 (omega arith) in
    let low = from_word image k (table + 4 * 0) key first in
    let high = from_word image k (table + 4 * last) key (rows last (omega arith)) in
    let even = first.0 in
    and_from (table % 4 == 0) (nat_le k.range.from table && nat_lt (table + 4 * last + 3) k.range.to) (eq-eqb (table % 4) 0 (omega (arith, even)))
    (and_from (nat_le k.range.from table) (nat_lt (table + 4 * last + 3) k.range.to) (le-leb k.range.from table (omega (arith, low.0))) (lt-ltb (table + 4 * last + 3) k.range.to high.1))

pub rows_lie : (image : Image) (table last : ℕ) → rows_in image.keyed_segment table last ≡ true → AreRowsIn image table (last + 1)
rows_lie image table last e = rows_to image image.keyed_segment table last refl e

pub rows_test : (image : Image) (table last : ℕ) → AreRowsIn image table (last + 1) → rows_in image.keyed_segment table last ≡ true
rows_test image table last rows = rows_back image image.keyed_segment table last refl rows

-- ---- of a list

pub row_of : (image : Image) (limits : List ℕ) (fs : List ForeignFragment) (f : ForeignFragment) (i : ℕ) → all_have_rows image limits fs ≡ true → slice_get fs i ≡ Some f → has_rows image limits f ≡ true
row_of image limits [] f i all e = absurd cc
row_of image limits (g ∷ gs) f zero all e = subst (λ h. has_rows image limits h ≡ true) (same_some g f e) (and_parts (has_rows image limits g) (all_have_rows image limits gs) all).0
row_of image limits (g ∷ gs) f (suc i) all e = row_of image limits gs f i (and_parts (has_rows image limits g) (all_have_rows image limits gs) all).1 e

pub missing_row : (image : Image) (limits : List ℕ) (fs : List ForeignFragment) → all_have_rows image limits fs ≡ false → (f : ForeignFragment) × IsOn f fs × (has_rows image limits f ≡ false)
missing_row image limits [] e = absurd cc
missing_row image limits (g ∷ gs) e =
    elim (cases_Bool (has_rows image limits g)) [
      | inr fails ↦ (g, (0, refl), fails)
      | inl holds ↦
          let rest : all_have_rows image limits gs ≡ false = sym (ap (λ b. b && all_have_rows image limits gs) holds) ∙ e in
          let r = missing_row image limits gs rest in
          (r.0, (suc r.1.0, r.1.1), r.2)
    ]
