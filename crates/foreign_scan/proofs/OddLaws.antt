-- Odd bytes, by their test.
use Rattle.std.proofs.Common.{◌≡◌, ℕ, true, not, ◌&&◌, ◌⊎◌, List, length, map, Option, ap, sym, subst}
use Rattle.std.specs.Prelude.{◌==◌, IfSome, IfNone}
use Rattle.std.proofs.lemmas.Bool.{and_parts, and_from, not-true, eqb-false, ne_eqb}
use Rattle.scale_base.specs.Least.{lesser_of}
use Rattle.scale_base.specs.declared.ranges.Range.{Range}
use Rattle.scale_base.specs.Image.{Image, loaded_byte}
use Rattle.scale_base.specs.Layout.{layout_of, is_keyed, in_text}
use Rattle.foreign_scan.specs.Least.{IsLeastBadOf, IsInRanges, file_range, is_odd_byte}
use Rattle.foreign_scan.specs.Scanned.{IsOddByte, IsLeastAddress}
use Rattle.foreign_scan.proofs.LeastLaws.{least_join, least_some, least_none}
use Rattle.foreign_scan.proofs.LoadedLaws.{odd_in_some}

pub odd_from_test : (original foreign : Image) (a : ℕ) → is_odd_byte original foreign a ≡ true → IsOddByte original foreign a
odd_from_test original foreign a is =
    let p = and_parts (not (loaded_byte foreign a == loaded_byte original a)) (not (is_keyed (layout_of foreign) a) && not (in_text (layout_of original) a)) is in
    let q = and_parts (not (is_keyed (layout_of foreign) a)) (not (in_text (layout_of original) a)) p.1 in
    record {
      text = not-true (in_text (layout_of original) a) q.1;
      key = not-true (is_keyed (layout_of foreign) a) q.0;
      differs = eqb-false (loaded_byte foreign a) (loaded_byte original a) (not-true (loaded_byte foreign a == loaded_byte original a) p.0);
    }

pub test_from_odd : (original foreign : Image) (a : ℕ) → IsOddByte original foreign a → is_odd_byte original foreign a ≡ true
test_from_odd original foreign a odd =
    and_from (not (loaded_byte foreign a == loaded_byte original a)) (not (is_keyed (layout_of foreign) a) && not (in_text (layout_of original) a))
    (ap not (ne_eqb (loaded_byte foreign a) (loaded_byte original a) odd.differs))
    (and_from (not (is_keyed (layout_of foreign) a)) (not (in_text (layout_of original) a)) (ap not odd.key) (ap not odd.text))

abbrev Held : Image → ℕ → Type 0
Held image a = IsInRanges (map file_range image.segments) (length (map file_range image.segments)) a

-- the lesser of the least odd bytes of both images
pub odd_found : (original foreign : Image) (parts others : List Range) (here there least : Option ℕ) → parts ≡ map file_range foreign.segments → others ≡ map file_range original.segments
    → IsLeastBadOf (is_odd_byte original foreign) (IsInRanges parts (length parts)) here → IsLeastBadOf (is_odd_byte original foreign) (IsInRanges others (length others)) there → least ≡ lesser_of here there
    → IfSome least (λ at. IsLeastAddress (IsOddByte original foreign) at) × IfNone least ((a : ℕ) → IsOddByte original foreign a → ⊥)
odd_found original foreign parts others here there least e f p q is =
    let bad = is_odd_byte original foreign in
    let h : IsLeastBadOf bad (Held foreign) here = subst (λ rs. IsLeastBadOf bad (IsInRanges rs (length rs)) here) e p in
    let t : IsLeastBadOf bad (Held original) there = subst (λ rs. IsLeastBadOf bad (IsInRanges rs (length rs)) there) f q in
    let R : ℕ → Type 0 = λ a. Held foreign a ⊎ Held original a in
    let both : IsLeastBadOf bad R (lesser_of here there) = least_join bad (Held foreign) (Held original) R (λ a r. r) here there h t in
    let all : IsLeastBadOf bad R least = subst (IsLeastBadOf bad R) (sym is) both in
    let to : (a : ℕ) → IsOddByte original foreign a → (bad a ≡ true) × R a = λ a odd. (test_from_odd original foreign a odd, odd_in_some original foreign a odd) in (
      least_some bad R (IsOddByte original foreign) (odd_from_test original foreign) to least all,
      least_none bad R (IsOddByte original foreign) to least all,
    )
