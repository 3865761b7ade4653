-- Where a block may stand.
use Rattle.std.proofs.Common.{◌≡◌, ℕ, zero, suc, ◌+◌, ◌%◌, ◌<◌, ◌≤◌, Bool, true, false, not, ◌&&◌, ◌||◌, List, [], ◌∷◌, map, take, Some, refl, sym, ap, ◌∙◌, arith, add-one, inl, inr}
use Rattle.std.specs.Prelude.{nat_lt, slice_get}
use Rattle.std.specs.List.{list_any}
use Rattle.std.proofs.lemmas.Bool.{cases_lt, lt-ltb}
use Rattle.std.proofs.lemmas.Bool.Decides.{nat_tests}
use Rattle.scale_base.specs.declared.ranges.Span.{Span}
use Rattle.scale_base.specs.Spans.{overlap}
use Rattle.scale_base.specs.Image.{Image, LoadSegment, stack, addresses_of}
use Rattle.elf_patch.specs.Stored.{window, IsBlocked, page_from}

pub page_at-mod : (at : ℕ) → page_from at % 4096 ≡ 0
page_at-mod at = omega arith

pub page_at-le : (at : ℕ) → at ≤ page_from at
page_at-le at = omega arith

pub page_at-least : (at other : ℕ) → other % 4096 ≡ 0 → at ≤ other → page_from at ≤ other
page_at-least at other page le = omega arith

-- ---- a segment that is in the way

both_true : (a b : Bool) → (a && b) ≡ true → (a ≡ true) × (b ≡ true)
both_true true true e = (refl, refl)
both_true true false e = absurd cc
both_true false b e = absurd cc

lt_of : (x y : ℕ) → nat_lt x y ≡ true → x < y
lt_of x y e = grind (arith, nat_tests)

record Overlap (a b : Span) : Type 0 where
  some : 0 < a.len
  other : 0 < b.len
  low : a.from < b.from + b.len
  high : b.from < a.from + a.len

overlap-tells : (a b : Span) → overlap a b ≡ true → Overlap a b
overlap-tells a b e =
    let p = both_true (nat_lt 0 a.len && nat_lt 0 b.len && nat_lt a.from (b.from + b.len)) (nat_lt b.from (a.from + a.len)) e in
    let q = both_true (nat_lt 0 a.len && nat_lt 0 b.len) (nat_lt a.from (b.from + b.len)) p.0 in
    let r = both_true (nat_lt 0 a.len) (nat_lt 0 b.len) q.0 in
    record { some = lt_of _ _ r.0; other = lt_of _ _ r.1; low = lt_of _ _ q.1; high = lt_of _ _ p.1 }

overlap-from : (a b : Span) → Overlap a b → overlap a b ≡ true
overlap-from a b h = rw (lt-ltb 0 a.len h.some, lt-ltb 0 b.len h.other, lt-ltb a.from (b.from + b.len) h.low, lt-ltb b.from (a.from + a.len) h.high) refl

moves : (base other len : ℕ) (s : Span) → overlap (record { from = base; len = len }) s ≡ true → base ≤ other → overlap (record { from = other; len = len }) s ≡ false → s.from + s.len ≤ other
moves base other len s e le off =
    let h = overlap-tells (record { from = base; len = len }) s e in
    elim (cases_lt other (s.from + s.len)) [
      | inl lt ↦ let on = overlap-from (record { from = other; len = len }) s (record { some = h.some; other = h.other; low = lt; high = omega (arith, h.high) }) in absurd cc
      | inr done ↦ done
    ]

none_of : (p : Span → Bool) (segments : List LoadSegment) (k : ℕ) (s : LoadSegment) → slice_get segments k ≡ Some s → list_any p (map addresses_of segments) ≡ false → p (addresses_of s) ≡ false
none_of p [] k s at e = absurd cc
none_of p (x ∷ xs) zero s at e = let same : x ≡ s = cc in ap (λ (y : LoadSegment). p (addresses_of y)) (sym same) ∙ first_false (p (addresses_of x)) (list_any p (map addresses_of xs)) e
  where
    first_false : (a b : Bool) → (a || b) ≡ false → a ≡ false
    first_false true b e = absurd cc
    first_false false b e = refl
none_of p (x ∷ xs) (suc k) s at e = none_of p xs k s at (rest_false (p (addresses_of x)) (list_any p (map addresses_of xs)) e)
  where
    rest_false : (a b : Bool) → (a || b) ≡ false → b ≡ false
    rest_false true b e = absurd cc
    rest_false false b e = e

free_tells : (a b c : Bool) → not (a || (b || c)) ≡ true → c ≡ false
free_tells true b c e = absurd cc
free_tells false true c e = absurd cc
free_tells false false true e = absurd cc
free_tells false false false e = refl

-- a segment that the block would touch
pub blocked_at : (image : Image) (len base k : ℕ) (s : LoadSegment) → slice_get image.segments k ≡ Some s → s.from + s.len ≤ 8589934592 → overlap (record { from = base; len = len }) (addresses_of s) ≡ true
    → IsBlocked image len base (s.from + s.len)
blocked_at image len base k s at fits e = record {
  above = (overlap-tells (record { from = base; len = len }) (addresses_of s) e).low;
  low = fits;
  none = λ other le free. moves base other len (addresses_of s) e le
      (none_of (overlap (record { from = other; len = len })) image.segments k s at
      (free_tells (overlap (record { from = other; len = len }) stack) (overlap (record { from = other; len = len }) window) (list_any (overlap (record { from = other; len = len })) (map addresses_of image.segments)) free));
}

-- one more segment that isn't in the way
pub clear-more : (p : Span → Bool) (segments : List LoadSegment) (k : ℕ) (s : LoadSegment) → slice_get segments k ≡ Some s → list_any p (map addresses_of (take k segments)) ≡ false → p (addresses_of s) ≡ false
    → list_any p (map addresses_of (take (k + 1) segments)) ≡ false
clear-more p [] k s at before here = absurd cc
clear-more p (x ∷ xs) zero s at before here = let same : x ≡ s = cc in rw same (rw here refl)
clear-more p (x ∷ xs) (suc k) s at before here =
    rw add-one (either_false (p (addresses_of x)) (list_any p (map addresses_of (take k xs))) (list_any p (map addresses_of (take (suc k) xs))) before (λ rest. rw add-one at (clear-more p xs k s at rest here)))
  where
    either_false : (a b c : Bool) → (a || b) ≡ false → (b ≡ false → c ≡ false) → (a || c) ≡ false
    either_false true b c e go = absurd cc
    either_false false b c e go = go e
