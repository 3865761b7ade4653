-- Ranges in ascending order, and what lies in them.
use Rattle.std.proofs.Common.{◌≡◌, ℕ, zero, suc, ◌-◌, ◌<◌, ◌≤◌, Bool, true, false, ◌&&◌, ◌||◌, List, [], ◌∷◌, length, get_or, refl, arith}
use Rattle.std.specs.Prelude.{nat_lt, nat_le}
use Rattle.std.specs.List.{list_any}
use Rattle.std.specs.List.Sorted.{IsNonDecreasingBy}
use Rattle.std.proofs.lemmas.Bool.{le-leb}
use Rattle.std.proofs.lemmas.Bool.Decides.{nat_tests}
use Rattle.scale_base.specs.declared.ranges.Range.{Range}
use Rattle.scale_base.specs.Image.{is_in}
use Rattle.elf_image.specs.Ascending.{AscendFrom}

not_lt : (x y : ℕ) → y ≤ x → nat_lt x y ≡ false
not_lt x y le = grind (arith, nat_tests)

not_le : (x y : ℕ) → y < x → nat_le x y ≡ false
not_le x y lt = grind (arith, nat_tests)

-- ---- the order of their starts

from_low : (low : ℕ) (rs : List Range) (k : ℕ) (d : Range) → AscendFrom low rs → k < length rs → low ≤ (get_or rs k d).from
from_low low [] k d h lt = absurd (omega arith)
from_low low (r ∷ rs) zero d h lt = h.0
from_low low (r ∷ rs) (suc k) d h lt = omega (arith, h.0, h.1, from_low r.to rs k d h.2 (omega arith))

pub rise : (low : ℕ) (rs : List Range) → AscendFrom low rs → IsNonDecreasingBy (λ r. r.from) rs
rise low [] h i j d le lt = absurd (omega arith)
rise low (r ∷ rs) h zero zero d le lt = omega arith
rise low (r ∷ rs) h zero (suc j) d le lt = omega (arith, h.1, from_low r.to rs j d h.2 (omega arith))
rise low (r ∷ rs) h (suc i) zero d le lt = absurd (omega arith)
rise low (r ∷ rs) h (suc i) (suc j) d le lt = rise r.to rs h.2 i j d (omega arith) (omega arith)

-- so many of the ranges begin at or below an address
pub record IsPlaceOf (rs : List Range) (at p : ℕ) : Type 0 where
  pub bound : p ≤ length rs
  pub below : (k : ℕ) (d : Range) → k < p → (get_or rs k d).from ≤ at
  pub above : (k : ℕ) (d : Range) → p ≤ k → k < length rs → at < (get_or rs k d).from

-- ---- an address in some of them

none_in : (low : ℕ) (rs : List Range) (at : ℕ) → AscendFrom low rs → at < low → list_any (is_in at) rs ≡ false
none_in low [] at h lt = refl
none_in low (x ∷ rs) at h lt = rw (not_le x.from at (omega (arith, h.0)), none_in x.to rs at h.2 (omega (arith, h.0, h.1))) refl

in_none : (low : ℕ) (rs : List Range) (d : Range) (at : ℕ) → AscendFrom low rs → (0 < length rs → at < (get_or rs 0 d).from) → list_any (is_in at) rs ≡ false
in_none low [] d at h here = refl
in_none low (x ∷ rs) d at h here =
    let start : at < x.from = here (omega arith) in
    rw (not_le x.from at start, none_in x.to rs at h.2 (omega (arith, h.1))) refl

or_nothing : (a b : Bool) → b ≡ false → ((true && a) || b) ≡ a
or_nothing true b e = refl
or_nothing false b e = e

-- the last that begins at or below the address decides
in_last : (low : ℕ) (rs : List Range) (d : Range) (at i : ℕ) → AscendFrom low rs → i < length rs → ((j : ℕ) → j ≤ i → (get_or rs j d).from ≤ at) → (suc i < length rs → at < (get_or rs (suc i) d).from)
    → list_any (is_in at) rs ≡ nat_lt at (get_or rs i d).to
in_last low [] d at i h lt before here = absurd (omega arith)
in_last low (x ∷ rs) d at zero h lt before here =
    rw (le-leb x.from at (before 0 (omega arith))) (or_nothing (nat_lt at x.to) (list_any (is_in at) rs) (in_none x.to rs d at h.2 (λ l. here (omega arith))))
in_last low (x ∷ rs) d at (suc i) h lt before here =
    let past : nat_lt at x.to ≡ false = not_lt at x.to (omega (arith, from_low x.to rs i d h.2 (omega arith), before (suc i) (omega arith))) in
    rw (past, le-leb x.from at (before 0 (omega arith))) (in_last x.to rs d at i h.2 (omega arith) (λ j le. before (suc j) (omega arith)) (λ l. here (omega arith)))

pub in-at : (rs : List Range) (d : Range) (at p : ℕ) → AscendFrom 0 rs → IsPlaceOf rs at p → 0 < p → list_any (is_in at) rs ≡ nat_lt at (get_or rs (p - 1) d).to
in-at rs d at zero h place some = absurd (omega arith)
in-at rs d at (suc i) h place some =
    let last : suc i - 1 ≡ i = omega arith in
    rw last (in_last 0 rs d at i h (omega (arith, place.bound)) (λ j le. place.below j d (omega arith)) (λ lt. place.above (suc i) d (omega arith) lt))

pub in-none : (rs : List Range) (d : Range) (at p : ℕ) → AscendFrom 0 rs → IsPlaceOf rs at p → p ≡ 0 → list_any (is_in at) rs ≡ false
in-none rs d at p h place none = in_none 0 rs d at h (λ lt. place.above 0 d (omega arith) lt)
