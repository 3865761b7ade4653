-- The addresses of the words of ascending ranges ascend.
use Rattle.std.proofs.Common.{◌≡◌, ℕ, zero, suc, ◌+◌, ◌-◌, ◌*◌, ◌/◌, ◌<◌, ◌≤◌, List, [], ◌∷◌, ◌++◌, length, get_or, map, take, subst, sym, ap, ◌∙◌, arith}
use Rattle.std.proofs.lemmas.List.{take_all}
use Rattle.std.specs.List.{range_with_len}
use Rattle.scale_base.specs.declared.ranges.Range.{Range}
use Rattle.elf_image.specs.Ascending.{AscendFrom}
use Rattle.code_text.specs.Table.{word_addresses, all_addresses}
use Rattle.code_text.specs.Walk.{RiseStrictly}

-- from low on, each above the one before it, and below high
abbrev RiseTo : ℕ → List ℕ → ℕ → Type 0
RiseTo low [] high = low ≤ high
RiseTo low (x ∷ xs) high = (low ≤ x) × RiseTo (x + 1) xs high

from_less : (a b : ℕ) (xs : List ℕ) (high : ℕ) → a ≤ b → RiseTo b xs high → RiseTo a xs high
from_less a b [] high le h = omega (arith, le, h)
from_less a b (x ∷ xs) high le (low, h) = (omega (arith, le, low), h)

joined : (a : ℕ) (xs : List ℕ) (b : ℕ) (ys : List ℕ) (c : ℕ) → RiseTo a xs b → RiseTo b ys c → RiseTo a (xs ++ ys) c
joined a [] b ys c h more = from_less a b ys c h more
joined a (x ∷ xs) b ys c (low, h) more = (low, joined (x + 1) xs b ys c h more)

numbered : (from m n low high : ℕ) → low ≤ from + 4 * m → from + 4 * (m + n) ≤ high → RiseTo low (map (λ i. from + 4 * i) (range_with_len m n)) high
numbered from m zero low high le to = omega (arith, le, to)
numbered from m (suc n) low high le to = (le, numbered from (m + 1) n (from + 4 * m + 1) high (omega arith) (omega (arith, to)))

-- the end of the last range
abbrev end_of : ℕ → List Range → ℕ
end_of low [] = low
end_of low (r ∷ ranges) = end_of r.to ranges

all_rise : (low : ℕ) (ranges : List Range) → AscendFrom low ranges → RiseTo low (all_addresses ranges) (end_of low ranges)
all_rise low [] h = omega arith
all_rise low (r ∷ ranges) (first, some, rest) =
    joined low (word_addresses r) r.to (all_addresses ranges) (end_of r.to ranges)
    (numbered r.from 0 ((r.to - r.from) / 4) low r.to (omega (arith, first)) (omega (arith, some))) (all_rise r.to ranges rest)

low_of : (low : ℕ) (xs : List ℕ) (high : ℕ) → RiseTo low xs high → (j : ℕ) → j < length xs → low ≤ get_or xs j 0
low_of low [] high h j lt = absurd (omega (arith, lt))
low_of low (x ∷ xs) high (first, h) zero lt = first
low_of low (x ∷ xs) high (first, h) (suc j) lt = let a = low_of (x + 1) xs high h j (omega (arith, lt)) in omega (arith, a, first)

strictly : (low : ℕ) (xs : List ℕ) (high : ℕ) → RiseTo low xs high → RiseStrictly xs
strictly low [] high h i j less lt = absurd (omega (arith, lt))
strictly low (x ∷ xs) high (first, h) i zero less lt = absurd (omega (arith, less))
strictly low (x ∷ xs) high (first, h) zero (suc j) less lt = let a = low_of (x + 1) xs high h j (omega (arith, lt)) in omega (arith, a)
strictly low (x ∷ xs) high (first, h) (suc i) (suc j) less lt = strictly (x + 1) xs high h i j (omega (arith, less)) (omega (arith, lt))

pub addresses_rise : (ranges : List Range) → AscendFrom 0 ranges → RiseStrictly (all_addresses ranges)
addresses_rise ranges h = strictly 0 (all_addresses ranges) (end_of 0 ranges) (all_rise 0 ranges h)

-- those of a whole walk
pub walk_rises : (ranges text : List Range) (xs : List ℕ) (i : ℕ) → AscendFrom 0 ranges → text ≡ ranges → length text ≤ i → xs ≡ all_addresses (take i text) → RiseStrictly xs
walk_rises ranges text xs i h same all e =
    subst RiseStrictly (sym (e ∙ ap all_addresses (take_all i text all ∙ same))) (addresses_rise ranges h)
