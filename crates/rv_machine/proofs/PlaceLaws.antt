-- Places that have an address from one to another.
use Rattle.std.proofs.Common.{◌≡◌, ℕ, zero, suc, ◌<◌, ◌≤◌, Bool, true, false, List, [], ◌∷◌, length, get_or, refl, arith, inl, inr, ◌⊎◌}
use Rattle.std.specs.Prelude.{◌||◌, nat_le, nat_lt}
use Rattle.std.specs.List.{list_any}
use Rattle.std.specs.List.Sorted.{IsNonDecreasingBy}
use Rattle.std.proofs.lemmas.Bool.{cases_lt, and_parts, leb-true, ltb-true}
use Rattle.std.proofs.lemmas.Bool.Decides.{nat_tests}
use Rattle.std.proofs.lemmas.List.Folds.{list_any_at}
use Rattle.scale_base.specs.declared.ranges.Range.{Range}
use Rattle.scale_base.specs.Image.{is_in}
use Rattle.scale_base.specs.Layout.{in_option}
use Rattle.elf_image.specs.Ascending.{AscendFrom}
use Rattle.rv_machine.specs.Places.{is_text, has_address}
use Rattle.rv_machine.specs.declared.decoding.Places.{Places}

-- an address from one to another passes the test
abbrev pub Has : ℕ → ℕ → (ℕ → Bool) → Type 0
Has from last test = (a : ℕ) × (from ≤ a) × (a ≤ last) × (test a ≡ true)

-- ---- one range

pub met : (r : Range) (from last : ℕ) → from ≤ last → r.from < r.to → r.from ≤ last → from < r.to → Has from last (λ a. is_in a r)
met r from last some full low high =
    elim (cases_lt from r.from) [
      | inl below ↦ (r.from, omega arith, low, grind (arith, nat_tests))
      | inr above ↦ (from, omega arith, some, grind (arith, nat_tests))
    ]

bounds : (r : Range) (a : ℕ) → is_in a r ≡ true → (r.from ≤ a) × (a < r.to)
bounds r a e =
    let p = and_parts (nat_le r.from a) (nat_lt a r.to) e in
    (leb-true r.from a p.0, ltb-true a r.to p.1)

-- ---- text ranges

to_above : (low : ℕ) (rs : List Range) (k : ℕ) (d : Range) → AscendFrom low rs → k < length rs → low < (get_or rs k d).to
to_above low [] k d h lt = absurd (omega arith)
to_above low (r ∷ rs) zero d h lt = omega (arith, h.0, h.1)
to_above low (r ∷ rs) (suc k) d h lt = omega (arith, h.0, h.1, to_above r.to rs k d h.2 (omega arith))

pub full_at : (low : ℕ) (rs : List Range) (k : ℕ) (d : Range) → AscendFrom low rs → k < length rs → (get_or rs k d).from < (get_or rs k d).to
full_at low [] k d h lt = absurd (omega arith)
full_at low (r ∷ rs) zero d h lt = h.1
full_at low (r ∷ rs) (suc k) d h lt = full_at r.to rs k d h.2 (omega arith)

pub ends_rise : (low : ℕ) (rs : List Range) → AscendFrom low rs → IsNonDecreasingBy (λ r. r.to) rs
ends_rise low [] h i j d le lt = absurd (omega arith)
ends_rise low (r ∷ rs) h zero zero d le lt = omega arith
ends_rise low (r ∷ rs) h zero (suc j) d le lt = omega (arith, to_above r.to rs j d h.2 (omega arith))
ends_rise low (r ∷ rs) h (suc i) zero d le lt = absurd (omega arith)
ends_rise low (r ∷ rs) h (suc i) (suc j) d le lt = ends_rise r.to rs h.2 i j d (omega arith) (omega arith)

from_above : (low : ℕ) (rs : List Range) (k : ℕ) (d : Range) → AscendFrom low rs → k < length rs → low ≤ (get_or rs k d).from
from_above low [] k d h lt = absurd (omega arith)
from_above low (r ∷ rs) zero d h lt = h.0
from_above low (r ∷ rs) (suc k) d h lt = omega (arith, h.0, h.1, from_above r.to rs k d h.2 (omega arith))

starts_rise : (low : ℕ) (rs : List Range) → AscendFrom low rs → IsNonDecreasingBy (λ r. r.from) rs
starts_rise low [] h i j d le lt = absurd (omega arith)
starts_rise low (r ∷ rs) h zero zero d le lt = omega arith
starts_rise low (r ∷ rs) h zero (suc j) d le lt = omega (arith, h.1, from_above r.to rs j d h.2 (omega arith))
starts_rise low (r ∷ rs) h (suc i) zero d le lt = absurd (omega arith)
starts_rise low (r ∷ rs) h (suc i) (suc j) d le lt = starts_rise r.to rs h.2 i j d (omega arith) (omega arith)

later : (a b : Bool) → a ≡ false → (a || b) ≡ true → b ≡ true
later true b f t = absurd cc
later false b f t = t

cases_bool : (b : Bool) → (b ≡ true) ⊎ (b ≡ false)
cases_bool true = inl refl
cases_bool false = inr refl

-- an element that passes the test, by its place
found : (test : Range → Bool) (rs : List Range) (d : Range) → list_any test rs ≡ true → (k : ℕ) × (k < length rs) × (test (get_or rs k d) ≡ true)
found test [] d e = absurd cc
found test (r ∷ rs) d e =
    elim (cases_bool (test r)) [
      | inl is ↦ (0, omega arith, is)
      | inr is ↦ (let rest = found test rs d (later (test r) (list_any test rs) is e) in (suc rest.0, omega (arith, rest.1), rest.2))
    ]

-- where a range has an address from one to another, the first that ends above the lower one has one
pub reached : (rs : List Range) (from last place a : ℕ) (d : Range) → from ≤ last → AscendFrom 0 rs → ((k : ℕ) (e : Range) → k < place → (get_or rs k e).to ≤ from) →
    ((k : ℕ) (e : Range) → place ≤ k → k < length rs → from < (get_or rs k e).to) → from ≤ a → a ≤ last → list_any (is_in a) rs ≡ true → (place < length rs) × Has from last (λ b. is_in b (get_or rs place d))
reached rs from last place a d some h below above low high e =
    let f = found (is_in a) rs d e in
    let k = f.0 in
    let inside : k < length rs = f.1 in
    let b = bounds (get_or rs k d) a f.2 in
    let b0 = b.0 in
    let b1 = b.1 in
    let not_before : place ≤ k =
    elim (cases_lt k place) [
      | inl l ↦ (let ends = below k d l in absurd (omega arith))
      | inr g ↦ g
    ] in
    let here : place < length rs = omega arith in
    let up : (get_or rs place d).from ≤ (get_or rs k d).from = starts_rise 0 rs h place k d not_before inside in
    (here, met (get_or rs place d) from last some (full_at 0 rs place d h here) (omega arith) (above place d (omega arith) here))

or_left : (a b : Bool) → a ≡ true → (a || b) ≡ true
or_left true b e = refl
or_left false b e = absurd cc

or_right : (a b : Bool) → b ≡ true → (a || b) ≡ true
or_right true b e = refl
or_right false b e = e

-- an address of a text range is one of the places
pub text_found : (p : Places) (from last place : ℕ) (d : Range) → place < length p.text.now → Has from last (λ a. is_in a (get_or p.text.now place d)) → Has from last (has_address p)
text_found p from last place d inside h = (h.0, h.1, h.2, or_right (in_option h.0 p.keyed) (is_text p h.0) (list_any_at (is_in h.0) p.text.now place d inside h.3))
