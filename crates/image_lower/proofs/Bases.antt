-- There is one stub base of an image and a length.
use Rattle.std.proofs.Common.{◌≡◌, ℕ, zero, suc, ◌+◌, ◌%◌, ◌<◌, ◌≤◌, Bool, true, false, List, Ok, refl, sym, subst, arith, inl, inr}
use Rattle.std.specs.Prelude.{◌&&◌, ◌==◌, nat_le}
use Rattle.std.proofs.lemmas.Bool.{and_parts, and_from, both_ways, cases_lt, eq-eqb, eqb-true, le-leb, leb-true}
use Rattle.scale_base.specs.Image.{Image, image_of}
use Rattle.elf_patch.specs.Stored.{IsPlace, IsStubBase, is_free, text_end}
use Rattle.elf_patch.proofs.Laws.{some_place}

-- ---- the least number that passes a test

record IsLeast (p : ℕ → Bool) (m : ℕ) : Type 0 where
  passes : p m ≡ true
  first : (j : ℕ) → j < m → p j ≡ false

least_from : (p : ℕ → Bool) (k more : ℕ) → p (k + more) ≡ true → ((j : ℕ) → j < k → p j ≡ false) → (m : ℕ) × IsLeast p m
least_from p k zero e none = let here : k + 0 ≡ k = omega arith in (k, record { passes = subst (λ n. p n ≡ true) here e; first = none })
least_from p k (suc more) e none = by (p k) refl (λ off. let there : k + suc more ≡ suc k + more = omega arith in least_from p (suc k) more (subst (λ n. p n ≡ true) there e) (next off))
  where
    next : p k ≡ false → (j : ℕ) → j < suc k → p j ≡ false
    next off j lt = elim (cases_lt j k) [
      | inl below ↦ none j below
      | inr last ↦ let same : k ≡ j = omega (arith, lt, last) in subst (λ n. p n ≡ false) same off
    ]

    by : (b : Bool) → p k ≡ b → (p k ≡ false → (m : ℕ) × IsLeast p m) → (m : ℕ) × IsLeast p m
    by true on rest = (k, record { passes = on; first = none })
    by false off rest = rest off

-- ---- places

abbrev is_place : Image → ℕ → ℕ → Bool
is_place image len base = (base % 4096 == 0) && nat_le (text_end image.text) base && is_free image len base

tested : (image : Image) (len base : ℕ) → IsPlace image len base → is_place image len base ≡ true
tested image len base h =
    and_from ((base % 4096 == 0) && nat_le (text_end image.text) base) (is_free image len base)
    (and_from (base % 4096 == 0) (nat_le (text_end image.text) base) (eq-eqb (base % 4096) 0 h.page) (le-leb (text_end image.text) base h.behind)) h.free

placed : (image : Image) (len base : ℕ) → is_place image len base ≡ true → IsPlace image len base
placed image len base e =
    let a = and_parts ((base % 4096 == 0) && nat_le (text_end image.text) base) (is_free image len base) e in
    let b = and_parts (base % 4096 == 0) (nat_le (text_end image.text) base) a.0 in
    record { page = eqb-true (base % 4096) 0 b.0; behind = leb-true (text_end image.text) base b.1; free = a.1 }

least_place : (image : Image) (len base : ℕ) → IsLeast (is_place image len) base → IsStubBase image len base
least_place image len base h = record {
  place = placed image len base h.passes;
  least = λ other there. elim (cases_lt other base) [
    | inl below ↦ absurd (both_ways (is_place image len other) (h.first other below) (tested image len other there))
    | inr from ↦ from
  ];
}

pub some_base : (file : List ℕ) (image : Image) (len : ℕ) → image_of file ≡ Ok image → len ≤ 4194304 → (base : ℕ) × IsStubBase image len base
some_base file image len read short =
    let some = some_place file image len read short in
    let from : 0 + some.0 ≡ some.0 = omega arith in
    let least = least_from (is_place image len) 0 some.0 (subst (λ n. is_place image len n ≡ true) (sym from) (tested image len some.0 some.1)) (λ j lt. absurd (omega (arith, lt))) in
    (least.0, least_place image len least.0 least.1)
