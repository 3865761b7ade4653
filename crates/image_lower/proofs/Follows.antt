-- A word that follows another one in a range of the text, and that one, are words of the text.
use Rattle.std.proofs.Common.{◌≡◌, ℕ, ◌-◌, ◌%◌, ◌≤◌, Bool, true, false, List, [], ◌∷◌, refl, arith}
use Rattle.std.specs.Prelude.{◌&&◌, ◌||◌, ◌==◌, nat_le}
use Rattle.std.specs.List.{list_any}
use Rattle.std.proofs.lemmas.Bool.{and_parts, and_from, leb-true, eq-eqb}
use Rattle.scale_base.specs.declared.ranges.Range.{Range}
use Rattle.scale_base.specs.Image.{Image, is_in, is_word_address}
use Rattle.code_text.specs.Text.{text_of, follows}

-- what passes one test and another passes each
any_weaker : (p q : Range → Bool) (rs : List Range) → ((r : Range) → p r ≡ true → q r ≡ true) → list_any p rs ≡ true → list_any q rs ≡ true
any_weaker p q [] h e = absurd cc
any_weaker p q (r ∷ rs) h e = step (p r) (q r) (h r) e
    (any_weaker p q rs h)
  where
    step : (b c : Bool) → (b ≡ true → c ≡ true) → (b || list_any p rs) ≡ true → (list_any p rs ≡ true → list_any q rs ≡ true) → (c || list_any q rs) ≡ true
    step b true g f go = refl
    step true false g f go = let never : false ≡ true = g refl in absurd cc
    step false false g f go = go f

pub words_there : (image : Image) (at : ℕ) → at % 4 ≡ 0 → follows (text_of image) at ≡ true → (is_word_address image at ≡ true) × (is_word_address image (at - 4) ≡ true) × (4 ≤ at)
words_there image at aligned h =
    let p = and_parts (nat_le 4 at) (list_any (λ r. is_in (at - 4) r && is_in at r) image.text) h in
    let four = leb-true 4 at p.0 in (
      and_from (at % 4 == 0) (list_any (is_in at) image.text) (eq-eqb (at % 4) 0 aligned) (any_weaker (λ r. is_in (at - 4) r && is_in at r) (is_in at) image.text (λ r e. (and_parts (is_in (at - 4) r) (is_in at r) e).1) p.1),
      and_from ((at - 4) % 4 == 0) (list_any (is_in (at - 4)) image.text) (eq-eqb ((at - 4) % 4) 0 (omega (arith, aligned, four))) (any_weaker (λ r. is_in (at - 4) r && is_in at r) (is_in (at - 4)) image.text (λ r e. (and_parts (is_in (at - 4) r) (is_in at r) e).0) p.1),
      four,
    )
