-- The words of the keyed segment, and what is read from them.
use Rattle.std.proofs.Common.{◌≡◌, ◌↔◌, ℕ, ◌+◌, ◌-◌, ◌*◌, ◌/◌, ◌%◌, ◌<◌, ◌≤◌, true, List, [], ◌∷◌, ◌++◌, length, Option, Some, None, refl, sym, ap, subst, ◌∙◌, arith, map}
use Rattle.std.specs.Prelude.{slice_index, option_map}
use Rattle.std.specs.List.{range_with_len}
use Rattle.std.proofs.lemmas.Bool.Decides.{nat_tests}
use Rattle.std.proofs.lemmas.List.FromFn.{length-map-range_with_len, get_or-map-range_with_len, map-range_with_len_more}
use Rattle.scale_base.specs.declared.ranges.Keyed.{Keyed}
use Rattle.scale_base.specs.declared.ranges.Range.{Range}
use Rattle.scale_base.specs.declared.instruction.Instr.{Instr}
use Rattle.scale_base.specs.Image.{Image, loaded_byte, is_in}
use Rattle.scale_base.specs.Layout.{layout_of, is_keyed, in_option}
use Rattle.scale_base.specs.Reading.{instr_of}
use Rattle.scale_base.specs.State.{word_at}
use Rattle.foreign_scan.specs.Form.{IsKeyWord, HoldsAt}
use Rattle.foreign_scan.specs.KeyWords.{AreKeyWords, IsWordAt, first_word, end_word}

pub one_more : (f : ℕ → ℕ) (k : ℕ) → map f (range_with_len 0 k) ++ f k ∷ [] ≡ map f (range_with_len 0 (k + 1))
one_more f k = sym (map-range_with_len_more f 0 k k (omega arith))

pub keyed_is : (image : Image) (o : Option Keyed) (a : ℕ) → image.keyed_segment ≡ o → is_keyed (layout_of image) a ≡ in_option a (option_map (λ k. k.range) o)
unfolding layout_of
keyed_is image o a e = ap (λ p. in_option a (option_map (λ k. k.range) p)) e

in_range : (r : Range) (a : ℕ) → r.from ≤ a → a < r.to → is_in a r ≡ true
in_range r a low high = grind (arith, nat_tests)

from_range : (r : Range) (a : ℕ) → is_in a r ≡ true → (r.from ≤ a) × (a < r.to)
from_range r a e = grind (arith, nat_tests)

-- a word of a keyed segment
pub is_word : (image : Image) (key : Keyed) (at : ℕ) → image.keyed_segment ≡ Some key → at % 4 ≡ 0 → key.range.from ≤ at → at + 3 < key.range.to → IsKeyWord image at
is_word image key at e even low high = (even, λ j lt. keyed_is image (Some key) (at + j) e ∙ in_range key.range (at + j) (omega arith) (omega arith))

pub from_word : (image : Image) (key : Keyed) (at : ℕ) → image.keyed_segment ≡ Some key → IsKeyWord image at → (key.range.from ≤ at) × (at + 3 < key.range.to)
from_word image key at e word =
    let low = from_range key.range (at + 0) (sym (keyed_is image (Some key) (at + 0) e) ∙ word.1 0 (omega arith)) in
    let high = from_range key.range (at + 3) (sym (keyed_is image (Some key) (at + 3) e) ∙ word.1 3 (omega arith)) in
    (omega (arith, low.0), high.1)

pub no_word : (image : Image) (at : ℕ) → image.keyed_segment ≡ None → IsKeyWord image at → ⊥
no_word image at e word = absurd (let h = sym (keyed_is image None (at + 0) e) ∙ word.1 0 (omega arith) in cc)

-- the words of a range of numbers, by the segment
words_of : (image : Image) (o : Option Keyed) (words : List ℕ) → image.keyed_segment ≡ o → words ≡ map (λ k. word_at (loaded_byte image) (4 * (first_word o + k))) (range_with_len 0 (end_word o - first_word o)) → AreKeyWords image (first_word o) words
words_of image None words e is = record {
  within = λ k lt. absurd (omega (arith, lt, ap length is));
  all = λ at word. absurd (no_word image at e word);
  are = λ k lt. absurd (omega (arith, lt, ap length is));
}
words_of image (Some key) words e is =
    let first = (key.range.from + 3) / 4 in
    let count = key.range.to / 4 - first in
    let word = λ (k : ℕ). word_at (loaded_byte image) (4 * (first + k)) in
    let long : length words ≡ count = ap length is ∙ length-map-range_with_len word 0 count in
    record {
      within = λ k lt. is_word image key (4 * (first + k)) e (omega arith) (omega (arith, lt, long)) (omega (arith, lt, long));
      all = λ at here. let bounds = from_word image key at e here in (omega (arith, bounds.0, bounds.1, here.0), omega (arith, bounds.0, bounds.1, here.0, long));
      are = λ k lt. ap (λ xs. slice_index xs k) is ∙ get_or-map-range_with_len word 0 count k k 0 (omega (arith, lt, long)) (omega arith);
    }

pub are_key_words : (image : Image) (bytes : ℕ → ℕ) (first end : ℕ) (words : List ℕ) → bytes ≡ loaded_byte image → first ≡ first_word image.keyed_segment → end ≡ end_word image.keyed_segment
    → words ≡ map (λ k. word_at bytes (4 * (first + k))) (range_with_len 0 (end - first)) → AreKeyWords image first words
are_key_words image bytes first end words same low high is =
    subst (λ n. AreKeyWords image n words) (sym low) (words_of image image.keyed_segment words refl
    (is ∙ (ap (λ b. map (λ k. word_at b (4 * (first + k))) (range_with_len 0 (end - first))) same
    ∙ (ap (λ n. map (λ k. word_at (loaded_byte image) (4 * (n + k))) (range_with_len 0 (end - n))) low
    ∙ ap (λ n. map (λ k. word_at (loaded_byte image) (4 * (first_word image.keyed_segment + k))) (range_with_len 0 (n - first_word image.keyed_segment))) high))))

-- ---- what is read

pub word_there : (image : Image) (first : ℕ) (words : List ℕ) (at k value : ℕ) → AreKeyWords image first words → at % 4 ≡ 0 → first ≤ at / 4 → k ≡ at / 4 - first
    → k < length words → value ≡ slice_index words k → (word : ℕ) → (Some value ≡ Some word) ↔ IsWordAt image at word
word_there image first words at k value h even low is lt got word =
    let there : 4 * (first + k) ≡ at = omega arith in
    let same : value ≡ word_at (loaded_byte image) at = got ∙ (h.are k lt ∙ ap (word_at (loaded_byte image)) there) in
    (λ some. record { key = subst (IsKeyWord image) there (h.within k lt); value = let e : value ≡ word = cc in sym same ∙ e }, λ is. ap Some (same ∙ is.value))

pub instr_there : (image : Image) (at word : ℕ) (o : Option Instr) → IsWordAt image at word → o ≡ instr_of word → (i : Instr) → (o ≡ Some i) ↔ HoldsAt image at i
instr_there image at word o h e i =
    let same : o ≡ instr_of (word_at (loaded_byte image) at) = e ∙ ap instr_of (sym h.value) in
    (λ some. record { key = h.key; reads = sym same ∙ some }, λ holds. same ∙ holds.reads)

pub word_of_instr : (image : Image) (at : ℕ) (i : Instr) → HoldsAt image at i → IsWordAt image at (word_at (loaded_byte image) at)
word_of_instr image at i h = record { key = h.key; value = refl }
