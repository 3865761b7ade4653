-- One more address of a cycle.
use Rattle.std.proofs.Common.{◌≡◌, ℕ, ◌+◌, ◌<◌, List, [], ◌∷◌, ◌++◌, length, take, sym}
use Rattle.std.specs.Prelude.{slice_index}
use Rattle.std.proofs.lemmas.List.{take_more, flat_map_more}
use Rattle.scale_report.specs.Texts.{address, spaced, word_digits, spaced_words}

pub spaced-more : (xs : List ℕ) (k at : ℕ) → k < length xs → at ≡ slice_index xs k → spaced (take k xs) ++ 32 ∷ address at ≡ spaced (take (k + 1) xs)
spaced-more xs k at h e = rw (take_more xs k 0 h, sym e) (flat_map_more (λ a. 32 ∷ address a) [] (take k xs) at)

-- one more word of rows
pub spaced_words-more : (xs : List ℕ) (k word : ℕ) → k < length xs → word ≡ slice_index xs k → spaced_words (take k xs) ++ 32 ∷ word_digits word ≡ spaced_words (take (k + 1) xs)
spaced_words-more xs k word h e = rw (take_more xs k 0 h, sym e) (flat_map_more (λ w. 32 ∷ word_digits w) [] (take k xs) word)
