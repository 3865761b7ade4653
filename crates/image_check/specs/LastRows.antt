-- Scaffold: where each entry of each level stands last, among words that are counted from 0 on.
use Rattle.std.specs.Prelude.{◌≡◌, ℕ, ◌+◌, ◌-◌, ◌*◌, ◌/◌, ◌<◌, ◌≤◌, List, length, slice_index, slice_index_or, Option, Some, None}
use Rattle.scale_base.specs.State.{word_at}
use Rattle.scale_base.specs.declared.ranges.Keyed.{Keyed}
use Rattle.stored_runs.specs.Meaning.{four_bits}
use Rattle.image_check.specs.declared.last_rows.LastPlaces.{LastPlaces}

-- The address of the first word of the keyed segment, divided by 4, and how many words there are from it on to the segment's end.
abbrev pub first_of_key : Option Keyed → ℕ
first_of_key None = 0
first_of_key (Some k) = k.range.from / 4

abbrev pub count_of_key : Option Keyed → ℕ
count_of_key None = 0
count_of_key (Some k) = k.range.to / 4 - k.range.from / 4

-- the word of a number, where word 0 has the address 4 * first
abbrev pub words_from : (ℕ → ℕ) → (first : ℕ) → ℕ → ℕ
words_from bytes first w = word_at bytes (4 * (first + w))

-- One more than the number of the last of the first n words whose entry for level i is j, or 0 where there is none.
pub record IsLastBefore (words : ℕ → ℕ) (i j n last : ℕ) : Type 0 where
  pub within : last ≤ n
  pub has : (w : ℕ) → last ≡ w + 1 → four_bits (words w) i ≡ j
  pub behind : (w : ℕ) → last ≤ w → w < n → four_bits (words w) i ≡ j → ⊥

-- the number of a level and an entry
abbrev pub last_of : LastPlaces → (i j : ℕ) → ℕ
last_of places i j = slice_index places.numbers (16 * i + j)

-- each of them is that of the first n words
abbrev pub AreLastBefore : (ℕ → ℕ) → (n : ℕ) → LastPlaces → Type 0
AreLastBefore words n places = (i j : ℕ) → i < 8 → j < 16 → IsLastBefore words i j n (last_of places i j)

-- one word more, of this number
pub record IsOneMore (old : LastPlaces) (word number : ℕ) (new : LastPlaces) : Type 0 where
  pub has : (i j : ℕ) → i < 8 → j < 16 → four_bits word i ≡ j → last_of new i j ≡ number + 1
  pub others : (i j : ℕ) → i < 8 → j < 16 → (four_bits word i ≡ j → ⊥) → last_of new i j ≡ last_of old i j

-- n of them, before the words 0, 64, 128 and so on
abbrev pub AreBlocks : (ℕ → ℕ) → (n : ℕ) → List LastPlaces → Type 0
AreBlocks words n blocks = (length blocks ≡ n) × ((b : ℕ) (other : LastPlaces) → b < n →
    AreLastBefore words (64 * b) (slice_index_or blocks b other))
