-- Scaffold: the headers of loops in order.
use Rattle.std.specs.Prelude.{◌≡◌, ℕ, ◌<◌, ◌==◌, Bool, List, length, map, filter, slice_index_or}
use Rattle.std.specs.List.{range_with_len}
use Rattle.std.specs.List.Sorted.{IsNonDecreasingBy}
use Rattle.loop_file.specs.declared.notes.LoopNote.{LoopNote}
use Rattle.loop_file.specs.Kept.{note_at}
use Rattle.keep_monitor.specs.declared.headers.Header.{Header}

abbrev pub header_by_number : List LoopNote → ℕ → Header
header_by_number notes k = record { at = (note_at notes k).header; number = k }

-- the headers of the first n loops, by loop
abbrev pub headers_of : List LoopNote → ℕ → List Header
headers_of notes n = map (header_by_number notes) (range_with_len 0 n)

abbrev pub is_of : ℕ → Header → Bool
is_of at h = h.at == at

-- The headers of all loops by their addresses. Loops of one header are in their order.
pub record AreSortedHeaders (notes : List LoopNote) (headers : List Header) : Type 0 where
  pub rise : IsNonDecreasingBy (λ h. h.at) headers
  pub same : (at : ℕ) → filter (is_of at) headers ≡ filter (is_of at) (headers_of notes (length notes))

-- a header of a list, by its place
abbrev pub sorted_header : List Header → ℕ → Header
sorted_header headers j = slice_index_or headers j (record { at = 0; number = 0 })

-- loops among the first n, each once, in their order
pub record AreRisingLoops (n : ℕ) (group : List Header) : Type 0 where
  pub within : (j : ℕ) → j < length group → (sorted_header group j).number < n
  pub rise : (i j : ℕ) → i < j → j < length group → (sorted_header group i).number < (sorted_header group j).number

-- all loops of one header
pub record AreLoopsOf (notes : List LoopNote) (at : ℕ) (group : List Header) : Type 0 where
  pub loops : AreRisingLoops (length notes) group
  pub header : (j : ℕ) → j < length group → (note_at notes (sorted_header group j).number).header ≡ at
  pub whole : (k : ℕ) → k < length notes → (note_at notes k).header ≡ at → (j : ℕ) × (j < length group) ×
      ((sorted_header group j).number ≡ k)

-- the only loop of its header
pub record IsLoneLoop (notes : List LoopNote) (at k : ℕ) : Type 0 where
  pub within : k < length notes
  pub header : (note_at notes k).header ≡ at
  pub alone : (j : ℕ) → j < length notes → (note_at notes j).header ≡ at → j ≡ k
