-- Tables of targets in bytes of the file that no store can change.
use Rattle.std.specs.Prelude.{◌≡◌, ℕ, ◌+◌, ◌-◌, ◌*◌, ◌%◌, ◌^◌, ◌<◌, ◌≤◌, false, List, length, slice_get, slice_index, Some}
use Rattle.scale_base.specs.Bytes.{list_word_at}
use Rattle.scale_base.specs.Elf.{has}
use Rattle.scale_base.specs.Image.{Image, LoadSegment, PF_W}
use Rattle.fixed_tables.specs.declared.table.Table.{Table}

-- A segment that can't be written loads a word at an address: the four bytes of its part of the file, behind the file's header, the lowest first.
pub record HasFixedWord (segment : LoadSegment) (at word : ℕ) : Type 0 where
  pub unwritten : has segment.flags PF_W ≡ false
  pub from : segment.from ≤ at
  pub within : at + 4 ≤ segment.from + length segment.file
  pub behind : 52 ≤ segment.file_at + (at - segment.from)
  pub word_is : list_word_at segment.file (at - segment.from) ≡ word

-- one of the image's segments does
pub record IsFixedWord (image : Image) (at word : ℕ) : Type 0 where
  pub number : ℕ
  pub segment : LoadSegment
  pub segment_is : slice_get image.segments number ≡ Some segment
  pub has_word : HasFixedWord segment at word

-- the target that word k of a table gives: the word, and what is added to it
pub record IsEntry (image : Image) (table : Table) (k target : ℕ) : Type 0 where
  pub word : ℕ
  pub fixed : IsFixedWord image (table.at + table.step * k) word
  pub target_is : target ≡ (table.base + word) % 2 ^ 32

-- a number is in a list, and each number of a list is in another one
abbrev pub IsIn : ℕ → List ℕ → Type 0
IsIn number numbers = (i : ℕ) × (i < length numbers) × (slice_index numbers i ≡ number)

abbrev pub AreIn : List ℕ → List ℕ → Type 0
AreIn numbers others = (k : ℕ) → k < length numbers → IsIn (slice_index numbers k) others

-- target i is that of some word of the table
pub record IsFromTable (image : Image) (table : Table) (targets : List ℕ) (i : ℕ) : Type 0 where
  pub k : ℕ
  pub within : k < table.count
  pub entry : IsEntry image table k (slice_index targets i)

-- word k of the table gives one of the targets
pub record IsInTargets (image : Image) (table : Table) (targets : List ℕ) (k : ℕ) : Type 0 where
  pub i : ℕ
  pub within : i < length targets
  pub entry : IsEntry image table k (slice_index targets i)

-- the targets are those that the words of the table give, and no others
pub record IsTableOf (image : Image) (table : Table) (targets : List ℕ) : Type 0 where
  pub all : (k : ℕ) → k < table.count → IsInTargets image table targets k
  pub only : (i : ℕ) → i < length targets → IsFromTable image table targets i
