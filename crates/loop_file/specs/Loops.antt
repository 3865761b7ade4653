-- The loop file: a TOML document (toml.io, version 1.0) with a version and a list of loops. The first refusal decides, in this
-- order: the text; the version, first where it is missing and then where it isn't the integer 1 or 2; the unknown key of the file that
-- is least by bytes; the list of loops, and how many they are; then loop by loop the keys that are missing, the unknown key that is
-- least by bytes, and the values. Version 1 doesn't know the key `at_least`. Where a refusal names a loop, loops are numbered from 1, and the file itself is 0.
use Rattle.std.specs.Prelude.{codes, ℕ, ◌+◌, ◌-◌, ◌^◌, ◌==◌, nat_le, min, if◌then◌else◌, Bool, false, List, [], ◌∷◌, length, Option, Some, None, Result, Ok, Err}
use Rattle.toml.specs.Data.{Data, Members, get_member, as_bool}
use Rattle.scale_base.specs.declared.ranges.Range.{Range}
use Rattle.scale_base.specs.declared.refusal.Refusal.{Refusal}
use Rattle.scale_base.specs.declared.refusal.Refusal.TheVariants.{LoopText, LoopKey, LoopValue, UnknownSymbol, TooManyLoops}
use Rattle.scale_base.specs.Image.{Image}
use Rattle.table_keys.specs.Keys.{document_of, first_missing, least_unknown, number_of, number_at, tables_of, or_refuse, none_or_refuse, checked_keys, ◌>>=◌}
use Rattle.loop_file.specs.declared.address.Fault.{Fault}
use Rattle.loop_file.specs.declared.address.Fault.TheVariants.{Absent, Bad}
use Rattle.loop_file.specs.declared.notes.LoopNote.{LoopNote}
use Rattle.loop_file.specs.Addresses.{or_bad, address_of, read_ranges}

-- the keys of the file
abbrev pub file_keys : List (List ℕ)
file_keys = codes "version" ∷ codes "loop" ∷ []

-- the keys of a loop: those that are required, in their order, and all
abbrev pub required_keys : List (List ℕ)
required_keys = codes "header" ∷ codes "ranges" ∷ codes "bound" ∷ []

abbrev pub later_keys : ℕ → List (List ℕ)
later_keys version = if version == 2 then codes "at_least" ∷ [] else []

abbrev pub loop_keys : ℕ → List (List ℕ)
loop_keys version = codes "header" ∷ codes "ranges" ∷ codes "bound" ∷ codes "counted" ∷ later_keys version

-- the version: it is there, and is 1 or 2
abbrev pub loop_version : Members → Result ℕ Refusal
loop_version table = do
  _ ← none_or_refuse (LoopKey 0) (first_missing (codes "version" ∷ []) table)
  or_refuse (LoopValue 0 (codes "version")) (number_at 1 2 (codes "version") table)

-- the tables of the loops: none where the key isn't there
abbrev pub loop_list : Option Data → Option (List Members)
loop_list None = Some []
loop_list (Some d) = tables_of d

abbrev pub loop_tables : Members → Result (List Members) Refusal
loop_tables table = or_refuse (LoopValue 0 (codes "loop")) (loop_list (get_member (codes "loop") table))

-- at most 4,096 loops; the refusal tells how many there are, or 2^32 - 1 where there are more
abbrev pub few_loops : List Members → Result (Unit {0}) Refusal
few_loops tables = if nat_le (length tables) 4096 then Ok tt else Err (TooManyLoops (min (length tables) (2 ^ 32 - 1)))

-- the refusal of a fault at a key of loop k
abbrev pub fault_refusal : ℕ → List ℕ → Fault → Refusal
fault_refusal k key Bad = LoopValue k key
fault_refusal k key Absent = UnknownSymbol k

-- what a key of loop k gives, or the refusal of its fault
abbrev pub or_fault : {A : Type 0} → ℕ → List ℕ → Result A Fault → Result A Refusal
or_fault k key (Ok x) = Ok x
or_fault k key (Err fault) = Err (fault_refusal k key fault)

-- a value at a key that is there
abbrev pub at_key : {A : Type 0} → (Data → Result A Fault) → List ℕ → Members → Result A Fault
at_key read key table = or_bad (get_member key table) >>= read

-- the bound of loop k
abbrev pub bound_of : ℕ → Members → Result ℕ Refusal
bound_of k table = or_refuse (LoopValue k (codes "bound")) (number_at 0 1000000000 (codes "bound") table)

-- whether a loop is counted: not where nothing is said
abbrev pub counted_of : Option Data → Option Bool
counted_of None = Some false
counted_of (Some d) = as_bool d

abbrev pub counted_at : ℕ → Members → Result Bool Refusal
counted_at k table = or_refuse (LoopValue k (codes "counted")) (counted_of (get_member (codes "counted") table))

-- how many back edges an entry of a loop takes at least before the loop is left: none where nothing is said, and at most the bound
abbrev pub least_of : ℕ → Option Data → Option ℕ
least_of bound None = Some 0
least_of bound (Some d) = number_of 0 bound d

abbrev pub least_at : ℕ → ℕ → Members → Result ℕ Refusal
least_at k bound table = or_refuse (LoopValue k (codes "at_least")) (least_of bound (get_member (codes "at_least") table))

module _ (image : Image) where
  abbrev pub header_at : ℕ → Members → Result ℕ Refusal
  header_at k table = or_fault k (codes "header") (at_key (address_of image) (codes "header") table)

  abbrev pub ranges_at : ℕ → Members → Result (List Range) Refusal
  ranges_at k table = or_fault k (codes "ranges") (at_key (read_ranges image) (codes "ranges") table)

  -- the note of loop k, in a file of this version
  unfoldable pub note_of : ℕ → ℕ → Members → Result LoopNote Refusal
  note_of version k table = do
    _ ← checked_keys (LoopKey k) required_keys (loop_keys version) table
    header ← header_at k table
    ranges ← ranges_at k table
    bound ← bound_of k table
    counted ← counted_at k table
    at_least ← least_at k bound table
    Ok (record { header = header; ranges = ranges; bound = bound; counted = counted; at_least = at_least })

  -- the notes of loops, numbered from k on
  abbrev pub notes_from : ℕ → ℕ → List Members → Result (List LoopNote) Refusal
  notes_from version k [] = Ok []
  notes_from version k (table ∷ tables) = note_of version k table >>= λ first. notes_from version (k + 1) tables >>=
      λ others. Ok (first ∷ others)

  -- the notes of a table
  unfoldable pub notes_of : Members → Result (List LoopNote) Refusal
  notes_of table = do
    version ← loop_version table
    _ ← none_or_refuse (LoopKey 0) (least_unknown file_keys table)
    tables ← loop_tables table
    _ ← few_loops tables
    notes_from version 1 tables

  -- what reading the bytes of a loop file of the image gives
  unfoldable pub read_loops : List ℕ → Result (List LoopNote) Refusal
  read_loops bytes = or_refuse LoopText (document_of bytes) >>= notes_of
