-- The jump file: a TOML document (toml.io, version 1.0) with a version and a list of jumps. The first refusal decides, in this order: the
-- text; the version, first where it is missing and then where it isn't the integer 1; the unknown key of the file that is least by bytes;
-- the list of jumps, which are at most 1,024; then jump by jump the keys that are missing, the unknown key that is least by bytes, and the
-- values. Where a refusal names a jump, jumps are numbered from 1, and the file itself is 0.
use Rattle.std.specs.Prelude.{codes, ℕ, ◌+◌, ◌-◌, ◌%◌, ◌^◌, ◌==◌, ◌&&◌, nat_le, if◌then◌else◌, List, [], ◌∷◌, length, Option, Some, None, option_map, option_and_then, Result, Ok, Err}
use Rattle.toml.specs.Data.{Data, Items, no_items, item, Members, get_member, as_array}
use Rattle.scale_base.specs.declared.refusal.Refusal.{Refusal}
use Rattle.scale_base.specs.declared.refusal.Refusal.TheVariants.{JumpText, JumpKey, JumpValue}
use Rattle.table_keys.specs.Keys.{document_of, first_missing, least_unknown, number_of, number_at, tables_of, or_refuse, none_or_refuse, checked_keys, ◌>>=◌}
use Rattle.jump_lists.specs.declared.notes.JumpNote.{JumpNote}
use Rattle.jump_lists.specs.Notes.{are_distinct}

-- the keys of the file
abbrev pub jump_file_keys : List (List ℕ)
jump_file_keys = codes "version" ∷ codes "jump" ∷ []

-- the keys of a jump, all of them required
abbrev pub jump_keys : List (List ℕ)
jump_keys = codes "at" ∷ codes "targets" ∷ []

-- the version is there and is 1
abbrev pub checked_version : Members → Result (Unit {0}) Refusal
checked_version table = do
  _ ← none_or_refuse (JumpKey 0) (first_missing (codes "version" ∷ []) table)
  _ ← or_refuse (JumpValue 0 (codes "version")) (number_at 1 1 (codes "version") table)
  Ok tt

-- the tables of the jumps, where they are an array of at most 1,024 tables: none where the key isn't there
abbrev pub few_jumps : List Members → Option (List Members)
few_jumps tables = if nat_le (length tables) 1024 then Some tables else None

abbrev pub jump_list : Option Data → Option (List Members)
jump_list None = Some []
jump_list (Some d) = option_and_then few_jumps (tables_of d)

abbrev pub jump_tables : Members → Result (List Members) Refusal
jump_tables table = or_refuse (JumpValue 0 (codes "jump")) (jump_list (get_member (codes "jump") table))

-- the address of a word: an integer below 2^32, and a multiple of 4
abbrev pub aligned : ℕ → Option ℕ
aligned at = if at % 4 == 0 then Some at else None

abbrev pub target_address : Data → Option ℕ
target_address d = option_and_then aligned (number_of 0 (2 ^ 32 - 1) d)

-- the addresses of a list of values, where all are some
abbrev pub all_targets : Items → Option (List ℕ)
all_targets no_items = Some []
all_targets (item d ds) = option_and_then (λ a. option_map (λ others. a ∷ others) (all_targets ds)) (target_address d)

-- how many items there are
abbrev pub targets_count : Items → ℕ
targets_count no_items = 0
targets_count (item d ds) = targets_count ds + 1

-- the items, where they are 1 to 128
abbrev pub few_targets : Items → Option Items
few_targets ds = if nat_le 1 (targets_count ds) && nat_le (targets_count ds) 128 then Some ds else None

-- the addresses, where none is there twice
abbrev pub distinct : List ℕ → Option (List ℕ)
distinct targets = if are_distinct targets then Some targets else None

-- the targets of a value: an array of 1 to 128 distinct addresses
abbrev pub targets_in : Items → Option (List ℕ)
targets_in ds = option_and_then distinct (all_targets ds)

unfoldable pub targets_of : Data → Option (List ℕ)
targets_of d = option_and_then targets_in (option_and_then few_targets (as_array d))

-- the values of jump k
abbrev pub at_of : ℕ → Members → Result ℕ Refusal
at_of k table = or_refuse (JumpValue k (codes "at")) (option_and_then target_address (get_member (codes "at") table))

abbrev pub targets_at : ℕ → Members → Result (List ℕ) Refusal
targets_at k table = or_refuse (JumpValue k (codes "targets")) (option_and_then targets_of (get_member (codes "targets") table))

-- the note of jump k
unfoldable pub jump_note_of : ℕ → Members → Result JumpNote Refusal
jump_note_of k table = do
  _ ← checked_keys (JumpKey k) jump_keys jump_keys table
  at ← at_of k table
  targets ← targets_at k table
  Ok (record { at = at; targets = targets })

-- the notes of jumps, numbered from k on
abbrev pub jump_notes_from : ℕ → List Members → Result (List JumpNote) Refusal
jump_notes_from k [] = Ok []
jump_notes_from k (table ∷ tables) = jump_note_of k table >>= λ first. jump_notes_from (k + 1) tables >>= λ others. Ok (first ∷ others)

-- the notes of a table
unfoldable pub jump_notes_of : Members → Result (List JumpNote) Refusal
jump_notes_of table = do
  _ ← checked_version table
  _ ← none_or_refuse (JumpKey 0) (least_unknown jump_file_keys table)
  tables ← jump_tables table
  jump_notes_from 1 tables

-- what reading the bytes of a jump file gives
unfoldable pub read_jumps : List ℕ → Result (List JumpNote) Refusal
read_jumps bytes = or_refuse JumpText (document_of bytes) >>= jump_notes_of
