-- The noted jumps of an image: which may be lowered, and the block of their trees, in ascending order of their addresses.
use Rattle.std.specs.Prelude.{ℕ, pos, ◌+◌, ◌*◌, ◌==◌, ◌&&◌, ◌||◌, not, nat_lt, max, Bool, List, [], ◌∷◌, ◌++◌, length, fold, take, drop, count_by, Option, Some, None, option_and_then, is_some, unwrap_or, if◌then◌else◌}
use Rattle.std.specs.List.{list_all, flat_map}
use Rattle.std.specs.Ordering.{int_eq}
use Rattle.scale_base.specs.declared.instruction.Instr.{Instr}
use Rattle.scale_base.specs.declared.instruction.Instr.TheVariants as instr
use Rattle.scale_base.specs.declared.ranges.Patch.{Patch}
use Rattle.scale_base.specs.Reading.{instr_of}
use Rattle.scale_base.specs.Word.{word_of}
use Rattle.scale_base.specs.Image.{Image, is_word_address, text_word}
use Rattle.elf_patch.specs.Stored.{little}
use Rattle.stub_writer.specs.Stubs.{jump}
use Rattle.jump_lists.specs.declared.notes.JumpNote.{JumpNote}
use Rattle.image_lower.specs.FarJumps.{far_jump}
use Rattle.image_lower.specs.Trees.{whole_tree, tree_depth, fits}

-- ---- which noted jumps may be lowered

-- the register of a `jalr x0,0(rs)` with another register than x0 and x1
abbrev pub jump_register : Option Instr → Option ℕ
jump_register (Some (instr.Jalr rd rs offset)) = if (rd == 0) && int_eq offset (pos 0) && not ((rs == 0) || (rs == 1)) then Some rs else
    None
jump_register i = None

-- that of the word of the text at an address
abbrev pub register_at : Image → ℕ → Option ℕ
register_at image at = jump_register (option_and_then instr_of (text_word image at))

abbrev pub is_twice : List JumpNote → ℕ → Bool
is_twice notes at = nat_lt 1 (count_by (λ n. n.at == at) notes)

-- It is noted twice, is no such word, is the second word of a far jump that is lowered, or has a target that is no word of the text.
abbrev pub is_bad : Image → List JumpNote → JumpNote → Bool
is_bad image notes note =
    is_twice notes note.at || not (is_some (register_at image note.at)) || is_some (far_jump image notes note.at)
    || not (list_all (is_word_address image) note.targets)

-- the lesser of an address and another, if there is one
abbrev pub lesser_address : ℕ → Option ℕ → ℕ
lesser_address at None = at
lesser_address at (Some other) = if nat_lt other at then other else at

-- the least address of the notes that pass a test
abbrev pub least_address : (JumpNote → Bool) → List JumpNote → Option ℕ
least_address test [] = None
least_address test (n ∷ ns) = if test n then Some (lesser_address n.at (least_address test ns)) else least_address test ns

-- ---- the block

abbrev pub insert_note : List JumpNote → JumpNote → List JumpNote
insert_note [] n = n ∷ []
insert_note (x ∷ xs) n = if nat_lt n.at x.at then n ∷ x ∷ xs else x ∷ insert_note xs n

-- a note put in its place
abbrev pub put_note : List JumpNote → ℕ → JumpNote → List JumpNote
put_note xs k n = take k xs ++ n ∷ drop k xs

-- the notes in ascending order of their addresses
unfoldable pub ascending_notes : List JumpNote → List JumpNote
ascending_notes notes = fold insert_note [] notes

-- the jump from a note to a tree at an address, and those of the tree, reach what they jump to
abbrev pub is_in_reach : (at : ℕ) → JumpNote → List Instr → Bool
is_in_reach at n code = fits (jump n.at at) && list_all fits code

module _ (image : Image) where
  abbrev pub register : JumpNote → ℕ
  register note = unwrap_or (register_at image note.at) 0

  -- the tree of a note, at an address
  abbrev pub note_code : (at : ℕ) → JumpNote → List Instr
  note_code at note = whole_tree (register note) at note.targets

  -- the trees, one behind the other
  abbrev pub trees_code : (at : ℕ) → List JumpNote → List Instr
  trees_code at [] = []
  trees_code at (n ∷ ns) = note_code at n ++ trees_code (at + 4 * length (note_code at n)) ns

  -- each noted jump becomes a jump to its tree
  abbrev pub tree_patches : (at : ℕ) → List JumpNote → List Patch
  tree_patches at [] = []
  tree_patches at (n ∷ ns) = record { at = n.at; word = word_of (jump n.at at) } ∷ tree_patches (at + 4 * length (note_code at n)) ns

  -- the jump from a note to its tree, and those of the tree
  abbrev pub is_tree_near : (at : ℕ) → JumpNote → Bool
  is_tree_near at n = is_in_reach at n (note_code at n)

  -- the least noted jump from which the jump to its tree, or one of that tree, doesn't fit. The notes ascend
  abbrev pub tree_out_of_reach : (at : ℕ) → List JumpNote → Option ℕ
  tree_out_of_reach at [] = None
  tree_out_of_reach at (n ∷ ns) =
      if is_tree_near at n then tree_out_of_reach (at + 4 * length (note_code at n)) ns
      else Some n.at

  abbrev pub block_code : (base : ℕ) → List JumpNote → List Instr
  block_code base notes = trees_code base (ascending_notes notes)

  abbrev pub trees_bytes : (base : ℕ) → List JumpNote → List ℕ
  trees_bytes base notes = flat_map (λ i. little 4 (word_of i)) (block_code base notes)

  -- its length is that at any base
  abbrev pub block_len : List JumpNote → ℕ
  block_len notes = 4 * length (block_code 0 notes)

-- the greatest depth of a tree, 0 without one
abbrev pub greatest_depth : List JumpNote → ℕ
greatest_depth [] = 0
greatest_depth (n ∷ ns) = max (tree_depth 32 n.targets) (greatest_depth ns)
