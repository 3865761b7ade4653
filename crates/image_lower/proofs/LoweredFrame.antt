-- What of an image and its lowered image the law of runs needs: layouts, bytes, near jumps and trees.
use Rattle.std.proofs.Common.{◌≡◌, ℕ, pos, ◌+◌, ◌*◌, ◌%◌, ◌^◌, ◌<◌, ◌≤◌, true, false, List, length, Some, None}
use Rattle.std.specs.Prelude.{All}
use Rattle.std.specs.List.{list_any, Contains}
use Rattle.scale_base.specs.declared.instruction.Instr.{Instr}
use Rattle.scale_base.specs.declared.instruction.Instr.TheVariants as instr
use Rattle.scale_base.specs.Image.{Image, loaded_byte, is_word_address, is_in}
use Rattle.scale_base.specs.Layout.{layout_of, is_keyed, can_fetch}
use Rattle.scale_base.specs.Reading.{instr_of}
use Rattle.scale_base.specs.Run.{setting_of, starting_level}
use Rattle.scale_base.specs.State.{word_at}
use Rattle.code_text.specs.Text.{text_of, instr_at}
use Rattle.graph_runs.specs.TextStates.{IsTextOf}
use Rattle.stored_runs.proofs.Laws.{SeeAlike, hidden}
use Rattle.jump_lists.specs.declared.notes.JumpNote.{JumpNote}
use Rattle.image_lower.specs.FarJumps.{far_jump}
use Rattle.stub_writer.specs.Stubs.{jump}
use Rattle.image_lower.specs.Trees.{whole_tree, tree_depth}
use Rattle.image_lower.specs.Block.{register, block_len, greatest_depth}
use Rattle.image_lower.specs.Meets.{in_block, is_noted_jump}
use Rattle.image_lower.specs.TreeRuns.{InstrStands, CodeStands}

-- the noted jump at an address, and its tree
pub record IsTreeOf (image lowered : Image) (notes : List JumpNote) (levels : ℕ) (input : List ℕ) (pc : ℕ) : Type 0 where
  pub note : JumpNote
  pub at_is : note.at ≡ pc
  pub listed : Contains notes note
  pub some : 0 < register image note
  pub few : register image note < 32
  pub reads : instr_at (text_of image) pc ≡ Some (instr.Jalr 0 (register image note) (pos 0))
  pub words : All (λ u. (u % 4 ≡ 0) × (u < 2 ^ 32)) note.targets
  pub tree : ℕ
  pub jumps : InstrStands (setting_of lowered levels input) (loaded_byte lowered) pc (jump pc tree)
  pub code : CodeStands (setting_of lowered levels input) (loaded_byte lowered) tree (whole_tree (register image note) tree note.targets)
  pub small : tree < 2 ^ 32
  pub even : tree % 4 ≡ 0
  pub room : tree + 4 * length (whole_tree (register image note) tree note.targets) < 2 ^ 32
  pub depth : tree_depth 32 note.targets ≤ greatest_depth notes

pub record IsFrame (image lowered : Image) (notes : List JumpNote) (base levels : ℕ) (input : List ℕ) : Type 0 where
  pub text : IsTextOf (text_of image) (setting_of image levels input)
  pub start_is : starting_level levels lowered.keyed_segment ≡ starting_level levels image.keyed_segment
  pub keyless : (pc : ℕ) → is_keyed (layout_of image) pc ≡ false
  pub keyless_too : (pc : ℕ) → is_keyed (layout_of lowered) pc ≡ false
  pub alike : (pc : ℕ) → SeeAlike (layout_of image) (layout_of lowered) (hidden lowered) pc
  pub same_text : (a : ℕ) → list_any (is_in a) image.text ≡ true → list_any (is_in a) (layout_of lowered).text ≡ true
  pub fetched_too : (pc : ℕ) → is_word_address image pc ≡ true → can_fetch (layout_of lowered) pc ≡ true
  pub unfetched : (pc : ℕ) → in_block base (block_len image notes) pc ≡ false → can_fetch (layout_of image) pc ≡ false → can_fetch (layout_of lowered) pc ≡ false
  pub plain : (pc : ℕ) → is_word_address image pc ≡ true → is_noted_jump notes pc ≡ false → far_jump image notes pc ≡ None → word_at (loaded_byte lowered) pc ≡ word_at (loaded_byte image) pc
  pub near : (pc : ℕ) (i : Instr) → is_word_address image pc ≡ true → is_noted_jump notes pc ≡ false → far_jump image notes pc ≡ Some i → instr_of (word_at (loaded_byte lowered) pc) ≡ Some i
  pub trees : (pc : ℕ) → is_noted_jump notes pc ≡ true → IsTreeOf image lowered notes levels input pc
  pub outside : (a : ℕ) → hidden lowered a ≡ false → loaded_byte lowered a ≡ loaded_byte image a
  pub entry : lowered.entry ≡ image.entry
