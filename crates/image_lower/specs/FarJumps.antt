-- Far jumps of a text: an AUIPC, and right behind it a JALR by the same register (RISC-V Unprivileged ISA, chapter "RV32I", "Integer Register-
-- Immediate Instructions"; the assembler's `call` and `tail`). Where no other way leads to the JALR and a JAL reaches what it goes to, that JAL
-- stands for it.
use Rattle.std.specs.Prelude.{ℕ, ℤ, ◌-◌, ◌*◌, ◌%◌, ◌==◌, ◌&&◌, ◌||◌, not, nat_le, Bool, false, List, filter_map, Option, Some, None, option_map, if◌then◌else◌}
use Rattle.std.specs.List.{list_any}
use Rattle.scale_base.specs.declared.instruction.Instr.{Instr}
use Rattle.scale_base.specs.declared.instruction.Instr.TheVariants as instr
use Rattle.scale_base.specs.declared.ranges.Patch.{Patch}
use Rattle.scale_base.specs.Elf.{e_phoff, e_phnum}
use Rattle.scale_base.specs.Image.{Image, file_place}
use Rattle.scale_base.specs.Spans.{overlap}
use Rattle.scale_base.specs.Arith.{plus, moved_by}
use Rattle.scale_base.specs.Word.{word_of}
use Rattle.code_text.specs.Text.{Text, text_of, is_text_address, instr_at, is_target, follows}
use Rattle.code_text.specs.Table.{all_addresses}
use Rattle.rv_encode.specs.Jumps.{distance}
use Rattle.stub_writer.specs.Stubs.{reaches}
use Rattle.jump_lists.specs.declared.notes.JumpNote.{JumpNote}

-- ---- the jump that stands for a far one

-- where the JALR goes behind an AUIPC at an address: it clears the lowest bit
abbrev pub far_target : ℕ → ℕ → ℤ → ℕ
far_target at imm offset = (let to = moved_by (plus at imm) offset in to - to % 2)

-- an address is among the targets of the noted jumps
abbrev pub is_noted : List JumpNote → ℕ → Bool
is_noted notes v = list_any (λ n. list_any (λ u. u == v) n.targets) notes

module _ (t : Text) where
  -- the JAL at an address to a target in the text and in its reach
  abbrev pub near_jump : ℕ → ℕ → ℕ → Option Instr
  near_jump at rd to = if (to % 4 == 0) && is_text_address t to && reaches at to then Some (instr.Jal rd (distance at to)) else None

  -- the JAL for the JALR at an address and the AUIPC before it: both by one register, which isn't x0, and with rd x0 or x1
  abbrev pub pair_jump : ℕ → Option Instr → Option Instr → Option Instr
  pair_jump at (Some (instr.Auipc rx imm)) (Some (instr.Jalr rd rs offset)) =
      if not (rx == 0) && (rs == rx) && nat_le rd 1 then near_jump at rd (far_target (at - 4) imm offset) else None
  pair_jump at before here = None

-- the four bytes of the file from a place on share one with its program header table
abbrev pub touches_table : List ℕ → Option ℕ → Bool
touches_table file None = false
touches_table file (Some place) = overlap (record { from = place; len = 4 }) (record { from = e_phoff file; len = 32 * e_phnum file })

-- the word at an address lies in that table, where to change it would change what is loaded
abbrev pub is_in_table : List ℕ → ℕ → Bool
is_in_table file at = touches_table file (file_place file at)

module _ (image : Image) where
  -- The JAL that stands for the word at an address, where that is the second of a far jump: both words are in one range, the address is
  -- not the entry, nor the target of a branch or a JAL of the text, nor one of a noted jump, and the word lies outside the program header table.
  unfoldable pub far_jump : List JumpNote → ℕ → Option Instr
  far_jump notes at =
      (let t = text_of image in
      if (at % 4 == 0) && follows t at && not (is_target t at || is_noted notes at) && not (is_in_table image.file at)
      then pair_jump t at (instr_at t (at - 4)) (instr_at t at) else None)

  abbrev pub far_patch : List JumpNote → ℕ → Option Patch
  far_patch notes at = option_map (λ i. record { at = at; word = word_of i }) (far_jump notes at)

  -- the words of the text that are replaced
  abbrev pub far_patches : List JumpNote → List Patch
  far_patches notes = filter_map (far_patch notes) (all_addresses image.text)
