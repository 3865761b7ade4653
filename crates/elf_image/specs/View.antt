-- Scaffold: what the fields of a view keep.
use Rattle.std.specs.Prelude.{◌≡◌, ℕ, ◌≤◌, ◌+◌, length, List, Option, All, is_some}
use Rattle.scale_base.specs.declared.headers.ProgramHeader.{ProgramHeader}
use Rattle.scale_base.specs.declared.ranges.Keyed.{Keyed}
use Rattle.scale_base.specs.declared.ranges.Range.{Range}
use Rattle.scale_base.specs.Rules.{AllHold}
use Rattle.scale_base.specs.Image.{image_rules, loaded_headers, contents, text_word, is_word_address}
use Rattle.elf_image.specs.Ascending.{AscendFrom}
use Rattle.elf_image.specs.Table.{AreSymbolBytes}

-- The file is accepted, these are its loaded segments, its keyed segment and its text, and these are the bytes of its symbols. Each word
-- address of the text has its four bytes in the file.
pub record IsViewOf (file : List ℕ) (segments : List ProgramHeader) (keyed : Option Keyed) (text : List Range) (strings table : List ℕ)
    : Type 0 where
  pub accepted : AllHold (image_rules file)
  pub long : 52 ≤ length file
  pub segments_are : segments ≡ loaded_headers file
  pub in_file : All (λ h. h.p_offset + h.p_filesz ≤ length file) segments
  pub keyed_is : keyed ≡ (contents file).keyed_segment
  pub text_is : text ≡ (contents file).text
  pub ascending : AscendFrom 0 text
  pub words : (at : ℕ) → is_some (text_word (contents file) at) ≡ is_word_address (contents file) at
  pub symbols_are : AreSymbolBytes file strings table
