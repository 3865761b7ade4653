-- Scaffold: instructions of words that no step can change.
use Rattle.std.specs.Prelude.{◌≡◌, ℕ, ◌+◌, ◌*◌, ◌/◌, ◌%◌, ◌<◌, ◌==◌, Bool, true, false, List, slice_index_or, Option, Some, None, if◌then◌else◌}
use Rattle.scale_base.specs.Word.{FieldsInRange}
use Rattle.scale_base.specs.Reading.{instr_of}
use Rattle.scale_base.specs.Layout.{Layout, may_write, can_fetch}
use Rattle.scale_base.specs.State.{word_at}
use Rattle.rv_machine.specs.declared.decoded.Decoded.{Decoded}
use Rattle.rv_machine.specs.Decoded.{TellsOf}
use Rattle.rv_machine.specs.declared.code.CodePage.{CodePage}
use Rattle.rv_machine.specs.declared.code.CodeGroup.{CodeGroup}
use Rattle.rv_machine.specs.declared.code.Code.{Code}

-- the word at the address may be fetched, stands for the instruction, whose steps tell this, and none of its bytes may be written
pub record IsFixed (layout : Layout) (bytes : ℕ → ℕ) (at : ℕ) (d : Decoded) : Type 0 where
  pub fetched : can_fetch layout at ≡ true
  pub instr : instr_of (word_at bytes at) ≡ Some d.instr
  pub fields : FieldsInRange d.instr
  pub tells : TellsOf layout at d
  pub unwritten : (k : ℕ) → k < 4 → may_write layout (at + k) ≡ false

-- ---- the instruction of an address

abbrev pub instr_in : Option CodePage → ℕ → Option Decoded
instr_in None k = None
instr_in (Some p) k = slice_index_or p.instrs.items k None

abbrev pub code_page_in : Option CodeGroup → ℕ → Option CodePage
code_page_in None k = None
code_page_in (Some g) k = slice_index_or g.pages.items k None

-- by the number of a word, its address by 4
unfoldable pub decoded_at : List (Option CodeGroup) → ℕ → Option Decoded
decoded_at groups word = instr_in (code_page_in (slice_index_or groups (word / 1024 / 1024) None) (word / 1024 % 1024)) (word % 1024)

-- by an address; none is known off the multiples of 4
unfoldable pub known_at : List (Option CodeGroup) → ℕ → Option Decoded
known_at groups at = if at % 4 == 0 then decoded_at groups (at / 4) else None

-- each instruction of the code is that of its word
pub record IsDecodedCode (layout : Layout) (bytes : ℕ → ℕ) (code : Code) : Type 0 where
  pub fixed : (word : ℕ) (d : Decoded) → decoded_at code.groups.items word ≡ Some d → IsFixed layout bytes (4 * word) d

-- ---- as it is made

abbrev pub MayBeFixed : Layout → (ℕ → ℕ) → ℕ → Option Decoded → Type 0
MayBeFixed layout bytes at None = Unit {0}
MayBeFixed layout bytes at (Some d) = IsFixed layout bytes at d

abbrev pub MayBePage : Layout → (ℕ → ℕ) → ℕ → Option CodePage → Type 0
MayBePage layout bytes n None = Unit {0}
MayBePage layout bytes n (Some p) = (k : ℕ) (o : Option Decoded) → k < 1024 → o ≡ slice_index_or p.instrs.items k o →
    MayBeFixed layout bytes (4 * (n * 1024 + k)) o

abbrev pub MayBeGroup : Layout → (ℕ → ℕ) → ℕ → Option CodeGroup → Type 0
MayBeGroup layout bytes m None = Unit {0}
MayBeGroup layout bytes m (Some g) = (j : ℕ) (o : Option CodePage) → j < 1024 → o ≡ slice_index_or g.pages.items j o →
    MayBePage layout bytes (m * 1024 + j) o
