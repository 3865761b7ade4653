-- Scaffold: what pages stand for: bytes, and who may use them.
use Rattle.std.specs.Prelude.{◌≡◌, ℕ, ◌+◌, ◌*◌, ◌/◌, ◌%◌, ◌^◌, ◌<◌, Bool, true, false, List, slice_index, slice_index_or, slice_set, Option, Some, None}
use Rattle.scale_base.specs.Layout.{Layout, may_read, may_write, may_fetch}
use Rattle.flat_memory.specs.declared.page.PageUse.{PageUse}
use Rattle.flat_memory.specs.declared.page.PageUse.TheVariants.{Readable, Writable, Text, Mixed}
use Rattle.flat_memory.specs.declared.page.Page.{Page}

-- ---- what a page says of all its bytes, if it says so

abbrev pub reads_in : PageUse → Option Bool
reads_in Readable = Some true
reads_in Writable = Some true
reads_in Text = Some false
reads_in Mixed = None

abbrev pub writes_in : PageUse → Option Bool
writes_in Readable = Some false
writes_in Writable = Some true
writes_in Text = Some false
writes_in Mixed = None

abbrev pub fetches_in : PageUse → Option Bool
fetches_in Readable = Some false
fetches_in Writable = Some false
fetches_in Text = Some true
fetches_in Mixed = None

-- what the page says is so at the address
pub record UseHolds (layout : Layout) (at : ℕ) (whole : PageUse) : Type 0 where
  pub reads : (b : Bool) → reads_in whole ≡ Some b → may_read layout at ≡ b
  pub writes : (b : Bool) → writes_in whole ≡ Some b → may_write layout at ≡ b
  pub fetches : (b : Bool) → fetches_in whole ≡ Some b → may_fetch layout at ≡ b

-- ---- bytes of a page

abbrev pub put_byte : List ℕ → ℕ → ℕ → List ℕ
put_byte bytes place value = slice_set bytes place value

-- the four bytes of a word, the lowest first
abbrev pub put_word : List ℕ → ℕ → ℕ → List ℕ
put_word bytes place value =
    slice_set (slice_set (slice_set (slice_set bytes place (value % 256)) (place + 1) (value / 2 ^ 8 % 256)) (place + 2)
    (value / 2 ^ 16 % 256)) (place + 3) (value / 2 ^ 24 % 256)

-- the page with other bytes
pub record HasBytes (old new : Page) (bytes : List ℕ) : Type 0 where
  pub items : new.bytes.items ≡ bytes
  pub whole : new.whole ≡ old.whole
