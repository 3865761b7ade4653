-- Scaffold: what holds of all the addresses of a page.
use Rattle.std.specs.Prelude.{◌≡◌, ℕ, ◌+◌, ◌*◌, ◌<◌, ◌≤◌, Bool, false, List, slice_index, slice_index_or, Option, Some, None}
use Rattle.std.specs.List.{list_any}
use Rattle.scale_base.specs.Image.{PF_R, PF_W}
use Rattle.flat_memory.specs.Blocks.{may_be_used}
use Rattle.flat_memory.specs.Lists.{list_bytes, list_layout}
use Rattle.flat_memory.specs.Pages.{reads_in, writes_in, fetches_in, UseHolds}
use Rattle.flat_memory.specs.declared.block.Block.{Block}
use Rattle.flat_memory.specs.declared.list_memory.ListMemory.{ListMemory}
use Rattle.flat_memory.specs.declared.page.PageUse.{PageUse}
use Rattle.flat_memory.specs.declared.page.Page.{Page}
use Rattle.flat_memory.specs.declared.page_table.PageGroup.{PageGroup}

-- what is said of the blocks is so at the address
pub record BlocksAllow (blocks : List Block) (at : ℕ) (whole : PageUse) : Type 0 where
  pub reads : (b : Bool) → reads_in whole ≡ Some b → list_any (may_be_used PF_R at) blocks ≡ b
  pub writes : (b : Bool) → writes_in whole ≡ Some b → list_any (may_be_used PF_W at) blocks ≡ b
  pub fetches : (b : Bool) → fetches_in whole ≡ Some b → b ≡ false

-- the page of this number has the bytes of the memory, and what it says of them is so
pub record IsPageOf (list : ListMemory) (n : ℕ) (p : Page) : Type 0 where
  pub bytes : (k : ℕ) → k < 4096 → slice_index p.bytes.items k ≡ list_bytes list (n * 4096 + k)
  pub whole : (k : ℕ) → k < 4096 → UseHolds (list_layout list) (n * 4096 + k) p.whole

abbrev pub MayBePageOf : ListMemory → ℕ → Option Page → Type 0
MayBePageOf list n None = Unit {0}
MayBePageOf list n (Some p) = IsPageOf list n p

abbrev pub MayBeGroupOf : ListMemory → ℕ → Option PageGroup → Type 0
MayBeGroupOf list m None = Unit {0}
MayBeGroupOf list m (Some g) = (j : ℕ) (o : Option Page) → j < 1024 → o ≡ slice_index_or g.pages.items j o →
    MayBePageOf list (m * 1024 + j) o
