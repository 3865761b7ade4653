-- Scaffold: pages by their numbers, the addresses by 4,096.
use Rattle.std.specs.Prelude.{◌≡◌, ℕ, ◌/◌, ◌%◌, Bool, is_some, List, [], slice_index, slice_index_or, Option, Some, None, if◌then◌else◌}
use Rattle.flat_memory.specs.declared.page.PageUse.{PageUse}
use Rattle.flat_memory.specs.declared.page.PageUse.TheVariants.{Mixed}
use Rattle.flat_memory.specs.declared.page.Page.{Page}
use Rattle.flat_memory.specs.declared.page_table.PageGroup.{PageGroup}

-- ---- a page that may be there

abbrev pub use_of : Option Page → PageUse
use_of None = Mixed
use_of (Some p) = p.whole

abbrev pub bytes_of_page : Option Page → List ℕ
bytes_of_page None = []
bytes_of_page (Some p) = p.bytes.items

-- the page with other bytes, if it is there
pub record IsPut (p q : Option Page) (change : List ℕ → List ℕ) : Type 0 where
  pub there : is_some q ≡ is_some p
  pub whole : use_of q ≡ use_of p
  pub bytes : bytes_of_page q ≡ change (bytes_of_page p)

-- ---- the page of a number

abbrev pub page_in : Option PageGroup → ℕ → Option Page
page_in None j = None
page_in (Some g) j = slice_index_or g.pages.items j None

unfoldable pub page_at : List (Option PageGroup) → ℕ → Option Page
page_at groups n = page_in (slice_index_or groups (n / 1024) None) (n % 1024)

-- the page of one number has other bytes, if it is there, and the others are as before
pub record IsPutAt (old new : List (Option PageGroup)) (n : ℕ) (change : List ℕ → List ℕ) : Type 0 where
  pub here : IsPut (page_at old n) (page_at new n) change
  pub others : (m : ℕ) → (m ≡ n → ⊥) → page_at new m ≡ page_at old m

-- the byte at an address: its page's, or where it has none that of other bytes
unfoldable pub paged_bytes : List (Option PageGroup) → (ℕ → ℕ) → ℕ → ℕ
paged_bytes groups rest at =
    if is_some (page_at groups (at / 4096)) then slice_index (bytes_of_page (page_at groups (at / 4096))) (at % 4096) else rest at
