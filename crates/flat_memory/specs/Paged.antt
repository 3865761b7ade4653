-- Scaffold: what a memory of pages stands for.
use Rattle.std.specs.Prelude.{ℕ}
use Rattle.scale_base.specs.Layout.{Layout}
use Rattle.flat_memory.specs.Lists.{list_bytes, list_layout}
use Rattle.flat_memory.specs.PageTables.{paged_bytes}
use Rattle.flat_memory.specs.declared.page_memory.PageMemory.{PageMemory}

abbrev pub page_bytes : PageMemory → ℕ → ℕ
page_bytes m = paged_bytes m.pages.groups.items (list_bytes m.ranges)

-- who may use an address
abbrev pub page_layout : PageMemory → Layout
page_layout m = list_layout m.ranges
