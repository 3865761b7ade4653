-- Scaffold: what a memory of lists stands for.
use Rattle.std.specs.Prelude.{ℕ, ◌-◌, List, slice_index, if◌then◌else◌}
use Rattle.scale_base.specs.Image.{STACK_START}
use Rattle.scale_base.specs.Layout.{Layout, in_stack}
use Rattle.flat_memory.specs.Blocks.{parts_of, byte_in_blocks}
use Rattle.flat_memory.specs.declared.block.Block.{Block}
use Rattle.flat_memory.specs.declared.list_memory.ListMemory.{ListMemory}

-- the byte at an address: the stack's, or else a block's
unfoldable pub memory_byte : List ℕ → List Block → ℕ → ℕ
memory_byte stack blocks at = if in_stack at then slice_index stack (at - STACK_START) else byte_in_blocks blocks at

abbrev pub list_bytes : ListMemory → ℕ → ℕ
list_bytes m = memory_byte m.stack.items m.blocks.items

-- who may use an address
abbrev pub list_layout : ListMemory → Layout
list_layout m = record { parts = parts_of m.blocks.items; text = m.text.items; keyed = m.keyed }
