-- Scaffold: the block of the stubs of marked instructions, or why there is none.
use Rattle.std.specs.Prelude.{ℕ, List, Option, Some, None, Result, Ok, Err}
use Rattle.scale_base.specs.declared.ranges.Patch.{Patch}
use Rattle.scale_base.specs.declared.refusal.Refusal.{Refusal}
use Rattle.scale_base.specs.declared.refusal.Refusal.TheVariants.{StubOutOfReach}
use Rattle.stub_writer.specs.declared.site.StubBlock.{StubBlock}
use Rattle.stub_writer.specs.Stubs.{Site, block_bytes, patches_from, out_of_reach}

-- the bytes of a block, and the patches that lead to its stubs
pub record Block : Type 0 where
  pub bytes : List ℕ
  pub patches : List Patch

abbrev pub block_view : StubBlock → Block
block_view b = record { bytes = b.bytes.items; patches = b.patches.items }

abbrev pub block_of : ℕ → List Site → Block
block_of base sites = record { bytes = block_bytes base sites; patches = patches_from base sites }

abbrev pub unless_far : Option ℕ → Block → Result Block Refusal
unless_far (Some at) block = Err (StubOutOfReach at)
unless_far None block = Ok block

-- the block at a base, or the least marked instruction of which a jump to or from its stub is too far
abbrev pub emitted : ℕ → List Site → Result Block Refusal
emitted base sites = unless_far (out_of_reach base sites) (block_of base sites)
