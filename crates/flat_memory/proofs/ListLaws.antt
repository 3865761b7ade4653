-- The stack and the blocks together.
use Rattle.std.proofs.Common.{◌≡◌, ℕ, ◌-◌, ◌<◌, ◌≤◌, true, false, List, length, arith, ap, sym, ◌∙◌, inl, inr, get_or-set_same, get_or-set_other}
use Rattle.std.specs.Prelude.{slice_set, slice_index, ◌&&◌, not}
use Rattle.std.specs.List.{list_any}
use Rattle.std.proofs.Math.Path.{fun_ext}
use Rattle.std.proofs.lemmas.Bool.{or_cases, and_parts}
use Rattle.std.proofs.lemmas.Bool.Decides.{nat_tests}
use Rattle.scale_base.specs.Spans.{in_span}
use Rattle.scale_base.specs.State.{with_byte}
use Rattle.scale_base.specs.Layout.{in_stack, in_text, may_write}
use Rattle.scale_base.specs.Image.{PF_W}
use Rattle.flat_memory.specs.Blocks.{holds, byte_in_blocks, parts_of}
use Rattle.flat_memory.specs.Lists.{memory_byte, list_layout}
use Rattle.flat_memory.specs.declared.block.Block.{Block}
use Rattle.flat_memory.specs.declared.list_memory.ListMemory.{ListMemory}
use Rattle.flat_memory.proofs.Chosen.{put_here, put_behind}
use Rattle.flat_memory.proofs.BlockLaws.{writable_in_parts, used_holds}

in_stack_from : (at : ℕ) → in_stack at ≡ true → 0x7FFC0000 ≤ at
in_stack_from at h = grind (arith, nat_tests)

in_stack_to : (at : ℕ) → in_stack at ≡ true → at < 0x80000000
in_stack_to at h = grind (arith, nat_tests)

stack_same : (xs : List ℕ) (at value : ℕ) → length xs ≡ 0x40000 → in_stack at ≡ true → slice_index (slice_set xs (at - 0x7FFC0000) value) (at - 0x7FFC0000) ≡ value
stack_same xs at value size h =
    let low = in_stack_from at h in
    let high = in_stack_to at h in
    get_or-set_same xs (at - 0x7FFC0000) value 0 (omega arith)

stack_other : (xs : List ℕ) (at value a : ℕ) → in_stack at ≡ true → in_stack a ≡ true → (a ≡ at → ⊥) → slice_index (slice_set xs (at - 0x7FFC0000) value) (a - 0x7FFC0000) ≡ slice_index xs (a - 0x7FFC0000)
stack_other xs at value a h here ne =
    let low = in_stack_from at h in
    let lower = in_stack_from a here in
    let apart : (a - 0x7FFC0000 ≡ at - 0x7FFC0000 → ⊥) = omega arith in
    get_or-set_other xs (at - 0x7FFC0000) (a - 0x7FFC0000) value 0 apart

pub stack_written : (xs : List ℕ) (bs : List Block) (at value : ℕ) → length xs ≡ 0x40000 → in_stack at ≡ true → memory_byte (slice_set xs (at - 0x7FFC0000) value) bs ≡ with_byte (memory_byte xs bs) at value
unfolding memory_byte
stack_written xs bs at value size h =
    fun_ext (put_here in_stack (λ a. slice_index xs (a - 0x7FFC0000)) (λ a. slice_index (slice_set xs (at - 0x7FFC0000) value) (a - 0x7FFC0000)) (byte_in_blocks bs) at value h (stack_same xs at value size h) (λ a. stack_other xs at value a h))

pub blocks_written : (xs : List ℕ) (bs cs : List Block) (at value : ℕ) → in_stack at ≡ false → byte_in_blocks cs ≡ with_byte (byte_in_blocks bs) at value → memory_byte xs cs ≡ with_byte (memory_byte xs bs) at value
unfolding memory_byte
blocks_written xs bs cs at value away h =
    fun_ext (put_behind in_stack (λ a. slice_index xs (a - 0x7FFC0000)) (byte_in_blocks bs) (byte_in_blocks cs) at value away (λ a. ap (λ f. f a) h))

-- an address that may be written, and isn't the stack's, has a block
pub written_block : (m : ListMemory) (at : ℕ) → may_write (list_layout m) at ≡ true → in_stack at ≡ false → list_any (holds at) m.blocks.items ≡ true
unfolding may_write
written_block m at h away =
    elim (or_cases (in_stack at) (list_any (λ p. p.writable && in_span p.span at) (parts_of m.blocks.items) && not (in_text (list_layout m) at)) h) [
      | inl e ↦ (let never : true ≡ false = sym e ∙ away in cc)
      | inr e ↦
          used_holds PF_W at m.blocks.items (sym (writable_in_parts m.blocks.items at) ∙ (and_parts (list_any (λ p. p.writable && in_span p.span at) (parts_of m.blocks.items)) (not (in_text (list_layout m) at)) e).0)
    ]
