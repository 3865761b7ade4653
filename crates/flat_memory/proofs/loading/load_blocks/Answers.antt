use Rattle.std.proofs.Common.{rules, ◌≡◌, ◌++◌, [], ◌∷◌}
use Rattle.elf_image.specs.Segment.{segment_value}
use Rattle.flat_memory.proofs.LoadLaws.{are_none, are_more}
use Rattle.flat_memory.proofs.loading.load_blocks.Goals as goal

pub loop-k-init : goal.loop-k-init
loop-k-init c = rw c.new-blocks.ensures.items are_none

pub loop-k-preserved : goal.loop-k-preserved
loop-k-preserved c =
    let items : c.push.new.self.items ≡ c.loop-k.blocks.items ++ c.in_ok-load_block.field-0 ∷ [] = search rules in
    rw items (are_more c.args.view.now.segments c.loop-k.k (segment_value c.segment.result) c.loop-k.blocks.items c.in_ok-load_block.field-0 c.loop-k.invariant c.segment.ensures c.in_ok-load_block.ensures)
