use Rattle.std.proofs.Common.{◌≡◌, map, vec_len}
use Rattle.std.specs.List.{range_with_len}
use Rattle.elf_image.specs.Segment.{segment_value}
use Rattle.flat_memory.specs.Loaded.{offset_byte}
use Rattle.flat_memory.proofs.loading.load_block.Given as goal

abbrev pub invariant-loop-k : goal.invariant-loop-k
invariant-loop-k l = record {
  items : l.bytes.items ≡ map (offset_byte (segment_value l.segment)) (range_with_len 0 l.k);
  len : vec_len l.bytes ≡ l.k;
}
