use Rattle.std.proofs.Common.{rules, ◌≡◌, ◌++◌, [], ◌∷◌, arith}
use Rattle.std.proofs.lemmas.List.FromFn.{map-range_with_len_more}
use Rattle.elf_image.specs.Segment.{segment_value}
use Rattle.flat_memory.specs.Loaded.{offset_byte}
use Rattle.flat_memory.proofs.loading.load_block.Goals as goal

pub loop-k-preserved : goal.loop-k-preserved
loop-k-preserved c =
    let items : c.push.new.self.items ≡ c.loop-k.bytes.items ++ c.loaded_byte.result ∷ [] = search rules in
    let more = map-range_with_len_more (offset_byte (segment_value c.args.segment.now)) 0 c.loop-k.k c.loop-k.k (omega arith) in
    record { items = cc (items, more, c.loop-k.invariant.items, c.loaded_byte.ensures); len = search rules }
