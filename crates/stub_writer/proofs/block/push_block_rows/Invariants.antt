use Rattle.std.proofs.Common.{◌≡◌, ◌++◌, drop, map}
use Rattle.std.specs.List.{flat_map}
use Rattle.stub_writer.specs.Stubs.{word_bytes, block_rows}
use Rattle.stub_writer.specs.Sites.{site_of}
use Rattle.stub_writer.proofs.block.push_block_rows.Given as goal

abbrev pub invariant-loop-site : goal.invariant-loop-site
invariant-loop-site l = l.out.items ++ flat_map word_bytes (block_rows (map site_of (drop l.site-index l.list))) ≡ l.fn.out.items ++ flat_map word_bytes (block_rows (map site_of l.list))
