use Rattle.std.proofs.Common.{◌≡◌, ◌≤◌, ◌*◌, take, map, length}
use Rattle.stub_writer.specs.Stubs.{block_rows}
use Rattle.stub_writer.specs.Sites.{site_of}
use Rattle.stub_writer.proofs.block.block_rows_len.Given as goal

abbrev pub invariant-loop-site : goal.invariant-loop-site
invariant-loop-site l = record { is : l.len ≡ length (block_rows (map site_of (take l.site-index l.list))); small : l.len ≤ 544 * l.site-index }
