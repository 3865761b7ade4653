use Rattle.std.proofs.Common.{◌≡◌, ◌≤◌, ◌*◌, ◌+◌, ◌++◌, drop, map, None}
use Rattle.stub_writer.specs.Stubs.{out_of_reach, stubs_code, code_bytes}
use Rattle.stub_writer.specs.Sites.{site_of}
use Rattle.stub_writer.proofs.block.push_stubs.Given as goal

abbrev pub invariant-loop-site : goal.invariant-loop-site
invariant-loop-site l = record {
  near : out_of_reach l.at (map site_of (drop l.site-index l.list)) ≡ None;
  so_far : l.out.items ++ code_bytes (stubs_code l.at l.rows (map site_of (drop l.site-index l.list))) ≡ l.fn.out.items ++ code_bytes (stubs_code l.fn.base l.fn.table (map site_of l.list));
  small : l.at ≤ l.fn.base + 2188 * l.site-index;
  low : l.rows ≤ l.fn.table + 2176 * l.site-index;
}
