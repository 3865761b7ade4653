use Rattle.std.proofs.Common.{◌≡◌, ◌≤◌, ◌*◌, ◌+◌, ◌++◌, drop, map, None}
use Rattle.stub_writer.specs.Stubs.{out_of_reach, patches_from}
use Rattle.stub_writer.specs.Sites.{site_of}
use Rattle.stub_writer.proofs.block.push_patches.Given as goal

abbrev pub invariant-loop-site : goal.invariant-loop-site
invariant-loop-site l = record {
  near : out_of_reach l.at (map site_of (drop l.site-index l.list)) ≡ None;
  so_far : l.out.items ++ patches_from l.at (map site_of (drop l.site-index l.list)) ≡ l.fn.out.items ++ patches_from l.fn.base (map site_of l.list);
  small : l.at ≤ l.fn.base + 2188 * l.site-index;
}
