use Rattle.std.proofs.Common.{◌≡◌, ◌≤◌, ◌*◌, ◌+◌, drop, map}
use Rattle.stub_writer.specs.Stubs.{out_of_reach}
use Rattle.stub_writer.specs.Sites.{site_of}
use Rattle.stub_writer.proofs.block.out_of_reach.Given as goal

abbrev pub invariant-loop-site : goal.invariant-loop-site
invariant-loop-site l = record {
  is : out_of_reach l.at (map site_of (drop l.site-index l.list)) ≡ out_of_reach l.fn.base (map site_of l.list);
  small : l.at ≤ l.fn.base + 2188 * l.site-index;
}
