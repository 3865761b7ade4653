use Rattle.std.proofs.Common.{◌≡◌, ◌≤◌, ◌*◌, take, map}
use Rattle.stub_writer.specs.Stubs.{stubs_len}
use Rattle.stub_writer.specs.Sites.{site_of}
use Rattle.stub_writer.proofs.block.stubs_len.Given as goal

abbrev pub invariant-loop-site : goal.invariant-loop-site
invariant-loop-site l = record { is : l.len ≡ stubs_len (map site_of (take l.site-index l.list)); small : l.len ≤ 547 * l.site-index }
