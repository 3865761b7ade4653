use Rattle.std.proofs.Common.{arith, ap, ◌+◌, ◌*◌}
use Rattle.stub_writer.proofs.SiteLaws.{IsNext, reach_first, near_rest, stubs_rest}
use Rattle.stub_writer.proofs.block.push_stubs.Goals as goal

pub push_stub-requires-clause-reach : goal.push_stub-requires-clause-reach
push_stub-requires-clause-reach c =
    reach_first c.args.list.now c.loop-site.site-index c.loop-site.at c.site-item.result
    (record { within = c.loop-site-test.true; same = c.site-item.is }) c.loop-site.invariant.near

pub loop-site-preserved : goal.loop-site-preserved
loop-site-preserved c =
    let next : IsNext c.args.list.now c.loop-site.site-index c.site-item.result = record { within = c.loop-site-test.true; same = c.site-item.is } in
    let at = c.loop-site.at + 4 * c.stub_len.result in
    let rows = c.loop-site.rows + 4 * c.stub_rows_len.result in
    record {
      near = near_rest c.args.list.now c.loop-site.site-index c.loop-site.at at c.site-item.result next (ap (λ n. c.loop-site.at + 4 * n) c.stub_len.ensures.is) c.loop-site.invariant.near;
      so_far =
          stubs_rest c.args.list.now c.loop-site.site-index c.loop-site.at at c.loop-site.rows rows c.site-item.result c.loop-site.out.items c.push_stub.new.out.items _ next
          (ap (λ n. c.loop-site.at + 4 * n) c.stub_len.ensures.is) (ap (λ n. c.loop-site.rows + 4 * n) c.stub_rows_len.ensures.is)
          c.loop-site.invariant.so_far c.in_ok-push_stub.ensures;
      small = omega arith;
      low = omega arith;
    }
