use Rattle.std.proofs.Common.{◌+◌, ◌*◌, subst, sym}
use Rattle.foreign_scan.proofs.RunOutLaws.{AreRead, more_read}
use Rattle.foreign_scan.proofs.run_out.read_fragments.Goals as goal

pub loop-preserved : goal.loop-preserved
loop-preserved c =
    subst (λ fs. AreRead c.args.key.now c.args.at fs (c.loop.end + 4 * c.code_len.result) (c.loop.counter + 1)) (sym c.in_ok-push-in-Some.ensures.items)
    (more_read c.args.key.now c.args.at c.loop.fragments.items c.loop.end c.loop.counter c.code_len.result c.in-Some.fragment c.loop.invariant ((c.read_fragment.ensures c.in-Some.fragment).0 c.in-Some.is)
    c.code_len.ensures.len c.code_len.ensures.few)
