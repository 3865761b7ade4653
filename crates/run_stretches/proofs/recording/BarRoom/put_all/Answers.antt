use Rattle.std.proofs.Common.{◌<◌, length, arith}
use Rattle.run_stretches.proofs.SqueezeLaws.{put_more}
use Rattle.run_stretches.proofs.recording.BarRoom.put_all.Goals as goal

pub loop-k-preserved : goal.loop-k-preserved
loop-k-preserved c =
    let lt : c.loop-k.k < length c.args.ends.now = omega arith in
    put_more _ _ _ c.args.ends.now c.loop-k.k _ lt c.put.ensures c.loop-k.invariant
