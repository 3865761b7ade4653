use Rattle.keep_monitor.proofs.HeaderLaws.{headers_more}
use Rattle.keep_monitor.proofs.headers.list_headers.Goals as goal

pub loop-number-preserved : goal.loop-number-preserved
loop-number-preserved c = headers_more c.args.notes.now c.loop-number.headers.items _ c.loop-number.number c.note.result.now c.loop-number.invariant c.note.ensures.note c.in_ok-push.ensures.items
