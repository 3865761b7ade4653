use Rattle.std.proofs.Common.{◌≡◌, true, sym, ◌∙◌, arith, below_more}
use Rattle.image_check.proofs.LastLaws.{not_there, safe_there}
use Rattle.image_check.proofs.entries.has_bad_last.Goals as goal
use Rattle.image_check.proofs.entries.has_bad_last.Goals.{else-last-start-via-then-last-start+else-not-is_safe_in_row, else-last-start-via-else-last-start}

pub loop-entry-preserved : goal.loop-entry-preserved
loop-entry-preserved c = below_more _ _ c.loop-entry.invariant
    (elim c.else-last-start.branch [
      | else-last-start-via-then-last-start+else-not-is_safe_in_row w ↦
          let safe : w.is_safe_in_row.result ≡ true = grind arith in
          safe_there c.args.power.now c.args.exit.now c.args.start c.args.places.now c.args.i c.loop-entry.entry c.get-last.result c.get-last.ensures (sym w.is_safe_in_row.ensures ∙ safe)
      | else-last-start-via-else-last-start w ↦ not_there c.args.power.now c.args.exit.now c.args.start c.args.places.now c.args.i c.loop-entry.entry c.get-last.result c.get-last.ensures w.if-last-start.false
    ])
