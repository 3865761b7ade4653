use Rattle.scaler.proofs.TimedFacts.{timed_held, timed_low}
use Rattle.scaler.proofs.holding.hold_timed.Goals as goal

pub held_summary-summary-requires : goal.held_summary-summary-requires
held_summary-summary-requires c = timed_low c.args.power.now c.args.view.now c.requires.timed.0 c.args.program.now c.requires.timed.1

pub returns : goal.returns
returns c = λ notes h. timed_held c.args.power.now c.args.view.now notes c.args.program.now h
    c.total-worst.result c.total-worst.ensures c.in_ok-bytes.bytes.items c.held_summary-summary.result c.in_ok-bytes.ensures c.held_summary-summary.ensures
