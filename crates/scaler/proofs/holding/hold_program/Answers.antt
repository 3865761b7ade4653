use Rattle.scaler.proofs.holding.hold_program.Goals as goal

pub hold_timed-requires-clause-timed : goal.hold_timed-requires-clause-timed
hold_timed-requires-clause-timed c = (c.args.sources.now.notes, c.in_ok-program.ensures)

pub returns : goal.returns
returns c = c.in_ok-held.ensures c.args.sources.now.notes c.in_ok-program.ensures
