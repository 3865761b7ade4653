use Rattle.scaler.proofs.PreparedFacts.{held_given, prepared_short, prepared_unkeyed}
use Rattle.scaler.proofs.preparing.PreparedProgram.held.Goals as goal

pub hold_timed-requires-clause-file : goal.hold_timed-requires-clause-file
hold_timed-requires-clause-file c = let r = c.requires in prepared_short r.0 r.1 r.2 c.args.self.now r.4 r.3

pub hold_timed-requires-clause-no_key : goal.hold_timed-requires-clause-no_key
hold_timed-requires-clause-no_key c = let r = c.requires in prepared_unkeyed r.0 r.1 r.2 c.args.self.now r.4

pub hold_timed-requires-clause-timed : goal.hold_timed-requires-clause-timed
hold_timed-requires-clause-timed c = let r = c.requires in (r.4.notes, r.4.timed)

pub returns : goal.returns
returns c = λ image machine loops h. held_given image machine loops c.args.self.now h c.hold_timed.result (c.hold_timed.ensures h.notes h.timed)
