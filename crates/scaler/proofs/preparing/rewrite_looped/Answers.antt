use Rattle.scaler.proofs.PreparedFacts.{marked_is, marking_stopped}
use Rattle.scaler.proofs.preparing.rewrite_looped.Goals as goal

pub marking_from-requires : goal.marking_from-requires
marking_from-requires c = (c.args.view.now, c.requires.ready.0, c.requires.ready.1)

pub rewrite_marked-made-requires-clause-marked : goal.rewrite_marked-made-requires-clause-marked
rewrite_marked-made-requires-clause-marked c =
    let r = c.requires.ready in
    (r.0, marked_is c.args.power.now c.args.view.now r.0 c.args.program c.args.plain.now r.1 c.in-Ok.marking c.in-Ok.start (c.in-Ok.ensures c.args.view.now r.0 r.1))

pub returns-in-Ok-clause-given : goal.returns-in-Ok-clause-given
returns-in-Ok-clause-given c = λ notes h. c.rewrite_marked-made.ensures notes
    (marked_is c.args.power.now c.args.view.now notes c.args.program c.args.plain.now h c.in-Ok.marking c.in-Ok.start (c.in-Ok.ensures c.args.view.now notes h))

pub returns-in-Err-clause-given : goal.returns-in-Err-clause-given
returns-in-Err-clause-given c = λ notes h. marking_stopped c.args.power.now c.args.view.now notes c.args.program c.in-Err.stop (c.in-Err.ensures c.args.view.now notes h)
