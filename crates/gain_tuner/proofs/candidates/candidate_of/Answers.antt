use Rattle.gain_tuner.proofs.Numbered.{gain_below, candidate_given}
use Rattle.gain_tuner.proofs.candidates.candidate_of.Goals as goal

pub gain_of-min_gain-requires : goal.gain_of-min_gain-requires
gain_of-min_gain-requires c = gain_below c.args.number c.requires.from c.requires.to

pub rewritten-requires : goal.rewritten-requires
rewritten-requires c = c.requires.prepared

pub returns-clause-given : goal.returns-clause-given
returns-clause-given c = λ image machine loops h.
    candidate_given image machine loops c.args.number c.gain_of-min_gain.result c.requires.from c.requires.to c.gain_of-min_gain.ensures c.rewritten.result.1 (c.rewritten.ensures.given image machine loops h)

pub returns-clause-safe : goal.returns-clause-safe
returns-clause-safe c = c.rewritten.ensures.safe
