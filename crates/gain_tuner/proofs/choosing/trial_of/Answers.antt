use Rattle.gain_tuner.specs.Candidates.{IsCandidate}
use Rattle.gain_tuner.proofs.Chosen.{tried_given}
use Rattle.gain_tuner.proofs.Steps.{items_of}
use Rattle.gain_tuner.proofs.Trials.{candidates_one}
use Rattle.gain_tuner.proofs.choosing.trial_of.Goals as goal

pub candidate_of-program-requires-clause-prepared : goal.candidate_of-program-requires-clause-prepared
candidate_of-program-requires-clause-prepared g c = let files = c.args.files.now in (files.image.now, files.machine.now, files.loops.now, c.requires.image, c.requires.prepared)

pub trial_from-requires-clause-safe : goal.trial_from-requires-clause-safe
trial_from-requires-clause-safe g c =
    let files = c.args.files.now in
    c.candidate_of-program.ensures.safe files.image.now files.machine.now files.loops.now c.requires.image c.requires.machine c.requires.loops c.requires.prepared

pub returns-clause-trial : goal.returns-clause-trial
returns-clause-trial g c =
    let files = c.args.files.now in
    tried_given (IsCandidate files.image.now files.machine.now files.loops.now) (candidates_one files.image.now files.machine.now files.loops.now) files.image.now files.machine.now files.loops.now (items_of files.inputs.now)
    c.candidate_of-program.result.1 c.args.candidate c.in_ok-trial.trial (c.candidate_of-program.ensures.given files.image.now files.machine.now files.loops.now c.requires.prepared) c.in_ok-trial.ensures
