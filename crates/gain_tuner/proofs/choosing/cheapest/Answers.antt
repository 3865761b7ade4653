use Rattle.std.proofs.Common.{◌≡◌, ◌+◌, arith, sym, subst}
use Rattle.scaler.specs.declared.preparing.PreparedProgram.{PreparedProgram}
use Rattle.scaler.specs.Prepared.{IsPrepared}
use Rattle.gain_tuner.specs.declared.choosing.Trial.{Trial}
use Rattle.gain_tuner.specs.Candidates.{IsCandidate}
use Rattle.gain_tuner.specs.Finding.{IsSafeChoice}
use Rattle.gain_tuner.proofs.Chosen.{first_choice, next_choice}
use Rattle.gain_tuner.proofs.Steps.{items_of}
use Rattle.gain_tuner.proofs.Trials.{candidates_one}
use Rattle.gain_tuner.proofs.choosing.cheapest.Goals as goal

pub loop-candidate-init : goal.loop-candidate-init
loop-candidate-init g c =
    let files = c.args.files.now in
    (first_choice (IsCandidate files.image.now files.machine.now files.loops.now) (candidates_one files.image.now files.machine.now files.loops.now) files.image.now files.machine.now files.loops.now (items_of files.inputs.now) c.args.held c.requires.held, c.requires.prepared)

pub trial_of-requires-clause-prepared : goal.trial_of-requires-clause-prepared
trial_of-requires-clause-prepared g c = c.loop-candidate.invariant.1

pub loop-candidate-preserved : goal.loop-candidate-preserved
loop-candidate-preserved g c =
    let files = c.args.files.now in
    let choice = subst (λ (t : Trial). IsSafeChoice files.image.now files.machine.now files.loops.now (items_of files.inputs.now) (c.loop-candidate.candidate + 1) t) (sym c.cheaper-best.ensures)
    (next_choice (IsCandidate files.image.now files.machine.now files.loops.now) (candidates_one files.image.now files.machine.now files.loops.now) files.image.now files.machine.now files.loops.now (items_of files.inputs.now)
    c.loop-candidate.candidate c.loop-candidate.best c.in_ok-next.trial c.loop-candidate.invariant.0 c.in_ok-next.ensures.trial) in
    (choice, subst (λ (p : PreparedProgram). IsPrepared files.image.now files.machine.now files.loops.now p) (sym c.in_ok-next.ensures.same) c.loop-candidate.invariant.1)

pub returns : goal.returns
returns g c =
    let last : c.loop-candidate.candidate ≡ 33 = omega arith in
    subst (λ n. IsSafeChoice c.args.files.now.image.now c.args.files.now.machine.now c.args.files.now.loops.now (items_of c.args.files.now.inputs.now) n c.loop-candidate.best) last c.loop-candidate.invariant.0
