use Rattle.std.proofs.Common.{map}
use Rattle.scaler.specs.Prepared.{IsPrepared}
use Rattle.gain_tuner.specs.Finding.{IsSafeChoice}
use Rattle.gain_tuner.proofs.choosing.cheapest.Given as goal

-- the choice so far, and the program stands ready
abbrev pub invariant-loop-candidate : goal.invariant-loop-candidate
invariant-loop-candidate g l =
    IsSafeChoice l.files.image.now l.files.machine.now l.files.loops.now (map (λ input. input.items) l.files.inputs.now) l.candidate l.best
    × IsPrepared l.files.image.now l.files.machine.now l.files.loops.now l.program
