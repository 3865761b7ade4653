use Rattle.pace_fit.specs.Fitting.{AreOut}
use Rattle.pace_fit.proofs.choosing.first_built.Given as goal

-- all proposals so far are out
abbrev pub invariant-loop-k : goal.invariant-loop-k
invariant-loop-k g l = AreOut l.files.image.now l.files.machine.now l.files.loops.now l.proposals l.k
