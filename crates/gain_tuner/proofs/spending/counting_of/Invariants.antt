use Rattle.std.proofs.Common.{◌≡◌, map, take}
use Rattle.gain_tuner.specs.Spending.{counts}
use Rattle.gain_tuner.proofs.spending.counting_of.Given as goal

-- the flags so far
abbrev pub invariant-loop-input : goal.invariant-loop-input
invariant-loop-input g l = l.flags.items ≡ map (λ input. counts l.given.image.now l.given.machine.now l.given.loops.now input.items) (take l.input-index l.given.inputs.now)
