use Rattle.std.proofs.Common.{◌≡◌, true, not}
use Rattle.scale_base.specs.Layout.{each_byte, may_write}
use Rattle.rv_machine.proofs.decoding.is_unwritten.Given as goal

abbrev pub invariant-loop-k : goal.invariant-loop-k
invariant-loop-k g l = each_byte (λ a. not (may_write (g.M.Memory.layout l.memory) a)) l.at l.k ≡ true
