use Rattle.std.proofs.Common.{◌≡◌, true}
use Rattle.scale_base.specs.Layout.{each_byte, may_write}
use Rattle.flat_memory.proofs.memory.Memory.may_write_word.Given as goal

abbrev pub invariant-loop-k : goal.invariant-loop-k
invariant-loop-k g l = each_byte (may_write (g.Self.Memory.layout l.self)) l.at l.k ≡ true
