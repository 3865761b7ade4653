use Rattle.std.proofs.Common.{◌≡◌, ◌+◌, sym, false, arith}
use Rattle.scale_base.specs.Layout.{may_read}
use Rattle.scale_base.proofs.Laws.{each_byte_false}
use Rattle.flat_memory.proofs.memory.Memory.may_read_word.Goals as goal

pub returns-then-not-may_read : goal.returns-then-not-may_read
returns-then-not-may_read g c =
    let here : may_read (g.Self.Memory.layout c.args.self.now) (c.args.at + c.loop-k.k) ≡ false = cc in
    sym (each_byte_false _ c.args.at c.loop-k.k 4 (omega arith) here)
