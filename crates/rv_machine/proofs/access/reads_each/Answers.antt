use Rattle.std.proofs.Common.{◌≡◌, ◌+◌, sym, false, arith}
use Rattle.scale_base.specs.Layout.{reads_byte}
use Rattle.scale_base.proofs.Laws.{each_byte_false}
use Rattle.rv_machine.proofs.access.reads_each.Goals as goal

pub returns-then-not-reads_byte : goal.returns-then-not-reads_byte
returns-then-not-reads_byte g c =
    let here : reads_byte (g.M.Memory.layout c.args.memory.now) c.args.pc (c.args.at + c.loop-k.k) ≡ false = cc in
    sym (each_byte_false _ c.args.at c.loop-k.k c.args.width (omega arith) here)
