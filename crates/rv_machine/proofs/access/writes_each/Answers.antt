use Rattle.std.proofs.Common.{◌≡◌, ◌+◌, sym, false, arith}
use Rattle.scale_base.specs.Layout.{may_write}
use Rattle.scale_base.proofs.Laws.{each_byte_false}
use Rattle.rv_machine.proofs.access.writes_each.Goals as goal

pub returns-then-not-may_write : goal.returns-then-not-may_write
returns-then-not-may_write g c =
    let here : may_write (g.M.Memory.layout c.args.memory.now) (c.args.at + c.loop-k.k) ≡ false = cc in
    sym (each_byte_false _ c.args.at c.loop-k.k c.args.width (omega arith) here)
