use Rattle.std.proofs.Common.{◌≡◌, ◌+◌, ◌∙◌, sym, ap, not, false, true, arith}
use Rattle.scale_base.specs.Layout.{may_write}
use Rattle.scale_base.proofs.Laws.{each_byte_false}
use Rattle.rv_machine.proofs.decoding.is_unwritten.Goals as goal

pub returns-then-may_write : goal.returns-then-may_write
returns-then-may_write g c =
    let here : may_write (g.M.Memory.layout c.args.memory.now) (c.args.at + c.loop-k.k) ≡ true = cc in
    sym (each_byte_false (λ a. not (may_write (g.M.Memory.layout c.args.memory.now) a)) c.args.at c.loop-k.k 4 (omega arith) (ap not here))
