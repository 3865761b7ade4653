use Rattle.std.proofs.Common.{rules, ◌≡◌, ◌<◌, arith, length, vec_len}
use Rattle.rv_machine.proofs.CodeLaws.{code_made}
use Rattle.rv_machine.proofs.decoding.decode_code.Goals as goal

pub returns : goal.returns
returns g c =
    let len : length c.loop-k.groups.items ≡ vec_len c.loop-k.groups = search rules in
    let size : length c.loop-k.groups.items ≡ 1024 = omega (arith, c.loop-k.invariant.len) in
    record { fixed = code_made (g.M.Memory.layout c.args.memory.now) (g.M.Memory.bytes c.args.memory.now) c.loop-k.groups.items size (λ m o lt is. let below : m < c.loop-k.k = omega arith in c.loop-k.invariant.are m o below is) }
