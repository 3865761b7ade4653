use Rattle.std.proofs.Common.{◌≡◌, ◌+◌, ◌-◌, ◌∙◌, false, sym, ap, arith, vec_len}
use Rattle.std.specs.Prelude.{◌==◌}
use Rattle.flat_memory.specs.Blocks.{holds}
use Rattle.flat_memory.proofs.OrderLaws.{Searched, same_block, searched_past, searched_all}
use Rattle.flat_memory.proofs.block_list.find_block.Goals as goal

pub returns-then-not-is_empty-clause-none : goal.returns-then-not-is_empty-clause-none
returns-then-not-is_empty-clause-none c =
    let step : c.loop-k.k - 1 + 1 ≡ c.loop-k.k = omega arith in
    let searched : Searched c.args.blocks.now c.args.at (c.loop-k.k - 1 + 1) = rw step c.loop-k.invariant in
    let away : holds c.args.at c.index-blocks-k.result ≡ false = sym c.holds.ensures ∙ c.if-holds.false in
    let same = same_block c.args.blocks.now (c.loop-k.k - 1) c.index-blocks-k.result c.index-blocks-k-in-loop-k.result (omega (arith, c.loop-k.invariant.bound)) c.index-blocks-k.is c.index-blocks-k-in-loop-k.is in
    let other : (vec_len c.index-blocks-k-in-loop-k.result.bytes == 0) ≡ false = cc in
    let some : (vec_len c.index-blocks-k.result.bytes == 0) ≡ false = ap (λ b. vec_len b.bytes == 0) same ∙ other in
    searched_past c.args.blocks.now c.args.at (c.loop-k.k - 1) c.index-blocks-k.result c.requires searched c.index-blocks-k.is away some

pub returns-clause-none : goal.returns-clause-none
returns-clause-none c = searched_all c.args.blocks.now c.args.at c.loop-k.k (omega arith) c.loop-k.invariant
