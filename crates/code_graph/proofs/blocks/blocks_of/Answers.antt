use Rattle.std.proofs.Common.{◌≡◌, length, ap, arith, sym, ◌∙◌}
use Rattle.std.specs.Prelude.{slice_get}
use Rattle.code_graph.proofs.blocks.blocks_of.Goals as goal

pub ranges_of-requires-clause-within : goal.ranges_of-requires-clause-within
ranges_of-requires-clause-within c = λ b k at.
    let up = c.in_ok-starts.ensures in
    let below = (up.up b k (sym (ap (λ xs. slice_get xs b) c.deref-3.ensures.value) ∙ at)).0 in
    let flags : length c.deref.result.now ≡ length c.in_ok-heads.heads.items = ap length c.deref.ensures.value in
    let size = c.in_ok-heads.ensures.size in
    let nodes : length c.deref-2.result.now ≡ length c.args.nodes.now.addresses.items = ap length c.deref-2.ensures.value in
    omega arith
