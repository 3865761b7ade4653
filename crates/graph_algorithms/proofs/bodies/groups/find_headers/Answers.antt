use Rattle.std.proofs.Common.{rules, arith, ℕ, ◌≡◌, ◌∙◌, ◌+◌, ◌<◌, ◌↔◌, ◌⊎◌, length, replicate, ap, sym, subst, Some}
use Rattle.std.specs.Prelude.{slice_get}
use Rattle.std.proofs.lemmas.List.{take_at}
use Rattle.std.proofs.lemmas.Option.{slice_get-get_or}
use Rattle.graph_algorithms.specs.Groups.{IsFlagged}
use Rattle.graph_algorithms.proofs.GroupLaws.{AreHeadersBelow, IsHeader, below_none, below_next, below_all}
use Rattle.graph_algorithms.proofs.bodies.groups.find_headers.Goals as goal

pub loop-bit-init : goal.loop-bit-init
loop-bit-init c =
    let zeros : c.in_ok-headers.headers.items ≡ replicate {A = ℕ} c.args.count 0 = search rules in
    below_none c.args.loops.now c.args.count (λ v i loop. IsHeader v loop) c.in_ok-headers.headers.items zeros

pub set_bit-requires-clause-node : goal.set_bit-requires-clause-node
set_bit-requires-clause-node c =
    let lt : c.loop-bit.bit < length c.args.loops.now = search rules in
    let low = (c.requires.header c.loop-bit.bit c.index-loops-bit.result (slice_get-get_or c.args.loops.now c.loop-bit.bit c.index-loops-bit.result lt ∙ ap Some (sym c.index-loops-bit.is))).0 in
    let size = c.loop-bit.invariant.size in
    let same = ap length c.deref_mut.ensures.value in
    omega arith

pub loop-bit-preserved : goal.loop-bit-preserved
loop-bit-preserved c =
    let lt : c.loop-bit.bit < length c.args.loops.now = search rules in
    let at : slice_get c.args.loops.now c.loop-bit.bit ≡ Some c.index-loops-bit.result = slice_get-get_or c.args.loops.now c.loop-bit.bit c.index-loops-bit.result lt ∙ ap Some (sym c.index-loops-bit.is) in
    subst (AreHeadersBelow c.args.loops.now c.args.count (c.loop-bit.bit + 1)) (sym (take_at c.set_bit.new.words _ c.loop-bit.headers.len (c.set_bit.ensures.size ∙ c.deref_mut.ensures.len)))
    (below_next c.args.loops.now c.args.count (λ v i loop. IsHeader v loop) c.loop-bit.bit c.index-loops-bit.result c.loop-bit.headers.items c.set_bit.new.words at (c.set_bit.ensures.size ∙ ap length c.deref_mut.ensures.value)
    (subst (λ xs. (v i : ℕ) → IsFlagged c.set_bit.new.words v i ↔ (IsFlagged xs v i ⊎ ((v ≡ c.index-loops-bit.result.header) × (i ≡ c.loop-bit.bit)))) c.deref_mut.ensures.value c.set_bit.ensures.bits)
    c.loop-bit.invariant)

pub returns-clause-bits : goal.returns-clause-bits
returns-clause-bits c = below_all c.args.loops.now c.args.count (λ v i loop. IsHeader v loop) c.loop-bit.bit c.loop-bit.headers.items (search rules) c.loop-bit.invariant
