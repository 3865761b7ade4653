use Rattle.std.proofs.Common.{rules, ◌≡◌, ◌+◌, sym, subst, set, true, arith, length, vec_len}
use Rattle.std.proofs.lemmas.Option.{get_or_from_slice_get}
use Rattle.keep_monitor.specs.Slots.{AreSlotsOf}
use Rattle.keep_monitor.proofs.PlainLaws.{slots_none, slots_more}
use Rattle.keep_monitor.proofs.slots.header_slots.Goals as goal

pub loop-k-init : goal.loop-k-init
loop-k-init c =
    let len : length c.in_ok-slots.slots.items ≡ vec_len c.in_ok-slots.slots = search rules in
    slots_none c.args.notes.now c.in_ok-slots.slots.items (omega (arith, c.in_ok-slots.ensures.len))

pub loop-k-preserved : goal.loop-k-preserved
loop-k-preserved c =
    let note = get_or_from_slice_get c.args.notes.now c.loop-k.k c.note.result.now _ c.note.ensures.note in
    subst (λ i. AreSlotsOf c.args.notes.now (c.loop-k.k + 1) (set c.loop-k.slots.items i true)) (sym c.slot_of.ensures.is)
    (slots_more c.args.notes.now c.loop-k.k c.loop-k.slots.items c.note.result.now note c.loop-k.invariant)

pub returns : goal.returns
returns c = subst (λ n. AreSlotsOf c.args.notes.now n c.loop-k.slots.items) (omega (arith, c.count-k-end.ensures.count)) c.loop-k.invariant
