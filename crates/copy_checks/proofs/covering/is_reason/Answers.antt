use Rattle.std.proofs.lemmas.Option.{get_or_from_slice_get, slice_get_within}
use Rattle.copy_checks.proofs.covering.is_reason.Goals as goal

pub returns : goal.returns
returns c so m t notes k of start are note =
    c.is_copy_shown.ensures so m t notes c.args.olds.now k c.args.reason.now.number of start are note (slice_get_within c.args.olds.now c.args.reason.now.number c.note.result.now c.note.ensures.note) (get_or_from_slice_get c.args.olds.now c.args.reason.now.number c.note.result.now _ c.note.ensures.note)
