use Rattle.std.proofs.Common.{◌≡◌, true, false, map, Ok, sym, subst}
use Rattle.scale_base.specs.Image.{image_of}
use Rattle.loop_file.specs.Notes.{uncounted_note}
use Rattle.marked_images.proofs.Laws.{HoldAnswers}
use Rattle.scaler.specs.declared.preparing.PreparedProgram.{PreparedProgram}
use Rattle.scaler.specs.Prepared.{IsReadyWith}
use Rattle.scaler.specs.Rewritten.{IsRewrittenProgram}
use Rattle.scaler.specs.RewrittenAs.{IsRewrittenAs, with_gain}
use Rattle.scaler.proofs.PreparedFacts.{prepared_given, prepared_read, prepared_short, prepared_unkeyed, ready_noted, ready_uncounted}
use Rattle.scaler.proofs.SafeAs.{safe_given}
use Rattle.scaler.proofs.preparing.PreparedProgram.rewritten.Goals as goal

pub rewritten_by_tree-requires-clause-read : goal.rewritten_by_tree-requires-clause-read
rewritten_by_tree-requires-clause-read c = let r = c.requires in prepared_read r.0 r.1 r.2 c.args.self r.4

pub rewritten_by_tree-requires-clause-file : goal.rewritten_by_tree-requires-clause-file
rewritten_by_tree-requires-clause-file c = let r = c.requires in prepared_short r.0 r.1 r.2 c.args.self r.4 r.3

pub rewritten_by_tree-requires-clause-no_key : goal.rewritten_by_tree-requires-clause-no_key
rewritten_by_tree-requires-clause-no_key c = let r = c.requires in prepared_unkeyed r.0 r.1 r.2 c.args.self r.4

pub rewritten_by_tree-program-requires-clause-read : goal.rewritten_by_tree-program-requires-clause-read
rewritten_by_tree-program-requires-clause-read c =
    let r = c.requires in
    subst (λ (q : PreparedProgram). image_of q.view.file ≡ Ok q.view) (sym c.exchanged.ensures) (prepared_read r.0 r.1 r.2 c.args.self r.4)

pub rewritten_by_tree-program-requires-clause-file : goal.rewritten_by_tree-program-requires-clause-file
rewritten_by_tree-program-requires-clause-file c = let r = c.requires in rw c.exchanged.ensures (prepared_short r.0 r.1 r.2 c.args.self r.4 r.3)

pub rewritten_by_tree-program-requires-clause-no_key : goal.rewritten_by_tree-program-requires-clause-no_key
rewritten_by_tree-program-requires-clause-no_key c = let r = c.requires in rw c.exchanged.ensures (prepared_unkeyed r.0 r.1 r.2 c.args.self r.4)

pub rewritten_by_tree-program-requires-clause-ready : goal.rewritten_by_tree-program-requires-clause-ready
rewritten_by_tree-program-requires-clause-ready c =
    let r = c.requires in
    (map uncounted_note r.4.notes, subst (λ (q : PreparedProgram). IsReadyWith q c.args.min_gain (map uncounted_note r.4.notes)) (sym c.exchanged.ensures) (ready_uncounted r.0 r.1 r.2 c.args.self r.4 c.args.min_gain))

pub returns-then-counters-clause-given : goal.returns-then-counters-clause-given
returns-then-counters-clause-given c = λ image machine loops h.
    let p = c.args.self in
    subst (λ b. HoldAnswers c.rewritten_by_tree.result.1 (IsRewrittenAs image machine loops c.args.min_gain b)) (sym c.if-counters.true)
    (prepared_given image machine loops p h c.args.min_gain true c.rewritten_by_tree.result.1 (c.rewritten_by_tree.ensures.given h.notes (ready_noted image machine loops p h c.args.min_gain)))

pub returns-else-counters-clause-given : goal.returns-else-counters-clause-given
returns-else-counters-clause-given c = λ image machine loops h.
    let p = c.args.self in
    let notes = map uncounted_note h.notes in
    subst (λ b. HoldAnswers c.rewritten_by_tree-program.result.1 (IsRewrittenAs image machine loops c.args.min_gain b)) (sym c.if-counters.false)
    (prepared_given image machine loops p h c.args.min_gain false c.rewritten_by_tree-program.result.1
    (subst (λ (q : PreparedProgram). HoldAnswers c.rewritten_by_tree-program.result.1 (IsRewrittenProgram (with_gain q.power c.args.min_gain) q.view notes)) c.exchanged.ensures
    (c.rewritten_by_tree-program.ensures.given notes (subst (λ (q : PreparedProgram). IsReadyWith q c.args.min_gain notes) (sym c.exchanged.ensures) (ready_uncounted image machine loops p h c.args.min_gain)))))

pub returns-then-counters-clause-safe : goal.returns-then-counters-clause-safe
returns-then-counters-clause-safe c = λ image machine loops short_image short_machine short_loops h.
    safe_given image machine loops c.args.min_gain _ c.rewritten_by_tree.result.1 short_image short_machine short_loops (returns-then-counters-clause-given c image machine loops h)

pub returns-else-counters-clause-safe : goal.returns-else-counters-clause-safe
returns-else-counters-clause-safe c = λ image machine loops short_image short_machine short_loops h.
    safe_given image machine loops c.args.min_gain _ c.rewritten_by_tree-program.result.1 short_image short_machine short_loops (returns-else-counters-clause-given c image machine loops h)
