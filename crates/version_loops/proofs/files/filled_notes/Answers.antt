use Rattle.std.proofs.Common.{◌≡◌, ◌∙◌, List, Ok, sym, ap}
use Rattle.loop_file.specs.declared.notes.LoopNote.{LoopNote}
use Rattle.loop_file.specs.Loops.{read_loops}
use Rattle.loop_drafts.specs.Drafted.{filled_most}
use Rattle.version_loops.proofs.Stops.{ok_of}
use Rattle.version_loops.proofs.files.filled_notes.Goals as goal

pub returns : goal.returns
returns c =
    let text = c.as_bytes.ensures.value ∙ (c.in_ok-text.ensures ∙ ap filled_most c.deref.ensures.value) in
    ok_of (λ (notes : List LoopNote). notes) c.read_loops.result (read_loops c.args.view.now c.as_bytes.result.now) (λ notes. read_loops c.args.view.now (filled_most c.args.draft.now.pieces.items) ≡ Ok notes)
    c.read_loops.ensures (λ notes e. sym (ap (read_loops c.args.view.now) text) ∙ e)
