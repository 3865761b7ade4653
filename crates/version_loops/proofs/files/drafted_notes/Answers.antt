use Rattle.std.proofs.Common.{◌≡◌, Ok}
use Rattle.loop_file.specs.Loops.{read_loops}
use Rattle.loop_drafts.specs.Drafted.{filled_most}
use Rattle.version_loops.specs.Checked.{AreNotesDrafted}
use Rattle.version_loops.proofs.Stops.{ok_too}
use Rattle.version_loops.proofs.files.drafted_notes.Goals as goal

pub returns : goal.returns
returns g c =
    let version = c.args.version.now in
    ok_too c.filled_notes.result (λ notes. read_loops c.args.view.now (filled_most c.in_ok-draft.draft.pieces.items) ≡ Ok notes) (AreNotesDrafted version.file.items c.args.view.now) c.filled_notes.ensures
    (λ notes e. record { draft = c.in_ok-draft.draft; drafted = c.in_ok-draft.ensures.drafted; untrusting = c.in_ok-draft.ensures.untrusting; notes_are = e })
