use Rattle.std.proofs.Common.{List}
use Rattle.loop_file.specs.declared.notes.LoopNote.{LoopNote}
use Rattle.loop_file.specs.Loops.{read_loops}
use Rattle.version_loops.specs.Checked.{AreNotesOf}
use Rattle.version_loops.proofs.Stops.{ok_of}
use Rattle.version_loops.proofs.files.notes_of.Goals as goal

pub returns : goal.returns
returns c =
    let program = c.args.program.now in
    ok_of (λ (notes : List LoopNote). notes) c.read_loops.result (read_loops c.in_ok-view.view program.loops.now) (AreNotesOf program.image.now program.loops.now) c.read_loops.ensures
    (λ notes e. record { image = c.in_ok-view.view; is_read = c.in_ok-view.ensures; notes_are = e })
