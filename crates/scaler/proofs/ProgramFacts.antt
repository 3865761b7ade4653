-- From the program of three files to what is stored of it.
use Rattle.std.proofs.Common.{◌≡◌, ℕ, List, map, Ok}
use Rattle.stub_writer.specs.Sites.{site_of}
use Rattle.rewritten_runs.specs.Stubs.{rewritten_file as stored_bytes}
use Rattle.marked_images.specs.declared.scaling.Program.{Program}
use Rattle.marked_images.specs.Stored.{by_deadline}
use Rattle.marked_images.proofs.Laws.{stubbed_of}
use Rattle.program_sources.specs.declared.reading.Sources.{Sources}
use Rattle.program_sources.proofs.Laws.{sources_are}
use Rattle.scaler.specs.Rewritten.{IsRewritten}
use Rattle.scaler.specs.Scalings.{IsProgramFrom, wanted_by_slack}
use Rattle.scaler.proofs.Given.{rewritten_answer}
use Rattle.scaler.proofs.ScalingFacts.{rewritten_of}

-- the file of its stubs, and its summary, are what is given for the files
pub files_given : (image machine loops : List ℕ) (p : Program) (bytes : List ℕ) → IsProgramFrom image machine loops p → bytes ≡ stored_bytes p.view (map site_of p.scaling.stubs.items) p.scaling.base p.scaling.summary.start
    → IsRewritten image machine loops (Ok ((bytes, p.scaling.summary)))
files_given image machine loops p bytes h e =
    let v = p.marked.graph in
    let t = p.marked.tree in
    let s : Sources = record { power = p.power; view = p.view; notes = h.notes } in
    let are = sources_are image machine loops s (record { power_is = h.power_is; view_is = h.view_is; unscaled = h.unscaled; notes_are = h.notes_are }) in
    rewritten_answer image machine loops s (Ok ((bytes, p.scaling.summary))) are
    (rewritten_of p.power p.view h.notes v t h.plain (Ok ((bytes, p.scaling.summary))) h.plain_are (stubbed_of p.power p.view h.notes v t (wanted_by_slack p.power p.view v t h.plain) (by_deadline p.power) p.scaling bytes h.scaled e))
