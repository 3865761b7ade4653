use Rattle.std.proofs.Common.{List, ℕ, sym, ap, subst, ◌∙◌}
use Rattle.std.specs.Prelude.{string_bytes}
use Rattle.scale_base.specs.Image.{image_of}
use Rattle.loop_drafts.specs.Kept.{AreBytes}
use Rattle.version_loops.specs.Checked.{IsShownFile}
use Rattle.version_loops.specs.VersionFile.{IsVersionFile}
use Rattle.version_loops.proofs.Covered.{version_file}
use Rattle.version_loops.proofs.Stops.{some_too}
use Rattle.version_loops.proofs.files.file_of.Goals as goal

pub returns-clause-file : goal.returns-clause-file
returns-clause-file g c =
    let program = c.args.program.now in
    let version = c.args.version.now in
    let view = c.in_ok-view.view in
    let graph = c.in_ok-graph.graph in
    let olds = c.in_ok-olds.olds in
    let drafted = c.in_ok-drafted.drafted in
    let small = subst (λ (file : List ℕ). AreBytes file) c.deref.ensures.value c.are_bytes.ensures in
    let read = sym (ap image_of c.deref-2.ensures.value) ∙ c.in_ok-view.ensures in
    some_too c.shown_text.result (λ text. IsShownFile view graph version olds drafted (string_bytes text)) (λ text. IsVersionFile program.image.now program.loops.now version (string_bytes text)) c.shown_text.ensures.shown
    (λ text shown. version_file program.image.now program.loops.now (string_bytes text) version view graph olds drafted small c.requires c.in_ok-olds.ensures read c.in_ok-graph.ensures c.in_ok-drafted.ensures shown)
