use Rattle.std.proofs.Common.{◌≡◌, ◌∙◌, ◌++◌, List, map, ap}
use Rattle.host_runs.specs.Views.{files_view}
use Rattle.run_pictures.specs.declared.picture.DrawnFiles.{DrawnFiles}
use Rattle.run_pictures.specs.PictureTexts.{picture_text}
use Rattle.pace_tool.specs.Drawn.{AreDrawn, file_texts, run_texts}
use Rattle.pace_tool.specs.Views.{texts}
use Rattle.pace_tool.proofs.DrawnFiles.{drawn_named}
use Rattle.pace_tool.proofs.Told.{file_told}
use Rattle.pace_tool.proofs.draw_run.draw_run_reply.Goals as goal

pub returns : goal.returns
returns g c =
    let names = texts c.args.draw.now.names.now in
    let files = files_view c.args.files.now in
    let runs : List DrawnFiles = c.deref.result.now in
    let all : map file_texts runs ≡ run_texts names files =
    ap (map file_texts) c.deref.ensures.value ∙ c.in_ok-push_files.ensures ∙ ap (λ (rs : List DrawnFiles). map file_texts rs ++ run_texts names files) c.new-runs.ensures.items in
    drawn_named c.args.machine.now names files runs c.args.draw.now.out.now c.stored_reply.result all
    (file_told (AreDrawn c.args.machine.now runs) picture_text c.args.draw.now.out.now c.drawn.result c.stored_reply.result c.drawn.ensures c.stored_reply.ensures)
