use Rattle.pace_tool.proofs.DrawnFiles.{pushed_run}
use Rattle.pace_tool.proofs.draw_run.+push_files.Goals as goal

pub returns-in_ok-push_run-in-len2-up-files : goal.returns-in_ok-push_run-in-len2-up-files
returns-in_ok-push_run-in-len2-up-files t c =
    pushed_run c.push_files.result c.args.runs.now.items c.push_run.new.runs.items c.push_files.new.runs.items c.args.names.now c.args.files.now _ c.image-item.result c.input-item.result c.deref.result.now c.deref-in-len2-up-files.result.now
    c.in-len2-up.len_at_least c.in-len2-up-files.len_at_least c.image-item.is c.input-item.is c.deref.ensures.value c.deref-in-len2-up-files.ensures.value c.in_ok-push_run-in-len2-up-files.ensures c.push_files.ensures
