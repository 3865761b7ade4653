use Rattle.std.proofs.Common.{◌∙◌, append_assoc}
use Rattle.std.proofs.lemmas.Result.{on_ok_weaker}
use Rattle.run_pictures.specs.PictureTexts.{end_mark}
use Rattle.run_pictures.proofs.rows.push_end.Goals as goal

pub returns : goal.returns
unfolding end_mark
returns c = on_ok_weaker c.write.result (λ e. e ∙ simp append_assoc) c.write.ensures.bytes
