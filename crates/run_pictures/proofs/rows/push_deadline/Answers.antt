use Rattle.std.proofs.Common.{◌∙◌, append_assoc}
use Rattle.std.proofs.lemmas.Result.{on_ok_weaker}
use Rattle.run_pictures.specs.PictureTexts.{deadline_line}
use Rattle.run_pictures.proofs.rows.push_deadline.Goals as goal

pub returns : goal.returns
unfolding deadline_line
returns c = on_ok_weaker c.write.result (λ e. e ∙ simp append_assoc) c.write.ensures.bytes
