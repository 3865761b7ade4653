use Rattle.std.proofs.Common.{◌∙◌, append_assoc}
use Rattle.std.proofs.lemmas.Result.{on_ok_weaker}
use Rattle.run_pictures.specs.PictureTexts.{name_head}
use Rattle.run_pictures.proofs.rows.push_name_head.Goals as goal

pub returns : goal.returns
unfolding name_head
returns c = on_ok_weaker c.write.result (λ e. e ∙ simp append_assoc) c.write.ensures.bytes
