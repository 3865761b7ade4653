use Rattle.std.proofs.Common.{◌∙◌, append_assoc}
use Rattle.std.proofs.lemmas.Result.{on_ok_weaker}
use Rattle.run_pictures.specs.PictureTexts.{level_bar}
use Rattle.run_pictures.proofs.frames.push_level_bar.Goals as goal

pub returns : goal.returns
unfolding level_bar
returns c = on_ok_weaker c.write.result (λ e. e ∙ simp append_assoc) c.write.ensures.bytes
