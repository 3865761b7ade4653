use Rattle.std.proofs.Common.{◌∙◌, append_assoc}
use Rattle.std.proofs.lemmas.Result.{on_ok_weaker}
use Rattle.run_pictures.specs.PictureTexts.{rectangle_words}
use Rattle.run_pictures.proofs.bars.push_rectangle_words.Goals as goal

pub returns : goal.returns
unfolding rectangle_words
returns c = on_ok_weaker c.write.result (λ e. e ∙ simp append_assoc) c.write.ensures.bytes
