use Rattle.std.proofs.Common.{◌∙◌, append_assoc}
use Rattle.std.proofs.lemmas.Result.{on_ok_weaker}
use Rattle.run_pictures.specs.PictureTexts.{power_unit}
use Rattle.run_pictures.proofs.frames.push_power_unit.Goals as goal

pub returns : goal.returns
unfolding power_unit
returns c = on_ok_weaker c.write.result (λ e. e ∙ simp append_assoc) c.write.ensures.bytes
