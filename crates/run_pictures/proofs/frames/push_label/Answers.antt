use Rattle.std.proofs.Common.{◌∙◌, append_assoc}
use Rattle.std.proofs.lemmas.Result.{on_ok_weaker}
use Rattle.run_pictures.specs.PictureTexts.{deadline_label}
use Rattle.run_pictures.proofs.frames.push_label.Goals as goal

pub returns : goal.returns
unfolding deadline_label
returns c = on_ok_weaker c.write.result (λ e. e ∙ rw (c.anchor_at-anchor.ensures) (simp append_assoc)) c.write.ensures.bytes
