use Rattle.std.proofs.Common.{◌∙◌, append_assoc}
use Rattle.std.proofs.lemmas.Result.{on_ok_weaker}
use Rattle.plan_texts.specs.Dot.{loop_words}
use Rattle.plan_texts.proofs.clusters.push_loop_words.Goals as goal

pub returns : goal.returns
unfolding loop_words
returns c = on_ok_weaker c.write.result (λ e. e ∙ simp append_assoc) c.write.ensures.bytes
