use Rattle.std.proofs.Common.{◌∙◌, append_assoc}
use Rattle.std.proofs.lemmas.Result.{on_ok_weaker}
use Rattle.plan_texts.specs.Dot.{function_words}
use Rattle.plan_texts.proofs.clusters.push_function_words.Goals as goal

pub returns : goal.returns
unfolding function_words
returns c = on_ok_weaker c.write.result (λ e. e ∙ rw c.in_ok-push_name.ensures (simp append_assoc)) c.write.ensures.bytes
