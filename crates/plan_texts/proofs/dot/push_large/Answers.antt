use Rattle.std.proofs.Common.{◌∙◌, append_assoc}
use Rattle.std.proofs.lemmas.Result.{on_ok_weaker}
use Rattle.plan_texts.proofs.dot.push_large.Goals as goal

pub returns : goal.returns
returns c = on_ok_weaker c.push_calling_blocks.result (λ e. e ∙ rw (c.deref.ensures.value, c.deref-2.ensures.value, c.in_ok-push_clusters.ensures, c.in_ok-push_str.ensures.bytes) (simp append_assoc)) c.push_calling_blocks.ensures
