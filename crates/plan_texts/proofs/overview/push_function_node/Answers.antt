use Rattle.std.proofs.Common.{◌∙◌, append_assoc}
use Rattle.std.proofs.lemmas.Result.{on_ok_weaker}
use Rattle.plan_texts.specs.Dot.{function_node}
use Rattle.plan_texts.proofs.Lines.{on-ok-added}
use Rattle.plan_texts.proofs.overview.push_function_node.Goals as goal

pub returns : goal.returns
unfolding function_node
returns c = on_ok_weaker c.push_str.result (λ e. e ∙ rw (c.in_ok-push_function_words.ensures, c.in_ok-write.ensures.bytes, c.in_ok-push_function_head.ensures) (simp append_assoc)) (on-ok-added c.push_str.result _ _ _ c.push_str.ensures.bytes)
