use Rattle.std.proofs.Common.{◌∙◌, append_assoc}
use Rattle.std.proofs.lemmas.Result.{on_ok_weaker}
use Rattle.plan_texts.specs.Dot.{title}
use Rattle.plan_texts.proofs.Lines.{on-ok-added}
use Rattle.plan_texts.proofs.dot.push_title.Goals as goal

pub returns : goal.returns
unfolding title
returns c = on_ok_weaker c.push_str-2.result (λ e. e ∙ rw (c.in_ok-push_str.ensures.bytes, c.in_ok-write.ensures.bytes) (simp append_assoc)) (on-ok-added c.push_str-2.result _ _ _ c.push_str-2.ensures.bytes)
