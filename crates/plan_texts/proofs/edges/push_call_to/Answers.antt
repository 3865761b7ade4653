use Rattle.std.proofs.Common.{◌∙◌, append_assoc}
use Rattle.std.proofs.lemmas.Result.{on_ok_weaker}
use Rattle.plan_texts.specs.Dot.{call_to}
use Rattle.plan_texts.proofs.edges.push_call_to.Goals as goal

pub returns : goal.returns
unfolding call_to
returns c = on_ok_weaker c.write.result (λ e. e ∙ rw (c.in_ok-push_arrow.ensures, c.line_width-width.ensures) (simp append_assoc)) c.write.ensures.bytes
