use Rattle.std.proofs.Common.{◌∙◌, append_assoc}
use Rattle.std.proofs.lemmas.Result.{on_ok_weaker}
use Rattle.plan_texts.specs.Dot.{block_words}
use Rattle.plan_texts.proofs.blocks.push_block_words.Goals as goal

pub returns : goal.returns
unfolding block_words
returns c = on_ok_weaker c.push_ends.result (λ e. e ∙ rw (c.deref.ensures.value, c.in_ok-write-2.ensures.bytes, c.in_ok-push_name.ensures, c.in_ok-write.ensures.bytes) (simp append_assoc)) c.push_ends.ensures
