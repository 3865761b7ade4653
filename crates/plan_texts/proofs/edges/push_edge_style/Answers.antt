use Rattle.std.proofs.Common.{◌∙◌, append_assoc}
use Rattle.std.proofs.lemmas.Result.{on_ok_weaker}
use Rattle.plan_texts.specs.Dot.{edge_style}
use Rattle.plan_texts.proofs.edges.push_edge_style.Goals as goal

pub returns : goal.returns
unfolding edge_style
returns c = on_ok_weaker c.write.result (λ e. e ∙ rw (c.line_style-style.ensures, c.arrow_head-arrow.ensures, c.line_color-color.ensures, c.line_color-words.ensures, c.line_width-width.ensures, c.is_marked-marked.ensures, c.is_taken-taken.ensures) (simp append_assoc)) c.write.ensures.bytes
