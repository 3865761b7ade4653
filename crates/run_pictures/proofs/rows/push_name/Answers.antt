use Rattle.std.proofs.Common.{◌∙◌, append_assoc}
use Rattle.std.proofs.lemmas.Result.{on_ok_weaker}
use Rattle.run_pictures.proofs.TextLoops.{on-ok-added}
use Rattle.run_pictures.proofs.rows.push_name.Goals as goal

pub returns : goal.returns
returns c = on_ok_weaker c.push_str-2.result (λ e.
    e
    ∙ rw (
      c.in_ok-push_escaped-2.ensures,
      c.in_ok-push_str.ensures.bytes,
      c.in_ok-push_escaped.ensures,
      c.in_ok-push_name_head.ensures,
      c.as_str.ensures.value,
      c.as_str-2.ensures.value,
      c.row_top.ensures,
    )
    (simp append_assoc)) (on-ok-added c.push_str-2.result _ _ _ c.push_str-2.ensures.bytes)
