use Rattle.std.proofs.Common.{append_assoc}
use Rattle.scale_report.proofs.surveys.totals_text.Goals as goal

pub returns : goal.returns
returns c =
    rw (
      c.in_ok-push_number-9.ensures,
      c.in_ok-push_number-8.ensures,
      c.in_ok-push_number-7.ensures,
      c.in_ok-push_number-6.ensures,
      c.in_ok-push_number-5.ensures,
      c.in_ok-push_number-4.ensures,
      c.in_ok-push_number-3.ensures,
      c.in_ok-push_number-2.ensures,
      c.in_ok-push_number.ensures,
      c.new-text.ensures.bytes,
      c.from.ensures,
      c.from-2.ensures,
      c.from-3.ensures,
      c.from-4.ensures,
    )
    (simp append_assoc)
