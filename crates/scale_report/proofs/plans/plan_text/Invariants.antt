use Rattle.std.proofs.Common.{◌≡◌, ◌++◌, take, string_bytes}
use Rattle.std.specs.List.{flat_map}
use Rattle.scale_report.specs.Texts.{summary_text, site_line}
use Rattle.scale_report.proofs.plans.plan_text.Given as goal

abbrev pub invariant-loop-line : goal.invariant-loop-line
invariant-loop-line l = string_bytes l.text ≡ summary_text l.plan.summary ++ flat_map site_line (take l.line-index l.line-items)
