use Rattle.std.proofs.Common.{List, ℕ, ◌++◌, ap, take_all, ◌∙◌}
use Rattle.std.specs.List.{flat_map}
use Rattle.scale_base.specs.declared.plan.SiteLine.{SiteLine}
use Rattle.scale_report.specs.Texts.{summary_text, site_line}
use Rattle.scale_report.proofs.SiteLines.{lines-more}
use Rattle.scale_report.proofs.plans.plan_text.Goals as goal

pub loop-line-preserved : goal.loop-line-preserved
loop-line-preserved c =
    c.in_ok-push_site.ensures
    ∙ ap (λ (text : List ℕ). text ++ site_line c.line-item.result) c.loop-line.invariant
    ∙ lines-more (summary_text c.args.plan.now.summary) c.deref-line-items.result.now c.loop-line.line-index c.line-item.result c.loop-line-test.true c.line-item.is

pub returns : goal.returns
returns c =
    c.loop-line.invariant
    ∙ ap (λ (lines : List SiteLine). summary_text c.args.plan.now.summary ++ flat_map site_line lines)
    (take_all c.loop-line.line-index c.deref-line-items.result.now c.loop-line-test.false ∙ c.deref-line-items.ensures.value)
