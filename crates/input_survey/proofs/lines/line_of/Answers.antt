use Rattle.std.proofs.Common.{◌∙◌, ◌<◌, ap, sym, subst, length, Some}
use Rattle.scale_base.specs.declared.endings.Kept.{Kept}
use Rattle.power_model.specs.Report.{report_view}
use Rattle.input_survey.proofs.LineLaws.{line_made, report_start, report_held}
use Rattle.input_survey.proofs.lines.line_of.Goals as goal

pub held_of-held-requires : goal.held_of-held-requires
held_of-held-requires g c =
    subst (λ n. n < length c.args.images.now.power.now.levels)
    (c.requires.start ∙ sym (report_start c.args.images.now.power.now c.args.images.now.scaled.now c.args.input.now (report_view c.in_ok-scaled.scaled) c.in_ok-scaled.ensures)) c.requires.is_level

pub returns-clause-line : goal.returns-clause-line
returns-clause-line g c =
    line_made _ _ (report_view c.in_ok-run.run') (report_view c.in_ok-scaled.scaled) c.kept.result c.are_same-same.result c.held_of-held.result
    c.in_ok-run.ensures.report c.in_ok-scaled.ensures (c.in_ok-run.ensures.kept ∙ ap (λ (k : Kept). Some k) (sym c.kept.ensures))
    (report_held c.args.images.now.power.now c.args.images.now.scaled.now c.args.input.now (report_view c.in_ok-scaled.scaled) c.held_of-held.result c.in_ok-scaled.ensures c.held_of-held.ensures.held)
    c.are_same-same.ensures
