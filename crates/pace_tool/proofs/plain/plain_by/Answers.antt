use Rattle.std.proofs.Common.{◌∙◌, Bool, subst, sym}
use Rattle.scale_base.specs.Answer.{AnswersBy}
use Rattle.pace_tool.specs.InOne.{IsPlainFor}
use Rattle.pace_tool.specs.Told.{written_view}
use Rattle.pace_tool.proofs.plain.plain_by.Goals as goal

pub returns-then-has_jumps : goal.returns-then-has_jumps
returns-then-has_jumps c =
    subst (λ (has : Bool). AnswersBy written_view c.lowered.result (IsPlainFor has c.args.image.now c.args.draft.now)) (sym c.if-has_jumps.true ∙ c.has_jumps.ensures) c.lowered.ensures

pub returns-else-has_jumps : goal.returns-else-has_jumps
returns-else-has_jumps c =
    subst (λ (has : Bool). AnswersBy written_view c.unchanged.result (IsPlainFor has c.args.image.now c.args.draft.now)) (sym c.if-has_jumps.false ∙ c.has_jumps.ensures) c.unchanged.ensures
