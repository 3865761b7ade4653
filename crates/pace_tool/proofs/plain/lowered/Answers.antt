use Rattle.std.proofs.Common.{◌≡◌, ◌∙◌, ◌++◌, ℕ, List, true, ap, subst, Ok, Err}
use Rattle.std.specs.Prelude.{string_bytes, Vec}
use Rattle.std.specs.declared.alloc.Global.{Global}
use Rattle.std.proofs.lemmas.Result.{err_from_is_err_and}
use Rattle.scale_base.specs.Answer.{AnswersBy}
use Rattle.scale_base.specs.declared.summary.Lowered.{Lowered}
use Rattle.scale_report.specs.Texts.{lowered_text}
use Rattle.image_lower.specs.Lowered.{IsLowered}
use Rattle.jump_drafts.specs.Texts.{jumps_text}
use Rattle.pace_tool.specs.InOne.{IsPlainFor}
use Rattle.pace_tool.specs.Told.{written_view}
use Rattle.pace_tool.proofs.Told.{stopped}
use Rattle.pace_tool.proofs.plain.lowered.Goals as goal

abbrev seen : Vec ℕ Global × Lowered → List ℕ × Lowered
seen made = (made.0.items, made.1)

pub returns-in_err-bytes : goal.returns-in_err-bytes
returns-in_err-bytes c =
    let p = err_from_is_err_and c.from_residual-in_err-bytes.result c.from_residual-in_err-bytes.ensures.1 in
    let stop = c.in_err-bytes.field-0.0 in
    let given : AnswersBy seen (Err stop) (IsLowered c.args.image.now (string_bytes c.args.draft.now.file)) =
    subst (λ (file : List ℕ). AnswersBy seen (Err stop) (IsLowered c.args.image.now file)) c.as_bytes.ensures.value c.in_err-bytes.ensures.given in
    rw (p.1, p.2) (stopped seen written_view stop (IsLowered c.args.image.now (string_bytes c.args.draft.now.file)) (IsPlainFor true c.args.image.now c.args.draft.now) given (λ r h. h))

pub returns : goal.returns
returns c =
    let counts = c.in_ok-bytes.counts in
    let text : string_bytes c.push_lowered.new.text ≡ jumps_text c.args.draft.now ++ lowered_text counts = c.in_ok-push_lowered.ensures ∙ ap (λ (t : List ℕ). t ++ lowered_text counts) c.in_ok-text.ensures in
    (counts, subst (λ (file : List ℕ). IsLowered c.args.image.now file (Ok ((c.in_ok-bytes.bytes.items, counts)))) c.as_bytes.ensures.value c.in_ok-bytes.ensures.given, text)
