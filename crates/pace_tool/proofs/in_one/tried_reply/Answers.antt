use Rattle.std.proofs.Common.{◌≡◌, ◌<◌, ℕ, All, subst, Ok, Err, refl, arith}
use Rattle.std.specs.Prelude.{IfOk, string_bytes}
use Rattle.std.proofs.lemmas.List.{get_or_default}
use Rattle.scale_base.specs.Answer.{AnswersBy}
use Rattle.scale_base.specs.declared.refusal.Stop.{Stop}
use Rattle.host_runs.specs.Answer as answer
use Rattle.host_runs.specs.Views.{files_view, reply_view}
use Rattle.loop_drafts.specs.declared.drafted.LoopDraft.{LoopDraft}
use Rattle.loop_drafts.specs.Drafted.{IsDrafted}
use Rattle.loop_drafts.specs.Kept.{AreBytes}
use Rattle.pace_tool.specs.Views.{draft_view}
use Rattle.pace_tool.proofs.ToldInOne.{plain_told}
use Rattle.pace_tool.proofs.in_one.tried_reply.Goals as goal

pub drafted_reply-requires : goal.drafted_reply-requires
drafted_reply-requires g c = record { drafted = c.in-Ok.ensures.drafted; allowed = c.in-Ok.ensures.allowed; is_printed = refl }

pub returns-in-Ok : goal.returns-in-Ok
returns-in-Ok g c =
    let to = c.args.goal.now in
    let bytes : AreBytes c.args.image.now = λ k d lt. let fit = c.type_inv.image k in let same = get_or_default c.args.image.now k d 0 lt in omega (arith, fit, same) in
    plain_told to.machine.now to.out.now to.most (files_view to.inputs.items.now) c.args.image.now (string_bytes c.args.text) (Ok (draft_view c.in-Ok.draft)) c.drafted_reply.result bytes
    (record { drafted = c.in-Ok.ensures.drafted; allowed = c.in-Ok.ensures.allowed; is_printed = refl }) c.drafted_reply.ensures

pub returns-in-Err-Refused : goal.returns-in-Err-Refused
returns-in-Err-Refused g c =
    let to = c.args.goal.now in
    let bytes : AreBytes c.args.image.now = λ k d lt. let fit = c.type_inv.image k in let same = get_or_default c.args.image.now k d 0 lt in omega (arith, fit, same) in
    let refused : IsDrafted c.args.image.now to.most (Err c.in-Err-Refused.refusal) =
    subst (λ (stop : Stop). AnswersBy {X = LoopDraft} {Y = LoopDraft} (λ x. x) (Err stop) (IsDrafted c.args.image.now to.most)) c.in-Err-Refused.field-0-is c.in-Err-Refused.ensures.drafted in
    let told : IfOk c.refused.result (λ reply. reply_view reply ≡ answer.refused c.in-Err-Refused.refusal) = rw c.in-Err-Refused.field-0-is at c.refused.ensures in
    plain_told to.machine.now to.out.now to.most (files_view to.inputs.items.now) c.args.image.now (string_bytes c.args.text) (Err c.in-Err-Refused.refusal) c.refused.result bytes refused told
