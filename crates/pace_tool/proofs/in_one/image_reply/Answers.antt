use Rattle.std.proofs.Common.{ℕ, List, subst, Ok, Err}
use Rattle.std.specs.Prelude.{String, string_bytes, Vec}
use Rattle.std.specs.declared.alloc.Global.{Global}
use Rattle.scale_base.specs.Answer.{AnswersBy}
use Rattle.scale_base.specs.declared.refusal.Stop.{Stop}
use Rattle.host_runs.specs.Views.{files_view}
use Rattle.pace_tool.specs.InOne.{MakesOfPlain, MakesPlain}
use Rattle.pace_tool.specs.Told.{written_view}
use Rattle.pace_tool.proofs.ToldInOne.{Replies, in_one_told}
use Rattle.pace_tool.proofs.in_one.image_reply.Goals as goal

pub returns-in-Ok : goal.returns-in-Ok
returns-in-Ok g c =
    let to = c.args.goal.now in
    let inputs = files_view to.inputs.items.now in
    let text = string_bytes c.in-Ok.text in
    in_one_told to.machine.now to.out.now to.most inputs c.args.image.now to.versions (Ok ((c.in-Ok.plain.items, text))) c.plain_reply.result c.in-Ok.ensures
    (subst (λ (xs : List ℕ). Replies (MakesOfPlain to.machine.now to.out.now to.most inputs to.versions (Ok ((xs, text)))) c.plain_reply.result) c.deref.ensures.value c.plain_reply.ensures)

pub returns-in-Err-Refused : goal.returns-in-Err-Refused
returns-in-Err-Refused g c =
    let to = c.args.goal.now in
    let refused : MakesPlain c.args.image.now (Err c.in-Err-Refused.refusal) =
    subst (λ (stop : Stop). AnswersBy {X = Vec ℕ Global × String Global} {Y = List ℕ × List ℕ} written_view (Err stop) (MakesPlain c.args.image.now)) c.in-Err-Refused.field-0-is c.in-Err-Refused.ensures in
    in_one_told to.machine.now to.out.now to.most (files_view to.inputs.items.now) c.args.image.now to.versions (Err c.in-Err-Refused.refusal) c.refused.result refused c.refused.ensures
