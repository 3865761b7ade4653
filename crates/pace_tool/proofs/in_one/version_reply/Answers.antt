use Rattle.std.proofs.Common.{◌≡◌, ◌∙◌, ◌++◌, List, ℕ, ap, inr, refl, subst, true}
use Rattle.std.specs.Prelude.{string_bytes}
use Rattle.host_runs.specs.Views.{files_view}
use Rattle.pace_tool.specs.InOne.{MakesOfTried}
use Rattle.pace_tool.specs.Texts.{version_text}
use Rattle.pace_tool.proofs.ToldInOne.{Replies, tried_told}
use Rattle.pace_tool.proofs.in_one.version_reply.Goals as goal

pub returns : goal.returns
returns g c =
    let to = c.args.fitting.now.goal.now in
    let inputs = files_view to.inputs.items.now in
    let text : List ℕ = string_bytes c.args.text in
    let told : List ℕ = version_text c.args.chosen.now in
    let same : string_bytes c.push_str.new.self ≡ text ++ told = c.in_ok-push_str.ensures.bytes ∙ ap (λ (more : List ℕ). text ++ more) (c.as_str.ensures.value ∙ c.in_ok-version_text.ensures) in
    tried_told to.machine.now to.out.now to.most inputs true c.args.fitting.now.image.now text c.args.chosen.now.version.file.items told c.tried_reply.result (inr (c.args.chosen.now, c.requires, refl, refl))
    (subst (λ (file : List ℕ). Replies (MakesOfTried to.machine.now to.out.now to.most inputs file (text ++ told)) c.tried_reply.result) c.deref.ensures.value
    (subst (λ (all : List ℕ). Replies (MakesOfTried to.machine.now to.out.now to.most inputs c.deref.result.now all) c.tried_reply.result) same c.tried_reply.ensures))
