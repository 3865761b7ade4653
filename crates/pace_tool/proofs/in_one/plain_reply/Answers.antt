use Rattle.std.proofs.Common.{[], ◌++◌, Bool, List, ℕ, append-nil, refl, subst, sym}
use Rattle.std.specs.Prelude.{string_bytes}
use Rattle.host_runs.specs.Views.{files_view}
use Rattle.pace_tool.specs.InOne.{IsTried, MakesOfTried}
use Rattle.pace_tool.proofs.ToldInOne.{Replies, tried_told}
use Rattle.pace_tool.proofs.in_one.plain_reply.Goals as goal

pub returns-else-goal : goal.returns-else-goal
returns-else-goal g c =
    let to = c.args.goal.now in
    let inputs = files_view to.inputs.items.now in
    let image : List ℕ = c.args.image.now in
    let text : List ℕ = string_bytes c.args.text in
    tried_told to.machine.now to.out.now to.most inputs to.versions image text image [] c.tried_reply.result
    (subst (λ (versions : Bool). IsTried to.machine.now to.most inputs versions image image []) (sym c.if-goal.false) (refl, refl))
    (subst (λ (all : List ℕ). Replies (MakesOfTried to.machine.now to.out.now to.most inputs image all) c.tried_reply.result) (sym (append-nil text)) c.tried_reply.ensures)
