use Rattle.std.proofs.Common.{◌≡◌, ◌∙◌, ◌≤◌, ◌∷◌, length, ℕ, List, ap, subst, sym, arith}
use Rattle.std.specs.Prelude.{Vec}
use Rattle.std.specs.declared.alloc.Global.{Global}
use Rattle.std.specs.List.{All}
use Rattle.host_runs.specs.Answer.{Answer}
use Rattle.host_runs.specs.Views.{files_view}
use Rattle.loop_drafts.specs.Kept.{AreBytes}
use Rattle.pace_tool.specs.Answer.{Makes}
use Rattle.pace_tool.specs.Command.{input_limit, input_wants}
use Rattle.pace_tool.specs.InOne.{MakesInOne}
use Rattle.pace_tool.specs.Views.{in_one_view, texts}
use Rattle.pace_tool.proofs.GivenInputs.{as_many, two_and_others, two_first, two_limits}
use Rattle.pace_tool.proofs.ToldInOne.{Replies, made_told}
use Rattle.pace_tool.proofs.in_one.in_one_made.Goals as goal

pub invariant_of-inputs : goal.invariant_of-inputs
invariant_of-inputs g c =
    let files : List (Vec ℕ Global) = c.args.files.now in
    let command = c.args.command.now in
    let split = two_first (input_limit command.limit.most) command.limit.low (texts command.inputs.names.now) (command.image.now, 4194304) (command.machine.now, 1048576) files c.requires in
    let count : length c.split_at.result.1.now ≡ length command.inputs.names.now = as_many 2 _ command.inputs.names.now files c.split_at.result.1.now split c.split_at.ensures.back in
    let few = command.inputs.few in
    record {
      few = omega arith;
      short = subst (λ (xs : List (Vec ℕ Global)). All (λ input. length input.items ≤ 1048576) xs) (sym c.split_at.ensures.back) split.short;
    }

pub invariant_of-goal : goal.invariant_of-goal
invariant_of-goal g c =
    let command = c.args.command.now in
    let limits = two_limits (command.image.now, 4194304) (command.machine.now, 1048576) (input_wants (input_limit command.limit.most) (texts command.inputs.names.now)) c.args.files.now c.split_at.result.0.now c.index-first-0.result c.index-first-1.result c.requires c.split_at.ensures.front c.index-first-0.is c.index-first-1.is in
    record { short = subst (λ (bytes : List ℕ). length bytes ≤ 1048576) (sym c.deref.ensures.value) limits.1 }

pub goal_reply-requires : goal.goal_reply-requires
goal_reply-requires g c =
    let command = c.args.command.now in
    let limits = two_limits (command.image.now, 4194304) (command.machine.now, 1048576) (input_wants (input_limit command.limit.most) (texts command.inputs.names.now)) c.args.files.now c.split_at.result.0.now c.index-first-0.result c.index-first-1.result c.requires c.split_at.ensures.front c.index-first-0.is c.index-first-1.is in
    subst (λ (bytes : List ℕ). length bytes ≤ 4194304) (sym c.deref-2.ensures.value) limits.0

pub returns : goal.returns
returns g c =
    let command = c.args.command.now in
    let files : List (Vec ℕ Global) = c.args.files.now in
    let given : List (Vec ℕ Global) = c.split_at.result.1.now in
    let first = c.index-first-0.result in
    let second = c.index-first-1.result in
    let split = two_first (input_limit command.limit.most) command.limit.low (texts command.inputs.names.now) (command.image.now, 4194304) (command.machine.now, 1048576) files c.requires in
    let same : files_view files ≡ first.items ∷ second.items ∷ files_view given =
    two_and_others files c.split_at.result.0.now given first second split.enough c.split_at.ensures.front c.split_at.ensures.back c.index-first-0.is c.index-first-1.is in
    let read : files_view files ≡ c.deref-2.result.now ∷ c.deref.result.now ∷ files_view given =
    same ∙ ap (λ (bytes : List ℕ). bytes ∷ second.items ∷ files_view given) (sym c.deref-2.ensures.value) ∙ ap (λ (bytes : List ℕ). c.deref-2.result.now ∷ bytes ∷ files_view given) (sym c.deref.ensures.value) in
    subst (λ (loaded : List (List ℕ)). Replies (Makes (in_one_view command) loaded) c.goal_reply.result) (sym read)
    (made_told c.deref.result.now command.out.now command.limit.most (files_view given) c.deref-2.result.now command.versions c.goal_reply.result c.goal_reply.ensures.bytes c.goal_reply.ensures.told)
