use Rattle.std.proofs.Common.{◌+◌, refl, subst}
use Rattle.scale_base.specs.Step.{step}
use Rattle.rv_machine.specs.Machine.{machine_setting, state_of}
use Rattle.stack_tables.specs.Tables.{claim_stacks, claim_values}
use Rattle.tidy_runs.specs.declared.looking.Looked.{Looked}
use Rattle.tidy_runs.specs.Looking.{IsLooked, IsTidyEnd, IsTidyMove, active_now}
use Rattle.tidy_runs.proofs.Following.{so_far_none, so_far_more, all_tidy}
use Rattle.tidy_runs.proofs.Coding.{code_on}
use Rattle.tidy_runs.proofs.running.look_along.Goals as goal

pub loop-steps-init : goal.loop-steps-init
loop-steps-init g c = record {
  so_far = so_far_none (claim_values c.args.claim.now) (claim_stacks c.args.claim.now) (machine_setting g.M.Memory.layout c.args.machine.now) (state_of g.M.Memory.bytes c.args.machine.now)
      _ _ refl c.requires.active;
  code = c.requires.code;
}

pub loop-steps-preserved : goal.loop-steps-preserved
loop-steps-preserved g c =
    let v = claim_values c.args.claim.now in
    let w = claim_stacks c.args.claim.now in
    let env = machine_setting g.M.Memory.layout c.args.machine.now in
    let first = state_of g.M.Memory.bytes c.args.machine.now in
    let setting = machine_setting g.M.Memory.layout c.loop-steps.machine in
    let s = state_of g.M.Memory.bytes c.loop-steps.machine in
    let ys = active_now c.loop-steps.active.items in
    let next = state_of g.M.Memory.bytes c.look.new.machine in
    let zs = active_now c.look.new.active.items in
    let setting' = machine_setting g.M.Memory.layout c.look.new.machine in
    let move : IsTidyMove v w s ys (step setting s) next zs = subst (λ (l : Looked). IsLooked v w s ys (step setting s) next zs l) c.in-GoesOn.is c.look.ensures.looked in
    record {
      so_far = so_far_more v w env first c.loop-steps.steps setting s ys c.loop-steps.invariant.so_far next zs setting' move c.look.ensures.setting;
      code = code_on setting s next setting' c.args.code.now move.goes move.state_is c.look.ensures.setting c.loop-steps.invariant.code;
    }

pub returns-in-Ended-clause-tidy : goal.returns-in-Ended-clause-tidy
returns-in-Ended-clause-tidy g c =
    let v = claim_values c.args.claim.now in
    let w = claim_stacks c.args.claim.now in
    let env = machine_setting g.M.Memory.layout c.args.machine.now in
    let first = state_of g.M.Memory.bytes c.args.machine.now in
    let setting = machine_setting g.M.Memory.layout c.loop-steps.machine in
    let s = state_of g.M.Memory.bytes c.loop-steps.machine in
    let ys = active_now c.loop-steps.active.items in
    let next = state_of g.M.Memory.bytes c.look.new.machine in
    let zs = active_now c.look.new.active.items in
    let over : IsTidyEnd w s ys (step setting s) = subst (λ (l : Looked). IsLooked v w s ys (step setting s) next zs l) c.in-Ended.is c.look.ensures.looked in
    all_tidy v w env first c.loop-steps.steps setting s ys c.loop-steps.invariant.so_far over (c.loop-steps.steps + 1)

pub returns-in-Ended-clause-ended : goal.returns-in-Ended-clause-ended
returns-in-Ended-clause-ended g c ended =
    let v = claim_values c.args.claim.now in
    let w = claim_stacks c.args.claim.now in
    let env = machine_setting g.M.Memory.layout c.args.machine.now in
    let first = state_of g.M.Memory.bytes c.args.machine.now in
    let setting = machine_setting g.M.Memory.layout c.loop-steps.machine in
    let s = state_of g.M.Memory.bytes c.loop-steps.machine in
    let ys = active_now c.loop-steps.active.items in
    let next = state_of g.M.Memory.bytes c.look.new.machine in
    let zs = active_now c.look.new.active.items in
    let over : IsTidyEnd w s ys (step setting s) = subst (λ (l : Looked). IsLooked v w s ys (step setting s) next zs l) c.in-Ended.is c.look.ensures.looked in
    all_tidy v w env first c.loop-steps.steps setting s ys c.loop-steps.invariant.so_far over
