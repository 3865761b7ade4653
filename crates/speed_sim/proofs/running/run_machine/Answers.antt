use Rattle.std.proofs.Common.{◌≡◌, ◌∙◌, ap, arith, refl, subst, length}
use Rattle.scale_base.specs.State.{Setting}
use Rattle.scale_base.specs.Step.{step, PortBelow}
use Rattle.power_model.specs.Numbers.{PowerModel}
use Rattle.rv_machine.specs.Machine.{state_of, machine_setting}
use Rattle.speed_sim.proofs.AdvanceLaws.{progress_on, progress_over, code_still}
use Rattle.speed_sim.proofs.ProgressLaws.{progress_first}
use Rattle.speed_sim.proofs.running.run_machine.Goals as goal

pub loop-step-init : goal.loop-step-init
loop-step-init g c = record {
  progress = progress_first _ _ _ c.requires.start (c.new-tally.ensures c.args.given.now.power.now) refl;
  code = c.requires.code;
  costs = c.new-prices.ensures.costs;
}

pub loop-step-preserved : goal.loop-step-preserved
loop-step-preserved g c =
    let env = machine_setting g.M.Memory.layout c.loop-step.machine in
    let now = state_of g.M.Memory.bytes c.loop-step.machine in
    let levels : c.loop-step.machine.levels ≡ length c.args.given.now.power.now.levels = ap (λ (v : Setting). v.levels) c.loop-step.invariant.progress.env_is ∙ c.requires.levels in
    let advance = rw (c.in_default.is, c.new-prices.ensures.power) at c.advance.ensures.advance in
    record {
      progress = progress_on _ _ env now _ _ _ _ _ _ c.loop-step.invariant.progress advance c.advance.ensures.setting (subst (λ n. PortBelow (step env now).end n) levels c.advance.ensures.port);
      code = code_still _ _ env now _ _ _ _ _ _ c.args.code.now advance c.advance.ensures.setting c.loop-step.invariant.code;
      costs = c.loop-step.invariant.costs;
    }

pub returns-in-Some : goal.returns-in-Some
returns-in-Some g c =
    let limit : c.power.inside.steps ≡ c.args.given.now.power.now.steps = ap (λ (p : PowerModel). p.steps) c.power.view_is in
    let over = progress_over _ _ c.args.given.now.power.now.steps _ _ _ _ _ _ _ c.in-Some.end c.loop-step.invariant.progress (omega arith) (rw (c.in-Some.is, c.new-prices.ensures.power) at c.advance.ensures.advance) in
    record { end = over.end_is; paid = c.meter.ensures ∙ over.paid_is; state = over.state_is; watched = over.seen_is }
