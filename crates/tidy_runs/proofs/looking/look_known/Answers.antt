use Rattle.std.proofs.Common.{◌∙◌, List, refl, ap, sym, subst}
use Rattle.scale_base.specs.declared.stepping.StepEnd.{StepEnd}
use Rattle.scale_base.specs.Step.{Outcome, step, performs}
use Rattle.scale_base.proofs.Laws.{outcome}
use Rattle.stack_laws.specs.Tidy.{IsTidyStep}
use Rattle.machine_laws.proofs.Laws.{step_performs}
use Rattle.rv_machine.specs.Machine.{machine_setting, state_of}
use Rattle.stack_tables.specs.Tables.{claim_stacks, claim_values}
use Rattle.tidy_runs.specs.declared.activations.Activation.{Activation}
use Rattle.tidy_runs.specs.Looking.{active_now}
use Rattle.tidy_runs.proofs.Following.{looked}
use Rattle.tidy_runs.proofs.looking.look_known.Goals as goal

pub returns-clause-looked : goal.returns-clause-looked
returns-clause-looked g c =
    let env = machine_setting g.M.Memory.layout c.args.machine.now in
    let s = state_of g.M.Memory.bytes c.args.machine.now in
    let w = claim_stacks c.args.claim.now in
    let performed = step_performs env s c.args.known.now.instr c.requires.known.fetched c.requires.known.instr in
    looked (claim_values c.args.claim.now) w s _ (step env s) c.end-end.result _ _ _ (ap (λ (e : StepEnd). outcome e (state_of g.M.Memory.bytes c.step_decoded-effect.new.machine)) c.end-end.ensures ∙ c.step_decoded-effect.ensures.outcome)
    (subst (λ (o : Outcome). IsTidyStep w s.pc (active_now c.args.active.now.items) s.bytes o.state.bytes) (sym performed)
    (subst (λ (xs : List Activation). IsTidyStep w s.pc (active_now xs) s.bytes (performs env s c.args.known.now.instr c.args.known.now.instr).state.bytes) c.deref.ensures.value (c.broken_at.ensures.tidy c.in_default.is env s refl)))
    c.arrive.ensures
