use Rattle.rv_machine.specs.Code.{IsDecodedCode}
use Rattle.rv_machine.specs.Machine.{machine_setting, state_of}
use Rattle.stack_tables.specs.Tables.{claim_stacks, claim_values}
use Rattle.tidy_runs.specs.Looking.{IsTidySoFar, active_now}
use Rattle.tidy_runs.proofs.running.look_along.Given as goal

abbrev pub invariant-loop-steps : goal.invariant-loop-steps
invariant-loop-steps g l = record {
  so_far : IsTidySoFar (claim_values l.claim) (claim_stacks l.claim) (machine_setting g.M.Memory.layout l.initial.machine) (state_of g.M.Memory.bytes l.initial.machine)
      l.steps (machine_setting g.M.Memory.layout l.machine) (state_of g.M.Memory.bytes l.machine) (active_now l.active.items);
  code : IsDecodedCode (g.M.Memory.layout l.machine.memory) (g.M.Memory.bytes l.machine.memory) l.code;
}
