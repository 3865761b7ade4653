use Rattle.cycle_laws.proofs.KeptWalks.{exit_takes_charged, exit_behind, exit_behind_return, run_behind}
use Rattle.cycle_laws.proofs.exits_take_the_charged.Goals as goal

pub returns-clause-node : goal.returns-clause-node
returns-clause-node c = exit_takes_charged

pub returns-clause-step : goal.returns-clause-step
returns-clause-step c = exit_behind

pub returns-clause-return_step : goal.returns-clause-return_step
returns-clause-return_step c = exit_behind_return

pub returns-clause-run : goal.returns-clause-run
returns-clause-run c = run_behind
