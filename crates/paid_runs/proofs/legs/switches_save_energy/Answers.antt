use Rattle.paid_runs.proofs.Energies.{energy_sum, switches_save}
use Rattle.paid_runs.proofs.legs.switches_save_energy.Goals as goal

pub returns-clause-sum : goal.returns-clause-sum
returns-clause-sum c = energy_sum

pub returns-clause-saves : goal.returns-clause-saves
returns-clause-saves c = switches_save
