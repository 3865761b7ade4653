use Rattle.std.proofs.lemmas.Result.{err_from_is_err_and}
use Rattle.machine_file.specs.Machine.{machine_of}
use Rattle.machine_file.proofs.Exits.{stops-then}
use Rattle.machine_file.proofs.reads.machine.Goals as goal

pub returns-in_err-check_keys-clause-answers : goal.returns-in_err-check_keys-clause-answers
unfolding machine_of
returns-in_err-check_keys-clause-answers c =
    let p = err_from_is_err_and c.from_residual-in_err-check_keys.result c.from_residual-in_err-check_keys.ensures.1 in
    rw (p.1, p.2) (rw c.in_ok-version.ensures (stops-then _ _ _ c.in_err-check_keys.ensures))

-- both costs of switches come after what is read before them
pub returns-in_err-switch_time-clause-answers : goal.returns-in_err-switch_time-clause-answers
unfolding machine_of
returns-in_err-switch_time-clause-answers c =
    let p = err_from_is_err_and c.from_residual-in_err-switch_time.result c.from_residual-in_err-switch_time.ensures.1 in
    rw (p.1, p.2) (rw (
      c.in_ok-version.ensures,
      c.in_ok-check_keys.ensures,
      c.in_ok-top.ensures.numbers,
      c.in_ok-in_costs.ensures,
      c.in_ok-in_levels.ensures.tables,
      c.in_ok-costs.ensures.costs,
      ← c.deref.ensures.value,
      c.in_ok-levels.ensures.levels,
      ← c.count-count.ensures.count,
    ) (stops-then _ _ _ c.in_err-switch_time.ensures))

pub returns-in_err-switch_energy-clause-answers : goal.returns-in_err-switch_energy-clause-answers
unfolding machine_of
returns-in_err-switch_energy-clause-answers c =
    let p = err_from_is_err_and c.from_residual-in_err-switch_energy.result c.from_residual-in_err-switch_energy.ensures.1 in
    rw (p.1, p.2) (rw (
      c.in_ok-version.ensures,
      c.in_ok-check_keys.ensures,
      c.in_ok-top.ensures.numbers,
      c.in_ok-in_costs.ensures,
      c.in_ok-in_levels.ensures.tables,
      c.in_ok-costs.ensures.costs,
      ← c.deref.ensures.value,
      c.in_ok-levels.ensures.levels,
      ← c.count-count.ensures.count,
      c.in_ok-switch_time.ensures,
    ) (stops-then _ _ _ c.in_err-switch_energy.ensures))
