use Rattle.std.proofs.Common.{◌<◌, arith}
use Rattle.gain_tuner.proofs.tuning.tune_with_progress.Goals as goal

pub returns-clause-saves : goal.returns-clause-saves
returns-clause-saves g c =
    let h = c.in_ok-tune_held.ensures.choice in
    let some : 0 < 33 = omega arith in
    h.cheapest.least 0 h.held h.held_summary c.in_ok-tune_held.field-0.1.hold_energy some h.hold
