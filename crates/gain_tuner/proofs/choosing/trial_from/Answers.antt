use Rattle.std.proofs.Common.{ℕ, List, None, Result, sym, subst}
use Rattle.std.specs.Prelude.{IfOk, Vec}
use Rattle.std.specs.declared.alloc.Global.{Global}
use Rattle.scale_base.specs.declared.refusal.Stop.{Stop}
use Rattle.scale_base.specs.declared.summary.Summary.{Summary}
use Rattle.marked_images.specs.Promise.{IsStoredSafely}
use Rattle.gain_tuner.specs.Finding.{RunsAlways}
use Rattle.gain_tuner.proofs.Runs.{stored_runs}
use Rattle.gain_tuner.proofs.choosing.trial_from.Goals as goal

pub spent_over-requires-clause-runs : goal.spent_over-requires-clause-runs
spent_over-requires-clause-runs g c =
    let files = c.args.files.now in
    let safe = subst (λ (made : Result (Vec ℕ Global × Summary) Stop). IfOk made (λ given. IsStoredSafely files.image.now files.machine.now files.loops.now given.0.items given.1)) c.in-Ok.is c.requires.safe in
    subst (λ (s : List ℕ). RunsAlways s files.machine.now None) (sym c.deref.ensures.value)
    (stored_runs files.image.now files.machine.now files.loops.now c.in-Ok.stored.items c.in-Ok.summary safe)
