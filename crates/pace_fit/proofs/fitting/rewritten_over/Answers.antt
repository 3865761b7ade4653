use Rattle.std.proofs.Common.{ℕ, Option, None, subst}
use Rattle.std.specs.Prelude.{Vec}
use Rattle.std.specs.declared.alloc.Global.{Global}
use Rattle.scale_base.specs.declared.summary.Summary.{Summary}
use Rattle.scaler.specs.RewrittenRuns.{IsRewrittenSafely}
use Rattle.gain_tuner.specs.declared.choosing.Trial.{Trial}
use Rattle.gain_tuner.specs.Finding.{IsTried}
use Rattle.pace_fit.specs.Finding.{given_inputs}
use Rattle.pace_fit.proofs.Numbers.{if_ok, rewrite_found}
use Rattle.pace_fit.proofs.fitting.rewritten_over.Goals as goal

pub trial_from-requires-clause-safe : goal.trial_from-requires-clause-safe
trial_from-requires-clause-safe g c =
    let files = c.args.files.now in
    if_ok c.rewrite-made.result (λ (given : Vec ℕ Global × Summary) (h : IsRewrittenSafely files.image.now files.machine.now files.loops.now given.0.items given.1). h.safe) c.rewrite-made.ensures.safe

pub returns-in-None : goal.returns-in-None
returns-in-None g c =
    let files = c.args.files.now in
    rewrite_found files c.rewrite-made.result None c.rewrite-made.ensures.given
    (subst (λ (tried : Option Trial). IsTried files.image.now files.machine.now files.loops.now (given_inputs files) 0 c.rewrite-made.result tried) c.in-None.is c.in_ok-trial.ensures)
