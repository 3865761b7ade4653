use Rattle.std.proofs.Common.{◌∙◌}
use Rattle.gain_tuner.specs.Spending.{counts}
use Rattle.pace_fit.proofs.Runs.{flags_over}
use Rattle.pace_fit.proofs.fitting.choose.Goals as goal

pub fit-requires-clause-files : goal.fit-requires-clause-files
fit-requires-clause-files g c = record {
  image = c.requires.image;
  machine = c.requires.machine;
  loops = c.requires.loops;
  few = c.requires.few;
  flags = c.deref.ensures.value ∙ (c.requires.prepared.flags ∙ flags_over (counts c.args.given.now.image.now c.args.given.now.machine.now c.args.given.now.loops.now) c.args.given.now.inputs.now);
}
