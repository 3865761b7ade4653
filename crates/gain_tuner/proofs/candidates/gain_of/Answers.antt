use Rattle.gain_tuner.proofs.Numbered.{gain_fits}
use Rattle.gain_tuner.proofs.candidates.gain_of.Goals as goal

pub pow-requires : goal.pow-requires
pow-requires c = gain_fits c.args.k c.requires
