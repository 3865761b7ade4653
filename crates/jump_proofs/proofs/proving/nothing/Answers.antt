use Rattle.jump_proofs.proofs.Shown.{none_proved}
use Rattle.jump_proofs.proofs.proving.nothing.Goals as goal

pub returns : goal.returns
returns c = none_proved c.args.original.now c.args.lowered.now c.args.notes.now c.none.result c.none.ensures.jumps c.none.ensures.returns
