use Rattle.std.proofs.Common.{refl}
use Rattle.scale_base.specs.Image.{contents}
use Rattle.scale_base.proofs.Laws.{accepted}
use Rattle.elf_image.proofs.view.ImageView.file.Goals as goal

pub returns-clause-bytes : goal.returns-clause-bytes
unfolding contents
returns-clause-bytes c = rw (← c.self.view_is) refl

pub returns-clause-image : goal.returns-clause-image
unfolding contents
returns-clause-image c = rw (← c.self.view_is) (accepted c.self.inside.bytes.now c.self.invariant.accepted)
