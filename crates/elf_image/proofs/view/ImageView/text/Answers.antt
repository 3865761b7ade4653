use Rattle.std.proofs.Common.{◌∙◌}
use Rattle.scale_base.specs.Image.{contents}
use Rattle.scale_base.proofs.Laws.{accepted}
use Rattle.elf_image.proofs.view.ImageView.text.Goals as goal

pub returns-clause-ranges : goal.returns-clause-ranges
returns-clause-ranges c = rw (← c.self.view_is) (c.deref.ensures.value ∙ c.self.invariant.text_is)

pub returns-clause-image : goal.returns-clause-image
unfolding contents
returns-clause-image c = rw (← c.self.view_is) (accepted c.self.inside.bytes.now c.self.invariant.accepted)

pub returns-clause-ascending : goal.returns-clause-ascending
returns-clause-ascending c = rw (← c.self.view_is, ← c.self.invariant.text_is) c.self.invariant.ascending
