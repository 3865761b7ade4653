use Rattle.scale_base.specs.Image.{contents}
use Rattle.elf_image.proofs.view.ImageView.entry.Goals as goal

pub returns : goal.returns
unfolding contents
returns c = rw (← c.self.view_is) c.word.ensures
