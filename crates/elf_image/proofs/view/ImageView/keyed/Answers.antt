use Rattle.elf_image.proofs.view.ImageView.keyed.Goals as goal

pub returns : goal.returns
returns c = rw (← c.self.view_is) c.self.invariant.keyed_is
