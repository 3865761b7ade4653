use Rattle.std.proofs.Common.{◌∙◌, sym}
use Rattle.scale_base.specs.Image.{contents}
use Rattle.elf_image.proofs.view.ImageView.symbol.Goals as goal

pub returns : goal.returns
unfolding contents
returns c = rw (← c.self.view_is) (rw c.as_bytes.ensures.value at c.value.ensures ∙ sym (c.self.invariant.symbols_are c.args.name.now))
