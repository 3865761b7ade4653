use Rattle.std.proofs.Common.{◌∙◌}
use Rattle.elf_image.proofs.view.ImageView.is_text_word.Goals as goal

pub returns : goal.returns
returns c =
    let text = c.deref.ensures.value ∙ c.self.invariant.text_is in
    rw (← c.self.view_is) (rw text at c.is_word_in.ensures)
