use Rattle.std.proofs.Common.{◌∙◌}
use Rattle.scale_base.specs.Image.{contents}
use Rattle.elf_image.proofs.Stored.{place_within}
use Rattle.elf_image.proofs.view.ImageView.file_place.Goals as goal

pub returns-clause-value : goal.returns-clause-value
unfolding contents
returns-clause-value c =
    let segments = c.deref.ensures.value ∙ c.self.invariant.segments_are in
    rw (← c.self.view_is) (rw segments at c.place_in.ensures)

pub returns-clause-within : goal.returns-clause-within
unfolding contents
returns-clause-within c =
    rw (← c.self.view_is, c.place_in.ensures, c.deref.ensures.value) (place_within c.self.inside.bytes.now c.self.inside.segments.items c.args.at c.self.invariant.in_file)
