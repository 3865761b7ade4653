use Rattle.std.proofs.Common.{◌∙◌}
use Rattle.image_maker.proofs.MadeLaws.{program_is_short, headers_are_low}
use Rattle.image_maker.proofs.MadeFits.{program-assembles, program-has_words}
use Rattle.image_maker.proofs.SmallFiles.{small_image, small_machine, small_loops}
use Rattle.image_maker.proofs.maker.make.Goals as goal

pub make_image-requires-clause-few : goal.make_image-requires-clause-few
make_image-requires-clause-few c = rw (c.deref.ensures.value, c.in_ok-program.ensures.lines) (program_is_short c.args.number c.args.size c.requires)

pub make_image-requires-clause-assemble : goal.make_image-requires-clause-assemble
make_image-requires-clause-assemble c = rw (c.deref.ensures.value, c.in_ok-program.ensures.lines) (program-assembles c.args.number c.args.size (program_is_short c.args.number c.args.size c.requires))

pub loops_text-requires : goal.loops_text-requires
loops_text-requires c = rw (c.deref-2.ensures.value, c.in_ok-program.ensures.headers) (headers_are_low c.args.number c.args.size c.requires)

pub make_image-requires-clause-some : goal.make_image-requires-clause-some
make_image-requires-clause-some c = rw (c.deref.ensures.value, c.in_ok-program.ensures.lines) (program-has_words c.args.number c.args.size)

pub returns-clause-small : goal.returns-clause-small
returns-clause-small c = (
  small_image c.args.number c.args.size c.in_ok-image.image.items c.requires (rw (c.deref.ensures.value, c.in_ok-program.ensures.lines) at c.in_ok-image.ensures.lines),
  rw (c.into_bytes-machine.ensures.value, c.in_ok-machine_text.ensures) (small_machine c.args.size c.requires),
  rw c.into_bytes-loops.ensures.value (small_loops c.args.number c.args.size _ _ c.requires c.in_ok-loops_text.ensures (c.deref-2.ensures.value ∙ c.in_ok-program.ensures.headers)),
)
