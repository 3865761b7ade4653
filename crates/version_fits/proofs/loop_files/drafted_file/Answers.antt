use Rattle.std.proofs.Common.{◌∙◌, refl, ap, length, arith}
use Rattle.loop_drafts.specs.Pieces.{printed}
use Rattle.version_fits.proofs.Printed.{printed_short}
use Rattle.version_fits.proofs.loop_files.drafted_file.Goals as goal

pub returns-in-Ok-clause-drafted : goal.returns-in-Ok-clause-drafted
returns-in-Ok-clause-drafted g c =
    let none = c.if-draft-gt0.false in
    record {
      draft = c.in-Ok.draft;
      drafted = c.in-Ok.ensures.drafted;
      untrusting = c.in-Ok.ensures.allowed refl;
      closed = omega (arith, none);
      is_printed = c.in_ok-printed_text-in-Ok.ensures ∙ ap printed c.deref.ensures.value;
    }

pub returns-in-Ok-clause-short : goal.returns-in-Ok-clause-short
returns-in-Ok-clause-short g c =
    let short = printed_short c.args.image.now c.args.goal.now.most c.in-Ok.draft c.in-Ok.ensures.drafted in
    let size = ap length (c.in_ok-printed_text-in-Ok.ensures ∙ ap printed c.deref.ensures.value) in
    omega (arith, short, size)
