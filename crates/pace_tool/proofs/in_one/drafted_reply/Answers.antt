use Rattle.std.proofs.Common.{◌∙◌, length, ap, arith}
use Rattle.loop_drafts.specs.Pieces.{printed}
use Rattle.version_fits.proofs.Laws.{printed_short}
use Rattle.pace_tool.proofs.in_one.drafted_reply.Goals as goal

pub fitted_reply-requires : goal.fitted_reply-requires
fitted_reply-requires g c =
    let short = printed_short c.args.fitting.now.image.now c.args.fitting.now.goal.now.most c.args.draft.now c.requires.drafted in
    let size = ap length (c.as_bytes.ensures.value ∙ c.in_ok-file.ensures ∙ ap printed c.deref.ensures.value) in
    omega (arith, short, size)
