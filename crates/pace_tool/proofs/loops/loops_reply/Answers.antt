use Rattle.std.proofs.Common.{arith}
use Rattle.std.proofs.lemmas.List.{get_or_default}
use Rattle.pace_tool.specs.Drafts.{Drafts}
use Rattle.pace_tool.specs.Texts.{drafted_text}
use Rattle.pace_tool.proofs.Told.{file_told}
use Rattle.pace_tool.proofs.loops.loops_reply.Goals as goal

pub returns-clause-bytes : goal.returns-clause-bytes
returns-clause-bytes g c = λ k d lt. let fit = c.type_inv.image k in let same = get_or_default c.args.image.now k d 0 lt in omega (arith, fit, same)

pub returns-clause-told : goal.returns-clause-told
returns-clause-told g c =
    file_told (Drafts c.args.image.now c.args.inputs.now.most c.args.inputs.now.trusts) drafted_text c.args.out.now c.drafted.result c.stored_reply.result c.drafted.ensures c.stored_reply.ensures
