use Rattle.std.proofs.Common.{sym, ◌∙◌}
use Rattle.image_lower.proofs.Follows.{words_there}
use Rattle.image_lower.proofs.block.is_bad.Goals as goal

pub far_jump-requires-clause-words : goal.far_jump-requires-clause-words
far_jump-requires-clause-words c = λ aligned there. words_there c.args.view.now c.args.note.now.at aligned (sym c.follows.ensures ∙ there)
