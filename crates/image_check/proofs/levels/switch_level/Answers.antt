use Rattle.image_check.proofs.LevelLaws.{switch_is}
use Rattle.image_check.proofs.levels.switch_level.Goals as goal

pub returns : goal.returns
returns c = λ original foreign found w n least by.
    switch_is c.args.known.now original foreign found w n least by c.args.e c.requires.leads.1.0 c.args.word c.requires.switch.0 c.told_at-told.result c.word_level.result c.requires.leads.0 c.requires.leads.1.1 c.requires.switch.1
    (c.told_at-told.ensures.told original foreign found w n least by) c.word_level.ensures
