use Rattle.std.proofs.Common.{sym, subst}
use Rattle.foreign_scan.specs.declared.fragment.ForeignFragment.{ForeignFragment}
use Rattle.foreign_scan.specs.Form.{ChoosesNone}
use Rattle.image_check.specs.Levels.{IsFirstOn}
use Rattle.image_check.proofs.LevelLaws.{no_choice}
use Rattle.image_check.proofs.levels.fragment_level.Goals as goal

pub switch_level-requires-clause-switch : goal.switch_level-requires-clause-switch
switch_level-requires-clause-switch c = subst (λ (f : ForeignFragment). IsFirstOn c.args.known.now c.args.e f) c.in-Switch.is c.requires.first

pub exit_level-requires-clause-exit : goal.exit_level-requires-clause-exit
exit_level-requires-clause-exit c = subst (λ (f : ForeignFragment). IsFirstOn c.args.known.now c.args.e f) c.in-Exit.is c.requires.first

pub returns-in-Reset : goal.returns-in-Reset
returns-in-Reset c = λ original foreign found w n least by i bad.
    no_choice c.args.known.now original foreign found w n least by c.args.e i c.args.first c.requires.first.0 c.requires.first.1 (subst ChoosesNone (sym c.in-Reset.is) tt) bad

pub returns-in-Count : goal.returns-in-Count
returns-in-Count c = λ original foreign found w n least by i bad.
    no_choice c.args.known.now original foreign found w n least by c.args.e i c.args.first c.requires.first.0 c.requires.first.1 (subst ChoosesNone (sym c.in-Count.is) tt) bad
