use Rattle.marked_images.proofs.MarkingLaws.{marking_switches, lowest_fragment}
use Rattle.scale_base.specs.declared.fragments.Mark.TheVariants as marks
use Rattle.marked_images.proofs.stubs.lowest_of.Goals as goal

pub told_at-told-requires-clause-switches : goal.told_at-told-requires-clause-switches
told_at-told-requires-clause-switches c = let h = c.requires.marking in
    marking_switches c.args.power.now h.0 c.args.marked.now.graph c.args.marked.now.tree h.1 h.2 h.3 c.args.marked.now.marking h.4 c.args.e c.requires.mark.0 marks.Lowest c.requires.edge c.requires.mark.1 tt

pub returns : goal.returns
returns c = λ image wanted stored least is.
    lowest_fragment c.args.power.now image c.args.marked.now.graph c.args.marked.now.tree wanted stored least c.args.marked.now.marking is c.args.e c.lowest_within.result
    c.told_at-told.result c.lowest_within.ensures (c.told_at-told.ensures.told image wanted stored least is)
