use Rattle.std.proofs.Common.{Some, sym, ap, ◌∙◌, subst}
use Rattle.marked_images.proofs.MarkingLaws.{marking_switches}
use Rattle.scale_base.specs.declared.fragments.Mark.TheVariants as marks
use Rattle.marked_images.specs.Markings.{IsFragmentAt}
use Rattle.marked_images.proofs.stubs.fragment_of.Goals as goal

pub told_at-told-requires-clause-switches : goal.told_at-told-requires-clause-switches
told_at-told-requires-clause-switches c = let h = c.requires.marking in
    marking_switches c.args.power.now h.0 c.args.marked.now.graph c.args.marked.now.tree h.1 h.2 h.3 c.args.marked.now.marking h.4 c.args.e c.requires.mark.0 marks.Switch c.requires.edge (c.requires.mark.1 ∙ ap Some c.in-Switch.is) tt

pub returns-in-Exit : goal.returns-in-Exit
returns-in-Exit c = subst (λ m. IsFragmentAt c.args.power.now c.args.marked.now.graph c.args.marked.now.tree c.args.marked.now.marking c.args.e m c.exit_of.result) (sym c.in-Exit.is) c.exit_of.ensures

pub returns-in-Lowest : goal.returns-in-Lowest
returns-in-Lowest c = subst (λ m. IsFragmentAt c.args.power.now c.args.marked.now.graph c.args.marked.now.tree c.args.marked.now.marking c.args.e m c.lowest_of.result) (sym c.in-Lowest.is) c.lowest_of.ensures

pub returns-in-Tally : goal.returns-in-Tally
returns-in-Tally c = subst (λ m. IsFragmentAt c.args.power.now c.args.marked.now.graph c.args.marked.now.tree c.args.marked.now.marking c.args.e m c.tally_of.result) (sym c.in-Tally.is) c.tally_of.ensures
