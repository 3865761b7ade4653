use Rattle.std.proofs.Common.{rules, ◌≡◌, Some, slice_get, refl}
use Rattle.scale_base.specs.declared.fragments.Mark.TheVariants as marks
use Rattle.paced_images.proofs.DueFacts.{due_at}
use Rattle.paced_images.proofs.due.is_due_at.Goals as goal

pub returns-in-Tally : goal.returns-in-Tally
returns-in-Tally c = λ image wanted stored least is.
    let m = c.args.marked.now in
    let at : slice_get c.marks.result.now 0 ≡ Some (marks.Tally c.in-Tally.counter) = search rules in
    due_at c.args.power.now image m.graph m.tree wanted stored least m.marking is m.start c.args.header c.args.e c.requires.edge c.marks.result.now (marks.Tally c.in-Tally.counter) c.is_due.result c.marks.ensures at
    (c.is_due.ensures image wanted stored least is)

pub returns-in-Switch : goal.returns-in-Switch
returns-in-Switch c = λ image wanted stored least is.
    let m = c.args.marked.now in
    let at : slice_get c.marks.result.now 0 ≡ Some marks.Switch = search rules in
    due_at c.args.power.now image m.graph m.tree wanted stored least m.marking is m.start c.args.header c.args.e c.requires.edge c.marks.result.now marks.Switch _ c.marks.ensures at refl

pub returns-in-Exit : goal.returns-in-Exit
returns-in-Exit c = λ image wanted stored least is.
    let m = c.args.marked.now in
    let at : slice_get c.marks.result.now 0 ≡ Some (marks.Exit c.in-Exit.field-0) = search rules in
    due_at c.args.power.now image m.graph m.tree wanted stored least m.marking is m.start c.args.header c.args.e c.requires.edge c.marks.result.now (marks.Exit c.in-Exit.field-0) _ c.marks.ensures at refl

pub returns-in-Reset : goal.returns-in-Reset
returns-in-Reset c = λ image wanted stored least is.
    let m = c.args.marked.now in
    let at : slice_get c.marks.result.now 0 ≡ Some (marks.Reset c.in-Reset.field-0) = search rules in
    due_at c.args.power.now image m.graph m.tree wanted stored least m.marking is m.start c.args.header c.args.e c.requires.edge c.marks.result.now (marks.Reset c.in-Reset.field-0) _ c.marks.ensures at refl

pub returns-in-Count : goal.returns-in-Count
returns-in-Count c = λ image wanted stored least is.
    let m = c.args.marked.now in
    let at : slice_get c.marks.result.now 0 ≡ Some (marks.Count c.in-Count.field-0) = search rules in
    due_at c.args.power.now image m.graph m.tree wanted stored least m.marking is m.start c.args.header c.args.e c.requires.edge c.marks.result.now (marks.Count c.in-Count.field-0) _ c.marks.ensures at refl

pub returns-in-Lowest : goal.returns-in-Lowest
returns-in-Lowest c = λ image wanted stored least is.
    let m = c.args.marked.now in
    let at : slice_get c.marks.result.now 0 ≡ Some marks.Lowest = search rules in
    due_at c.args.power.now image m.graph m.tree wanted stored least m.marking is m.start c.args.header c.args.e c.requires.edge c.marks.result.now marks.Lowest _ c.marks.ensures at refl
