use Rattle.std.proofs.Common.{◌&&◌, refl, sym, ap, ◌∙◌}
use Rattle.scale_sites.specs.Weights.{switches}
use Rattle.rewritten_runs.specs.Stubs.{told_at}
use Rattle.paced_images.specs.Useful.{lowers_some}
use Rattle.marked_images.specs.Markings.{test_of}
use Rattle.marked_images.specs.Wanted.{marked_where}
use Rattle.paced_images.proofs.UsefulFacts.{lowered_as, not_lowered}
use Rattle.paced_images.proofs.useful.is_lowered.Goals as goal

pub told_at-told-requires-clause-switches : goal.told_at-told-requires-clause-switches
told_at-told-requires-clause-switches c = sym (ap switches c.marks-marks.ensures) ∙ (sym c.stores_first.ensures ∙ c.if-not-stores_first.false)

pub returns-then-not-stores_first : goal.returns-then-not-stores_first
returns-then-not-stores_first c = λ image wanted stored least is.
    let m = c.args.marked.now in
    let told = told_at c.args.power.now image m.graph m.tree (marked_where m.graph m.tree wanted) stored least c.args.e in
    not_lowered c.args.power.now m.graph m.tree m.marking c.requires.marking c.args.e c.requires.edge (sym (ap switches c.marks-marks.ensures) ∙ (sym c.stores_first.ensures ∙ c.if-not-stores_first.true))
    (test_of c.args.power.now m.marking) told (marked_where m.graph m.tree wanted c.args.e) (lowers_some c.args.power.now (test_of c.args.power.now m.marking) m.start told) (is.marks c.args.e c.requires.edge)

pub returns-then-has_site_mark : goal.returns-then-has_site_mark
returns-then-has_site_mark c = λ image wanted stored least is.
    let m = c.args.marked.now in
    let told = told_at c.args.power.now image m.graph m.tree (marked_where m.graph m.tree wanted) stored least c.args.e in
    sym (ap (λ x. x && c.lowers_some.result) c.if-has_site_mark.true)
    ∙ lowered_as c.args.power.now (test_of c.args.power.now m.marking) m.start c.told_at-told.result told c.marks-marks.result.now (marked_where m.graph m.tree wanted c.args.e) c.has_site_mark.result c.lowers_some.result
    (c.marks-marks.ensures ∙ is.marks c.args.e c.requires.edge) (c.told_at-told.ensures.told image wanted stored least is) c.has_site_mark.ensures c.lowers_some.ensures

pub returns-else-has_site_mark : goal.returns-else-has_site_mark
returns-else-has_site_mark c = λ image wanted stored least is.
    let m = c.args.marked.now in
    let told = told_at c.args.power.now image m.graph m.tree (marked_where m.graph m.tree wanted) stored least c.args.e in
    let lowers = lowers_some c.args.power.now (test_of c.args.power.now m.marking) m.start c.told_at-told.result in
    c.if-has_site_mark.false ∙ sym (ap (λ x. x && lowers) c.if-has_site_mark.false)
    ∙ lowered_as c.args.power.now (test_of c.args.power.now m.marking) m.start c.told_at-told.result told c.marks-marks.result.now (marked_where m.graph m.tree wanted c.args.e) c.has_site_mark.result lowers
    (c.marks-marks.ensures ∙ is.marks c.args.e c.requires.edge) (c.told_at-told.ensures.told image wanted stored least is) c.has_site_mark.ensures refl
