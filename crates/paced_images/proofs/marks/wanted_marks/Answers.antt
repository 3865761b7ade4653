use Rattle.std.proofs.Common.{length, sym, subst}
use Rattle.paced_images.specs.Flags.{AreFlags, AreLowest, AreTallied}
use Rattle.paced_images.proofs.WantedMarks.{has_marks, if_ok}
use Rattle.paced_images.proofs.marks.wanted_marks.Goals as goal

pub returns : goal.returns
returns c =
    let v = c.args.graph.now in
    let t = c.args.tree.now in
    if_ok _ _ c.form_sites.result (λ s forms.
    has_marks v t c.args.chosen.now.sites.now c.args.chosen.now.tallied.now c.args.counters.now c.deref.result.now c.deref-2.result.now c.deref-3.result.now c.in_ok-marks.marks s c.requires.counters
    (subst (AreFlags c.args.graph.now c.args.chosen.now.sites.now (length c.args.graph.now.code.edges)) (sym c.deref.ensures.value) c.in_ok-flags.ensures)
    (subst (AreLowest c.args.graph.now c.args.chosen.now.sites.now (length c.args.graph.now.code.edges)) (sym c.deref-2.ensures.value) c.in_ok-lowest.ensures)
    (subst (AreTallied c.args.graph.now c.args.tree.now c.args.chosen.now.tallied.now) (sym c.deref-3.ensures.value) c.in_ok-tallied.ensures)
    c.in_ok-marks.ensures forms) c.form_sites.ensures
