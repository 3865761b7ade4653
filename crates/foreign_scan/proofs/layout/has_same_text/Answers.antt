use Rattle.std.proofs.Common.{sym, ◌∙◌}
use Rattle.std.proofs.lemmas.Slice.Eq.{slice_eq-Decides}
use Rattle.foreign_scan.proofs.LayoutLaws.{range_decides}
use Rattle.foreign_scan.proofs.layout.has_same_text.Goals as goal

pub returns : goal.returns
returns c =
    let d = slice_eq-Decides range_decides _ _ _ c.eq.ensures in
    (λ t. sym c.text.ensures.ranges ∙ (d.0 t ∙ c.text-2.ensures.ranges), λ e. d.1 (c.text.ensures.ranges ∙ (e ∙ sym c.text-2.ensures.ranges)))
