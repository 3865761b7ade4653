use Rattle.std.proofs.Common.{sym, ◌∙◌}
use Rattle.std.proofs.lemmas.Slice.Eq.{slice_eq-Decides}
use Rattle.foreign_scan.proofs.LayoutLaws.{place_decides}
use Rattle.foreign_scan.proofs.layout.has_same_segments.Goals as goal

pub returns : goal.returns
returns c =
    let d = slice_eq-Decides place_decides _ _ _ c.eq.ensures in
    (λ t. sym c.in_ok-others.ensures ∙ (d.0 t ∙ c.in_ok-places.ensures), λ e. d.1 (c.in_ok-others.ensures ∙ (e ∙ sym c.in_ok-places.ensures)))
