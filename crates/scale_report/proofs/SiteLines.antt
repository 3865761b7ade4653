-- One more line of a plan.
use Rattle.std.proofs.Common.{◌≡◌, ℕ, ◌+◌, ◌<◌, List, [], ◌∷◌, ◌++◌, length, get_or, take, sym, ap, ◌∙◌}
use Rattle.std.specs.List.{flat_map}
use Rattle.std.proofs.lemmas.List.{take_more, flat_map_more}
use Rattle.scale_base.specs.declared.plan.SiteLine.{SiteLine}
use Rattle.scale_report.specs.Texts.{site_line}

pub lines-more : (text : List ℕ) (lines : List SiteLine) (k : ℕ) (line : SiteLine) → k < length lines → line ≡ get_or lines k line
    → (text ++ flat_map site_line (take k lines)) ++ site_line line ≡ text ++ flat_map site_line (take (k + 1) lines)
lines-more text lines k line h e =
    flat_map_more site_line text (take k lines) line
    ∙ ap (λ (xs : List SiteLine). text ++ flat_map site_line xs) (ap (λ (x : SiteLine). take k lines ++ x ∷ []) e ∙ sym (take_more lines k line h))
