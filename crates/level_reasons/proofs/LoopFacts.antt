-- How many turns a loop has to have left, by its nearest way out.
use Rattle.std.proofs.Common.{◌≡◌, ℕ, ◌+◌, ◌*◌, ◌<◌, ◌≤◌, false, Some, ⊎_elim, ap, ◌∙◌, arith}
use Rattle.power_model.specs.Levels.{level}
use Rattle.power_model.specs.Numbers.{PowerModel}
use Rattle.level_tables.specs.declared.edge_numbers.EdgeNumbers.{EdgeNumbers}
use Rattle.level_reasons.specs.declared.ways.Way.{Way}
use Rattle.level_reasons.specs.declared.shown.LoopReason.TheVariants.{NeedsTurns, Never}
use Rattle.level_reasons.specs.Reasons.{IsLoopReason, goes_down, with_more, percent_down, percent_up}
use Rattle.level_reasons.specs.Ways.{IsNearestKept, AreTurnsFor}
use Rattle.level_reasons.proofs.LackFacts.{lack_by, lack_is, lack_enough}

module _ (power : PowerModel) (i : ℕ) (told : ℕ → EdgeNumbers) (Is : ℕ → Type 0) (pos : 0 < (level power.levels i).period) (above : 0 < i) (way : Way) (kept : IsNearestKept power i told Is (Some way)) where
  -- so few cycles more aren't enough on any way out
  too_few : (d few : ℕ) → Is d → few < way.lack → goes_down power i (with_more few (told d)) ≡ false
  too_few d few is lt =
      let lacks = lack_is power i (told d) pos in
      let far = kept.1.nearest d (lack_by power i (told d)) is lacks in
      lacks.least few (⊎_elim
      (λ (less : way.lack < lack_by power i (told d)). let r : few < lack_by power i (told d) = omega (arith, lt, less) in r)
      (λ (same : (way.lack ≡ lack_by power i (told d)) × ((told kept.0).left ≤ (told d).left)). let e = same.0 in let r : few < lack_by power i (told d) = omega (arith, lt, e) in r)
      far)

  pub needs_turns : (bound turn needed most : ℕ) → most ≡ bound → AreTurnsFor way.lack turn bound needed → IsLoopReason power i told Is bound turn (NeedsTurns needed most)
  needs_turns bound turn needed most same are = (
    above,
    same,
    are.within,
    (kept.0, kept.1.way, lack_enough power i (told kept.0) way.lack (needed * turn) kept.1.lacks are.enough),
    λ d fewer is lt. too_few d (fewer * turn) is (are.least fewer lt),
  )

  pub never_enough : (bound turn most gives needed : ℕ) → most ≡ bound → bound * turn < way.lack → gives ≡ percent_down (way.slack + bound * turn) way.left → needed ≡ percent_up (way.slack + way.lack) way.left
      → IsLoopReason power i told Is bound turn (Never most gives needed)
  never_enough bound turn most gives needed same lt g n = (
    above,
    same,
    λ d is. too_few d (bound * turn) is lt,
    (
      kept.0,
      way.lack,
      kept.1,
      g ∙ ap (λ x. percent_down (x + bound * turn) way.left) kept.2.slack ∙ ap (percent_down ((told kept.0).slack + bound * turn)) kept.2.left,
      n ∙ ap (λ x. percent_up (x + way.lack) way.left) kept.2.slack ∙ ap (percent_up ((told kept.0).slack + way.lack)) kept.2.left,
    ),
  )
