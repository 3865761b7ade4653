-- Scaffold: ranges as they are read, and one more part of the text beside them.
use Rattle.std.specs.Prelude.{ℕ, ◌+◌, List, [], ◌∷◌, map, Bool, ◌&&◌, ◌||◌, nat_le, Option, Some, None}
use Rattle.std.specs.BTreeMap.{BTreeMap}
use Rattle.std.specs.List.{list_all}
use Rattle.scale_base.specs.declared.ranges.Range.{Range}
use Rattle.scale_base.specs.declared.ranges.TextPart.{TextPart}
use Rattle.scale_base.specs.declared.headers.ProgramHeader.{ProgramHeader}
use Rattle.scale_base.specs.declared.refusal.Refusal.TheVariants.{BadText}
use Rattle.scale_base.specs.Rules.{Rule, rule}
use Rattle.scale_base.specs.Image.{range_of, is_text_place}

-- a range of its start and its end
abbrev pub range_between : ℕ × ℕ → Range
range_between e = record { from = e.0; to = e.1 }

-- the ranges of a map from their starts to their ends, in the order of their starts
abbrev pub ranges_by : BTreeMap ℕ ℕ → List Range
ranges_by ends = map range_between ends.entries

-- one ends at or below the start of the other
abbrev pub are_separate : Range → Range → Bool
are_separate a b = nat_le a.to b.from || nat_le b.to a.from

-- the part keeps the rules for text beside these ranges, which have so many bytes
abbrev pub fits_beside : List ℕ → List ProgramHeader → List Range → ℕ → TextPart → Bool
fits_beside file segments ranges bytes part =
    is_text_place file segments part && list_all (λ r. are_separate r (range_of part)) ranges && nat_le (bytes + part.span.len) 524288

-- the rule for the next part, if there is one
abbrev pub next_rules : List ℕ → List ProgramHeader → List Range → ℕ → Option TextPart → List Rule
next_rules file segments ranges bytes None = []
next_rules file segments ranges bytes (Some part) = rule (fits_beside file segments ranges bytes part) (BadText part.span.from) ∷ []
