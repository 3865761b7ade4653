-- The refusals of a file that is no image, by their numbers.
use Rattle.std.specs.Prelude.{ℕ}
use Rattle.scale_base.specs.declared.refusal.Refusal.{Refusal}
use Rattle.scale_base.specs.declared.refusal.Refusal.TheVariants.{NotElf, UnsupportedElf, TruncatedElf, DynamicImage, BadSegment, BadText, WritableText}

-- the number of the refusal of a file that is no image
abbrev pub refusal_number : Refusal → ℕ
refusal_number NotElf = 1
refusal_number (UnsupportedElf field) = 2
refusal_number TruncatedElf = 3
refusal_number DynamicImage = 4
refusal_number (BadSegment entry) = 5
refusal_number (BadText at) = 6
refusal_number (WritableText at) = 7
refusal_number refusal = 0
