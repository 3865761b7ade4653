-- Parts of the answers over files.
use Rattle.std.specs.Prelude.{◌≡◌, Option, Some, None, Result, Ok, Err}
use Rattle.scale_base.specs.declared.ranges.Keyed.{Keyed}
use Rattle.scale_base.specs.declared.refusal.Refusal.{Refusal}
use Rattle.scale_base.specs.declared.refusal.Refusal.TheVariants.{AlreadyScaled}

-- the image has no keyed segment yet
abbrev pub unscaled : Option Keyed → Result (Unit {0}) Refusal
unscaled None = Ok tt
unscaled (Some keyed) = Err AlreadyScaled

-- a part that may refuse, and what follows it
abbrev pub Then : {A B : Type 0} → Result A Refusal → (A → Result B Refusal → Type 0) → Result B Refusal → Type 0
Then (Err refusal) next answer = answer ≡ Err refusal
Then (Ok part) next answer = next part answer
