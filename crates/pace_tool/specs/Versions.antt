-- What `fit` gives where versions are tried.
use Rattle.std.specs.Prelude.{◌≡◌, ◌⊎◌, ℕ, List, Some, None, string_bytes}
use Rattle.host_runs.specs.Answer.{Answer}
use Rattle.version_fits.specs.declared.choosing.ChosenVersion.{ChosenVersion}
use Rattle.version_fits.specs.Chosen.{IsChosenVersion}
use Rattle.pace_tool.specs.Fits.{MakesFit}
use Rattle.pace_tool.specs.InOne.{behind}
use Rattle.pace_tool.specs.Texts.{no_version_text, version_text}

-- What is fitted, with its loop file and what is told of it: the program itself with its own, or a version of it, by which a fit takes less, with one that is made for it.
abbrev pub IsVersionTried : (image machine loops : List ℕ) (inputs : List (List ℕ)) (tried own text : List ℕ) → Type 0
IsVersionTried image machine loops inputs tried own text = ((tried ≡ image) × (own ≡ loops) × (text ≡ no_version_text))
    ⊎ ((chosen : ChosenVersion) × IsChosenVersion image machine None (Some loops) inputs chosen × (tried ≡ chosen.version.file.items) ×
    (own ≡ string_bytes chosen.loops) × (text ≡ version_text chosen))

-- The answer to `fit` with this name of OUT, where versions are tried: what is told of the version, and the answer to `fit` for it.
pub record MakesVersionFit (image machine loops : List ℕ) (inputs : List (List ℕ)) (out : List ℕ) (answer : Answer) : Type 0 where
  pub tried : List ℕ
  pub own : List ℕ
  pub text : List ℕ
  pub is_tried : IsVersionTried image machine loops inputs tried own text
  pub fitted : Answer
  pub made : MakesFit tried machine own inputs out fitted
  pub told : answer ≡ behind text fitted
