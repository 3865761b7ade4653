-- Scaffold: two surveys that may be given for the same files are the same. As a statement for the contract of a function.
use Rattle.std.specs.Prelude.{◌≡◌, ℕ, List, Result}
use Rattle.scale_base.specs.declared.refusal.Refusal.{Refusal}
use Rattle.power_model.specs.Survey.{Survey}
use Rattle.input_survey.specs.Surveyed.{IsSurveyed}

abbrev pub SurveysAgree : Type 0
SurveysAgree = (image scaled machine loops : List ℕ) (inputs : List (List ℕ)) (one other : Result Survey Refusal) →
    IsSurveyed image scaled machine loops inputs one → IsSurveyed image scaled machine loops inputs other → one ≡ other
