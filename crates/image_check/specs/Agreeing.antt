-- Scaffold: two answers of a check agree. As a statement for the contract of a function.
use Rattle.std.specs.Prelude.{◌≡◌, ℕ, List, Result, Ok, Err}
use Rattle.scale_base.specs.declared.refusal.Refusal.{Refusal}
use Rattle.scale_base.specs.declared.verdict.Verdict.{Verdict}
use Rattle.answer_laws.specs.Alike.{AreAlikeRefusals}
use Rattle.image_check.specs.Checked.{IsChecked}

-- Two answers give the same verdict, or both refuse, and alike: the same, but for the cycle that a refusal names.
abbrev pub AreAlikeVerdicts : Result Verdict Refusal → Result Verdict Refusal → Type 0
AreAlikeVerdicts (Ok one) (Ok other) = one ≡ other
AreAlikeVerdicts (Err one) (Err other) = AreAlikeRefusals one other
AreAlikeVerdicts (Ok one) (Err other) = ⊥
AreAlikeVerdicts (Err one) (Ok other) = ⊥

abbrev pub CheckedAnswersAgree : Type 0
CheckedAnswersAgree = (image foreign machine loop_file : List ℕ) (one other : Result Verdict Refusal) →
    IsChecked image foreign machine loop_file one → IsChecked image foreign machine loop_file other → AreAlikeVerdicts one other
