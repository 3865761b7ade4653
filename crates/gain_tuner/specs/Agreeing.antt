-- Scaffold: two tunings that may be given for the same files are the same, but for the cycle that a refusal names.
use Rattle.std.specs.Prelude.{◌≡◌, ℕ, List, Result, Ok, Err}
use Rattle.scale_base.specs.declared.refusal.Refusal.{Refusal}
use Rattle.scale_base.specs.declared.summary.Tuned.{Tuned}
use Rattle.answer_laws.specs.Alike.{AreAlikeRefusals}
use Rattle.gain_tuner.specs.Choice.{IsTuning}

abbrev pub AreAlikeTunings : Result (List ℕ × Tuned) Refusal → Result (List ℕ × Tuned) Refusal → Type 0
AreAlikeTunings (Ok one) (Ok other) = one ≡ other
AreAlikeTunings (Err one) (Err other) = AreAlikeRefusals one other
AreAlikeTunings (Ok one) (Err other) = ⊥
AreAlikeTunings (Err one) (Ok other) = ⊥

-- as a statement for the contract of a function
abbrev pub TuningsAgree : Type 0
TuningsAgree = (image machine loops : List ℕ) (inputs : List (List ℕ)) (one other : Result (List ℕ × Tuned) Refusal) →
    IsTuning image machine loops inputs one → IsTuning image machine loops inputs other → AreAlikeTunings one other
