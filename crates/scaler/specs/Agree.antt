-- Scaffold: two answers that may be given for the same files are the same, but for the cycle that a refusal names.
use Rattle.std.specs.Prelude.{◌≡◌, ℕ, Bool, List, Result, Ok, Err}
use Rattle.scale_base.specs.declared.refusal.Refusal.{Refusal}
use Rattle.scale_base.specs.declared.summary.Summary.{Summary}
use Rattle.answer_laws.specs.Alike.{AreAlikeRefusals}
use Rattle.scaler.specs.Held.{IsHeld}
use Rattle.scaler.specs.Rewritten.{IsRewritten}
use Rattle.scaler.specs.RewrittenAs.{IsRewrittenAs}

-- both give the same bytes and the same summary, or both refuse, and alike
abbrev pub AreAlikeAnswers : Result (List ℕ × Summary) Refusal → Result (List ℕ × Summary) Refusal → Type 0
AreAlikeAnswers (Ok one) (Ok other) = one ≡ other
AreAlikeAnswers (Err one) (Err other) = AreAlikeRefusals one other
AreAlikeAnswers (Ok one) (Err other) = ⊥
AreAlikeAnswers (Err one) (Ok other) = ⊥

abbrev pub HeldAnswersAgree : Type 0
HeldAnswersAgree = (image machine loops : List ℕ) (one other : Result (List ℕ × Summary) Refusal) →
    IsHeld image machine loops one → IsHeld image machine loops other → AreAlikeAnswers one other

abbrev pub RewrittenAnswersAgree : Type 0
RewrittenAnswersAgree = (image machine loops : List ℕ) (one other : Result (List ℕ × Summary) Refusal) →
    IsRewritten image machine loops one → IsRewritten image machine loops other → AreAlikeAnswers one other

abbrev pub RewrittenAsAnswersAgree : Type 0
RewrittenAsAnswersAgree = (image machine loops : List ℕ) (min_gain : ℕ) (counters : Bool) (one other : Result (List ℕ × Summary) Refusal) →
    IsRewrittenAs image machine loops min_gain counters one → IsRewrittenAs image machine loops min_gain counters other →
    AreAlikeAnswers one other
