-- The candidates of a tuning: images of one program, by number.
use Rattle.std.specs.Prelude.{◌≡◌, ◌⊎◌, ℕ, ◌+◌, ◌*◌, ◌^◌, ◌<◌, Bool, true, false, List, Result}
use Rattle.scale_base.specs.declared.refusal.Refusal.{Refusal}
use Rattle.scale_base.specs.declared.summary.Summary.{Summary}
use Rattle.scaler.specs.Held.{IsHeld}
use Rattle.scaler.specs.RewrittenAs.{IsRewrittenAs}

-- candidate `first` + 2 k, for a k below 16: the image with stubs where the least gain is 4^k cycles of slack, with counters or without
pub record IsGained (image machine loop_file : List ℕ) (first : ℕ) (counters : Bool) (c : ℕ) (answer : Result (List ℕ × Summary) Refusal)
    : Type 0 where
  pub k : ℕ
  pub few : k < 16
  pub number : c ≡ first + 2 * k
  pub answer_is : IsRewrittenAs image machine loop_file (4 ^ k) counters answer

-- What candidate c gives of the files: candidate 0 is the image that runs at one level, candidate 1 + 2 k the image with stubs by the least gain 4^k, and candidate
-- 2 + 2 k the same where no loop is counted.
abbrev pub IsCandidate : (image machine loop_file : List ℕ) → ℕ → Result (List ℕ × Summary) Refusal → Type 0
IsCandidate image machine loop_file c answer =
    ((c ≡ 0) × IsHeld image machine loop_file answer) ⊎ (IsGained image machine loop_file 1 true c answer ⊎
    IsGained image machine loop_file 2 false c answer)
