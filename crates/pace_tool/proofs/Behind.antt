-- An answer with a text before its own stores what it did, with the same status.
use Rattle.std.proofs.Common.{◌≡◌, ◌++◌, ◌==◌, ℕ, List, refl, Bool, true, false}
use Rattle.std.specs.Prelude.{if◌then◌else◌}
use Rattle.host_runs.specs.Answer.{Answer}
use Rattle.pace_tool.specs.InOne.{behind}

pub behind_status : (text : List ℕ) (answer : Answer) → (behind text answer).status ≡ answer.status
behind_status text answer = of (answer.status == 0)
  where
    of : (b : Bool) → (if b then record answer { text = text ++ answer.text } else answer).status ≡ answer.status
    of true = refl
    of false = refl

pub behind_stores : (text : List ℕ) (answer : Answer) → (behind text answer).stores ≡ answer.stores
behind_stores text answer = of (answer.status == 0)
  where
    of : (b : Bool) → (if b then record answer { text = text ++ answer.text } else answer).stores ≡ answer.stores
    of true = refl
    of false = refl
