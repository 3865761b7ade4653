-- What a call answers that stops where another one did.
use Rattle.std.proofs.Common.{◌≡◌, Result, Ok, Err}
use Rattle.scale_base.specs.declared.refusal.Refusal.{Refusal}
use Rattle.scale_base.specs.declared.refusal.Stop.{Stop}
use Rattle.scale_base.specs.declared.refusal.Stop.TheVariants.{Refused, Memory}
use Rattle.scale_base.specs.Answer.{AnswersBy, Stops}

-- it stops as a call does whose answer is one value or refusal
pub stops_as : {X Y Z : Type 0} (view : X → Y) (stop : Stop) (meant : Result Z Refusal) (P : Result Y Refusal → Type 0) → Stops stop meant → ((r : Refusal) → meant ≡ Err r → P (Err r)) → AnswersBy view (Err stop) P
stops_as view (Refused e) meant P same holds = holds e same
stops_as view Memory meant P same holds = tt

-- it stops as a call does whose answer has some property
pub stops_by : {X Y Z W : Type 0} (view : X → Y) (other : Z → W) (stop : Stop) (P : Result Y Refusal → Type 0) (Q : Result W Refusal → Type 0) → AnswersBy other (Err stop) Q → ((r : Refusal) → Q (Err r) → P (Err r)) → AnswersBy view (Err stop) P
stops_by view other (Refused e) P Q same holds = holds e same
stops_by view other Memory P Q same holds = tt

-- it answers as another call
pub answers_by : {X Y : Type 0} (view : X → Y) (result : Result X Stop) (P Q : Result Y Refusal → Type 0) → AnswersBy view result Q → ((x : X) → Q (Ok (view x)) → P (Ok (view x))) → ((r : Refusal) → Q (Err r) → P (Err r)) → AnswersBy view result P
answers_by view (Ok x) P Q h ok err = ok x h
answers_by view (Err (Refused e)) P Q h ok err = err e h
answers_by view (Err Memory) P Q h ok err = tt
