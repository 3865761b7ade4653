-- What a call gives that may stop, where nothing is said of why it stops, and what it gives if there is something.
use Rattle.std.proofs.Common.{◌≡◌, Result, Option, Ok, Err, Some, None}
use Rattle.std.specs.Prelude.{IfOk, IfSome}
use Rattle.scale_base.specs.declared.refusal.Refusal.{Refusal}
use Rattle.scale_base.specs.declared.refusal.Stop.{Stop}
use Rattle.scale_base.specs.Answer.{Answers, AnswersBy}

pub ok_of : {X Y : Type 0} (view : X → Y) (o : Result X Stop) (meant : Result Y Refusal) (P : X → Type 0) → Answers view o meant → ((x : X) → meant ≡ Ok (view x) → P x) → IfOk o P
ok_of view (Ok x) meant P h f = f x h
ok_of view (Err stop) meant P h f = tt

pub ok_by : {X Y : Type 0} (view : X → Y) (o : Result X Stop) (Meant : Result Y Refusal → Type 0) (P : X → Type 0) → AnswersBy view o Meant → ((x : X) → Meant (Ok (view x)) → P x) → IfOk o P
ok_by view (Ok x) Meant P h f = f x h
ok_by view (Err stop) Meant P h f = tt

pub ok_too : {X E : Type 0} (o : Result X E) (P Q : X → Type 0) → IfOk o P → ((x : X) → P x → Q x) → IfOk o Q
ok_too (Ok x) P Q h f = f x h
ok_too (Err e) P Q h f = tt

pub some_too : {X E : Type 0} (o : Result (Option X) E) (P Q : X → Type 0) → IfOk o (λ s. IfSome s P) → ((x : X) → P x → Q x) → IfOk o (λ s. IfSome s Q)
some_too (Ok (Some x)) P Q h f = f x h
some_too (Ok None) P Q h f = tt
some_too (Err e) P Q h f = tt
