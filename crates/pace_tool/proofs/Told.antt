-- What is told of what a command gives is its answer.
use Rattle.std.proofs.Common.{◌≡◌, ℕ, List}
use Rattle.std.specs.Prelude.{Some, None, option_map, IfOk, Result, Ok, Err, String, string_bytes, Vec}
use Rattle.std.specs.declared.alloc.Global.{Global}
use Rattle.scale_base.specs.Answer.{AnswersBy}
use Rattle.scale_base.specs.declared.refusal.NoMemory.{NoMemory}
use Rattle.scale_base.specs.declared.refusal.Refusal.{Refusal}
use Rattle.scale_base.specs.declared.refusal.Stop.{Stop}
use Rattle.scale_base.specs.declared.refusal.Stop.TheVariants.{Refused, Memory}
use Rattle.host_runs.specs.declared.reply.Reply.{Reply}
use Rattle.host_runs.specs.Answer.{Answer, Giving, Tells, refused, stored_answer, text_answer}
use Rattle.host_runs.specs.Views.{given_by, reply_view}
use Rattle.pace_tool.specs.Told.{FileOf, TextOf, itself, written_view}

-- a text alone
module _ {A : Type 0} (Gives : Giving A) (text_of : A → List ℕ) where
  text_tells : (text : List ℕ) (answer : Answer) → TextOf Gives text_of (Ok text) → Some (text_answer itself (Ok text)) ≡ Some answer → Tells Gives (text_answer text_of) answer
  text_tells text answer is told = let same : text ≡ text_of is.0 = is.2 in record { given = Ok is.0; is_given = is.1; told = cc }

  text_refused : (refusal : Refusal) (answer : Answer) → Gives (Err refusal) → Some (refused refusal) ≡ Some answer → Tells Gives (text_answer text_of) answer
  text_refused refusal answer is told = record { given = Err refusal; is_given = is; told = cc }

  pub text_told : (given : Result (String Global) Stop) (result : Result Reply NoMemory) → AnswersBy string_bytes given (TextOf Gives text_of) →
      IfOk result (λ reply. option_map (text_answer itself) (given_by string_bytes given) ≡ Some (reply_view reply)) →
      IfOk result (λ reply. Tells Gives (text_answer text_of) (reply_view reply))
  text_told given (Err no_memory) is told = tt
  text_told (Ok text) (Ok reply) is told = text_tells (string_bytes text) (reply_view reply) is told
  text_told (Err (Refused refusal)) (Ok reply) is told = text_refused refusal (reply_view reply) is told
  text_told (Err Memory) (Ok reply) is told = let bad : None ≡ Some (reply_view reply) = told in absurd cc

-- a file and a text
module _ {A : Type 0} (Gives : Giving (List ℕ × A)) (text_of : A → List ℕ) (out : List ℕ) where
  file_tells : (file text : List ℕ) (answer : Answer) → FileOf Gives text_of (Ok ((file, text))) → Some (stored_answer itself out (Ok ((file, text)))) ≡ Some answer →
      Tells Gives (stored_answer text_of out) answer
  file_tells file text answer is told = let same : text ≡ text_of is.0 = is.2 in record { given = Ok ((file, is.0)); is_given = is.1; told = cc }

  file_refused : (refusal : Refusal) (answer : Answer) → Gives (Err refusal) → Some (refused refusal) ≡ Some answer → Tells Gives (stored_answer text_of out) answer
  file_refused refusal answer is told = record { given = Err refusal; is_given = is; told = cc }

  pub file_told : (given : Result (Vec ℕ Global × String Global) Stop) (result : Result Reply NoMemory) → AnswersBy written_view given (FileOf Gives text_of) →
      IfOk result (λ reply. option_map (stored_answer itself out) (given_by written_view given) ≡ Some (reply_view reply)) →
      IfOk result (λ reply. Tells Gives (stored_answer text_of out) (reply_view reply))
  file_told given (Err no_memory) is told = tt
  file_told (Ok written) (Ok reply) is told = file_tells written.0.items (string_bytes written.1) (reply_view reply) is told
  file_told (Err (Refused refusal)) (Ok reply) is told = file_refused refusal (reply_view reply) is told
  file_told (Err Memory) (Ok reply) is told = let bad : None ≡ Some (reply_view reply) = told in absurd cc

-- ---- a call that answers as another one

-- it stops where that did
pub stopped : {X Y Z W : Type 0} (view : X → Y) (seen : Z → W) (stop : Stop) (P : Result Y Refusal → Type 0) (Q : Result W Refusal → Type 0) → AnswersBy view (Err stop) P → ((r : Refusal) → P (Err r) → Q (Err r)) → AnswersBy seen (Err stop) Q
stopped view seen (Refused r) P Q h err = err r h
stopped view seen Memory P Q h err = tt

-- its answer is one of a wider kind
pub answered : {X Y : Type 0} (view : X → Y) (result : Result X Stop) (P Q : Result Y Refusal → Type 0) → AnswersBy view result P → ((r : Result Y Refusal) → P r → Q r) → AnswersBy view result Q
answered view (Ok x) P Q h wider = wider (Ok (view x)) h
answered view (Err (Refused r)) P Q h wider = wider (Err r) h
answered view (Err Memory) P Q h wider = tt
