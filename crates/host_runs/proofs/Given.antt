-- From what a command was given to its answer.
use Rattle.std.proofs.Common.{◌≡◌}
use Rattle.std.specs.Prelude.{Some, None, option_map, IfOk, Result, Ok, Err}
use Rattle.scale_base.specs.declared.refusal.NoMemory.{NoMemory}
use Rattle.scale_base.specs.declared.refusal.Refusal.{Refusal}
use Rattle.scale_base.specs.declared.refusal.Stop.{Stop}
use Rattle.scale_base.specs.declared.refusal.Stop.TheVariants.{Refused, Memory}
use Rattle.scale_base.specs.Answer.{AnswersBy}
use Rattle.host_runs.specs.declared.reply.Reply.{Reply}
use Rattle.host_runs.specs.Answer.{Answer, Giving, Tells}
use Rattle.host_runs.specs.Views.{given_by, reply_view}

module _ {X A : Type 0} (view : X → A) (Gives : Giving A) (answer_of : Result A Refusal → Answer) where
  -- an answer that tells this
  told_as : (given : Result A Refusal) (answer : Answer) → Gives given → Some (answer_of given) ≡ Some answer → Tells Gives answer_of answer
  told_as given answer is told = record { given = given; is_given = is; told = cc }

  -- a reply to what was given is an answer of the command
  pub made_of_given : (given : Result X Stop) (result : Result Reply NoMemory) → AnswersBy view given Gives
      → IfOk result (λ reply. option_map answer_of (given_by view given) ≡ Some (reply_view reply)) → IfOk result (λ reply. Tells Gives answer_of (reply_view reply))
  made_of_given given (Err no_memory) is told = tt
  made_of_given (Ok given) (Ok reply) is told = told_as (Ok (view given)) (reply_view reply) is told
  made_of_given (Err (Refused refusal)) (Ok reply) is told = told_as (Err refusal) (reply_view reply) is told
  made_of_given (Err Memory) (Ok reply) is told = let bad : None ≡ Some (reply_view reply) = told in absurd cc
