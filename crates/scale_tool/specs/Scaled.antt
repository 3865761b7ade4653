-- Scaffold: what is told of a made program, before a refusal becomes an answer.
use Rattle.std.specs.Prelude.{◌≡◌, ℕ, List, Result, Ok, Err}
use Rattle.scale_base.specs.declared.refusal.Refusal.{Refusal}
use Rattle.scale_base.specs.declared.refusal.Stop.{Stop}
use Rattle.scale_base.specs.Answer.{AnswersBy}
use Rattle.scale_base.specs.declared.summary.Summary.{Summary}
use Rattle.scaler.specs.Rewritten.{IsRewritten}
use Rattle.host_runs.specs.Answer.{Answer, refused}
use Rattle.host_runs.specs.declared.reply.Reply.{Reply}
use Rattle.host_runs.specs.Views.{reply_view}
use Rattle.scale_tool.specs.Answer.{MadeFiles, made_answer}

-- the answer that is told, or the refusal's
abbrev pub told_answer : Result Answer Refusal → Answer
told_answer (Ok answer) = answer
told_answer (Err refusal) = refused refusal

-- what a call gives for a command: a reply that is so, or a refusal whose answer is so
abbrev pub IsTold : (Answer → Type 0) → Result Reply Stop → Type 0
IsTold is result = AnswersBy reply_view result (λ reply. is (told_answer reply))

-- it tells what `rewrite` gives for the made program, and how both images run
pub record IsMadeReply (prefix : List ℕ) (made : MadeFiles) (reply : Result Answer Refusal) : Type 0 where
  pub given : Result (List ℕ × Summary) Refusal
  pub is_given : IsRewritten made.image made.machine made.loops given
  pub told : told_answer reply ≡ made_answer prefix made given
