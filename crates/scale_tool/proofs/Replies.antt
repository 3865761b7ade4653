-- From what a command gives to its reply, and the statuses of the answers.
use Rattle.std.proofs.Common.{◌≡◌, ℕ, Bool, List, [], ◌∷◌, Some, None, Result, Ok, Err, refl, sym, subst}
use Rattle.std.specs.Prelude.{nat_le, ◌==◌, ◌||◌, option_map, IsTrue, IfOk}
use Rattle.scale_base.specs.declared.endings.End.{End}
use Rattle.scale_base.specs.declared.endings.End.TheVariants.{Exited, Trapped, OutOfSteps}
use Rattle.scale_base.specs.declared.refusal.NoMemory.{NoMemory}
use Rattle.scale_base.specs.declared.refusal.Refusal.{Refusal}
use Rattle.scale_base.specs.declared.refusal.Stop.{Stop}
use Rattle.scale_base.specs.declared.refusal.Stop.TheVariants.{Refused, Memory}
use Rattle.scale_base.specs.declared.summary.Summary.{Summary}
use Rattle.scale_base.specs.declared.verdict.Verdict.{Verdict}
use Rattle.scale_base.specs.declared.verdict.Verdict.TheVariants.{Yes, No}
use Rattle.scale_base.specs.Answer.{AnswersBy}
use Rattle.power_model.specs.Report.{Report}
use Rattle.speed_sim.specs.Simulated.{simulated}
use Rattle.host_runs.specs.Answer.{Answer, Giving, Tells, refused, stored_answer, text_answer}
use Rattle.host_runs.specs.declared.reply.Reply.{Reply}
use Rattle.host_runs.specs.Views.{given_by, reply_view}
use Rattle.scale_tool.specs.Answer.{MadeFiles, Makes, made_answer, run_answer, run_status, unless_refused, runs_answer, verdict_answer}
use Rattle.scale_tool.specs.Command.{Command, Help, Hold, Rewrite, Report as ReportOf, Simulate, Make, Lower, Check, Survey, Tune, may_give}
use Rattle.scale_tool.specs.Scaled.{IsTold, told_answer}

-- ---- replies

module _ {X A : Type 0} (view : X → A) (Gives : Giving A) (answer_of : Result A Refusal → Answer) where
  -- a refusal is told
  pub told_stop : ((refusal : Refusal) → answer_of (Err refusal) ≡ refused refusal) → (stop : Stop) → AnswersBy view (Err stop) Gives → IsTold (Tells Gives answer_of) (Err stop)
  told_stop same (Refused refusal) h = record { given = Err refusal; is_given = h; told = sym (same refusal) }
  told_stop same Memory h = tt

  -- what is given is told
  pub told_given : (given : X) (answer : Answer) → Gives (Ok (view given)) → answer ≡ answer_of (Ok (view given)) → Tells Gives answer_of answer
  told_given given answer h e = record { given = Ok (view given); is_given = h; told = e }

module _ (is : Answer → Type 0) where
  -- the reply of what is told is so
  pub told_as_given : (given : Result Reply Stop) (result : Result Reply NoMemory) → IsTold is given → IfOk result (λ reply. option_map told_answer (given_by reply_view given) ≡ Some (reply_view reply)) → IfOk result (λ reply. is (reply_view reply))
  told_as_given given (Err no_memory) h e = tt
  told_as_given (Ok given) (Ok reply) h e = let same : reply_view given ≡ reply_view reply = cc in subst is same h
  told_as_given (Err (Refused refusal)) (Ok reply) h e = let same : refused refusal ≡ reply_view reply = cc in subst is same h
  told_as_given (Err Memory) (Ok reply) h e = let bad : None ≡ Some (reply_view reply) = e in absurd cc

-- ---- statuses

low : (answer : Answer) (told : Answer) (test : ℕ → Bool) → answer ≡ told → IsTrue (test told.status) → IsTrue (test answer.status)
low answer told test e h = subst (λ (a : Answer). IsTrue (test a.status)) (sym e) h

stored_low : {A : Type 0} (text_of : A → List ℕ) (out : List ℕ) (given : Result (List ℕ × A) Refusal) → IsTrue (nat_le (stored_answer text_of out given).status 1)
stored_low text_of out (Ok given) = refl
stored_low text_of out (Err refusal) = refl

text_low : {A : Type 0} (text_of : A → List ℕ) (given : Result A Refusal) → IsTrue (nat_le (text_answer text_of given).status 1)
text_low text_of (Ok given) = refl
text_low text_of (Err refusal) = refl

verdict_low : (given : Result Verdict Refusal) → IsTrue (nat_le (verdict_answer given).status 1 || (verdict_answer given).status == 7)
verdict_low (Ok (Yes checked)) = refl
verdict_low (Ok (No why)) = refl
verdict_low (Err refusal) = refl

abbrev run_may : ℕ → Bool
run_may status = nat_le status 1 || (status == 5 || status == 6)

end_low : (end : End) → IsTrue (run_may (run_status end))
end_low (Exited status) = refl
end_low (Trapped trap) = refl
end_low OutOfSteps = refl

run_low : (out : List ℕ) (given : Result Report Refusal) → IsTrue (run_may (run_answer out given).status)
run_low out (Ok report) = end_low report.end
run_low out (Err refusal) = refl

second_low : (prefix : List ℕ) (made : MadeFiles) (scaled : List ℕ × Summary) (first : Report) (given : Result Report Refusal) → IsTrue (run_may (unless_refused given (runs_answer prefix made scaled first)).status)
second_low prefix made scaled first (Ok second) = end_low second.end
second_low prefix made scaled first (Err refusal) = refl

scaled_low : (prefix : List ℕ) (made : MadeFiles) (scaled : List ℕ × Summary) (given : Result Report Refusal)
    → IsTrue (run_may (unless_refused given (λ first. unless_refused (simulated scaled.0 made.machine made.input None) (runs_answer prefix made scaled first))).status)
scaled_low prefix made scaled (Ok first) = second_low prefix made scaled first (simulated scaled.0 made.machine made.input None)
scaled_low prefix made scaled (Err refusal) = refl

made_low : (prefix : List ℕ) (made : MadeFiles) (given : Result (List ℕ × Summary) Refusal) → IsTrue (run_may (made_answer prefix made given).status)
made_low prefix made (Ok scaled) = scaled_low prefix made scaled (simulated made.image made.machine made.input (Some made.loops))
made_low prefix made (Err refusal) = refl

abbrev at_most_one : ℕ → Bool
at_most_one status = nat_le status 1

-- the status of what a command makes of its files is one that it may give
pub makes_may : (command : Command) (files : List (List ℕ)) (answer : Answer) → Makes command files answer → IsTrue (may_give (Some command) answer.status)
makes_may Help [] answer h = low answer _ (λ status. status == 0) h refl
makes_may (Hold image machine loops out) (i ∷ m ∷ l ∷ []) answer h = low answer _ at_most_one h.told (stored_low _ out h.given)
makes_may (Rewrite image machine loops out) (i ∷ m ∷ l ∷ []) answer h = low answer _ at_most_one h.told (stored_low _ out h.given)
makes_may (ReportOf image machine loops) (i ∷ m ∷ l ∷ []) answer h = low answer _ at_most_one h.told (text_low _ h.given)
makes_may (Simulate image machine input out None) (i ∷ m ∷ n ∷ []) answer h = low answer _ run_may h (run_low out (simulated i m n None))
makes_may (Simulate image machine input out (Some loops)) (i ∷ m ∷ n ∷ l ∷ []) answer h = low answer _ run_may h (run_low out (simulated i m n (Some l)))
makes_may (Make number size prefix) [] answer h = low answer _ run_may h.told (made_low prefix h.made h.given)
makes_may (Lower image jumps out) (i ∷ j ∷ []) answer h = low answer _ at_most_one h.1.told (stored_low _ out h.1.given)
makes_may (Check image foreign machine loops) (i ∷ f ∷ m ∷ l ∷ []) answer h = low answer _ (λ status. nat_le status 1 || status == 7) h.1.told (verdict_low h.1.given)
makes_may (Survey image scaled machine loops inputs) (i ∷ s ∷ m ∷ l ∷ given) answer h = low answer _ at_most_one h.told (text_low _ h.given)
makes_may (Tune image machine loops out inputs) (i ∷ m ∷ l ∷ given) answer h = low answer _ at_most_one h.told (stored_low _ out h.given)
makes_may command files answer h = absurd h

-- so is that of a reply that is made
pub reply_may : (command : Command) (files : List (List ℕ)) (result : Result Reply NoMemory) → IfOk result (λ reply. Makes command files (reply_view reply)) → IfOk result (λ reply. IsTrue (may_give (Some command) reply.status))
reply_may command files (Ok reply) h = makes_may command files (reply_view reply) h
reply_may command files (Err no_memory) h = tt
