-- All answers that may be given have one status.
use Rattle.std.proofs.Common.{◌≡◌, ℕ, List, [], ◌∷◌, refl, sym, ap, subst, ◌∙◌}
use Rattle.std.specs.Prelude.{Option, Some, None, Result, Ok, Err}
use Rattle.scale_base.specs.declared.plan.SiteLine.{SiteLine}
use Rattle.scale_base.specs.declared.refusal.Refusal.{Refusal}
use Rattle.scale_base.specs.declared.summary.Lowered.{Lowered}
use Rattle.scale_base.specs.declared.summary.Summary.{Summary}
use Rattle.scale_base.specs.declared.summary.Tuned.{Tuned}
use Rattle.scale_base.specs.declared.verdict.Verdict.{Verdict}
use Rattle.power_model.specs.Survey.{Survey as SurveyOfRuns}
use Rattle.scaler.specs.Agree.{AreAlikeAnswers}
use Rattle.scaler.specs.Held.{IsHeld}
use Rattle.scaler.specs.Planned.{IsPlanned}
use Rattle.scaler.specs.Rewritten.{IsRewritten}
use Rattle.scaler.proofs.Laws.{held_answers, rewritten_answers}
use Rattle.image_check.specs.Agreeing.{AreAlikeVerdicts}
use Rattle.image_check.specs.Checked.{IsChecked}
use Rattle.image_check.proofs.Laws.{checked_answers}
use Rattle.image_lower.specs.Lowered.{IsLowered}
use Rattle.image_lower.proofs.Laws.{lowered_answers}
use Rattle.input_survey.specs.Surveyed.{IsSurveyed}
use Rattle.input_survey.proofs.Laws.{surveyed_answers}
use Rattle.gain_tuner.specs.Agreeing.{AreAlikeTunings}
use Rattle.gain_tuner.specs.Choice.{IsTuning}
use Rattle.gain_tuner.proofs.Laws.{tuned_answers}
use Rattle.scale_report.specs.Texts.{lowered_text, summary_text, survey_text, tuned_text}
use Rattle.image_maker.specs.Making.{program}
use Rattle.image_maker.proofs.Laws.{one_image}
use Rattle.host_files.specs.HostState.{HostState}
use Rattle.host_runs.specs.Answer.{Answer, stored_answer, text_answer}
use Rattle.host_runs.proofs.Laws as runs
use Rattle.host_runs.proofs.Laws.{one_told}
use Rattle.scale_tool.specs.Answer.{AreMade, MadeFiles, Makes, MakesAsked, MakesMade, made_answer, text_of_plan, verdict_answer}
use Rattle.scale_tool.specs.Command.{Command, Help, Hold, Rewrite, Report, Simulate, Make, Lower, Check, Survey, Tune, wants_asked}
use Rattle.scale_tool.specs.Tool.{IsAnswered, IsStatusOfAll}

-- ---- what a command gives

stored_status : (out : List ℕ) (one other : Result (List ℕ × Summary) Refusal) → AreAlikeAnswers one other → (stored_answer summary_text out one).status ≡ (stored_answer summary_text out other).status
stored_status out (Ok one) (Ok other) alike = refl
stored_status out (Err one) (Err other) alike = refl
stored_status out (Ok one) (Err other) alike = absurd alike
stored_status out (Err one) (Ok other) alike = absurd alike

tuned_status : (out : List ℕ) (one other : Result (List ℕ × Tuned) Refusal) → AreAlikeTunings one other → (stored_answer tuned_text out one).status ≡ (stored_answer tuned_text out other).status
tuned_status out (Ok one) (Ok other) alike = refl
tuned_status out (Err one) (Err other) alike = refl
tuned_status out (Ok one) (Err other) alike = absurd alike
tuned_status out (Err one) (Ok other) alike = absurd alike

plan_status : (i m l : List ℕ) (one other : Result (Summary × List SiteLine) Refusal) → IsPlanned i m l one → IsPlanned i m l other → (text_answer text_of_plan one).status ≡ (text_answer text_of_plan other).status
plan_status i m l (Ok one) (Ok other) x y = refl
plan_status i m l (Err one) (Err other) x y = refl
plan_status i m l (Ok one) (Err other) x y = absurd (rewritten_answers i m l (Ok ((x.0, one.0))) (Err other) x.1 y)
plan_status i m l (Err one) (Ok other) x y = absurd (rewritten_answers i m l (Err one) (Ok ((y.0, other.0))) x y.1)

verdict_status : (one other : Result Verdict Refusal) → AreAlikeVerdicts one other → (verdict_answer one).status ≡ (verdict_answer other).status
verdict_status (Ok one) (Ok other) alike = ap (λ (v : Verdict). (verdict_answer (Ok v)).status) alike
verdict_status (Err one) (Err other) alike = refl
verdict_status (Ok one) (Err other) alike = absurd alike
verdict_status (Err one) (Ok other) alike = absurd alike

-- ---- made programs

-- there is one program of a number and a size, and one file of each kind that goes with it
same_made : (number size : ℕ) (one other : MadeFiles) → AreMade number size one → AreMade number size other → one ≡ other
same_made number size one other x y =
    let image : one.image ≡ other.image = one_image (program number size) one.image other.image x.image y.image in
    let machine : one.machine ≡ other.machine = x.machine ∙ sym y.machine in
    let loops : one.loops ≡ other.loops = x.loops ∙ sym y.loops in
    let input : one.input ≡ other.input = x.input ∙ sym y.input in
    λ i. record { image = image i; machine = machine i; loops = loops i; input = input i }

made_status : (prefix : List ℕ) (made : MadeFiles) (one other : Result (List ℕ × Summary) Refusal) → AreAlikeAnswers one other →
    (made_answer prefix made one).status ≡ (made_answer prefix made other).status
made_status prefix made (Ok one) (Ok other) alike = ap (λ (g : List ℕ × Summary). (made_answer prefix made (Ok g)).status) alike
made_status prefix made (Err one) (Err other) alike = refl
made_status prefix made (Ok one) (Err other) alike = absurd alike
made_status prefix made (Err one) (Ok other) alike = absurd alike

one_made : (number size : ℕ) (prefix : List ℕ) (one other : Answer) → MakesMade number size prefix one → MakesMade number size prefix other → one.status ≡ other.status
one_made number size prefix one other x y =
    let same : x.made ≡ y.made = same_made number size x.made y.made x.are_made y.are_made in
    let given : IsRewritten y.made.image y.made.machine y.made.loops x.given = subst (λ (m : MadeFiles). IsRewritten m.image m.machine m.loops x.given) same x.is_given in
    ap (λ (a : Answer). a.status) x.told
    ∙ ap (λ (m : MadeFiles). (made_answer prefix m x.given).status) same
    ∙ made_status prefix y.made x.given y.given (rewritten_answers y.made.image y.made.machine y.made.loops x.given y.given given y.is_given)
    ∙ sym (ap (λ (a : Answer). a.status) y.told)

-- ---- all commands

one_made_of_files : (command : Command) (files : List (List ℕ)) (one other : Answer) → Makes command files one → Makes command files other → one.status ≡ other.status
one_made_of_files Help [] one other x y = ap (λ (a : Answer). a.status) (x ∙ sym y)
one_made_of_files (Hold image machine loops out) (i ∷ m ∷ l ∷ []) one other x y =
    one_told (IsHeld i m l) (stored_answer summary_text out) (λ a b g h. stored_status out a b (held_answers i m l a b g h)) one other x y
one_made_of_files (Rewrite image machine loops out) (i ∷ m ∷ l ∷ []) one other x y =
    one_told (IsRewritten i m l) (stored_answer summary_text out) (λ a b g h. stored_status out a b (rewritten_answers i m l a b g h)) one other x y
one_made_of_files (Report image machine loops) (i ∷ m ∷ l ∷ []) one other x y = one_told (IsPlanned i m l) (text_answer text_of_plan) (plan_status i m l) one other x y
one_made_of_files (Simulate image machine input out None) (i ∷ m ∷ n ∷ []) one other x y = ap (λ (a : Answer). a.status) (x ∙ sym y)
one_made_of_files (Simulate image machine input out (Some loops)) (i ∷ m ∷ n ∷ l ∷ []) one other x y = ap (λ (a : Answer). a.status) (x ∙ sym y)
one_made_of_files (Make number size prefix) [] one other x y = one_made number size prefix one other x y
one_made_of_files (Lower image jumps out) (i ∷ j ∷ []) one other x y =
    one_told (IsLowered i j) (stored_answer lowered_text out) (λ a b g h. ap (λ (r : Result (List ℕ × Lowered) Refusal). (stored_answer lowered_text out r).status) (lowered_answers i j a b g h)) one other x.1 y.1
one_made_of_files (Check image foreign machine loops) (i ∷ f ∷ m ∷ l ∷ []) one other x y =
    one_told (IsChecked i f m l) verdict_answer (λ a b g h. verdict_status a b (checked_answers i f m l a b g h)) one other x.1 y.1
one_made_of_files (Survey image scaled machine loops inputs) (i ∷ s ∷ m ∷ l ∷ given) one other x y =
    one_told (IsSurveyed i s m l given) (text_answer survey_text) (λ a b g h. ap (λ (r : Result SurveyOfRuns Refusal). (text_answer survey_text r).status) (surveyed_answers i s m l given a b g h)) one other x y
one_made_of_files (Tune image machine loops out inputs) (i ∷ m ∷ l ∷ given) one other x y =
    one_told (IsTuning i m l given) (stored_answer tuned_text out) (λ a b g h. tuned_status out a b (tuned_answers i m l given a b g h)) one other x y
one_made_of_files command files one other x y = absurd x

one_made_of_asked : (asked : Option Command) (files : List (List ℕ)) (one other : Answer) → MakesAsked asked files one → MakesAsked asked files other → one.status ≡ other.status
one_made_of_asked None files one other x y = ap (λ (a : Answer). a.status) (x ∙ sym y)
one_made_of_asked (Some command) files one other x y = one_made_of_files command files one other x y

-- a status that was answered is that of every answer
pub status_of_all : (asked : Option Command) (status : ℕ) (old new : HostState) → IsAnswered asked status old new → IsStatusOfAll asked status old
status_of_all asked = runs.status_of_all (wants_asked asked) (MakesAsked asked) (one_made_of_asked asked)
