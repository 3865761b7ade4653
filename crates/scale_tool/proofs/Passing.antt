-- What `rewrite` stores passes a check.
use Rattle.std.proofs.Common.{◌≡◌, ℕ, List, [], ◌∷◌, ap, subst, ◌∙◌}
use Rattle.std.specs.Prelude.{Option, Some, None, IfSome, Result, Ok}
use Rattle.scale_base.specs.declared.refusal.Refusal.{Refusal}
use Rattle.scale_base.specs.declared.summary.Summary.{Summary}
use Rattle.scale_base.specs.declared.verdict.Verdict.{Verdict}
use Rattle.scale_base.specs.declared.verdict.Verdict.TheVariants.{Yes}
use Rattle.scale_report.specs.Texts.{verdict_text}
use Rattle.check_laws.specs.Passing.{RewrittenImagesPass, checked_as}
use Rattle.host_files.specs.HostState.{Files, HostState}
use Rattle.host_runs.specs.Answer.{Answer}
use Rattle.host_runs.specs.Command.{AnswersTo, HasAnswer}
use Rattle.host_runs.specs.Delivered.{IsDelivered}
use Rattle.host_runs.specs.Loading.{Loading, Missing, Long, Whole, IfWhole, loading_of}
use Rattle.host_runs.proofs.Laws.{EachWithin, loaded_within}
use Rattle.scale_tool.specs.Answer.{Makes, MakesAsked, verdict_answer}
use Rattle.scale_tool.specs.Command.{Command, Check, wants_asked, wants_of}
use Rattle.scale_tool.specs.Passing.{Passes, PassesRewritten}
use Rattle.scale_tool.specs.Tool.{IsAnswered}

module _ (law : RewrittenImagesPass) (status : ℕ) (old new : HostState) where
  -- this answer was given, with this status
  abbrev IsGiven : Answer → Type 0
  IsGiven answer = (status ≡ answer.status) × IsDelivered answer.stores answer.text old new

  yes_given : (summary : Summary) (given : Result Verdict Refusal) (answer : Answer) → given ≡ Ok (Yes (checked_as summary)) → answer ≡ verdict_answer given → IsGiven answer →
      (status ≡ 0) × IsDelivered [] (verdict_text (Yes (checked_as summary))) old new
  yes_given summary given answer same told is = subst IsGiven (told ∙ ap verdict_answer same) is

  of_files : (command : Command) (loaded : List (List ℕ)) (answer : Answer) → EachWithin (wants_of command) loaded → Makes command loaded answer → IsGiven answer → PassesRewritten command loaded status old new
  of_files (Check image foreign machine loops) (i ∷ f ∷ m ∷ l ∷ []) answer within made is = λ summary stored.
      let given = made.1.given in
      yes_given summary given answer (law i m l f summary given within.0 within.1.1.0 within.1.1.1.0 stored made.1.is_given) made.1.told is
  of_files command loaded answer within made is = tt

  of_loading : (command : Command) (loading : Loading) (answer : Answer) → IfWhole loading (EachWithin (wants_of command)) → AnswersTo (Makes command) loading answer → IsGiven answer →
      IfWhole loading (λ loaded. PassesRewritten command loaded status old new)
  of_loading command Missing answer within answers is = tt
  of_loading command (Long name) answer within answers is = tt
  of_loading command (Whole loaded) answer within answers is = of_files command loaded answer within answers is

  of_told : (asked : Option Command) (told : Option Files) → IfSome told (λ files. HasAnswer (wants_asked asked) (MakesAsked asked) files IsGiven) →
      IfSome told (λ files. IfSome asked (λ command. IfWhole (loading_of (wants_of command) files) (λ loaded. PassesRewritten command loaded status old new)))
  of_told asked None given = tt
  of_told None (Some files) given = tt
  of_told (Some command) (Some files) given = of_loading command (loading_of (wants_of command) files) given.0 (loaded_within (wants_of command) files) given.1 given.2

-- an answer that was given is a yes to what `rewrite` stores
pub answered_passes : RewrittenImagesPass → (asked : Option Command) (status : ℕ) (old new : HostState) → IsAnswered asked status old new → Passes asked status old new
answered_passes law asked status old new answered = of_told law status old new asked old.files answered
