-- What `rewrite` stores passes a check: yes is an answer, and any other one agrees with it.
use Rattle.std.proofs.Common.{◌≡◌, Result, Ok, Err, ap}
use Rattle.scale_base.specs.declared.refusal.Refusal.{Refusal}
use Rattle.scale_base.specs.declared.verdict.Verdict.{Verdict}
use Rattle.scale_base.specs.declared.verdict.Verdict.TheVariants.{Yes}
use Rattle.image_check.specs.Agreeing.{AreAlikeVerdicts}
use Rattle.image_check.proofs.Laws.{checked_answers}
use Rattle.check_laws.specs.Passing.{checked_as, RewrittenImagesPass}
use Rattle.check_laws.proofs.PassedFiles.{files_checked}

-- an answer that agrees with a verdict is that verdict
same_verdict : (answer : Result Verdict Refusal) (verdict : Verdict) → AreAlikeVerdicts answer (Ok verdict) → answer ≡ Ok verdict
same_verdict (Ok given) verdict same = ap (λ x. Ok x) same
same_verdict (Err refusal) verdict same = absurd same

pub only_yes : RewrittenImagesPass
only_yes = λ image machine loop_file stored summary answer si sm sl h check.
    let yes = Yes (checked_as summary) in
    same_verdict answer yes (checked_answers image stored machine loop_file answer (Ok yes) check (files_checked image machine loop_file stored summary si sm sl h))
