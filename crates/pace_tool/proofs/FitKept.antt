-- The answer to `fit` keeps its promise, and has a status that may be given.
use Rattle.std.proofs.Common.{◌≡◌, ◌≢◌, ◌∙◌, ℕ, List, ap, refl, true, nat_le}
use Rattle.std.specs.Prelude.{Result, Ok, Err}
use Rattle.std.specs.FinMap.{get}
use Rattle.scale_base.specs.declared.refusal.Refusal.{Refusal}
use Rattle.host_files.specs.HostState.{Files}
use Rattle.host_runs.specs.Answer.{Answer, Giving, Tells, stored_answer, text_answer}
use Rattle.host_runs.specs.Delivered.{with_stores}
use Rattle.host_runs.specs.Promise.{StoredPromise}
use Rattle.host_runs.proofs.Laws as runs
use Rattle.pace_fit.specs.Endings.{endings_on}
use Rattle.pace_tool.specs.Fits.{Fits, IsFittedSafely, MakesFit}
use Rattle.pace_tool.specs.Promise.{FitsAny}
use Rattle.pace_tool.specs.Texts.{fitted_text}
use Rattle.pace_tool.proofs.SmallStatus.{file_told}

pub fit_kept : (image machine loops : List ℕ) (inputs : List (List ℕ)) (out : List ℕ) (files : Files) (answer : Answer) → MakesFit image machine loops inputs out answer → answer.status ≢ 1 →
    StoredPromise (FitsAny image machine loops inputs) (IsFittedSafely image machine loops) (get (with_stores answer.stores files) out)
fit_kept image machine loops inputs out files answer made done =
    let kept = runs.stored_kept (Fits image machine loops inputs made.proposals) (IsFittedSafely image machine loops) (fitted_text (endings_on image machine loops inputs) made.proposals) out files
    (λ stored told is. is.safe) answer made.tells done in
    record {
      stored = kept.stored;
      stands = kept.stands;
      told = kept.told;
      given = (made.proposals, kept.given);
      safe = λ printed any. any.1.safe;
    }

pub fit_small : (image machine loops : List ℕ) (inputs : List (List ℕ)) (out : List ℕ) (answer : Answer) → MakesFit image machine loops inputs out answer → nat_le answer.status 1 ≡ true
fit_small image machine loops inputs out answer x = file_told (Fits image machine loops inputs x.proposals) (fitted_text (endings_on image machine loops inputs) x.proposals) out answer x.tells
