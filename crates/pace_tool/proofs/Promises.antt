-- Each command that was done keeps its promise.
use Rattle.std.proofs.Common.{◌≢◌, ℕ, List, [], ◌∷◌}
use Rattle.std.specs.FinMap.{get}
use Rattle.host_files.specs.HostState.{Files, HostState}
use Rattle.host_runs.specs.Answer.{Answer}
use Rattle.host_runs.specs.Command.{IsAnswered, StoresStand}
use Rattle.host_runs.specs.Delivered.{with_stores}
use Rattle.host_runs.specs.Promise.{Promised, StoredPromise}
use Rattle.host_runs.proofs.Laws as runs
use Rattle.host_runs.proofs.Laws.{EachWithin}
use Rattle.pace_fit.specs.Endings.{endings_on}
use Rattle.pace_tool.specs.Answer.{Makes, SplitsImage}
use Rattle.pace_tool.specs.Fits.{Fits, IsFittedSafely, MakesFit}
use Rattle.pace_tool.specs.Command.{Command, Fit, FitVersions, Show, Loops, Explain, DrawRun, DrawPlan, Jumps, Split, InOne, wants_of}
use Rattle.pace_tool.specs.Drafts.{Drafts, IsDraftedSafely}
use Rattle.pace_tool.specs.Promise.{FitsAny, IsSplitSafely, Promise}
use Rattle.pace_tool.specs.Texts.{drafted_text, fitted_text, split_text}
use Rattle.pace_tool.proofs.Drafted.{drafted_safely}
use Rattle.pace_tool.proofs.FitKept.{fit_kept}
use Rattle.pace_tool.proofs.InOne.{in_one_kept}
use Rattle.pace_tool.proofs.OwnFiles.{versions_kept}
use Rattle.pace_tool.proofs.SplitKept.{split_safely}

kept : (command : Command) (loaded : List (List ℕ)) (files : Files) (answer : Answer) → EachWithin (wants_of command) loaded → Makes command loaded answer → answer.status ≢ 1 →
    Promise command loaded (with_stores answer.stores files)
kept (Fit image machine loops out inputs) (i ∷ m ∷ l ∷ given) files answer within made done = fit_kept i m l given out files answer made done
kept (Fit image machine loops out inputs) loaded files answer within made done = absurd made
kept (FitVersions image machine loops out inputs) (i ∷ m ∷ l ∷ given) files answer within made done = versions_kept i m l given out files answer made done
kept (FitVersions image machine loops out inputs) loaded files answer within made done = absurd made
kept (Show image machine loops) loaded files answer within made done = tt
kept (Loops image out most trusts inputs) (i ∷ given) files answer within made done = runs.stored_kept (Drafts i most trusts) (IsDraftedSafely i most) drafted_text out files (λ stored draft is. drafted_safely i most trusts stored made.0 draft is) answer made.1 done
kept (Loops image out most trusts inputs) loaded files answer within made done = absurd made
kept (Explain image machine loops) loaded files answer within made done = tt
kept (DrawRun machine out names) loaded files answer within made done = tt
kept (DrawPlan image machine loops out) loaded files answer within made done = tt
kept (Jumps image out) loaded files answer within made done = tt
kept (Split image out) (i ∷ []) files answer within made done = runs.stored_kept (SplitsImage i) (IsSplitSafely i) split_text out files (split_safely i) answer made done
kept (Split image out) loaded files answer within made done = absurd made
kept (InOne image machine out versions most inputs) (i ∷ m ∷ given) files answer within made done = in_one_kept i m out most given versions files answer made.0 within.0 done made.1
kept (InOne image machine out versions most inputs) loaded files answer within made done = absurd made

-- stores that stand keep their promise, whatever was answered
pub stored_keep_promise : (command : Command) (old new : HostState) → StoresStand (wants_of command) (Makes command) old new → Promised (wants_of command) (Promise command) old new
stored_keep_promise command = runs.stored_keep_promise (wants_of command) (Makes command) (Promise command) (kept command)

-- so does an answer that was given and is no refusal
pub answered_keep_promise : (command : Command) (status : ℕ) (old new : HostState) → IsAnswered (wants_of command) (Makes command) status old new → status ≢ 1 →
    Promised (wants_of command) (Promise command) old new
answered_keep_promise command = runs.answered_keep_promise (wants_of command) (Makes command) (Promise command) (kept command)
