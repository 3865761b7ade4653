-- The answer to `all` has a status that may be given, and keeps its promise.
use Rattle.std.proofs.Common.{◌≡◌, ◌≢◌, ◌∙◌, ◌++◌, ◌<◌, ◌≤◌, ℕ, List, [], ◌∷◌, length, inl, inr, refl, sym, ap, subst, Bool, true, false, nat_le, arith}
use Rattle.std.specs.Prelude.{Option, Result, Ok, Err}
use Rattle.std.specs.FinMap.{get}
use Rattle.scale_base.specs.declared.refusal.Refusal.{Refusal}
use Rattle.scale_base.specs.declared.summary.Lowered.{Lowered}
use Rattle.host_files.specs.HostState.{Files}
use Rattle.host_runs.specs.Answer.{Answer}
use Rattle.host_runs.specs.Delivered.{with_stores}
use Rattle.image_lower.specs.Lowered.{IsLowered}
use Rattle.image_lower.proofs.Laws.{lowered_safe}
use Rattle.loop_drafts.specs.declared.drafted.LoopDraft.{LoopDraft}
use Rattle.loop_drafts.specs.Kept.{AreBytes}
use Rattle.pace_tool.specs.Fits.{IsFittedSafely, MakesFit}
use Rattle.pace_tool.specs.Drafts.{Drafts}
use Rattle.pace_tool.specs.InOne.{IsTried, MakesDrafted, MakesFitted, MakesInOne, MakesOfPlain, MakesOfTried, MakesPlain, behind}
use Rattle.host_runs.specs.Promise.{StoredPromise}
use Rattle.pace_tool.specs.Promise.{FitsAny, IsFittedInOne, IsTriedSafely}
use Rattle.versioned_images.specs.Versions.{IsVersionOf}
use Rattle.version_fits.specs.declared.choosing.ChosenVersion.{ChosenVersion}
use Rattle.pace_tool.specs.Texts.{drafted_text}
use Rattle.pace_tool.proofs.Drafted.{drafted_safely}
use Rattle.pace_tool.proofs.Behind.{behind_status, behind_stores}
use Rattle.pace_tool.proofs.FitKept.{fit_kept, fit_small}
use Rattle.pace_tool.proofs.VersionedSafely.{versioned_safely}

-- ---- the status

abbrev status_of : Answer → ℕ
status_of answer = answer.status

module _ (machine out : List ℕ) (most : Option ℕ) (inputs : List (List ℕ)) (answer : Answer) where
  fitted_small : (image file text : List ℕ) → MakesFitted machine out inputs image file text answer → nat_le answer.status 1 ≡ true
  fitted_small image file text (inl long) = ap (λ (a : Answer). nat_le a.status 1) long.1
  fitted_small image file text (inr made) =
      let fitted = made.1.0 in
      ap (λ (a : Answer). nat_le a.status 1) made.1.2 ∙ ap (λ s. nat_le s 1) (behind_status text fitted) ∙ fit_small image machine file inputs out fitted made.1.1

  drafted_small : (image text : List ℕ) (given : Result (List ℕ × LoopDraft) Refusal) → MakesDrafted machine out inputs image text given answer → nat_le answer.status 1 ≡ true
  drafted_small image text (Err refusal) is = ap (λ (a : Answer). nat_le a.status 1) is
  drafted_small image text (Ok given) (inl open_one) = ap (λ (a : Answer). nat_le a.status 1) open_one.1
  drafted_small image text (Ok given) (inr closed) = fitted_small image given.0 (text ++ drafted_text given.1) closed.1

  plain_small : (versions : Bool) (plain : Result (List ℕ × List ℕ) Refusal) → MakesOfPlain machine out most inputs versions plain answer → nat_le answer.status 1 ≡ true
  plain_small versions (Err refusal) is = ap (λ (a : Answer). nat_le a.status 1) is
  plain_small versions (Ok plain) is = let made : MakesOfTried machine out most inputs is.0 (plain.1 ++ is.1) answer = is.3 in drafted_small is.0 (plain.1 ++ is.1) made.1.0 made.1.2

pub in_one_small : (image machine : List ℕ) (most : Option ℕ) (inputs : List (List ℕ)) (versions : Bool) (out : List ℕ) (answer : Answer) → MakesInOne image machine most inputs versions out answer →
    nat_le answer.status 1 ≡ true
in_one_small image machine most inputs versions out answer is = plain_small machine out most inputs answer versions is.plain is.made

-- ---- the promise

-- the image that is fitted follows the one that goes on
tried_kept : (machine : List ℕ) (most : Option ℕ) (inputs : List (List ℕ)) (versions : Bool) (plain tried text : List ℕ) → IsTried machine most inputs versions plain tried text → IsTriedSafely versions plain tried
tried_kept machine most inputs false plain tried text is = is.0
tried_kept machine most inputs true plain tried text (inl same) = inl same.0
tried_kept machine most inputs true plain tried text (inr other) =
    let chosen : ChosenVersion = other.0 in
    let version : IsVersionOf plain chosen.version = other.1.fitted.is_version in
    inr (versioned_safely plain tried version.image version.versioned chosen.version.pieces.items chosen.version.sites.items chosen.version.base version.is_read version.is_versioned (version.file ∙ sym other.2))

module _ (image machine out : List ℕ) (most : Option ℕ) (inputs : List (List ℕ)) (versions : Bool) (files : Files) (answer : Answer) (bytes : AreBytes image) (short : length image ≤ 4194304) (done : answer.status ≢ 1) where
  abbrev IsKept : Type 0
  IsKept = IsFittedInOne image machine most inputs versions (get (with_stores answer.stores files) out)

  -- The image that goes on, and the one that is fitted.
  record IsGoingOn (plain tried : List ℕ) : Type 0 where
    text : List ℕ
    is_plain : MakesPlain image (Ok ((plain, text)))
    is_tried : IsTriedSafely versions plain tried
    are : AreBytes tried

  fitted_kept : (plain tried text file : List ℕ) (draft : LoopDraft) → IsGoingOn plain tried → Drafts tried most false (Ok ((file, draft))) → draft.unbounded ≡ 0 →
      MakesFitted machine out inputs tried file (text ++ drafted_text draft) answer → IsKept
  fitted_kept plain tried text file draft goes drafted closed (inl long) = absurd (done (ap status_of long.1))
  fitted_kept plain tried text file draft goes drafted closed (inr made) =
      let fitted : Answer = made.1.0 in
      let told : answer ≡ behind (text ++ drafted_text draft) fitted = made.1.2 in
      let stores = sym (ap (λ (a : Answer). a.stores) told ∙ behind_stores (text ++ drafted_text draft) fitted) in
      let ended : fitted.status ≢ 1 = λ e. done (ap status_of told ∙ behind_status (text ++ drafted_text draft) fitted ∙ e) in
      record {
        plain = plain;
        text = goes.text;
        is_plain = goes.is_plain;
        lowered = λ jumps counts is. lowered_safe image jumps plain counts short bytes is;
        tried = tried;
        is_tried = goes.is_tried;
        file = file;
        draft = draft;
        is_drafted = drafted;
        closed = closed;
        drafted = drafted_safely tried most false file goes.are draft drafted;
        fitted = subst (λ stored. StoredPromise (FitsAny tried machine file inputs) (IsFittedSafely tried machine file) (get (with_stores stored files) out)) stores
            (fit_kept tried machine file inputs out files fitted made.1.1 ended);
      }

  drafted_kept : (plain tried text : List ℕ) (given : Result (List ℕ × LoopDraft) Refusal) → IsGoingOn plain tried → Drafts tried most false given →
      MakesDrafted machine out inputs tried text given answer → IsKept
  drafted_kept plain tried text (Err refusal) goes drafted is = absurd (done (ap status_of is))
  drafted_kept plain tried text (Ok given) goes drafted (inl open_one) = absurd (done (ap status_of open_one.1))
  drafted_kept plain tried text (Ok given) goes drafted (inr closed) = fitted_kept plain tried text given.0 given.1 goes drafted closed.0 closed.1

  plain_kept : (plain : Result (List ℕ × List ℕ) Refusal) → MakesPlain image plain → MakesOfPlain machine out most inputs versions plain answer → IsKept
  plain_kept (Err refusal) is_plain is = absurd (done (ap status_of is))
  plain_kept (Ok plain) is_plain is =
      let tried : List ℕ = is.0 in
      let told : List ℕ = is.1 in
      let made : MakesOfTried machine out most inputs tried (plain.1 ++ told) answer = is.3 in
      let goes : IsGoingOn plain.0 tried = record { text = plain.1; is_plain = is_plain; is_tried = tried_kept machine most inputs versions plain.0 tried told is.2; are = made.0 } in
      drafted_kept plain.0 tried (plain.1 ++ told) made.1.0 goes made.1.1 made.1.2

  pub in_one_kept : MakesInOne image machine most inputs versions out answer → IsKept
  in_one_kept is = plain_kept is.plain is.is_plain is.made
