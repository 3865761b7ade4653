-- The answer to `fit` where versions are tried has a status that may be given, and keeps its promise.
use Rattle.std.proofs.Common.{◌≡◌, ◌≢◌, ◌∙◌, ◌⊎◌, ℕ, List, inl, inr, sym, ap, subst, nat_le, true}
use Rattle.std.specs.Prelude.{string_bytes}
use Rattle.std.specs.FinMap.{get}
use Rattle.host_files.specs.HostState.{Files}
use Rattle.host_runs.specs.Answer.{Answer}
use Rattle.host_runs.specs.Delivered.{with_stores}
use Rattle.host_runs.specs.Promise.{StoredPromise}
use Rattle.version_loops.specs.VersionFile.{IsVersionFile}
use Rattle.version_loops.proofs.Laws.{files_are_kept}
use Rattle.version_fits.specs.declared.choosing.ChosenVersion.{ChosenVersion}
use Rattle.pace_tool.specs.Fits.{IsFittedSafely}
use Rattle.pace_tool.specs.Promise.{FitsAny, IsFittedWithVersions, IsVersionKept}
use Rattle.pace_tool.specs.Versions.{IsVersionTried, MakesVersionFit}
use Rattle.pace_tool.proofs.Behind.{behind_status, behind_stores}
use Rattle.pace_tool.proofs.FitKept.{fit_kept, fit_small}

pub versions_small : (image machine loops : List ℕ) (inputs : List (List ℕ)) (out : List ℕ) (answer : Answer) → MakesVersionFit image machine loops inputs out answer → nat_le answer.status 1 ≡ true
versions_small image machine loops inputs out answer is =
    ap (λ (a : Answer). nat_le a.status 1) is.told ∙ ap (λ s. nat_le s 1) (behind_status is.text is.fitted) ∙ fit_small is.tried machine is.own inputs out is.fitted is.made

-- a version is kept where the program is
version_kept : (image loops : List ℕ) (chosen : ChosenVersion) → IsVersionFile image loops chosen.version (string_bytes chosen.loops) → IsVersionKept image loops chosen.version.file.items (string_bytes chosen.loops)
version_kept image loops chosen is = record {
  image = is.image;
  versioned = is.versioned;
  pieces = chosen.version.pieces.items;
  sites = chosen.version.sites.items;
  base = chosen.version.base;
  olds = is.olds;
  notes = is.notes;
  is_read = is.is_read;
  is_versioned = is.is_versioned;
  file = is.made;
  olds_are = is.olds_are;
  notes_are = is.notes_are;
  kept = λ levels input n status bytes kept exited. files_are_kept image loops (string_bytes chosen.loops) chosen.version is levels input n status bytes kept exited;
}

abbrev IsGoingOn : (image loops tried own : List ℕ) → Type 0
IsGoingOn image loops tried own = ((tried ≡ image) × (own ≡ loops)) ⊎ IsVersionKept image loops tried own

tried_kept : (image machine loops : List ℕ) (inputs : List (List ℕ)) (tried own text : List ℕ) → IsVersionTried image machine loops inputs tried own text → IsGoingOn image loops tried own
tried_kept image machine loops inputs tried own text (inl same) = inl (same.0, same.1)
tried_kept image machine loops inputs tried own text (inr other) =
    let chosen : ChosenVersion = other.0 in
    let kept = version_kept image loops chosen other.1.fitted.is_loop_file in
    inr (subst (λ (file : List ℕ). IsVersionKept image loops file own) (sym other.2)
    (subst (λ (file : List ℕ). IsVersionKept image loops chosen.version.file.items file) (sym other.3) kept))

pub versions_kept : (image machine loops : List ℕ) (inputs : List (List ℕ)) (out : List ℕ) (files : Files) (answer : Answer) → MakesVersionFit image machine loops inputs out answer → answer.status ≢ 1 →
    IsFittedWithVersions image machine loops inputs (get (with_stores answer.stores files) out)
versions_kept image machine loops inputs out files answer is done =
    let stores = sym (ap (λ (a : Answer). a.stores) is.told ∙ behind_stores is.text is.fitted) in
    let ended : is.fitted.status ≢ 1 = λ e. done (ap (λ (a : Answer). a.status) is.told ∙ behind_status is.text is.fitted ∙ e) in
    record {
      tried = is.tried;
      own = is.own;
      is_tried = tried_kept image machine loops inputs is.tried is.own is.text is.is_tried;
      fitted = subst (λ stored. StoredPromise (FitsAny is.tried machine is.own inputs) (IsFittedSafely is.tried machine is.own) (get (with_stores stored files) out)) stores
          (fit_kept is.tried machine is.own inputs out files is.fitted is.made ended);
    }
