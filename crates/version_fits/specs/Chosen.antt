-- What an image takes that is fitted with a draft of its loops as its loop file, for inputs of so many bytes at most, where that is told, or with one that is
-- given, and when one of its versions is chosen.
use Rattle.std.specs.Prelude.{◌≡◌, ℕ, ◌<◌, ◌≤◌, Bool, List, length, map, string_bytes, IfSome, Option, Some, None, Ok}
use Rattle.scale_base.specs.declared.limits.TheConstants.{FILE_LIMIT, IMAGE_LIMIT}
use Rattle.gain_tuner.specs.Spending.{counts}
use Rattle.loop_drafts.specs.declared.drafted.LoopDraft.{LoopDraft}
use Rattle.loop_drafts.specs.Drafted.{IsDrafted}
use Rattle.loop_drafts.specs.Trusting.{AreNoneTrusted}
use Rattle.loop_drafts.specs.Pieces.{printed}
use Rattle.paced_images.specs.declared.proposal.Proposal.{Proposal}
use Rattle.pace_fit.specs.declared.fitting.Fitted.{Fitted}
use Rattle.pace_fit.specs.Fitting.{IsFitted}
use Rattle.versioned_images.specs.declared.versions.Version.{Version}
use Rattle.versioned_images.specs.Versions.{IsVersionOf}
use Rattle.version_loops.specs.VersionFile.{IsVersionFile}
use Rattle.version_fits.specs.declared.choosing.Best.{Best}
use Rattle.version_fits.specs.declared.choosing.ChosenVersion.{ChosenVersion}

-- a draft of an image's loop file that trusts no store, without open loops
pub record IsDraftedFile (image : List ℕ) (most : Option ℕ) (file : List ℕ) : Type 0 where
  pub draft : LoopDraft
  pub drafted : IsDrafted image most (Ok draft)
  pub untrusting : AreNoneTrusted draft.trust
  pub closed : draft.unbounded ≡ 0
  pub is_printed : file ≡ printed draft.pieces.items

-- the numbers of a fit of an image with a loop file, of whatever proposals, and which inputs count
pub record IsFitBy (image machine loops : List ℕ) (inputs : List (List ℕ)) (flags : List Bool) (fitted : Fitted) : Type 0 where
  pub proposals : List Proposal
  pub stored : List ℕ
  pub is_fitted : IsFitted image machine loops inputs proposals stored fitted
  pub counted : flags ≡ map (counts image machine loops) inputs

-- ---- loop files

-- that of a program: the one that is given, or else a draft
abbrev pub IsLoopFile : (plain : List ℕ) → Option ℕ → (given : Option (List ℕ)) → List ℕ → Type 0
IsLoopFile plain most None file = IsDraftedFile plain most file
IsLoopFile plain most (Some loops) file = file ≡ loops

-- and that of a version of it: made by the one that is given, or else a draft
abbrev pub IsLoopFileOf : (plain : List ℕ) → Option ℕ → (given : Option (List ℕ)) → Version → List ℕ → Type 0
IsLoopFileOf plain most None version file = IsDraftedFile version.file.items most file
IsLoopFileOf plain most (Some loops) version file = IsVersionFile plain loops version file

-- ---- fits

-- the numbers of a fit of a program with its loop file
abbrev pub IsPlainFit : (plain machine : List ℕ) → Option ℕ → Option (List ℕ) → List (List ℕ) → List Bool → Fitted → Type 0
IsPlainFit plain machine most given inputs flags fitted = (loops : List ℕ) × IsLoopFile plain most given loops ×
    IsFitBy plain machine loops inputs flags fitted

-- and of a version of it, with a loop file of its own, which can be loaded
pub record IsVersionFit (plain machine : List ℕ) (most : Option ℕ) (given : Option (List ℕ)) (inputs : List (List ℕ)) (version : Version) (loops : List ℕ)
    (flags : List Bool) (fitted : Fitted) : Type 0 where
  pub is_version : IsVersionOf plain version
  pub is_loop_file : IsLoopFileOf plain most given version loops
  pub is_fit : IsFitBy version.file.items machine loops inputs flags fitted
  pub short : length version.file.items ≤ IMAGE_LIMIT
  pub loops_short : length loops ≤ FILE_LIMIT

-- The version of a program whose fit takes less than that of the program itself, on the same inputs.
pub record IsChosenVersion (plain machine : List ℕ) (most : Option ℕ) (given : Option (List ℕ)) (inputs : List (List ℕ)) (chosen : ChosenVersion) : Type 0 where
  pub flags : List Bool
  pub without : IsPlainFit plain machine most given inputs flags chosen.without
  pub fitted : IsVersionFit plain machine most given inputs chosen.version (string_bytes chosen.loops) flags chosen.fitted
  pub less : chosen.fitted.energy < chosen.without.energy

-- the least fit so far, of a program that takes so much itself
pub record IsBest (plain machine : List ℕ) (most : Option ℕ) (given : Option (List ℕ)) (inputs : List (List ℕ)) (without : Fitted) (best : Best) : Type 0 where
  pub itself : IsPlainFit plain machine most given inputs best.fit.flags.items without
  pub least : best.fit.fitted.energy ≤ without.energy
  pub chosen : IfSome best.version (λ tried. IsVersionFit plain machine most given inputs tried.version (string_bytes tried.loops) best.fit.flags.items best.fit.fitted ×
      (best.fit.fitted.energy < without.energy))
