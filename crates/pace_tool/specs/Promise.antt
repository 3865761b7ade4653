-- What the files that a command has stored promise to whoever runs them.
use Rattle.std.specs.Prelude.{◌≡◌, ◌⊎◌, ℕ, Bool, true, false, List, [], ◌∷◌, Option, Result, Ok}
use Rattle.std.specs.FinMap.{get}
use Rattle.host_files.specs.HostState.{Files}
use Rattle.scale_base.specs.Image.{Image, image_of}
use Rattle.scale_base.specs.Run.{HasExited, run_of}
use Rattle.scale_base.specs.declared.refusal.Refusal.{Refusal}
use Rattle.paced_images.specs.declared.proposal.Proposal.{Proposal}
use Rattle.pace_fit.specs.declared.fitting.Fitted.{Fitted}
use Rattle.host_runs.specs.Promise.{StoredPromise}
use Rattle.pace_tool.specs.Fits.{Fits, IsFittedSafely}
use Rattle.scale_base.specs.declared.summary.Lowered.{Lowered}
use Rattle.image_lower.specs.Lowered.{IsLowered}
use Rattle.image_lower.specs.Promise.{IsLoweredSafely}
use Rattle.loop_drafts.specs.declared.drafted.LoopDraft.{LoopDraft}
use Rattle.loop_drafts.specs.Drafted.{IsDrafted}
use Rattle.loop_drafts.specs.Trusting.{AreNoneTrusted}
use Rattle.loop_drafts.specs.Kept.{AreBytes}
use Rattle.graph_runs.specs.KeptRuns.{IsKeptUpTo}
use Rattle.loop_file.specs.declared.notes.LoopNote.{LoopNote}
use Rattle.loop_file.specs.Kept.{noted_loops}
use Rattle.loop_file.specs.Loops.{read_loops}
use Rattle.loop_versions.specs.declared.pieces.Piece.{Piece}
use Rattle.loop_versions.specs.declared.pieces.Site.{Site}
use Rattle.loop_versions.specs.Follows.{FollowsVersioned, GoesBack, StaysOutside}
use Rattle.loop_versions.specs.Made.{IsVersioned}
use Rattle.version_laws.specs.Exits.{ExitsAlike}
use Rattle.split_images.specs.declared.split.SplitImage.{SplitImage}
use Rattle.pace_tool.specs.Answer.{SplitsImage}
use Rattle.pace_tool.specs.Command.{Command, Fit, FitVersions, Loops, Split, InOne}
use Rattle.pace_tool.specs.InOne.{MakesPlain}
use Rattle.pace_tool.specs.Drafts.{Drafts, IsDraftedSafely}

-- what `fit` may give, of whatever proposals
abbrev pub FitsAny : (image machine loops : List ℕ) → List (List ℕ) → Result (List ℕ × Fitted) Refusal → Type 0
FitsAny image machine loops inputs given = (proposals : List Proposal) × Fits image machine loops inputs proposals given

-- A file is a versioned image of another one. Where that exits, so does it, with the same status and output; and it follows each run of that which goes to no address of the
-- pieces, whatever its ending, but for a trap at a return that is inlined. Where calls are inlined, both are said of runs whose returns go back to their calls: that is each run on
-- each input, where a draft of that other file says that returns are proved, and trusts no store. But for the steps at sites, bridges and guards, and those that fill x1 for an inlined call, its steps
-- are of the same classes.
pub record IsVersionedSafely (plain tried : List ℕ) : Type 0 where
  pub image : Image
  pub versioned : Image
  pub pieces : List Piece
  pub sites : List Site
  pub base : ℕ
  pub is_read : image_of plain ≡ Ok image
  pub is_versioned : IsVersioned image versioned pieces sites base
  pub file : versioned.file ≡ tried
  pub exits : (levels : ℕ) (input : List ℕ) (n status : ℕ) → AreBytes input → GoesBack image versioned pieces sites base levels input n →
      (run_of image levels input n).standing ≡ HasExited status →
      (m : ℕ) × ExitsAlike image versioned pieces sites base status (run_of image levels input n) (run_of versioned levels input m)
  pub follows : (levels : ℕ) (input : List ℕ) (n : ℕ) → AreBytes input → StaysOutside image versioned pieces sites base levels input n →
      GoesBack image versioned pieces sites base levels input n →
      (m : ℕ) × FollowsVersioned image versioned pieces sites base (run_of image levels input n) (run_of versioned levels input m)
  pub goes_back : (most : Option ℕ) (draft : LoopDraft) → IsDrafted plain most (Ok draft) → AreNoneTrusted draft.trust → draft.returns ≡ true →
      (levels : ℕ) (input : List ℕ) (n : ℕ) → AreBytes input → GoesBack image versioned pieces sites base levels input n

-- what `split` stores is the image itself, or one of it in which code is there twice, which follows it
abbrev pub IsSplitSafely : (image file : List ℕ) → SplitImage → Type 0
IsSplitSafely image file split = (file ≡ image) ⊎ IsVersionedSafely image file

-- A file is a versioned image of another one, which has a loop file, and has one of its own. Where that exits at the end of a run that keeps its loop file, so does it, with the same
-- status and output, at the end of a run that keeps its own; but for the steps at sites, bridges and guards, and those that fill x1 for an inlined call, its steps are of the same
-- classes.
pub record IsVersionKept (plain loops tried own : List ℕ) : Type 0 where
  pub image : Image
  pub versioned : Image
  pub pieces : List Piece
  pub sites : List Site
  pub base : ℕ
  pub olds : List LoopNote
  pub notes : List LoopNote
  pub is_read : image_of plain ≡ Ok image
  pub is_versioned : IsVersioned image versioned pieces sites base
  pub file : versioned.file ≡ tried
  pub olds_are : read_loops image loops ≡ Ok olds
  pub notes_are : read_loops versioned own ≡ Ok notes
  pub kept : (levels : ℕ) (input : List ℕ) (n status : ℕ) → AreBytes input → IsKeptUpTo image levels input (noted_loops olds) n →
      (run_of image levels input n).standing ≡ HasExited status →
      (m : ℕ) × ExitsAlike image versioned pieces sites base status (run_of image levels input n) (run_of versioned levels input m) ×
      IsKeptUpTo versioned levels input (noted_loops notes) m

-- What `fit` promises where versions are tried: OUT has a choice that is fitted to the program with its loop file, or to a version of it with a loop file of its own, which keeps it where
-- the program keeps its own; and the choice keeps what `fit` promises of it.
pub record IsFittedWithVersions (image machine loops : List ℕ) (inputs : List (List ℕ)) (out : Option (List ℕ)) : Type 0 where
  pub tried : List ℕ
  pub own : List ℕ
  pub is_tried : ((tried ≡ image) × (own ≡ loops)) ⊎ IsVersionKept image loops tried own
  pub fitted : StoredPromise (FitsAny tried machine own inputs) (IsFittedSafely tried machine own) out

-- the image that is fitted is the one that goes on, or, where versions are tried, one of it that follows it
abbrev pub IsTriedSafely : Bool → (plain tried : List ℕ) → Type 0
IsTriedSafely false plain tried = tried ≡ plain
IsTriedSafely true plain tried = (tried ≡ plain) ⊎ IsVersionedSafely plain tried

-- What `all` promises: OUT has a choice that is fitted to the image that goes on, or to one of it in which code is there twice, with the draft of its loops as its loop file. No
-- loop of the draft is open, and it keeps what `loops` promises of it; the choice keeps what `fit` promises of it; where jumps were lowered, the image that goes on follows the one
-- that was loaded, as `lower` promises; and where code is there twice, that image follows the one that goes on.
pub record IsFittedInOne (image machine : List ℕ) (most : Option ℕ) (inputs : List (List ℕ)) (versions : Bool) (out : Option (List ℕ))
    : Type 0 where
  pub plain : List ℕ
  pub text : List ℕ
  pub is_plain : MakesPlain image (Ok ((plain, text)))
  pub lowered : (jumps : List ℕ) (counts : Lowered) → IsLowered image jumps (Ok ((plain, counts))) →
      IsLoweredSafely image jumps plain counts
  pub tried : List ℕ
  pub is_tried : IsTriedSafely versions plain tried
  pub file : List ℕ
  pub draft : LoopDraft
  pub is_drafted : Drafts tried most false (Ok ((file, draft)))
  pub closed : draft.unbounded ≡ 0
  pub drafted : IsDraftedSafely tried most file draft
  pub fitted : StoredPromise (FitsAny tried machine file inputs) (IsFittedSafely tried machine file) out

-- What a command promises beside its answer, by the files that it loaded and those that stand afterwards. Of `fit`: on every input on which the original run exits and keeps the
-- loops' bounds and the return addresses, the stored image gives the same output and the same exit status, ends by the deadline, never raises its level, takes no more energy than
-- its own cycles at its starting level would, and adds at most the printed number of cycles; and its runs on the inputs that count take no more energy than those of the image
-- that `hold` stores. Of `fit` where versions are tried: `IsFittedWithVersions`. Of `loops`: the stored file isn't too long to be loaded; where it prints that no loop is open, that is a loop file of the image, with as many loops as it
-- prints; where it prints that all loops are proved as well, every run on every input keeps that file as long as its returns go back to their calls; where it prints that returns
-- are proved, those of every run on every input do, so that then every run keeps that file, and whatever is promised of runs that keep it; else no run breaks a bound of it before
-- it breaks one that was written in by hand, or a return address; and where it prints that nothing is irreducible, the loops are taken. With a limit of inputs, what is promised of
-- bounds is so on every input that has no more bytes, and the file says so; what is promised of returns is so on every input. Where the file trusts stores, as it
-- says then, all this is so of runs in which none of these changes a word that is kept. Of `split`: OUT has the image itself, or one
-- of it that follows it (`IsVersionedSafely`). Of `all`: `IsFittedInOne`. `show` and
-- `explain` store nothing, and promise nothing beside their answers. `draw run`,
-- `draw plan` and `jumps` store files of which their answers say all (`DrawsRuns`, `DrawsPlan`, `DraftsJumps`).
abbrev pub Promise : Command → List (List ℕ) → Files → Type 0
Promise (Fit image machine loops out inputs) (i ∷ m ∷ l ∷ given) after = StoredPromise (FitsAny i m l given) (IsFittedSafely i m l)
    (get after out)
Promise (FitVersions image machine loops out inputs) (i ∷ m ∷ l ∷ given) after = IsFittedWithVersions i m l given (get after out)
Promise (Loops image out most trusts inputs) (i ∷ given) after = StoredPromise (Drafts i most trusts) (IsDraftedSafely i most) (get after out)
Promise (Split image out) (i ∷ []) after = StoredPromise (SplitsImage i) (IsSplitSafely i) (get after out)
Promise (InOne image machine out versions most inputs) (i ∷ m ∷ given) after = IsFittedInOne i m most given versions (get after out)
Promise command files after = Unit {0}
