-- Where the run of the original is kept, that of the versioned image is.
use Rattle.std.proofs.Common.{◌≡◌, ℕ, ◌<◌, ◌^◌, List, [], length, sym, ap, ◌∙◌, subst, Some}
use Rattle.std.specs.Prelude.{All}
use Rattle.scale_base.specs.Image.{Image}
use Rattle.scale_base.specs.Run.{Run, HasExited, run, run_of, setting_of, start_of}
use Rattle.scale_base.specs.State.{Setting}
use Rattle.cost_theory.specs.Graph.{Loops}
use Rattle.cost_theory.specs.Reached.{Code}
use Rattle.code_text.specs.Text.{text_of}
use Rattle.graph_runs.specs.Laws.{IsStartOver}
use Rattle.graph_runs.specs.KeptRuns.{kept_at, most_returns, IsKeptUpTo}
use Rattle.graph_runs.specs.RunTransitions.{returns_so}
use Rattle.graph_runs.proofs.Laws.{image_starts}
use Rattle.loop_versions.specs.declared.pieces.Piece.{Piece}
use Rattle.loop_versions.specs.declared.pieces.Site.{Site}
use Rattle.loop_versions.specs.Made.{IsVersioned}
use Rattle.loop_versions.specs.Follows.{in_block, StaysOutside, GoesBack, IsSoFar, FollowsVersioned}
use Rattle.version_laws.specs.Exits.{ExitsAlike}
use Rattle.version_laws.proofs.Laws.{exited_runs_stay_outside, frame_of, gone, versioned_runs_pair}
use Rattle.copy_bounds.specs.Copies.{Meaning}
use Rattle.copy_bounds.specs.Meanings.{meaning}
use Rattle.copy_bounds.specs.Laws.{AreCovered, VersionedRunsKeepBounds, VersionedExitsAreKept}
use Rattle.copy_bounds.proofs.Pairs.{ArePaired}
use Rattle.copy_bounds.proofs.Gone.{few_gone, gone_leads, gone_up_to, kept_gone, kept_is, returns_along, returns_gone}
use Rattle.copy_bounds.proofs.Meanings.{means, none_open_at, paired_of}
use Rattle.copy_bounds.proofs.Foreign.{foreign_local}
use Rattle.copy_bounds.proofs.Along.{held_along}

module _ (image versioned : Image) (pieces : List Piece) (sites : List Site) (base levels : ℕ) (input : List ℕ) (code : Code) (old l : Loops)
    (h : IsVersioned image versioned pieces sites base) (small : All (λ b. b < 2 ^ 8) input) (covered : AreCovered versioned pieces sites base levels input code old l) where
  abbrev one : Setting
  one = setting_of image levels input

  abbrev other : Setting
  other = setting_of versioned levels input

  starts : IsStartOver (text_of versioned) other (start_of versioned levels)
  starts = image_starts versioned.file versioned levels input h.read_too

  -- the run of the versioned image begins in the text
  entry_open : (meaning pieces sites base).open_at (text_of versioned).entry ≡ []
  entry_open =
      let f = frame_of image versioned pieces sites base levels input h in
      none_open_at image versioned pieces sites base h versioned.entry (ap (in_block image versioned pieces sites base) f.entry ∙ f.off_text image.entry f.entry_in)

  module _ (n : ℕ) (kept : IsKeptUpTo image levels input old n) where
    carried_along : kept_at one (start_of image levels) old n ≡ Some kept.carried
    carried_along = kept.kept

    -- its returns go back
    returns : returns_so (run_of image levels input n).steps ≡ Some kept.carried.returns
    unfolding run_of
    returns =
        returns_gone one (start_of image levels) n
        ∙ returns_along old (gone (run one (start_of image levels) n)) kept.carried (sym (kept_is one (start_of image levels) old n) ∙ kept.kept)

    pub goes_back : GoesBack image versioned pieces sites base levels input n
    goes_back = λ has. (kept.carried.returns, returns)

    abbrev m : Meaning
    m = meaning pieces sites base

    -- the steps that go on are kept
    pub version_kept : (k : ℕ) → ArePaired m (gone (run one (start_of image levels) n)) (gone (run other (start_of versioned levels) k)) → IsKeptUpTo versioned levels input l k
    version_kept k paired =
        let raw = gone_leads one (start_of image levels) n in
        let too = gone_leads other (start_of versioned levels) k in
        let held = held_along m (means image versioned pieces sites base h) (text_of versioned) other starts.text code covered.reached.lists covered.reached.words (foreign_local image versioned pieces sites base levels input h)
        (start_of versioned levels) covered.calls old l most_returns covered.late covered.each starts.state starts.entry entry_open
        one (start_of image levels) n (λ i c le e. kept.shallow i c le e)
        (gone (run one (start_of image levels) n)) (gone (run other (start_of versioned levels) k)) paired
        raw.0 raw.1 (few_gone one (start_of image levels) n) too.0 too.1 kept.carried (sym (kept_is one (start_of image levels) old n) ∙ kept.kept) in
        record {
          carried = held.d;
          kept = kept_gone other (start_of versioned levels) l k ∙ held.kept;
          shallow = λ i c le e. held.shallow (length (gone (run other (start_of versioned levels) i))) c (gone_up_to other (start_of versioned levels) i k le)
              (sym (kept_gone other (start_of versioned levels) l i) ∙ e);
        }

    pub version_follows : StaysOutside image versioned pieces sites base levels input n →
        (k : ℕ) × FollowsVersioned image versioned pieces sites base (run_of image levels input n) (run_of versioned levels input k) × IsKeptUpTo versioned levels input l k
    unfolding run_of
    version_follows outside =
        let p = versioned_runs_pair image versioned pieces sites base levels input n h small outside goes_back in
        (p.0, p.1, version_kept p.0 (paired_of image versioned pieces sites base h (gone (run one (start_of image levels) n)) (gone (run other (start_of versioned levels) p.0)) p.2))

pub keep_bounds : VersionedRunsKeepBounds
keep_bounds = λ image versioned pieces sites base levels input code old l n h small outside covered kept.
    version_follows image versioned pieces sites base levels input code old l h small covered n kept outside

-- the versioned run has exited where the original has
exit_alike : (image versioned : Image) (pieces : List Piece) (sites : List Site) (base status : ℕ) (raw own : Run) → raw.standing ≡ HasExited status →
    FollowsVersioned image versioned pieces sites base raw own → ExitsAlike image versioned pieces sites base status raw own
exit_alike image versioned pieces sites base status raw own exited f =
    let so : IsSoFar image versioned pieces sites base raw own (HasExited status) = subst (IsSoFar image versioned pieces sites base raw own) exited f.standing in
    record { standing = so.0; output = so.1; classes = f.classes }

pub exits_kept : VersionedExitsAreKept
exits_kept = λ image versioned pieces sites base levels input code old l n status h small covered kept exited.
    let outside = exited_runs_stay_outside image versioned pieces sites base levels input n status h exited in
    let p = keep_bounds image versioned pieces sites base levels input code old l n h small outside covered kept in
    (p.0, exit_alike image versioned pieces sites base status (run_of image levels input n) (run_of versioned levels input p.0) exited p.1, p.2)
