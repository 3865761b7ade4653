-- A drafted loop file keeps what it promises.
use Rattle.std.proofs.Common.{◌≡◌, ◌<◌, ◌≤◌, ◌+◌, ℕ, List, [], ◌∷◌, ◌++◌, length, Bool, true, false, inl, inr, refl, sym, ap, subst, ◌∙◌, arith, length-append, append-nil}
use Rattle.std.specs.Prelude.{count_by, if◌then◌else◌, Option, Ok}
use Rattle.std.proofs.lemmas.List.Sums.{sum_by-cons}
use Rattle.scale_base.specs.Image.{Image}
use Rattle.code_text.specs.Text.{text_of}
use Rattle.flow_graph.specs.FlowGraph.{FlowGraph, IsGraphOf}
use Rattle.graph_runs.specs.KeptRuns.{IsKeptUpTo}
use Rattle.loop_file.specs.declared.notes.LoopNote.{LoopNote}
use Rattle.loop_file.specs.Kept.{noted_loops}
use Rattle.loop_file.specs.Loops.{read_loops}
use Rattle.loop_drafts.specs.declared.drafted.Piece.{Piece}
use Rattle.loop_drafts.specs.declared.drafted.LoopDraft.{LoopDraft}
use Rattle.loop_drafts.specs.Bounds.{most_turns}
use Rattle.loop_drafts.specs.Drafted.{AreTaken, IsDraftOf, IsDrafted, filled_most}
use Rattle.loop_drafts.specs.Kept.{AreBytes}
use Rattle.loop_drafts.specs.Pieces.{HasFirstLines, bound_line, filled, filled_piece, printed, printed_piece}
use Rattle.loop_drafts.specs.Shapes.{HaveOneShape}
use Rattle.loop_drafts.specs.Trusting.{trusted_stores}
use Rattle.loop_drafts.proofs.Laws.{bounds_free, bounds_kept, files_kept, files_need_returns, nothing_trusted, returns_go_back, trust_before}
use Rattle.version_fits.proofs.Laws.{printed_short, printed_shorter}
use Rattle.pace_tool.specs.Drafts.{AlwaysGoesBack, AreNeverRefused, AreTakenIn, IsDraftFile, IsDraftedSafely, IsFinishedFile, IsKeptAlways, IsKeptByReturns, IsKeptByWritten, IsLoopFile}

-- ---- the file as it is printed, and with bounds filled in

-- where no piece is open, no line is added to one
none_added : (text line : List ℕ) (is : Bool) (others : ℕ) → (if is then 1 else 0) + others ≡ 0 → text ≡ text ++ (if is then line else [])
none_added text line true others none = absurd (omega arith)
none_added text line false others none = sym (append-nil text)

none_behind : (is : Bool) (others : ℕ) → (if is then 1 else 0) + others ≡ 0 → others ≡ 0
none_behind true others none = absurd (omega arith)
none_behind false others none = omega arith

printed_filled : (bound : ℕ) (pieces : List Piece) → count_by (λ piece. piece.is_open) pieces ≡ 0 → printed pieces ≡ filled bound pieces
printed_filled bound [] none = refl
printed_filled bound (piece ∷ pieces) none =
    let others = count_by (λ (p : Piece). p.is_open) pieces in
    let here : (if piece.is_open then 1 else 0) + others ≡ 0 = sym (sum_by-cons (λ (p : Piece). if p.is_open then 1 else 0) piece pieces) ∙ none in
    let same = printed_filled bound pieces (none_behind piece.is_open others here) in
    let one : printed_piece piece ≡ filled_piece bound piece = none_added (printed_piece piece) (bound_line bound) piece.is_open others here in
    ap (λ (t : List ℕ). t ++ printed pieces) one ∙ ap (λ (t : List ℕ). filled_piece bound piece ++ t) same

-- ---- what the stored file keeps to

loops_taken : (original : Image) (v : FlowGraph) (notes : List LoopNote) (aside : ℕ) → IsGraphOf (text_of original) v → AreTaken v notes aside → aside ≡ 0 → AreTakenIn original notes
loops_taken original v notes aside graph (inl tried) none = record { graph = v; graph_is = graph; tree = tried.0; tree_is = tried.1 }
loops_taken original v notes aside graph (inr turns) none = let some : 0 < aside = turns.0 in absurd (omega arith)

module _ (original : Image) (most : Option ℕ) (draft : LoopDraft) (of : IsDraftOf original most draft) where
  whole_file : (stored : List ℕ) → stored ≡ printed draft.pieces.items → draft.unbounded ≡ 0 → IsLoopFile original draft stored
  whole_file stored is none = record {
    notes = of.pieces.notes;
    read = ap (read_loops original) (is ∙ printed_filled most_turns draft.pieces.items (sym of.unbounded ∙ none)) ∙ of.pieces.file.read;
    loops_are = of.pieces.loops_are;
    taken = loops_taken original of.graph of.pieces.notes draft.aside of.graph_is of.pieces.file.taken;
  }

  finished_taken : draft.aside ≡ 0 → (file : List ℕ) (notes : List LoopNote) → IsFinishedFile original draft file notes → AreNeverRefused original notes
  finished_taken none file notes is =
      let its = loops_taken original of.graph of.pieces.notes draft.aside of.graph_is of.pieces.file.taken none in
      let read : read_loops original (filled_most draft.pieces.items) ≡ Ok of.pieces.notes = of.pieces.file.read in
      let again : read_loops original (filled_most draft.pieces.items) ≡ Ok is.drafted = is.drafted_are in
      let one : is.drafted ≡ of.pieces.notes = cc in
      let same : HaveOneShape of.pieces.notes notes = subst (λ (drafted : List LoopNote). HaveOneShape drafted notes) one is.shape in
      λ v refusal graph built. bounds_free (text_of original) its.graph v of.pieces.notes notes its.tree refusal its.graph_is graph same its.tree_is built

module _ (image : List ℕ) (most : Option ℕ) (trusts : Bool) (stored : List ℕ) (bytes : AreBytes image) (draft : LoopDraft) (file : IsDraftFile image most trusts stored draft) where
  abbrev original : Image
  original = file.drafted.0

  kept_by_returns : draft.unbounded ≡ 0 → draft.proved ≡ draft.loops → IsKeptByReturns original most draft.trust stored
  kept_by_returns none all notes read levels input n are within tidy back =
      let law = files_need_returns image most draft original levels input n bytes are within file.drafted file.drafted.1 none all tidy back in
      let its : read_loops original stored ≡ Ok law.0 = ap (read_loops original) file.is_printed ∙ law.1 in
      let one : law.0 ≡ notes = cc in
      subst (λ (ns : List LoopNote). IsKeptUpTo original levels input (noted_loops ns) n) one law.2

  goes_back : draft.returns ≡ true → AlwaysGoesBack original draft.trust
  goes_back proved levels input n are tidy m le =
      returns_go_back image most draft original levels input m bytes are file.drafted file.drafted.1 proved (trust_before original draft.trust levels input m n le tidy)

  kept_always : draft.unbounded ≡ 0 → draft.proved ≡ draft.loops → draft.returns ≡ true → IsKeptAlways original most draft.trust stored
  kept_always none all proved notes read levels input n are within tidy =
      let law = files_kept image most draft original bytes file.drafted file.drafted.1 none all proved in
      let its : read_loops original stored ≡ Ok law.0 = ap (read_loops original) file.is_printed ∙ law.1 in
      let one : law.0 ≡ notes = cc in
      subst (λ (ns : List LoopNote). IsKeptUpTo original levels input (noted_loops ns) n) one (law.2 levels input n are within tidy)

  kept_by_written : (finished : List ℕ) (notes : List LoopNote) (is : IsFinishedFile original draft finished notes) → IsKeptByWritten original most draft.trust is.drafted notes
  kept_by_written finished notes is levels input bounds trips n are within tidy low kept =
      bounds_kept image most draft original is.drafted notes levels input bounds trips n bytes file.drafted file.drafted.1 is.drafted_are is.finished are within tidy low kept

  pub drafted_safely : IsDraftedSafely image most stored draft
  drafted_safely =
      let of : IsDraftOf original most draft = file.drafted.2.1 in
      record {
        original = original;
        is_image = file.drafted.1;
        short = let shorter = printed_shorter most_turns draft.pieces.items in let low : length (filled_most draft.pieces.items) ≤ 1048576 = of.pieces.file.short in let size = ap length file.is_printed in omega arith;
        whole = whole_file original most draft of stored file.is_printed;
        kept = kept_by_returns;
        begins = subst (HasFirstLines most draft.returns (trusted_stores draft.trust)) (sym file.is_printed) of.begins;
        untrusting = λ none levels input n. nothing_trusted original draft.trust levels input n none;
        goes_back = goes_back;
        premise_free = kept_always;
        taken = finished_taken original most draft of;
        finished = kept_by_written;
      }
