-- What is promised of a draft.
use Rattle.std.proofs.Common.{◌≡◌, ℕ, ◌<◌, ◌≤◌, ◌⊎◌, inl, inr, ⊎_elim, arith, true, false, not, ◌==◌, List, [], length, All, Option, Result, Ok, refl, sym, ◌∙◌, subst}
use Rattle.scale_base.specs.Image.{Image, image_of}
use Rattle.loop_file.specs.declared.notes.LoopNote.{LoopNote}
use Rattle.loop_file.specs.Kept.{note_at, noted_loops}
use Rattle.loop_file.specs.Loops.{read_loops}
use Rattle.code_text.specs.Text.{text_of}
use Rattle.code_text.specs.TextGraph.{text_graph}
use Rattle.graph_runs.specs.KeptRuns.{IsKeptUpTo}
use Rattle.cost_theory.specs.Graph.{with_trips}
use Rattle.cost_theory.specs.Reached.{Code}
use Rattle.bound_laws.specs.Values.{Values}
use Rattle.stack_laws.specs.Stacks.{Stacks}
use Rattle.turn_laws.specs.Relating.{IsShown}
use Rattle.turn_laws.proofs.Laws.{shown_kept, shown_by_returns}
use Rattle.lower_bounds.specs.LowerBounds.{IsLowerShown}
use Rattle.lower_bounds.proofs.Laws.{lower_kept}
use Rattle.loop_drafts.specs.declared.drafted.LoopDraft.{LoopDraft}
use Rattle.loop_drafts.specs.Bounds.{most_turns, is_bounded, IsOpen, NeedNotTurn, IsBoundShown, IsLeastShown, IsLeastFound, AreNoneFound, AreBoundsShown, AreBoundsFound}
use Rattle.loop_drafts.specs.Pieces.{printed}
use Rattle.loop_drafts.specs.Drafted.{filled_most, IsDraftOf, IsDrafted}
use Rattle.loop_drafts.specs.Kept.{DraftedBoundsAreKept, DraftedFilesNeedReturns, DraftedReturnsGoBack, DraftedFilesAreKept, DraftedCountsAreTaken}
use Rattle.loop_drafts.specs.Countable.{AreCounted, AreCountable}
use Rattle.loop_drafts.proofs.Counts.{all_counted, none_open}
use Rattle.loop_drafts.proofs.Keeping.{greater_kept, fewer_kept, returns_kept, returns_back}
use Rattle.loop_drafts.proofs.Turning.{shown_too}
use Rattle.loop_drafts.proofs.Untrusting.{trust_before}
use Rattle.loop_drafts.proofs.SameCounts.{counts_free}

ok_same : {A B : Type 0} (o : Result A B) (x y : A) → o ≡ Ok x → o ≡ Ok y → x ≡ y
ok_same o x y p q = let r : x ≡ y = cc in r

abbrev no_note : LoopNote
no_note = record { header = 0; ranges = []; bound = 0; counted = false; at_least = 0 }

-- the draft that is answered, of the image that the file is
draft_of : (file : List ℕ) (most : Option ℕ) (draft : LoopDraft) (original : Image) → IsDrafted file most (Ok draft) → image_of file ≡ Ok original → IsDraftOf original most draft
draft_of file most draft original is read = subst (λ (o : Image). IsDraftOf o most draft) (ok_same (image_of file) is.0 original is.1 read) is.2.1

-- a note with a bound isn't one of a loop without
not_open : (note : LoopNote) → is_bounded note ≡ true → IsOpen note → ⊥
not_open note bounded opened = let e : not (most_turns == most_turns) ≡ true = subst (λ (b : ℕ). not (b == most_turns) ≡ true) opened bounded in let bad : ⊥ = cc in bad

-- a note's loop has to turn no more often than so, or the code shows how often it does
least_too : (original : Image) (code : Code) (v : Values) (w : Stacks) (notes : List LoopNote) (drafted : LoopNote) (k trips : ℕ) → note_at notes k ≡ drafted → IsLeastFound original code v w drafted →
    IsLowerShown (text_of original) (text_graph (text_of original) code) v w (noted_loops notes) k ⊎ ((note_at notes k).at_least ≤ trips)
least_too original code v w notes drafted k trips same found = ⊎_elim
    (λ (none : NeedNotTurn drafted). inr (let e : (note_at notes k).at_least ≡ 0 = subst (λ (note : LoopNote). note.at_least ≡ 0) (sym same) none in omega arith))
    (λ (shown : IsLeastShown original code v w drafted). inl (shown notes k same)) found

pub bounds_kept : DraftedBoundsAreKept
bounds_kept file most draft original drafted notes levels input bounds trips n small_file is read noted finished small_input within tidy written kept = ⊎_elim
    (λ (none : AreNoneFound drafted draft.returns). let opened = λ (k : ℕ) (kl : k < length notes). written k kl (none.open_loops k no_note (there k kl)) in
    fewer_kept file original levels input d.graph.code (noted_loops notes) read d.graph_is.reached trips n (λ k kl. (opened k kl).1)
    (greater_kept file original levels input d.graph.code (with_trips (noted_loops notes) trips) read d.graph_is.reached bounds n (λ k kl. (opened k kl).0) kept))
    (λ (found : AreBoundsShown original most drafted draft.returns draft.trust). lower_kept file original levels input found.code found.values found.stacks (noted_loops notes) trips read small_file small_input found.analysed
    (λ k kl. least found k kl) n (tidy found.code found.values found.stacks found.analysed.reached found.trusts)
    (shown_kept file original levels input found.code found.values found.stacks most (with_trips (noted_loops notes) trips) bounds read small_file small_input within found.analysed (λ k kl. which found k kl) n (tidy found.code found.values found.stacks found.analysed.reached found.trusts) kept))
    (subst (λ (ns : List LoopNote). AreBoundsFound original most ns draft.returns draft.trust) (ok_same (read_loops original (filled_most draft.pieces.items)) d.pieces.notes drafted d.pieces.file.read noted) d.pieces.bounds)
  where
    d : IsDraftOf original most draft
    d = draft_of file most draft original is read

    there : (k : ℕ) → k < length notes → k < length drafted
    there k kl = subst (λ (size : ℕ). k < size) finished.size kl

    which : (found : AreBoundsShown original most drafted draft.returns draft.trust) (k : ℕ) → k < length notes →
        IsShown (text_of original) (text_graph (text_of original) found.code) found.values found.stacks most (with_trips (noted_loops notes) trips) k ⊎ (bounds k ≤ (note_at notes k).bound)
    which found k kl = ⊎_elim
        (λ (opened : IsOpen (note_at drafted k)). inr (written k kl opened).0)
        (λ (same : note_at notes k ≡ note_at drafted k). ⊎_elim
        (λ (opened : IsOpen (note_at drafted k)). inr (written k kl opened).0)
        (λ (shown : IsBoundShown original found.code found.values found.stacks most (note_at drafted k)).
        inl (shown_too (text_of original) (text_graph (text_of original) found.code) found.values found.stacks most (noted_loops notes) trips k (shown notes k same)))
        (found.shown k no_note (there k kl)))
        (finished.same k (there k kl))

    least : (found : AreBoundsShown original most drafted draft.returns draft.trust) (k : ℕ) → k < length notes →
        IsLowerShown (text_of original) (text_graph (text_of original) found.code) found.values found.stacks (noted_loops notes) k ⊎ ((note_at notes k).at_least ≤ trips k)
    least found k kl = ⊎_elim
        (λ (opened : IsOpen (note_at drafted k)). inr (written k kl opened).1)
        (λ (same : note_at notes k ≡ note_at drafted k). least_too original found.code found.values found.stacks notes (note_at drafted k) k (trips k) same (found.least k no_note (there k kl)))
        (finished.same k (there k kl))

pub files_need_returns : DraftedFilesNeedReturns
files_need_returns file most draft original levels input n small_file small_input within is read unbounded all tidy returns = (
  notes,
  subst (λ (text : List ℕ). read_loops original text ≡ Ok notes) (sym (none_open most_turns draft.pieces.items (sym d.unbounded ∙ unbounded))) d.pieces.file.read,
  ⊎_elim
      (λ (none : AreNoneFound notes draft.returns). returns_kept file original levels input d.graph.code (noted_loops notes) read d.graph_is.reached n
      (λ k kl. absurd (not_open (note_at notes k) (bounded k no_note kl) (none.open_loops k no_note kl))) returns)
      (λ (found : AreBoundsShown original most notes draft.returns draft.trust). lower_kept file original levels input found.code found.values found.stacks (noted_loops notes) none_asked read small_file small_input found.analysed
      (λ k kl. least_too original found.code found.values found.stacks notes (note_at notes k) k 0 refl (found.least k no_note kl)) n (tidy found.code found.values found.stacks found.analysed.reached found.trusts)
      (shown_by_returns file original levels input found.code found.values found.stacks most (with_trips (noted_loops notes) none_asked) read small_file small_input within found.analysed
      (λ k kl. (shown found k kl, refl)) n (tidy found.code found.values found.stacks found.analysed.reached found.trusts) returns)) d.pieces.bounds,
)
  where
    d : IsDraftOf original most draft
    d = draft_of file most draft original is read

    notes : List LoopNote
    notes = d.pieces.notes

    none_asked : ℕ → ℕ
    none_asked k = 0

    bounded : All (λ note. is_bounded note ≡ true) notes
    bounded = all_counted is_bounded notes (sym d.pieces.proved_are ∙ all ∙ d.pieces.loops_are)

    shown : (found : AreBoundsShown original most notes draft.returns draft.trust) (k : ℕ) → k < length notes →
        IsShown (text_of original) (text_graph (text_of original) found.code) found.values found.stacks most (with_trips (noted_loops notes) none_asked) k
    shown found k kl = ⊎_elim
        (λ (opened : IsOpen (note_at notes k)). absurd (not_open (note_at notes k) (bounded k no_note kl) opened))
        (λ (s : IsBoundShown original found.code found.values found.stacks most (note_at notes k)).
        shown_too (text_of original) (text_graph (text_of original) found.code) found.values found.stacks most (noted_loops notes) none_asked k (s notes k refl)) (found.shown k no_note kl)

pub returns_go_back : DraftedReturnsGoBack
returns_go_back file most draft original levels input n small_file small_input is read proved tidy = ⊎_elim
    (λ (none : AreNoneFound d.pieces.notes draft.returns). let unproved : draft.returns ≡ false = none.unproved in absurd (let bad : ⊥ = cc in bad))
    (λ (found : AreBoundsShown original most d.pieces.notes draft.returns draft.trust). returns_back file original levels input found.code found.values found.stacks read small_file small_input found.analysed (found.comes_back proved) n (tidy found.code found.values found.stacks found.analysed.reached found.trusts))
    d.pieces.bounds
  where
    d : IsDraftOf original most draft
    d = draft_of file most draft original is read

pub files_kept : DraftedFilesAreKept
files_kept file most draft original small_file is read unbounded all proved = (
  notes,
  printed_read,
  λ levels input n small_input within tidy.
      let law = files_need_returns file most draft original levels input n small_file small_input within is read unbounded all tidy
      (λ m le. returns_go_back file most draft original levels input m small_file small_input is read proved (trust_before original draft.trust levels input m n le tidy)) in
      subst (λ (ns : List LoopNote). IsKeptUpTo original levels input (noted_loops ns) n) (ok_same (read_loops original (printed draft.pieces.items)) law.0 notes law.1 printed_read) law.2,
)
  where
    d : IsDraftOf original most draft
    d = draft_of file most draft original is read

    notes : List LoopNote
    notes = d.pieces.notes

    printed_read : read_loops original (printed draft.pieces.items) ≡ Ok notes
    printed_read = subst (λ (text : List ℕ). read_loops original text ≡ Ok notes) (sym (none_open most_turns draft.pieces.items (sym d.unbounded ∙ unbounded))) d.pieces.file.read

pub counts_taken : DraftedCountsAreTaken
counts_taken file most draft original drafted notes v tree refusal is read noted none shapes counts is_graph is_tree refused = ⊎_elim
    (λ (c : AreCounted d.graph drafted). counts_free (text_of original) d.graph v drafted notes tree refusal d.graph_is is_graph shapes counts c is_tree refused)
    (λ (some : 0 < draft.aside). let bad : ⊥ = omega (arith, some, none) in bad)
    (subst (λ (ns : List LoopNote). AreCountable d.graph ns draft.aside) (ok_same (read_loops original (filled_most draft.pieces.items)) d.pieces.notes drafted d.pieces.file.read noted) d.pieces.file.countable)
  where
    d : IsDraftOf original most draft
    d = draft_of file most draft original is read
