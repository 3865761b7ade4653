-- All answers that may be given have one status, but for those to `loops` and `all`, and to `fit` where versions are tried.
use Rattle.std.proofs.Common.{◌≡◌, ℕ, List, [], ◌∷◌, inl, inr, Some, None, refl, sym, ap, ◌∙◌, true, nat_le}
use Rattle.std.specs.Prelude.{IsTrue, IfOk, Result, Ok, Err}
use Rattle.scale_base.specs.declared.refusal.NoMemory.{NoMemory}
use Rattle.scale_base.specs.declared.refusal.Refusal.{Refusal}
use Rattle.scale_base.specs.declared.summary.Summary.{Summary}
use Rattle.scaler.specs.Held.{IsHeld}
use Rattle.scaler.proofs.Laws.{held_answers}
use Rattle.paced_images.specs.declared.proposal.Proposal.{Proposal}
use Rattle.pace_fit.specs.declared.fitting.Fitted.{Fitted}
use Rattle.pace_fit.specs.Endings.{endings_on}
use Rattle.pace_fit.specs.Fitting.{IsFitted, IsFitting}
use Rattle.host_files.specs.HostState.{HostState}
use Rattle.host_runs.specs.declared.reply.Reply.{Reply}
use Rattle.host_runs.specs.Answer.{Answer, Giving, Tells, stored_answer, text_answer}
use Rattle.host_runs.specs.Command.{IsAnswered, IsStatusOfAll}
use Rattle.host_runs.specs.Views.{reply_view}
use Rattle.host_runs.proofs.Laws as runs
use Rattle.pace_tool.specs.Answer.{DraftsJumps, Makes, SplitsImage}
use Rattle.pace_tool.specs.Fits.{Fits, MakesFit}
use Rattle.pace_tool.proofs.FitKept.{fit_small}
use Rattle.pace_tool.proofs.InOne.{in_one_small}
use Rattle.pace_tool.proofs.OwnFiles.{versions_small}
use Rattle.pace_tool.proofs.SmallStatus.{file_told, text_told}
use Rattle.level_reasons.specs.declared.shown.Shown.{Shown}
use Rattle.level_reasons.specs.Program.{AreReasons}
use Rattle.level_reasons.specs.ReasonTexts.{reasons_text}
use Rattle.level_reasons.proofs.Laws.{shown_held}
use Rattle.worst_reports.specs.declared.explained.Explained.{Explained}
use Rattle.worst_reports.specs.Explained.{AreExplained}
use Rattle.worst_reports.specs.ExplainedTexts.{explained_text}
use Rattle.worst_reports.proofs.Laws.{explained_held}
use Rattle.jump_drafts.specs.declared.draft.JumpDraft.{JumpDraft}
use Rattle.jump_drafts.specs.Texts.{jumps_text}
use Rattle.plan_graphs.specs.declared.plan.PlanGraph.{PlanGraph}
use Rattle.pace_tool.proofs.DrawnPlan.{plan_held}
use Rattle.plan_texts.specs.Counts.{plan_text}
use Rattle.run_pictures.specs.PictureTexts.{picture_text}
use Rattle.scale_base.specs.declared.ranges.Keyed.{Keyed}
use Rattle.scale_base.specs.Image.{Image, image_of}
use Rattle.loop_drafts.specs.declared.drafted.LoopDraft.{LoopDraft}
use Rattle.pace_tool.specs.Command.{Command, Fit, FitVersions, Show, Loops, Explain, DrawRun, DrawPlan, Jumps, Split, InOne, has_one_status, may_give, wants_of}
use Rattle.pace_tool.specs.Drafts.{Drafts}
use Rattle.pace_tool.specs.Drawn.{DrawsPlan, DrawsRuns}
use Rattle.pace_tool.proofs.DrawnFiles.{drawn_apart}
use Rattle.pace_tool.specs.Texts.{drafted_text, fitted_text, split_text}

-- a choice has an image that runs at one level, and a refusal says that there is none
not_refused : (image machine loops : List ℕ) (inputs : List (List ℕ)) (proposals : List Proposal) (stored : List ℕ) (fitted : Fitted) (refusal : Refusal) →
    IsFitted image machine loops inputs proposals stored fitted → IsHeld image machine loops (Err refusal) → ⊥
not_refused image machine loops inputs proposals stored fitted refusal h refused = at h.hold.0 h.hold.1 h.hold.2.made_is
  where
    at : (made : Result (List ℕ × Summary) Refusal) → IsHeld image machine loops made → {given : List ℕ × Summary} → made ≡ Ok given → ⊥
    at (Ok given) is e = held_answers image machine loops (Ok given) (Err refusal) is refused
    at (Err other) is e = cc

status_same : (image machine loops out : List ℕ) (inputs : List (List ℕ)) (p q : List Proposal) (one other : Result (List ℕ × Fitted) Refusal) →
    IsFitting image machine loops inputs p one → IsFitting image machine loops inputs q other →
    (stored_answer (fitted_text (endings_on image machine loops inputs) p) out one).status ≡ (stored_answer (fitted_text (endings_on image machine loops inputs) q) out other).status
status_same image machine loops out inputs p q (Ok one) (Ok other) x y = refl
status_same image machine loops out inputs p q (Err one) (Err other) x y = refl
status_same image machine loops out inputs p q (Ok one) (Err other) x y = absurd (not_refused image machine loops inputs p one.0 one.1 other x y)
status_same image machine loops out inputs p q (Err one) (Ok other) x y = absurd (not_refused image machine loops inputs q other.0 other.1 one y x)

one_fit : (image machine loops out : List ℕ) (inputs : List (List ℕ)) (one other : Answer) → MakesFit image machine loops inputs out one → MakesFit image machine loops inputs out other → one.status ≡ other.status
one_fit image machine loops out inputs one other x y =
    ap (λ (a : Answer). a.status) x.tells.told
    ∙ status_same image machine loops out inputs x.proposals y.proposals x.tells.given y.tells.given x.tells.is_given.fitting y.tells.is_given.fitting
    ∙ sym (ap (λ (a : Answer). a.status) y.tells.told)

-- what is given and what is refused exclude each other
module _ {A : Type 0} (Gives : Giving A) (apart : (given : A) (refusal : Refusal) → Gives (Ok given) → Gives (Err refusal) → ⊥) where
  text_same : (text_of : A → List ℕ) (one other : Result A Refusal) → Gives one → Gives other → (text_answer text_of one).status ≡ (text_answer text_of other).status
  text_same text_of (Ok one) (Ok other) x y = refl
  text_same text_of (Err one) (Err other) x y = refl
  text_same text_of (Ok one) (Err other) x y = absurd (apart one other x y)
  text_same text_of (Err one) (Ok other) x y = absurd (apart other one y x)

module _ {A : Type 0} (Gives : Giving (List ℕ × A)) (apart : (given : List ℕ × A) (refusal : Refusal) → Gives (Ok given) → Gives (Err refusal) → ⊥) where
  file_same : (text_of : A → List ℕ) (out : List ℕ) (one other : Result (List ℕ × A) Refusal) → Gives one → Gives other → (stored_answer text_of out one).status ≡ (stored_answer text_of out other).status
  file_same text_of out (Ok one) (Ok other) x y = refl
  file_same text_of out (Err one) (Err other) x y = refl
  file_same text_of out (Ok one) (Err other) x y = absurd (apart one other x y)
  file_same text_of out (Err one) (Ok other) x y = absurd (apart other one y x)

-- reasons are those of a program that `hold` stores, and a refusal says that there is none
reasons_apart : (image machine loops : List ℕ) (shown : Shown) (refusal : Refusal) → AreReasons image machine loops (Ok shown) → IsHeld image machine loops (Err refusal) → ⊥
reasons_apart image machine loops shown refusal h refused = let held = shown_held image machine loops shown h in held_answers image machine loops (Ok ((held.0, held.1))) (Err refusal) held.2 refused

-- so are its worst cycles
explained_apart : (image machine loops : List ℕ) (explained : Explained) (refusal : Refusal) → AreExplained image machine loops (Ok explained) → IsHeld image machine loops (Err refusal) → ⊥
explained_apart image machine loops explained refusal h refused =
    let held = explained_held image machine loops explained h in held_answers image machine loops (Ok ((held.0, held.1))) (Err refusal) held.2 refused

-- so is its graph
plan_apart : (image machine loops : List ℕ) (given : List ℕ × PlanGraph) (refusal : Refusal) → DrawsPlan image machine loops (Ok given) → DrawsPlan image machine loops (Err refusal) → ⊥
plan_apart image machine loops given refusal drawn refused =
    let held = plan_held image machine loops given.1 drawn.0 in held_answers image machine loops (Ok ((held.0, held.1))) (Err refusal) held.2 refused

-- a draft of a jump file is that of an image with no keyed segment, and a refusal is of none, or of one with such a segment
jumps_apart : (image : List ℕ) (given : List ℕ × JumpDraft) (refusal : Refusal) → DraftsJumps image (Ok given) → DraftsJumps image (Err refusal) → ⊥
jumps_apart image given refusal drafted (inl refused) = let is : image_of image ≡ Ok drafted.0.0 = drafted.0.1 in cc
jumps_apart image given refusal drafted (inr scaled) =
    let is : image_of image ≡ Ok drafted.0.0 = drafted.0.1 in
    let again : image_of image ≡ Ok scaled.0 = scaled.1 in
    let one : scaled.0 ≡ drafted.0.0 = cc in
    let keyed : scaled.0.keyed_segment ≡ Some scaled.2.0 = scaled.2.1 in
    let none : drafted.0.0.keyed_segment ≡ None = drafted.0.2.0 in
    let both : Some scaled.2.0 ≡ None = sym keyed ∙ ap (λ (i : Image). i.keyed_segment) one ∙ none in
    cc

one_made : (command : Command) → has_one_status command ≡ true → (files : List (List ℕ)) (one other : Answer) → Makes command files one → Makes command files other → one.status ≡ other.status
one_made (Fit image machine loops out inputs) pinned (i ∷ m ∷ l ∷ given) one other x y = one_fit i m l out given one other x y
one_made (FitVersions image machine loops out inputs) pinned files one other x y = absurd (cc)
one_made (Show image machine loops) pinned (i ∷ m ∷ l ∷ []) one other x y = runs.one_told (AreReasons i m l) (text_answer reasons_text) (text_same (AreReasons i m l) (reasons_apart i m l) reasons_text) one other x y
one_made (Loops image out most trusts inputs) pinned files one other x y = absurd (cc)
one_made (Explain image machine loops) pinned (i ∷ m ∷ l ∷ []) one other x y =
    runs.one_told (AreExplained i m l) (text_answer explained_text) (text_same (AreExplained i m l) (explained_apart i m l) explained_text) one other x y
one_made (DrawRun machine out names) pinned (m ∷ given) one other x y =
    runs.one_told (DrawsRuns m names given) (stored_answer picture_text out) (file_same (DrawsRuns m names given) (drawn_apart m names given) picture_text out) one other x y
one_made (DrawPlan image machine loops out) pinned (i ∷ m ∷ l ∷ []) one other x y =
    runs.one_told (DrawsPlan i m l) (stored_answer plan_text out) (file_same (DrawsPlan i m l) (plan_apart i m l) plan_text out) one other x y
one_made (Jumps image out) pinned (i ∷ []) one other x y =
    runs.one_told (DraftsJumps i) (stored_answer jumps_text out) (file_same (DraftsJumps i) (jumps_apart i) jumps_text out) one other x y
one_made (Split image out) pinned files one other x y = absurd (cc)
one_made (InOne image machine out versions most inputs) pinned files one other x y = absurd (cc)
one_made command pinned files one other x y = absurd x

-- a status that was answered is that of every answer, where there is one
pub status_of_all : (command : Command) (status : ℕ) (old new : HostState) → IsTrue (has_one_status command) → IsAnswered (wants_of command) (Makes command) status old new →
    IsStatusOfAll (wants_of command) (Makes command) status old
status_of_all command status old new pinned = runs.status_of_all (wants_of command) (Makes command) (one_made command pinned) status old new

-- ---- the status of an answer

status_small : (command : Command) (files : List (List ℕ)) (answer : Answer) → Makes command files answer → nat_le answer.status 1 ≡ true
status_small (Fit image machine loops out inputs) (i ∷ m ∷ l ∷ given) answer x = fit_small i m l given out answer x
status_small (FitVersions image machine loops out inputs) (i ∷ m ∷ l ∷ given) answer x = versions_small i m l given out answer x
status_small (Show image machine loops) (i ∷ m ∷ l ∷ []) answer x = text_told (AreReasons i m l) reasons_text answer x
status_small (Loops image out most trusts inputs) (i ∷ given) answer x = file_told (Drafts i most trusts) drafted_text out answer x.1
status_small (Explain image machine loops) (i ∷ m ∷ l ∷ []) answer x = text_told (AreExplained i m l) explained_text answer x
status_small (DrawRun machine out names) (m ∷ given) answer x = file_told (DrawsRuns m names given) picture_text out answer x
status_small (DrawPlan image machine loops out) (i ∷ m ∷ l ∷ []) answer x = file_told (DrawsPlan i m l) plan_text out answer x
status_small (Jumps image out) (i ∷ []) answer x = file_told (DraftsJumps i) jumps_text out answer x
status_small (Split image out) (i ∷ []) answer x = file_told (SplitsImage i) split_text out answer x
status_small (InOne image machine out versions most inputs) (i ∷ m ∷ given) answer x = in_one_small i m most given versions out answer x.1
status_small command files answer x = absurd x

-- a reply has a status that may be given
pub may_give_status : (command : Command) (files : List (List ℕ)) (result : Result Reply NoMemory) → IfOk result (λ reply. Makes command files (reply_view reply)) → IfOk result (λ reply. IsTrue (may_give reply.status))
may_give_status command files (Ok reply) x = status_small command files (reply_view reply) x
may_give_status command files (Err no_memory) x = tt
