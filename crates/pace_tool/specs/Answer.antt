-- What a command may answer: its stores in order, the text that it prints, and its status.
use Rattle.std.specs.Prelude.{◌≡◌, ℕ, List, [], ◌∷◌, Result, Ok, Err, string_bytes}
use Rattle.scale_base.specs.declared.refusal.Refusal.{Refusal}
use Rattle.host_runs.specs.Answer.{Answer, Tells, stored_answer, text_answer}
use Rattle.loop_drafts.specs.Kept.{AreBytes}
use Rattle.jump_drafts.specs.declared.draft.JumpDraft.{JumpDraft}
use Rattle.jump_drafts.specs.Drafted.{AreJumpsDrafted}
use Rattle.jump_drafts.specs.Texts.{jumps_text}
use Rattle.level_reasons.specs.Program.{AreReasons}
use Rattle.level_reasons.specs.ReasonTexts.{reasons_text}
use Rattle.plan_texts.specs.Counts.{plan_text}
use Rattle.run_pictures.specs.PictureTexts.{picture_text}
use Rattle.split_images.specs.declared.split.SplitImage.{SplitImage}
use Rattle.split_images.specs.Splits.{Splits}
use Rattle.worst_reports.specs.Explained.{AreExplained}
use Rattle.worst_reports.specs.ExplainedTexts.{explained_text}
use Rattle.pace_tool.specs.Command.{Command, Fit, FitVersions, Show, Loops, Explain, DrawRun, DrawPlan, Jumps, Split, InOne}
use Rattle.pace_tool.specs.Fits.{MakesFit}
use Rattle.pace_tool.specs.Versions.{MakesVersionFit}
use Rattle.pace_tool.specs.InOne.{MakesInOne}
use Rattle.pace_tool.specs.Drawn.{DrawsPlan, DrawsRuns}
use Rattle.pace_tool.specs.Drafts.{Drafts}
use Rattle.pace_tool.specs.Texts.{drafted_text, split_text}

-- what `jumps` gives: a draft of the image's jump file, with the bytes that it is printed as, or the refusal
abbrev pub DraftsJumps : (image : List ℕ) → Result (List ℕ × JumpDraft) Refusal → Type 0
DraftsJumps image (Ok given) = AreJumpsDrafted image (Ok given.1) × (given.0 ≡ string_bytes given.1.file)
DraftsJumps image (Err refusal) = AreJumpsDrafted image (Err refusal)

-- what `split` gives: the image whose code is split, with its bytes, or the refusal
abbrev pub SplitsImage : (image : List ℕ) → Result (List ℕ × SplitImage) Refusal → Type 0
SplitsImage image (Ok given) = Splits image (Ok given.1) × (given.0 ≡ given.1.file.items)
SplitsImage image (Err refusal) = Splits image (Err refusal)

-- What the command may make of its files, as many as it loads. It is told of what it gives for their bytes. `loops` and `all` take an image of bytes, since what they promise is
-- said of bytes; of the inputs of `loops` comments of the file tell alone. Both may be told how many bytes an input has at most.
abbrev pub Makes : Command → List (List ℕ) → Answer → Type 0
Makes (Fit image machine loops out inputs) (i ∷ m ∷ l ∷ given) answer = MakesFit i m l given out answer
Makes (FitVersions image machine loops out inputs) (i ∷ m ∷ l ∷ given) answer = MakesVersionFit i m l given out answer
Makes (Show image machine loops) (i ∷ m ∷ l ∷ []) answer = Tells (AreReasons i m l) (text_answer reasons_text) answer
Makes (Loops image out most trusts inputs) (i ∷ given) answer = AreBytes i × Tells (Drafts i most trusts) (stored_answer drafted_text out) answer
Makes (Explain image machine loops) (i ∷ m ∷ l ∷ []) answer = Tells (AreExplained i m l) (text_answer explained_text) answer
Makes (DrawRun machine out names) (m ∷ given) answer = Tells (DrawsRuns m names given) (stored_answer picture_text out) answer
Makes (DrawPlan image machine loops out) (i ∷ m ∷ l ∷ []) answer = Tells (DrawsPlan i m l) (stored_answer plan_text out) answer
Makes (Jumps image out) (i ∷ []) answer = Tells (DraftsJumps i) (stored_answer jumps_text out) answer
Makes (Split image out) (i ∷ []) answer = Tells (SplitsImage i) (stored_answer split_text out) answer
Makes (InOne image machine out versions most inputs) (i ∷ m ∷ given) answer = AreBytes i × MakesInOne i m most given versions out answer
Makes command files answer = ⊥
