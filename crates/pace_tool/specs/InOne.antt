-- What `all` gives: the jumps of an image are drafted and lowered, its loops are drafted, for inputs of so many bytes at most, where that is told, and it is fitted
-- to inputs.
use Rattle.std.specs.Prelude.{◌≡◌, ◌⊎◌, ℕ, ◌<◌, ◌≤◌, ◌++◌, ◌==◌, ◌||◌, not, Bool, true, false, List, [], length, flat_map, if◌then◌else◌, Option, None, Result, Ok, Err, string_bytes}
use Rattle.std.specs.FinMap.{get}
use Rattle.std.specs.List.{list_any}
use Rattle.scale_base.specs.declared.limits.TheConstants.{IMAGE_LIMIT}
use Rattle.scale_base.specs.declared.refusal.Refusal.{Refusal}
use Rattle.scale_base.specs.declared.refusal.Refusal.TheVariants.{TooLarge}
use Rattle.scale_base.specs.declared.summary.Lowered.{Lowered}
use Rattle.scale_report.specs.Texts.{lowered_text}
use Rattle.image_lower.specs.Lowered.{IsLowered}
use Rattle.jump_drafts.specs.declared.draft.JumpDraft.{JumpDraft}
use Rattle.jump_search.specs.declared.reasons.OpenJump.{OpenJump}
use Rattle.jump_search.specs.declared.reasons.Reason.{Reason}
use Rattle.jump_search.specs.declared.reasons.Reason.TheVariants.{FarJump}
use Rattle.jump_drafts.specs.Drafted.{AreJumpsDrafted}
use Rattle.jump_drafts.specs.Texts.{jumps_text}
use Rattle.loop_drafts.specs.declared.drafted.LoopDraft.{LoopDraft}
use Rattle.loop_drafts.specs.declared.drafted.Piece.{Piece}
use Rattle.loop_drafts.specs.Kept.{AreBytes}
use Rattle.loop_drafts.specs.Pieces.{printed_piece}
use Rattle.host_runs.specs.Answer.{Answer, refused}
use Rattle.pace_tool.specs.Fits.{MakesFit}
use Rattle.pace_tool.specs.Drafts.{Drafts}
use Rattle.pace_tool.specs.Texts.{drafted_text, no_version_text, version_text}
use Rattle.version_fits.specs.declared.choosing.ChosenVersion.{ChosenVersion}
use Rattle.version_fits.specs.Chosen.{IsChosenVersion}

-- ---- jumps

abbrev pub is_far : Reason → Bool
is_far FarJump = true
is_far reason = false

-- `lower` has something to do: a jump is listed, or a far one is made near
abbrev pub has_jumps : JumpDraft → Bool
has_jumps draft = not (length draft.notes == 0) || list_any (λ other. is_far other.reason) draft.others.items

-- An image that is lowered by a draft of its jump file, where there is something to do, and else as it is, with what is told of it; or the refusal of `lower`.
abbrev pub IsPlainFor : (has : Bool) → (image : List ℕ) → JumpDraft → Result (List ℕ × List ℕ) Refusal → Type 0
IsPlainFor false image jumps (Ok plain) = (plain.0 ≡ image) × (plain.1 ≡ jumps_text jumps)
IsPlainFor false image jumps (Err refusal) = ⊥
IsPlainFor true image jumps (Ok plain) =
    (counts : Lowered) × IsLowered image (string_bytes jumps.file) (Ok ((plain.0, counts))) ×
    (plain.1 ≡ jumps_text jumps ++ lowered_text counts)
IsPlainFor true image jumps (Err refusal) = IsLowered image (string_bytes jumps.file) (Err refusal)

-- the image that goes on, by a draft of its jump file, or the refusal of a draft
abbrev pub MakesPlainOf : (image : List ℕ) → Result JumpDraft Refusal → Result (List ℕ × List ℕ) Refusal → Type 0
MakesPlainOf image (Ok jumps) plain = IsPlainFor (has_jumps jumps) image jumps plain
MakesPlainOf image (Err refusal) plain = plain ≡ Err refusal

abbrev pub MakesPlain : (image : List ℕ) → Result (List ℕ × List ℕ) Refusal → Type 0
MakesPlain image plain = (jumps : Result JumpDraft Refusal) × AreJumpsDrafted image jumps × MakesPlainOf image jumps plain

-- ---- loops

-- the pieces of a draft whose loops have no bound: each tells the number of its loop, its header and why
abbrev pub open_pieces : List Piece → List ℕ
open_pieces pieces = flat_map (λ piece. if piece.is_open then printed_piece piece else []) pieces

-- where a loop is open, nothing is stored, and its piece is told
abbrev pub open_answer : (text : List ℕ) → LoopDraft → Answer
open_answer text draft = record { stores = []; text = text ++ open_pieces draft.pieces.items; status = 1 }

-- ---- the fitted image

-- an answer with a text before its own, unless it is a refusal
abbrev pub behind : List ℕ → Answer → Answer
behind text answer = if answer.status == 0 then record answer { text = text ++ answer.text } else answer

-- The answer for an image and its draft, without open loops: that of `fit` with the draft as its loop file. An image that is too long to be loaded is refused as one of
-- the name of OUT.
abbrev pub MakesFitted : (machine out : List ℕ) (inputs : List (List ℕ)) (image file text : List ℕ) → Answer → Type 0
MakesFitted machine out inputs image file text answer =
    ((IMAGE_LIMIT < length image) × (answer ≡ refused (TooLarge out)))
    ⊎ ((length image ≤ IMAGE_LIMIT) × ((fitted : Answer) × MakesFit image machine file inputs out fitted × (answer ≡ behind text fitted)))

-- the answer for an image whose loops are drafted, with what is told up to there
abbrev pub MakesDrafted : (machine out : List ℕ) (inputs : List (List ℕ)) (image text : List ℕ) → Result (List ℕ × LoopDraft) Refusal →
    Answer → Type 0
MakesDrafted machine out inputs image text (Ok given) answer =
    ((0 < given.1.unbounded) × (answer ≡ open_answer (text ++ drafted_text given.1) given.1))
    ⊎ ((given.1.unbounded ≡ 0) × MakesFitted machine out inputs image given.0 (text ++ drafted_text given.1) answer)
MakesDrafted machine out inputs image text (Err refusal) answer = answer ≡ refused refusal

-- that for the image that is fitted
abbrev pub MakesOfTried : (machine out : List ℕ) (most : Option ℕ) (inputs : List (List ℕ)) (tried text : List ℕ) → Answer → Type 0
MakesOfTried machine out most inputs tried text answer =
    AreBytes tried × ((drafted : Result (List ℕ × LoopDraft) Refusal) × Drafts tried most false drafted ×
    MakesDrafted machine out inputs tried text drafted answer)

-- ---- versions

-- The image that is fitted, with what is told of it: the one that goes on, or, where versions are tried, one of it in which code is there twice and by which a fit takes less.
abbrev pub IsTried : (machine : List ℕ) (most : Option ℕ) (inputs : List (List ℕ)) (versions : Bool) (plain tried text : List ℕ) → Type 0
IsTried machine most inputs false plain tried text = (tried ≡ plain) × (text ≡ [])
IsTried machine most inputs true plain tried text = ((tried ≡ plain) × (text ≡ no_version_text))
    ⊎ ((chosen : ChosenVersion) × IsChosenVersion plain machine most None inputs chosen × (tried ≡ chosen.version.file.items) ×
    (text ≡ version_text chosen))

-- that for an image that goes on
abbrev pub MakesOfPlain : (machine out : List ℕ) (most : Option ℕ) (inputs : List (List ℕ)) (versions : Bool) →
    Result (List ℕ × List ℕ) Refusal → Answer → Type 0
MakesOfPlain machine out most inputs versions (Ok plain) answer =
    (tried : List ℕ) × (text : List ℕ) × IsTried machine most inputs versions plain.0 tried text ×
    MakesOfTried machine out most inputs tried (plain.1 ++ text) answer
MakesOfPlain machine out most inputs versions (Err refusal) answer = answer ≡ refused refusal

-- The answer to `all` with this name of OUT.
pub record MakesInOne (image machine : List ℕ) (most : Option ℕ) (inputs : List (List ℕ)) (versions : Bool) (out : List ℕ)
    (answer : Answer) : Type 0 where
  pub plain : Result (List ℕ × List ℕ) Refusal
  pub is_plain : MakesPlain image plain
  pub made : MakesOfPlain machine out most inputs versions plain answer
