-- What is told step by step is the answer to `all`.
use Rattle.std.proofs.Common.{◌≡◌, ◌∙◌, ◌++◌, ◌<◌, ◌≤◌, ℕ, List, length, inl, inr, ap, subst, false}
use Rattle.std.specs.Prelude.{Bool, IfOk, Option, Result, Ok, Err}
use Rattle.scale_base.specs.declared.refusal.NoMemory.{NoMemory}
use Rattle.scale_base.specs.declared.refusal.Refusal.{Refusal}
use Rattle.scale_base.specs.declared.refusal.Refusal.TheVariants.{TooLarge}
use Rattle.host_runs.specs.declared.reply.Reply.{Reply}
use Rattle.host_runs.specs.Answer.{Answer, refused}
use Rattle.host_runs.specs.Views.{reply_view}
use Rattle.loop_drafts.specs.declared.drafted.LoopDraft.{LoopDraft}
use Rattle.loop_drafts.specs.Kept.{AreBytes}
use Rattle.loop_drafts.specs.Pieces.{printed}
use Rattle.pace_tool.specs.Drafts.{Drafts}
use Rattle.pace_tool.specs.Fits.{MakesFit}
use Rattle.pace_tool.specs.InOne.{IsTried, MakesDrafted, MakesFitted, MakesInOne, MakesOfPlain, MakesOfTried, MakesPlain, behind, open_answer}
use Rattle.pace_tool.specs.Texts.{drafted_text}
use Rattle.pace_tool.specs.Views.{draft_view}

-- a reply has an answer of which this holds
abbrev pub Replies : (Answer → Type 0) → Result Reply NoMemory → Type 0
Replies P result = IfOk result (λ reply. P (reply_view reply))

pub so_replies : (P Q : Answer → Type 0) (result : Result Reply NoMemory) → ((answer : Answer) → P answer → Q answer) → Replies P result → Replies Q result
so_replies P Q (Ok reply) so told = so (reply_view reply) told
so_replies P Q (Err no_memory) so told = tt

module _ (machine out : List ℕ) (most : Option ℕ) (inputs : List (List ℕ)) where
  pub in_one_told : (image : List ℕ) (versions : Bool) (plain : Result (List ℕ × List ℕ) Refusal) (result : Result Reply NoMemory) → MakesPlain image plain →
      Replies (MakesOfPlain machine out most inputs versions plain) result → Replies (MakesInOne image machine most inputs versions out) result
  in_one_told image versions plain result is told =
      so_replies (MakesOfPlain machine out most inputs versions plain) (MakesInOne image machine most inputs versions out) result (λ answer made. record { plain = plain; is_plain = is; made = made }) told

  pub made_told : (image : List ℕ) (versions : Bool) (result : Result Reply NoMemory) → AreBytes image → Replies (MakesInOne image machine most inputs versions out) result →
      Replies (λ answer. AreBytes image × MakesInOne image machine most inputs versions out answer) result
  made_told image versions result bytes told =
      so_replies (MakesInOne image machine most inputs versions out) (λ answer. AreBytes image × MakesInOne image machine most inputs versions out answer) result (λ answer made. (bytes, made)) told

  pub tried_told : (versions : Bool) (plain text tried told_text : List ℕ) (result : Result Reply NoMemory) → IsTried machine most inputs versions plain tried told_text →
      Replies (MakesOfTried machine out most inputs tried (text ++ told_text)) result → Replies (MakesOfPlain machine out most inputs versions (Ok ((plain, text)))) result
  tried_told versions plain text tried told_text result is told =
      so_replies (MakesOfTried machine out most inputs tried (text ++ told_text)) (MakesOfPlain machine out most inputs versions (Ok ((plain, text)))) result (λ answer made. (tried, told_text, is, made)) told

  pub plain_told : (image text : List ℕ) (drafted : Result (List ℕ × LoopDraft) Refusal) (result : Result Reply NoMemory) → AreBytes image → Drafts image most false drafted →
      Replies (MakesDrafted machine out inputs image text drafted) result → Replies (MakesOfTried machine out most inputs image text) result
  plain_told image text drafted result bytes is told =
      so_replies (MakesDrafted machine out inputs image text drafted) (MakesOfTried machine out most inputs image text) result (λ answer made. (bytes, (drafted, is, made))) told

  -- where a loop is open
  pub open_told : (image text told_text : List ℕ) (draft : LoopDraft) (result : Result Reply NoMemory) → 0 < draft.unbounded → told_text ≡ text ++ drafted_text draft →
      Replies (λ answer. answer ≡ open_answer told_text draft) result → Replies (MakesDrafted machine out inputs image text (Ok (draft_view draft))) result
  open_told image text told_text draft result some is told =
      so_replies (λ answer. answer ≡ open_answer told_text draft) (MakesDrafted machine out inputs image text (Ok (draft_view draft))) result
      (λ answer same. inl (some, same ∙ ap (λ (t : List ℕ). open_answer t draft) is)) told

  -- where none is
  pub closed_told : (image file text told_text : List ℕ) (draft : LoopDraft) (result : Result Reply NoMemory) → draft.unbounded ≡ 0 → file ≡ printed draft.pieces.items → told_text ≡ text ++ drafted_text draft →
      Replies (MakesFitted machine out inputs image file told_text) result → Replies (MakesDrafted machine out inputs image text (Ok (draft_view draft))) result
  closed_told image file text told_text draft result none file_is is told =
      so_replies (MakesFitted machine out inputs image file told_text) (MakesDrafted machine out inputs image text (Ok (draft_view draft))) result
      (λ answer made. inr (
        none,
        subst (λ (f : List ℕ). MakesFitted machine out inputs image f (text ++ drafted_text draft) answer) file_is
            (subst (λ (t : List ℕ). MakesFitted machine out inputs image file t answer) is made),
      )) told

  -- an image that is too long, and another one
  pub long_told : (image file text : List ℕ) (result : Result Reply NoMemory) → 4194304 < length image → Replies (λ answer. answer ≡ refused (TooLarge out)) result →
      Replies (MakesFitted machine out inputs image file text) result
  long_told image file text result long told =
      so_replies (λ answer. answer ≡ refused (TooLarge out)) (MakesFitted machine out inputs image file text) result (λ answer same. inl (long, same)) told

  pub fit_told : (image file text : List ℕ) (fitted : Answer) (result : Result Reply NoMemory) → length image ≤ 4194304 → MakesFit image machine file inputs out fitted →
      Replies (λ answer. answer ≡ behind text fitted) result → Replies (MakesFitted machine out inputs image file text) result
  fit_told image file text fitted result short made told =
      so_replies (λ answer. answer ≡ behind text fitted) (MakesFitted machine out inputs image file text) result (λ answer same. inr (short, (fitted, made, same))) told
