-- The answer to `fit` tells a choice that is safe, or the refusal of `hold`.
use Rattle.std.proofs.Common.{◌≡◌, ℕ, ◌≤◌, List, [], ◌∷◌, length, refl, sym, ap, ◌∙◌, arith}
use Rattle.std.specs.Prelude.{IfOk, Result, Ok, Err, Vec}
use Rattle.std.specs.declared.alloc.Global.{Global}
use Rattle.std.proofs.lemmas.List.{length-map}
use Rattle.scale_base.specs.declared.refusal.NoMemory.{NoMemory}
use Rattle.scale_base.specs.declared.refusal.Refusal.{Refusal}
use Rattle.scaler.specs.Held.{IsHeld}
use Rattle.marked_images.specs.Promise.{IsStoredSafely}
use Rattle.paced_images.specs.declared.proposal.Proposal.{Proposal}
use Rattle.pace_fit.specs.declared.endings.Ending.{Ending}
use Rattle.pace_fit.specs.declared.fitting.Fitted.{Fitted}
use Rattle.pace_fit.specs.Endings.{ending_on, endings_on}
use Rattle.pace_fit.specs.Fitting.{IsFitted}
use Rattle.host_runs.specs.declared.reply.Reply.{Reply}
use Rattle.host_runs.specs.Answer.{Tells, refused, stored_answer}
use Rattle.host_runs.specs.Views.{files_view, reply_view}
use Rattle.pace_tool.specs.Fits.{Fits, MakesFit}
use Rattle.pace_tool.specs.Texts.{fitted_text}

-- as many endings as inputs
pub endings_count : (image machine loops : List ℕ) (inputs : List (Vec ℕ Global)) (endings : List Ending) → endings ≡ endings_on image machine loops (files_view inputs) → length endings ≡ length inputs
endings_count image machine loops inputs endings are = ap length are ∙ (length-map (files_view inputs) (ending_on image machine loops) ∙ length-map inputs (λ (v : Vec ℕ Global). v.items))

module _ (image machine loops : List ℕ) (inputs : List (List ℕ)) (out : List ℕ) where
  -- ---- a choice

  pub fit_told : (proposals : List Proposal) (endings : List Ending) (bytes text : List ℕ) (fitted : Fitted) (result : Result Reply NoMemory) → IsFitted image machine loops inputs proposals bytes fitted → fitted.energy ≤ fitted.hold_energy →
      IsStoredSafely image machine loops bytes fitted.summary → endings ≡ endings_on image machine loops inputs → text ≡ fitted_text endings proposals fitted →
      IfOk result (λ reply. reply_view reply ≡ record { stores = (out, bytes) ∷ []; text = text; status = 0 }) →
      IfOk result (λ reply. Tells (Fits image machine loops inputs proposals) (stored_answer (fitted_text (endings_on image machine loops inputs) proposals) out) (reply_view reply))
  fit_told proposals endings bytes text fitted (Ok reply) fits saves safe are told is = record {
    given = Ok (bytes, fitted);
    is_given = record { fitting = fits; safe = record { safe = safe; saves = saves } };
    told = is ∙ ap (λ (t : List ℕ). record { stores = (out, bytes) ∷ []; text = t; status = 0 }) (told ∙ ap (λ (es : List Ending). fitted_text es proposals fitted) are);
  }
  fit_told proposals endings bytes text fitted (Err no_memory) fits saves safe are told is = tt

  -- of some proposals
  pub of_some : (proposals : List Proposal) (result : Result Reply NoMemory) → length proposals ≤ 64 →
      IfOk result (λ reply. Tells (Fits image machine loops inputs proposals) (stored_answer (fitted_text (endings_on image machine loops inputs) proposals) out) (reply_view reply)) →
      IfOk result (λ reply. MakesFit image machine loops inputs out (reply_view reply))
  of_some proposals (Ok reply) few tells = record { proposals = proposals; few = few; tells = tells }
  of_some proposals (Err no_memory) few tells = tt

  -- ---- a refusal

  pub refusal_told : (refusal : Refusal) (result : Result Reply NoMemory) → IsHeld image machine loops (Err refusal) → IfOk result (λ reply. reply_view reply ≡ refused refusal) → IfOk result (λ reply. MakesFit image machine loops inputs out (reply_view reply))
  refusal_told refusal (Ok reply) held is = record {
    proposals = [];
    few = omega arith;
    tells = record { given = Err refusal; is_given = record { fitting = held; safe = tt }; told = is };
  }
  refusal_told refusal (Err no_memory) held is = tt
