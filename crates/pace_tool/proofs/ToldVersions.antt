use Rattle.std.proofs.Common.{◌≡◌, ◌∙◌, ℕ, List, ap}
use Rattle.std.specs.Prelude.{Result}
use Rattle.scale_base.specs.declared.refusal.NoMemory.{NoMemory}
use Rattle.host_runs.specs.declared.reply.Reply.{Reply}
use Rattle.host_runs.specs.Answer.{Answer}
use Rattle.pace_tool.specs.Fits.{MakesFit}
use Rattle.pace_tool.specs.InOne.{behind}
use Rattle.pace_tool.specs.Versions.{IsVersionTried, MakesVersionFit}
use Rattle.pace_tool.proofs.ToldInOne.{Replies, so_replies}

pub version_told : (image machine loops : List ℕ) (inputs : List (List ℕ)) (out tried own told text : List ℕ) (fitted : Answer) (result : Result Reply NoMemory) →
    IsVersionTried image machine loops inputs tried own told → text ≡ told → MakesFit tried machine own inputs out fitted → Replies (λ answer. answer ≡ behind text fitted) result →
    Replies (MakesVersionFit image machine loops inputs out) result
version_told image machine loops inputs out tried own told text fitted result is same made ends =
    so_replies (λ answer. answer ≡ behind text fitted) (MakesVersionFit image machine loops inputs out) result
    (λ answer e. record { tried = tried; own = own; text = told; is_tried = is; fitted = fitted; made = made; told = e ∙ ap (λ (words : List ℕ). behind words fitted) same }) ends
