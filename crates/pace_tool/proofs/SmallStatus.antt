-- An answer that tells what is given has a status that may be given.
use Rattle.std.proofs.Common.{◌≡◌, ◌∙◌, ℕ, List, ap, refl, true, nat_le}
use Rattle.std.specs.Prelude.{Result, Ok, Err}
use Rattle.scale_base.specs.declared.refusal.Refusal.{Refusal}
use Rattle.host_runs.specs.Answer.{Answer, Giving, Tells, stored_answer, text_answer}

file_small : {A : Type 0} (text_of : A → List ℕ) (out : List ℕ) (given : Result (List ℕ × A) Refusal) → nat_le (stored_answer text_of out given).status 1 ≡ true
file_small text_of out (Ok given) = refl
file_small text_of out (Err refusal) = refl

text_small : {A : Type 0} (text_of : A → List ℕ) (given : Result A Refusal) → nat_le (text_answer text_of given).status 1 ≡ true
text_small text_of (Ok given) = refl
text_small text_of (Err refusal) = refl

-- an answer that tells what is given
module _ {A : Type 0} (Gives : Giving A) (text_of : A → List ℕ) (answer : Answer) where
  pub text_told : Tells Gives (text_answer text_of) answer → nat_le answer.status 1 ≡ true
  text_told x = ap (λ (a : Answer). nat_le a.status 1) x.told ∙ text_small text_of x.given

module _ {A : Type 0} (Gives : Giving (List ℕ × A)) (text_of : A → List ℕ) (out : List ℕ) (answer : Answer) where
  pub file_told : Tells Gives (stored_answer text_of out) answer → nat_le answer.status 1 ≡ true
  file_told x = ap (λ (a : Answer). nat_le a.status 1) x.told ∙ file_small text_of out x.given
