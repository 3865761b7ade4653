-- What a command may answer: its stores in order, the text that it prints, and its status.
use Rattle.std.specs.Prelude.{◌≡◌, ℕ, List, [], ◌∷◌, Result, Ok, Err}
use Rattle.scale_base.specs.declared.refusal.Refusal.{Refusal}
use Rattle.scale_report.specs.Texts.{refusal_text}

-- names, each with what is stored under it
abbrev pub Stores : Type 0
Stores = List (List ℕ × List ℕ)

pub record Answer : Type 0 where
  pub stores : Stores
  pub text : List ℕ
  pub status : ℕ

abbrev pub refused : Refusal → Answer
refused refusal = record { stores = []; text = refusal_text refusal; status = 1 }

-- what a command gives for its files, or the first refusal
abbrev pub Giving : Type 0 → Type 1
Giving A = Result A Refusal → Type 0

-- The answer to a command tells what it gives for its files.
pub record Tells {A : Type 0} (Gives : Giving A) (answer_of : Result A Refusal → Answer) (answer : Answer) : Type 0 where
  pub given : Result A Refusal
  pub is_given : Gives given
  pub told : answer ≡ answer_of given

-- one file under this name of OUT and the text about it, or the refusal
abbrev pub stored_answer : {A : Type 0} → (A → List ℕ) → List ℕ → Result (List ℕ × A) Refusal → Answer
stored_answer text_of out (Ok given) = record { stores = (out, given.0) ∷ []; text = text_of given.1; status = 0 }
stored_answer text_of out (Err refusal) = refused refusal

-- a text alone, or the refusal
abbrev pub text_answer : {A : Type 0} → (A → List ℕ) → Result A Refusal → Answer
text_answer text_of (Ok given) = record { stores = []; text = text_of given; status = 0 }
text_answer text_of (Err refusal) = refused refusal
