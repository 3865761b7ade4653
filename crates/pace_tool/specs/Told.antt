-- Scaffold: what is told of what a command gives: its text, and the file that is stored beside it.
use Rattle.std.specs.Prelude.{◌≡◌, ℕ, List, Result, Ok, Err, String, string_bytes, Vec}
use Rattle.std.specs.declared.alloc.Global.{Global}
use Rattle.host_runs.specs.Answer.{Giving}

-- the text of what is given, or the refusal
abbrev pub TextOf : {A : Type 0} → Giving A → (A → List ℕ) → Giving (List ℕ)
TextOf {A} Gives text_of (Ok text) = (given : A) × Gives (Ok given) × (text ≡ text_of given)
TextOf Gives text_of (Err refusal) = Gives (Err refusal)

-- a file that is given, and the text about it, or the refusal
abbrev pub FileOf : {A : Type 0} → Giving (List ℕ × A) → (A → List ℕ) → Giving (List ℕ × List ℕ)
FileOf {A} Gives text_of (Ok written) = (given : A) × Gives (Ok ((written.0, given))) × (written.1 ≡ text_of given)
FileOf Gives text_of (Err refusal) = Gives (Err refusal)

-- a file with the text about it
abbrev pub written_view : Vec ℕ Global × String Global → List ℕ × List ℕ
written_view written = (written.0.items, string_bytes written.1)

-- a text as it is
abbrev pub itself : List ℕ → List ℕ
itself text = text
