-- A run of a command over a host. A command is the files that it loads, and the answers that it may give for their bytes.
use Rattle.std.specs.Prelude.{◌≡◌, ◌≢◌, ◌⊎◌, ℕ, List, length, Option, option_map, IfSome, IsSome, IsSomeAnd, Result, Ok, Err}
use Rattle.host_files.specs.HostState.{Files, Room, HostState, IsUntouched}
use Rattle.host_files.specs.declared.host.HostError.{HostError}
use Rattle.host_files.specs.declared.host.HostError.TheVariants.{Failed, OutOfMemory}
use Rattle.scale_base.specs.declared.refusal.Refusal.TheVariants.{TooLarge}
use Rattle.host_runs.specs.Answer.{Answer, refused}
use Rattle.host_runs.specs.Delivered.{with_stores, IsDelivered, IsCutShort, HasRoom}
use Rattle.host_runs.specs.Loading.{Wants, Loading, Missing, Long, Whole, loading_of}

-- the answers that a command may give for the bytes of its files
abbrev pub Answering : Type 1
Answering = List (List ℕ) → Answer → Type 0

-- and of how they were loaded: nothing where a file is missing
abbrev pub AnswersTo : Answering → Loading → Answer → Type 0
AnswersTo Makes Missing answer = ⊥
AnswersTo Makes (Long name) answer = answer ≡ refused (TooLarge name)
AnswersTo Makes (Whole files) answer = Makes files answer

-- the answer is one to a command over these files; there is none where a file that the command loads is missing
abbrev pub IsAnswerOf : Wants → Answering → Files → Answer → Type 0
IsAnswerOf wants Makes files answer = AnswersTo Makes (loading_of wants files) answer

-- there is an answer of which this holds
abbrev pub HasAnswer : Wants → Answering → Files → (Answer → Type 0) → Type 0
HasAnswer wants Makes files P = (answer : Answer) × IsAnswerOf wants Makes files answer × P answer

-- each file that the command loads is there, up to the first that is too long
abbrev pub HasFiles : Wants → Files → Type 0
HasFiles wants files = loading_of wants files ≢ Missing

-- a steady host has room for whatever may be stored and printed in answer
abbrev pub HasRoomForAll : Wants → Answering → Files → Option Room → Type 0
HasRoomForAll wants Makes files room = (answer : Answer) → IsAnswerOf wants Makes files answer →
    HasRoom room answer.stores (length answer.text)

-- The host is steady, holds each file that the command loads, and has room for whatever it may store and print.
abbrev pub IsReadyFor : Wants → Answering → HostState → Type 0
IsReadyFor wants Makes host = IsSome host.room × IsSomeAnd host.files (λ files. HasFiles wants files ×
    HasRoomForAll wants Makes files host.room)

-- where the files are told, the status is that of an answer, and that answer was given
abbrev pub IsAnswered : Wants → Answering → ℕ → HostState → HostState → Type 0
IsAnswered wants Makes status old new = IfSome old.files (λ files. HasAnswer wants Makes files (λ answer.
    (status ≡ answer.status) × IsDelivered answer.stores answer.text old new))

-- where the files are told, every answer that may be given has this status
abbrev pub IsStatusOfAll : Wants → Answering → ℕ → HostState → Type 0
IsStatusOfAll wants Makes status old = IfSome old.files (λ files. (answer : Answer) → IsAnswerOf wants Makes files answer →
    status ≡ answer.status)

-- where the files are told, the stores of an answer that is no refusal stand, whether or not its text was printed
abbrev pub StoresStand : Wants → Answering → HostState → HostState → Type 0
StoresStand wants Makes old new = IfSome old.files (λ files. HasAnswer wants Makes files (λ answer.
    (answer.status ≢ 1) × (new.files ≡ option_map (with_stores answer.stores) old.files)))

-- where the files are told, a load failed, and nothing was touched, or an answer was cut short
abbrev pub StopsWithin : Wants → Answering → HostState → HostState → Type 0
StopsWithin wants Makes old new = IfSome old.files (λ files. IsUntouched old new ⊎
    HasAnswer wants Makes files (λ answer. IsCutShort answer.stores answer.text old new))

-- how a run ends, by what it gives
abbrev pub Ends : Wants → Answering → Result ℕ HostError → HostState → HostState → Type 0
Ends wants Makes (Ok status) old new = IsAnswered wants Makes status old new
Ends wants Makes (Err Failed) old new = StopsWithin wants Makes old new × (IsReadyFor wants Makes old → ⊥)
Ends wants Makes (Err OutOfMemory) old new = IsUntouched old new
