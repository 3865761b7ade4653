-- What the files that a command has stored promise to whoever runs them.
use Rattle.std.specs.Prelude.{◌≡◌, ℕ, List, Option, Some, IfSome, Ok}
use Rattle.host_files.specs.HostState.{Files, HostState}
use Rattle.host_runs.specs.Answer.{Giving}
use Rattle.host_runs.specs.Loading.{Wants, IfWhole, loading_of}

-- what a stored image keeps to, with what is told of it
abbrev pub Keeping : Type 0 → Type 1
Keeping A = (stored : List ℕ) (told : A) → Type 0

-- of a command that stored what it gives for its files: what OUT holds afterwards is given, with something that is told of it, and is safe with all that it is given
-- with, what was printed among them
pub record StoredPromise {A : Type 0} (Gives : Giving (List ℕ × A)) (Safe : Keeping A) (out : Option (List ℕ)) : Type 0 where
  pub stored : List ℕ
  pub stands : out ≡ Some stored
  pub told : A
  pub given : Gives (Ok ((stored, told)))
  pub safe : (printed : A) → Gives (Ok ((stored, printed))) → Safe stored printed

-- what a command promises, by the files that it loaded and those that stand afterwards
abbrev pub Promising : Type 1
Promising = List (List ℕ) → Files → Type 0

-- what the files that are told afterwards promise, by those that are told before
abbrev pub Promised : Wants → Promising → HostState → HostState → Type 0
Promised wants Promise old new = IfSome old.files (λ files. IfSome new.files (λ after. IfWhole (loading_of wants files)
    (λ loaded. Promise loaded after)))
