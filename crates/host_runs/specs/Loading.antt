-- Files that are loaded in order, up to the first that is missing or too long.
use Rattle.std.specs.Prelude.{ℕ, List, [], ◌∷◌, length, Option, Some, None, if◌then◌else◌, nat_le}
use Rattle.std.specs.FinMap.{get}
use Rattle.host_files.specs.HostState.{Files}

-- the names of files that are loaded, in order, each with its limit in bytes
abbrev pub Wants : Type 0
Wants = List (List ℕ × ℕ)

pub data Loading : Type 0 where
  Missing : Loading
  Long : (name : List ℕ) → Loading
  Whole : (files : List (List ℕ)) → Loading

-- these bytes, and then what follows
abbrev pub and_then : List ℕ → Loading → Loading
and_then bytes Missing = Missing
and_then bytes (Long name) = Long name
and_then bytes (Whole files) = Whole (bytes ∷ files)

abbrev pub loading_one : List ℕ → ℕ → Option (List ℕ) → Loading → Loading
loading_one name limit None rest = Missing
loading_one name limit (Some bytes) rest = if nat_le (length bytes) limit then and_then bytes rest else Long name

-- what loading these names gives, each with its limit
abbrev pub loading_of : List (List ℕ × ℕ) → Files → Loading
loading_of [] files = Whole []
loading_of (want ∷ wants) files = loading_one want.0 want.1 (get files want.0) (loading_of wants files)

-- this of the files, where all are there and within their limits
abbrev pub IfWhole : Loading → (List (List ℕ) → Type 0) → Type 0
IfWhole (Whole files) P = P files
IfWhole loading P = Unit {0}
