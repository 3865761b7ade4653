-- What stands after stores and a print, all of them or as far as they came.
use Rattle.std.specs.Prelude.{◌≡◌, ◌⊎◌, ℕ, ◌+◌, ◌-◌, ◌≤◌, List, [], ◌∷◌, ◌++◌, length, take, sum_by, Option, Some, option_map, slice_get, IsSomeAnd}
use Rattle.std.specs.FinMap.{insert}
use Rattle.host_files.specs.HostState.{Files, Room, HostState, Rose}
use Rattle.host_files.specs.Host.{MayHoldAnything, PrintsPrefix}
use Rattle.host_runs.specs.Answer.{Stores}

-- the files after these stores, in order
abbrev pub with_stores : Stores → Files → Files
with_stores [] files = files
with_stores (store ∷ stores) files = with_stores stores (insert files store.0 store.1)

-- All stores were made, and the whole text was printed.
pub record IsDelivered (stores : Stores) (text : List ℕ) (old new : HostState) : Type 0 where
  pub files : new.files ≡ option_map (with_stores stores) old.files
  pub printed : new.printed ≡ option_map (λ printed. printed ++ text) old.printed
  pub store_faults : new.store_faults ≡ old.store_faults

-- A store failed: those before it stand, its name may hold anything, and nothing was printed.
pub record FailedInStore (stores : Stores) (old new : HostState) : Type 0 where
  pub done : ℕ
  pub store : List ℕ × List ℕ
  pub is_next : slice_get stores done ≡ Some store
  pub files : MayHoldAnything store.0 (option_map (with_stores (take done stores)) old.files) new.files
  pub printed : new.printed ≡ old.printed
  pub rose : Rose old.store_faults new.store_faults

-- The print failed: all stores stand, and a part of the text from its front was printed.
pub record FailedInPrint (stores : Stores) (text : List ℕ) (old new : HostState) : Type 0 where
  pub files : new.files ≡ option_map (with_stores stores) old.files
  pub printed : PrintsPrefix text old.printed new.printed
  pub store_faults : new.store_faults ≡ old.store_faults

abbrev pub IsCutShort : Stores → List ℕ → HostState → HostState → Type 0
IsCutShort stores text old new = FailedInStore stores old new ⊎ FailedInPrint stores text old new

-- the bytes that stores take: of their names and of what they hold
abbrev pub bytes_of_stores : Stores → ℕ
bytes_of_stores stores = sum_by (λ store. length store.0 + length store.1) stores

-- what is left after stores
abbrev pub stores_spent : Stores → Room → Room
stores_spent stores room = record { stores = room.stores - length stores; bytes = room.bytes - bytes_of_stores stores }

-- a steady host has room for these stores and this text
abbrev pub HasRoom : Option Room → Stores → ℕ → Type 0
HasRoom room stores text = IsSomeAnd room (λ left. (length stores ≤ left.stores) × (bytes_of_stores stores + text ≤ left.bytes))
