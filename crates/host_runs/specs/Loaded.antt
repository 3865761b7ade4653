-- Scaffold: what loading all files of a command answers.
use Rattle.std.specs.Prelude.{◌≡◌, ◌<◌, ◌≤◌, ℕ, List, length, slice_get, IsSomeAnd, Result, Ok, Err, ⊤}
use Rattle.std.specs.List.{AllZip}
use Rattle.host_files.specs.declared.host.HostError.{HostError}
use Rattle.host_runs.specs.declared.loading.AllLoaded.{AllLoaded}
use Rattle.host_runs.specs.declared.loading.AllLoaded.TheVariants.{Whole as AllWhole, TooLong}
use Rattle.host_runs.specs.Loading.{Loading, Long, Whole}
use Rattle.host_runs.specs.Views.{files_view}

-- the answer is the defined one, or a fault, or want of memory
abbrev pub LoadsAs : List (List ℕ × ℕ) → Loading → Result AllLoaded HostError → Type 0
LoadsAs wants loading (Ok (AllWhole files)) = loading ≡ Whole (files_view files.items)
LoadsAs wants loading (Ok (TooLong number)) = IsSomeAnd (slice_get wants number) (λ want. loading ≡ Long want.0)
LoadsAs wants loading (Err error) = ⊤

-- one file for each that was wanted, within its limit; or the number of a file that was wanted
abbrev pub AreLoadedWithin : List (List ℕ × ℕ) → AllLoaded → Type 0
AreLoadedWithin wants (AllWhole files) = AllZip (λ want file. length file ≤ want.1) wants (files_view files.items)
AreLoadedWithin wants (TooLong number) = number < length wants
