-- A run of what was asked over a host: of a command, or of words that are none, for which nothing is loaded.
use Rattle.std.specs.Prelude.{ℕ, Option, IsTrue, Result, Ok, Err}
use Rattle.host_files.specs.HostState.{HostState}
use Rattle.host_files.specs.declared.host.HostError.{HostError}
use Rattle.host_files.specs.declared.host.HostError.TheVariants.{Failed, OutOfMemory}
use Rattle.host_runs.specs.Command as runs
use Rattle.scale_tool.specs.Answer.{MakesAsked}
use Rattle.scale_tool.specs.Command.{Command, may_give, needs_memory, wants_asked}

-- The host is steady, holds each file that the command loads, and has room for whatever it may store and print.
abbrev pub IsReadyFor : Option Command → HostState → Type 0
IsReadyFor asked = runs.IsReadyFor (wants_asked asked) (MakesAsked asked)

-- where the files are told, the status is that of an answer, and that answer was given
abbrev pub IsAnswered : Option Command → ℕ → HostState → HostState → Type 0
IsAnswered asked = runs.IsAnswered (wants_asked asked) (MakesAsked asked)

-- where the files are told, every answer that may be given has this status
abbrev pub IsStatusOfAll : Option Command → ℕ → HostState → Type 0
IsStatusOfAll asked = runs.IsStatusOfAll (wants_asked asked) (MakesAsked asked)

-- where the files are told, the stores of an answer that is no refusal stand, whether or not its text was printed
abbrev pub StoresStand : Option Command → HostState → HostState → Type 0
StoresStand asked = runs.StoresStand (wants_asked asked) (MakesAsked asked)

-- where the files are told, a load failed, and nothing was touched, or an answer was cut short
abbrev pub StopsWithin : Option Command → HostState → HostState → Type 0
StopsWithin asked = runs.StopsWithin (wants_asked asked) (MakesAsked asked)

-- how a run ends, by what it gives
abbrev pub Ends : Option Command → Result ℕ HostError → HostState → HostState → Type 0
Ends asked = runs.Ends (wants_asked asked) (MakesAsked asked)

-- what a run may give: a status of what was asked, a fault, and want of memory where that needs some
abbrev pub MayEnd : Option Command → Result ℕ HostError → Type 0
MayEnd asked (Ok status) = IsTrue (may_give asked status)
MayEnd asked (Err Failed) = Unit {0}
MayEnd asked (Err OutOfMemory) = IsTrue (needs_memory asked)
