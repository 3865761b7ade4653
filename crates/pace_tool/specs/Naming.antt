-- Scaffold: which call of a host failed first.
use Rattle.std.specs.Prelude.{Bool, true, false, Option, Some, None}
use Rattle.pace_tool.specs.declared.naming_host.Fault.{Fault}

-- the first call that failed, where this one was told before, and then this call failed, or didn't
abbrev pub first_fault : Option Fault → Bool → Fault → Option Fault
first_fault (Some before) failed call = Some before
first_fault None true call = Some call
first_fault None false call = None
