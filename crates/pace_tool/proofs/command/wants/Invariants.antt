use Rattle.std.proofs.Common.{◌≡◌, ◌-◌, length, take}
use Rattle.host_runs.specs.Views.{want_views}
use Rattle.pace_tool.specs.Command.{wants_of}
use Rattle.pace_tool.specs.Views.{command_view}
use Rattle.pace_tool.proofs.command.wants.Given as goal

-- the files so far have been added
abbrev pub invariant-loop-want : goal.invariant-loop-want
invariant-loop-want l = want_views l.wants.items ≡ take (length l.wants.items) (wants_of (command_view l.command))

abbrev pub decreases-loop-want : goal.decreases-loop-want
decreases-loop-want l = length (wants_of (command_view l.command)) - length l.wants.items
