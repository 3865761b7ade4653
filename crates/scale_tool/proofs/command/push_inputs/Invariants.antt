use Rattle.std.proofs.Common.{◌≡◌, ◌++◌, map, take}
use Rattle.std.specs.Prelude.{string_bytes}
use Rattle.host_runs.specs.Views.{want_views}
use Rattle.scale_tool.proofs.command.push_inputs.Given as goal

-- the names so far have been added
abbrev pub invariant-loop-name : goal.invariant-loop-name
invariant-loop-name l = want_views l.wants.items ≡ want_views l.fn.wants.items ++ map (λ name. (string_bytes name, 1048576)) (take l.name-index l.inputs)
