use Rattle.std.proofs.Common.{◌≡◌, ◌++◌, take, string_bytes}
use Rattle.std.specs.List.{flat_map}
use Rattle.plan_texts.specs.Dot.{function_line}
use Rattle.plan_texts.proofs.dot.push_functions.Given as goal

abbrev pub invariant-loop-function : goal.invariant-loop-function
invariant-loop-function l = string_bytes l.text ≡ string_bytes l.initial.text ++ flat_map function_line (take l.function-index l.functions)
