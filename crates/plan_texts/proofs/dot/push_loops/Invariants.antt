use Rattle.std.proofs.Common.{◌≡◌, ◌++◌, take, string_bytes}
use Rattle.std.specs.List.{flat_map}
use Rattle.plan_texts.specs.Dot.{loop_line}
use Rattle.plan_texts.proofs.dot.push_loops.Given as goal

abbrev pub invariant-loop-drawn : goal.invariant-loop-drawn
invariant-loop-drawn l = string_bytes l.text ≡ string_bytes l.initial.text ++ flat_map loop_line (take l.drawn-index l.loops)
