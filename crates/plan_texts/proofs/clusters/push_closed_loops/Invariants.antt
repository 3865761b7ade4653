use Rattle.std.proofs.Common.{◌≡◌, ◌++◌, take, string_bytes}
use Rattle.std.specs.List.{flat_map}
use Rattle.plan_texts.specs.Words.{closed_loop}
use Rattle.plan_texts.proofs.clusters.push_closed_loops.Given as goal

abbrev pub invariant-loop-l : goal.invariant-loop-l
invariant-loop-l l = string_bytes l.text ≡ string_bytes l.initial.text ++ flat_map closed_loop (take l._l-index l.around)
