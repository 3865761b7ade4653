use Rattle.std.proofs.Common.{◌≡◌, drop}
use Rattle.std.specs.List.{list_all}
use Rattle.image_lower.specs.Trees.{fits}
use Rattle.image_lower.proofs.code.all_fit.Given as goal

abbrev pub invariant-loop-instr : goal.invariant-loop-instr
invariant-loop-instr l = list_all fits (drop l.instr-index l.code) ≡ list_all fits l.code
