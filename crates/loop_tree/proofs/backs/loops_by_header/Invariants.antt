use Rattle.loop_tree.specs.Backs.{ArePlacedHeaders}
use Rattle.loop_tree.proofs.backs.loops_by_header.Given as goal

abbrev pub invariant-loop-number : goal.invariant-loop-number
invariant-loop-number l = ArePlacedHeaders l.headers l.number l.count l.heads.items
