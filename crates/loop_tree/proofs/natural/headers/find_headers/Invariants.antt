use Rattle.loop_tree.proofs.HeaderLaws.{AreFirstHeaders}
use Rattle.loop_tree.proofs.natural.headers.find_headers.Given as goal

abbrev pub invariant-loop-k : goal.invariant-loop-k
invariant-loop-k l = AreFirstHeaders l.graph l.notes l.k l.headers.items
