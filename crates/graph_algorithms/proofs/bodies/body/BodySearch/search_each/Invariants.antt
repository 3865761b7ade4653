use Rattle.std.proofs.Common.{◌≡◌}
use Rattle.graph_algorithms.specs.Groups.{IsLed}
use Rattle.graph_algorithms.proofs.GroupLaws.{AreBitsBelow}
use Rattle.graph_algorithms.proofs.bodies.body.BodySearch.search_each.Given as goal

abbrev pub invariant-loop-bit : goal.invariant-loop-bit
invariant-loop-bit l = record {
  same : l.self ≡ l.fn.self;
  bits : AreBitsBelow l.loops l.fn.self.count (λ v i loop. IsLed l.fn.self v loop) l.bit l.words.items;
}
