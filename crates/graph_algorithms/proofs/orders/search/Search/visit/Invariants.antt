use Rattle.std.proofs.Common.{◌≡◌, length}
use Rattle.graph_algorithms.specs.DepthFirst.{IsSearch, AreMet, IsMet, work}
use Rattle.graph_algorithms.proofs.orders.search.Search.visit.Given as goal

abbrev pub invariant-loop-self : goal.invariant-loop-self
invariant-loop-self l = record {
  size : length l.self.marks.items ≡ length l.fn.self.marks.items;
  search : IsSearch l.arcs l.self.before.items l.self.next.items l.self.marks.items l.self.path.items l.self.order.items;
  met : AreMet l.fn.self.marks.items l.self.marks.items;
  here : IsMet l.self.marks.items l.root;
}

abbrev pub decreases-loop-self : goal.decreases-loop-self
decreases-loop-self l = work l.self.next.items l.self.marks.items
