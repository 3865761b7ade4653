use Rattle.std.proofs.Common.{◌≡◌, ℕ, ◌<◌, length}
use Rattle.graph_algorithms.specs.DepthFirst.{IsSearch, IsMet}
use Rattle.graph_algorithms.proofs.orders.sort.Given as goal

abbrev pub invariant-loop-root : goal.invariant-loop-root
invariant-loop-root l = record {
  size : length l.search.marks.items ≡ l.count;
  search : IsSearch l.arcs l.search.before.items l.search.next.items l.search.marks.items l.search.path.items l.search.order.items;
  path : length l.search.path.items ≡ 0;
  met : (x : ℕ) → x < l.root → IsMet l.search.marks.items x;
}
