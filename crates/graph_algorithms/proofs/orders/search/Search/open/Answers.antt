use Rattle.std.proofs.Common.{rules, ◌≡◌, length, [], ◌∷◌, ◌++◌, slice_set, subst}
use Rattle.graph_algorithms.specs.DepthFirst.{IsSearch}
use Rattle.graph_algorithms.specs.declared.orders.search.Mark.TheVariants.{OnPath}
use Rattle.graph_algorithms.proofs.DepthFirstLaws.{opened}
use Rattle.graph_algorithms.proofs.orders.search.Search.open.Goals as goal

pub returns-clause-search : goal.returns-clause-search
returns-clause-search c =
    let s = c.args.self.now in
    let size : length s.path.items ≡ c.len.result = search rules in
    let items : s.path.items ++ c.args.number ∷ [] ≡ c.push.new.self.items = search rules in
    subst (λ n. IsSearch c.args.arcs.now s.before.items s.next.items (slice_set s.marks.items c.args.number (OnPath n)) c.push.new.self.items s.order.items) size
    (subst (λ p. IsSearch c.args.arcs.now s.before.items s.next.items (slice_set s.marks.items c.args.number (OnPath (length s.path.items))) p s.order.items) items
    (opened c.args.arcs.now s.before.items s.next.items s.marks.items s.path.items s.order.items c.args.number c.requires.search c.requires.within c.requires.unmet c.requires.joins))
