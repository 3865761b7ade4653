use Rattle.std.proofs.Common.{rules, arith, ◌≡◌, ℕ, ◌+◌, ◌<◌, length, [], ◌∷◌, ◌++◌, slice_set, sym, ap, ◌∙◌, subst}
use Rattle.std.proofs.lemmas.List.{get_or_append_left}
use Rattle.std.proofs.lemmas.List.Sums.{sum_by-set}
use Rattle.graph_algorithms.specs.Arcs.{number_in_place}
use Rattle.graph_algorithms.specs.DepthFirst.{IsSearch, mark, mark_height}
use Rattle.graph_algorithms.specs.declared.orders.search.Mark.TheVariants.{Unmet, Done}
use Rattle.graph_algorithms.proofs.DepthFirstLaws.{closed}
use Rattle.graph_algorithms.proofs.orders.search.Search.close.Goals as goal

pub returns-clause-search : goal.returns-clause-search
returns-clause-search c =
    let s = c.args.self.now in
    let rest = c.pop.new.self.items in
    let size : length s.order.items ≡ c.len.result = search rules in
    let items : s.order.items ++ c.args.number ∷ [] ≡ c.push.new.self.items = search rules in
    let shorter : length c.pop.new.self.items + 1 ≡ length s.path.items = grind (arith, c.pop.ensures.cases) in
    let same : (i : ℕ) → i < length c.pop.new.self.items → number_in_place s.path.items i ≡ number_in_place c.pop.new.self.items i = λ i lt. ap (λ p. number_in_place p i) c.pop.ensures.items ∙ get_or_append_left c.pop.new.self.items _ 0 i lt in
    subst (λ n. IsSearch c.args.arcs.now s.before.items s.next.items (slice_set s.marks.items c.args.number (Done n)) c.pop.new.self.items c.push.new.self.items) size
    (subst (λ p. IsSearch c.args.arcs.now s.before.items s.next.items (slice_set s.marks.items c.args.number (Done (length s.order.items))) c.pop.new.self.items p) items
    (closed c.args.arcs.now s.before.items s.next.items s.marks.items s.path.items c.pop.new.self.items s.order.items c.args.number c.requires.search shorter same (c.requires.end (length c.pop.new.self.items) shorter) c.requires.over))

pub returns-clause-work : goal.returns-clause-work
returns-clause-work c =
    let s = c.args.self.now in
    let shorter : length c.pop.new.self.items + 1 ≡ length s.path.items = grind (arith, c.pop.ensures.cases) in
    let last = c.requires.search.path_marked (length c.pop.new.self.items) (omega arith) in
    let end = c.requires.end (length c.pop.new.self.items) shorter in
    let lt : c.args.number < length s.marks.items = subst (λ k. k < length s.marks.items) end last.0 in
    let was : mark_height (mark s.marks.items c.args.number) ≡ 1 = ap (λ x. mark_height (mark s.marks.items x)) (sym end) ∙ ap mark_height last.1 in
    let sums = sum_by-set mark_height s.marks.items c.args.number (Done c.len.result) Unmet lt in
    omega (arith, sums, was)
