use Rattle.std.proofs.Common.{rules, arith, refl, ◌≡◌, ◌≤◌, drop, sym, ap, ◌∙◌, subst, Some}
use Rattle.std.proofs.lemmas.List.{take_rest}
use Rattle.graph_algorithms.specs.Arcs.{IsCycle}
use Rattle.graph_algorithms.specs.DepthFirst.{IsBack}
use Rattle.graph_algorithms.proofs.OrderLaws.{search_sorted, search_cycle, sorted_no_cycle, cycle_not_none}
use Rattle.graph_algorithms.proofs.orders.sort.Goals as goal

pub returns-in-Some-clause-answer : goal.returns-in-Some-clause-answer
returns-in-Some-clause-answer c =
    let s = c.visit.new.self in
    let e = c.in_ok-start.ensures in
    let back : IsBack c.args.arcs.now s.path.items (Some c.in-Some.start) = subst (IsBack c.args.arcs.now s.path.items) c.in-Some.is e.back in
    let read : c.deref.result.now ≡ s.path.items = search rules in
    let items : c.in_ok-to_vec.field-0.items ≡ drop c.in-Some.start s.path.items =
    c.in_ok-to_vec.ensures.items_if_clones_equal (λ x y same. same) ∙ take_rest c.deref.result.now c.in-Some.start ∙ ap (drop c.in-Some.start) read in
    subst (IsCycle c.args.arcs.now) (sym items) (search_cycle c.args.arcs.now s.before.items s.next.items s.marks.items s.path.items s.order.items c.in-Some.start e.search back)

pub returns-in-Some-clause-exactly : goal.returns-in-Some-clause-exactly
returns-in-Some-clause-exactly c =
    let s = c.visit.new.self in
    let e = c.in_ok-start.ensures in
    let back : IsBack c.args.arcs.now s.path.items (Some c.in-Some.start) = subst (IsBack c.args.arcs.now s.path.items) c.in-Some.is e.back in
    (λ no. let bad : ⊥ = cc in absurd bad, λ none. absurd (cycle_not_none c.args.arcs.now (drop c.in-Some.start s.path.items) (search_cycle c.args.arcs.now s.before.items s.next.items s.marks.items s.path.items s.order.items c.in-Some.start e.search back) none))

pub returns-clause-answer : goal.returns-clause-answer
returns-clause-answer c =
    let s = c.loop-root.search in
    let inv = c.loop-root.invariant in
    let e : c.args.count ≤ c.loop-root.root = search rules in
    search_sorted c.args.count c.args.arcs.now s.before.items s.next.items s.marks.items s.path.items s.order.items inv.search inv.path inv.size c.requires.numbered (λ x lt. inv.met x (omega arith))

pub returns-clause-exactly : goal.returns-clause-exactly
returns-clause-exactly c =
    let s = c.loop-root.search in
    let inv = c.loop-root.invariant in
    let e : c.args.count ≤ c.loop-root.root = search rules in
    (λ yes. sorted_no_cycle c.args.count c.args.arcs.now s.order.items (search_sorted c.args.count c.args.arcs.now s.before.items s.next.items s.marks.items s.path.items s.order.items inv.search inv.path inv.size c.requires.numbered (λ x lt. inv.met x (omega arith))), λ none. refl)
