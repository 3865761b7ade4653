use Rattle.std.proofs.Common.{rules, arith, ◌≡◌, slice_set, sym, ap, ◌∙◌, subst, Some, None}
use Rattle.std.proofs.lemmas.List.{get_or_read}
use Rattle.std.proofs.lemmas.List.Sums.{sum_by-set}
use Rattle.graph_algorithms.specs.declared.orders.search.Mark.TheVariants.{Unmet, OnPath, Done}
use Rattle.graph_algorithms.specs.Arcs.{arc_at}
use Rattle.graph_algorithms.specs.DepthFirst.{IsSearch, mark, arc_next, place}
use Rattle.graph_algorithms.proofs.DepthFirstLaws.{advanced, IsTop, top_arc, place_less}
use Rattle.graph_algorithms.proofs.orders.search.Search.step.Goals as goal

pub offset_bounds-arcs-s : goal.offset_bounds-arcs-s
offset_bounds-arcs-s c =
    let s = c.args.self.now in
    let top : IsTop c.args.arcs.now s.next.items s.marks.items s.path.items c.index-number.result.now c.in-Some.s = top_arc c.args.arcs.now s.before.items s.next.items s.marks.items s.path.items s.order.items c.len.result c.index-number.result.now c.in-Some.s c.index.result.now c.requires.search c.requires.some (search rules) c.index-number.ensures c.index.ensures c.in-Some.is in
    omega (arith, top.arc, c.requires.arcs)

pub bounds-arcs-s : goal.bounds-arcs-s
bounds-arcs-s c =
    let s = c.args.self.now in
    let top : IsTop c.args.arcs.now s.next.items s.marks.items s.path.items c.index-number.result.now c.in-Some.s = top_arc c.args.arcs.now s.before.items s.next.items s.marks.items s.path.items s.order.items c.len.result c.index-number.result.now c.in-Some.s c.index.result.now c.requires.search c.requires.some (search rules) c.index-number.ensures c.index.ensures c.in-Some.is in
    top.arc

pub returns-in-OnPath-clause-back : goal.returns-in-OnPath-clause-back
returns-in-OnPath-clause-back c =
    let s = c.args.self.now in
    let top : IsTop c.args.arcs.now s.next.items s.marks.items s.path.items c.index-number.result.now c.in-Some.s = top_arc c.args.arcs.now s.before.items s.next.items s.marks.items s.path.items s.order.items c.len.result c.index-number.result.now c.in-Some.s c.index.result.now c.requires.search c.requires.some (search rules) c.index-number.ensures c.index.ensures c.in-Some.is in
    let tl = (c.requires.numbered c.in-Some.s top.arc).1 in
    let at : mark s.marks.items (arc_at c.args.arcs.now c.in-Some.s).to ≡ OnPath c.in-OnPath.start = sym (get_or_read s.marks.items _ _ tl c.index-in-Some.ensures Unmet) ∙ c.in-OnPath.is in
    let m = c.requires.search.marked_path (arc_at c.args.arcs.now c.in-Some.s).to c.in-OnPath.start at in
    (m.0, λ i e. (c.in-Some.s, top.arc, top.from ∙ top.end i e, sym m.1))

pub returns-in-Done-clause-search : goal.returns-in-Done-clause-search
returns-in-Done-clause-search c =
    let s = c.args.self.now in
    let top : IsTop c.args.arcs.now s.next.items s.marks.items s.path.items c.index-number.result.now c.in-Some.s = top_arc c.args.arcs.now s.before.items s.next.items s.marks.items s.path.items s.order.items c.len.result c.index-number.result.now c.in-Some.s c.index.result.now c.requires.search c.requires.some (search rules) c.index-number.ensures c.index.ensures c.in-Some.is in
    let tl = (c.requires.numbered c.in-Some.s top.arc).1 in
    let at : mark s.marks.items (arc_at c.args.arcs.now c.in-Some.s).to ≡ Done c.in-Done.field-0 = sym (get_or_read s.marks.items _ _ tl c.index-in-Some.ensures Unmet) ∙ c.in-Done.is in
    let new : c.index-in-Done.result.now ≡ arc_next s.before.items c.in-Some.s = get_or_read s.before.items c.in-Some.s c.index-in-Done.result.now (let k = c.requires.search.before_size in let l = top.arc in omega arith) c.index-in-Done.ensures None in
    subst (λ o. IsSearch c.args.arcs.now s.before.items (slice_set s.next.items c.index-number.result.now o) s.marks.items s.path.items s.order.items) (sym new)
    (advanced c.args.arcs.now s.before.items s.next.items s.marks.items s.path.items s.order.items c.index-number.result.now c.in-Some.s c.requires.search top.within top.next_arc (c.in-Done.field-0, at))

pub returns-in-Done-clause-work : goal.returns-in-Done-clause-work
returns-in-Done-clause-work c none =
    let s = c.args.self.now in
    let top : IsTop c.args.arcs.now s.next.items s.marks.items s.path.items c.index-number.result.now c.in-Some.s = top_arc c.args.arcs.now s.before.items s.next.items s.marks.items s.path.items s.order.items c.len.result c.index-number.result.now c.in-Some.s c.index.result.now c.requires.search c.requires.some (search rules) c.index-number.ensures c.index.ensures c.in-Some.is in
    let new : c.index-in-Done.result.now ≡ arc_next s.before.items c.in-Some.s = get_or_read s.before.items c.in-Some.s c.index-in-Done.result.now (let k = c.requires.search.before_size in let l = top.arc in omega arith) c.index-in-Done.ensures None in
    let less = place_less c.index-in-Done.result.now c.in-Some.s (λ r e. (c.requires.search.chain.arc c.in-Some.s r top.arc (sym new ∙ e)).0) in
    let was : place (arc_next s.next.items c.index-number.result.now) ≡ place (Some c.in-Some.s) = ap place top.next_arc in
    let sums = sum_by-set place s.next.items c.index-number.result.now c.index-in-Done.result.now None (let k = c.requires.search.next_size in let l = top.within in omega arith) in
    omega (arith, sums, was, less)
