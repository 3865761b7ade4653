use Rattle.std.proofs.Common.{◌≡◌, ℕ, ◌+◌, ◌<◌, [], ◌∷◌, ◌++◌, length, length-append, arith, sym, ap, ◌∙◌, subst}
use Rattle.std.proofs.lemmas.Option.{get_or_from_slice_get}
use Rattle.graph_algorithms.specs.Arcs.{number_in_place}
use Rattle.worst_cycles.specs.Visits.{visit_at}
use Rattle.worst_cycles.proofs.TableLaws.{placed_more}
use Rattle.worst_cycles.proofs.found.iterations_of.Goals as goal

pub bounds-visits-header : goal.bounds-visits-header
bounds-visits-header c =
    let ll : c.loop-l.l < length c.args.tree.now.headers = omega arith in
    let header : number_in_place c.args.tree.now.headers c.loop-l.l ≡ c.header.result = get_or_from_slice_get c.args.tree.now.headers c.loop-l.l c.header.result 0 c.header.ensures in
    subst (λ h. h < length c.args.visits.now) header (c.requires.within c.loop-l.l ll)

pub offset_bounds-visits-header : goal.offset_bounds-visits-header
offset_bounds-visits-header c =
    let ll : c.loop-l.l < length c.args.tree.now.headers = omega arith in
    let header : number_in_place c.args.tree.now.headers c.loop-l.l ≡ c.header.result = get_or_from_slice_get c.args.tree.now.headers c.loop-l.l c.header.result 0 c.header.ensures in
    let low : c.header.result < length c.args.visits.now = subst (λ h. h < length c.args.visits.now) header (c.requires.within c.loop-l.l ll) in
    omega arith

pub loop-l-preserved : goal.loop-l-preserved
loop-l-preserved c =
    let items : c.push.new.self.items ≡ c.loop-l.iterations.items ++ (visit_at c.args.visits.now c.header.result).iteration ∷ [] = c.in_ok-push.ensures.items in
    let header : number_in_place c.args.tree.now.headers c.loop-l.l ≡ c.header.result = get_or_from_slice_get c.args.tree.now.headers c.loop-l.l c.header.result 0 c.header.ensures in
    let size : length c.loop-l.iterations.items ≡ c.loop-l.l = c.loop-l.invariant.size in
    record {
      size = ap length items ∙ length-append c.loop-l.iterations.items ((visit_at c.args.visits.now c.header.result).iteration ∷ []) ∙ ap (λ n. n + 1) size;
      each = subst (λ xs. (k : ℕ) → k < c.loop-l.l + 1 → number_in_place xs k ≡ (visit_at c.args.visits.now (number_in_place c.args.tree.now.headers k)).iteration) (sym items)
          (placed_more c.loop-l.iterations.items (visit_at c.args.visits.now c.header.result).iteration c.loop-l.l (λ k. (visit_at c.args.visits.now (number_in_place c.args.tree.now.headers k)).iteration) size c.loop-l.invariant.each (ap (λ h. (visit_at c.args.visits.now h).iteration) (sym header)));
    }
