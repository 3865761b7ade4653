use Rattle.std.proofs.Common.{◌≡◌, ◌+◌, ◌<◌, ℕ, length, slice_set, sym, ◌∙◌, subst, arith, length-set}
use Rattle.std.proofs.lemmas.List.{get_or_default}
use Rattle.graph_algorithms.specs.Arcs.{number_in_place}
use Rattle.least_cycles.proofs.OrderLaws.{distinct_permuted, below_permuted, places_more}
use Rattle.least_cycles.proofs.order.ranked.Goals as goal

pub index_mut-requires : goal.index_mut-requires
index_mut-requires c =
    let ranked = c.in_ok-ranked.ranked.items in
    let len = c.len-i-end.ensures in
    let ok = c.in_ok-ranked.ranked.ok.0 in
    let test = c.loop-i-test.true in
    let il : c.loop-i.i < length ranked = omega arith in
    let at : c.index.result.now ≡ number_in_place ranked c.loop-i.i = c.index.ensures ∙ get_or_default ranked c.loop-i.i c.index.result.now 0 il in
    let below = below_permuted c.args.nodes.now ranked c.in_ok-ranked.ensures.nodes (length c.args.places.now.items) c.requires.within c.loop-i.i il in
    let size = c.loop-i.invariant.size in
    let places = c.loop-i.places.ok.0 in
    omega arith

pub loop-i-preserved : goal.loop-i-preserved
loop-i-preserved c =
    let ranked = c.in_ok-ranked.ranked.items in
    let len = c.len-i-end.ensures in
    let ok = c.in_ok-ranked.ranked.ok.0 in
    let test = c.loop-i-test.true in
    let il : c.loop-i.i < length ranked = omega arith in
    let at : c.index.result.now ≡ number_in_place ranked c.loop-i.i = c.index.ensures ∙ get_or_default ranked c.loop-i.i c.index.result.now 0 il in
    let below = below_permuted c.args.nodes.now ranked c.in_ok-ranked.ensures.nodes (length c.args.places.now.items) c.requires.within c.loop-i.i il in
    let size = c.loop-i.invariant.size in
    let within : number_in_place ranked c.loop-i.i < length c.loop-i.places.items = omega arith in
    record {
      size = length-set c.loop-i.places.items c.index.result.now c.loop-i.i ∙ size;
      each = subst (λ k. (j : ℕ) → j < c.loop-i.i + 1 → number_in_place (slice_set c.loop-i.places.items k c.loop-i.i) (number_in_place ranked j) ≡ j) (sym at)
          (places_more ranked c.loop-i.places.items c.loop-i.i (distinct_permuted c.args.nodes.now ranked c.in_ok-ranked.ensures.nodes c.requires.once) il within c.loop-i.invariant.each);
    }
