use Rattle.std.proofs.Common.{ℕ, ◌+◌, ◌<◌, List, Option, sym, ap, ◌∙◌, subst}
use Rattle.graph_algorithms.specs.Arcs.{number_in_place}
use Rattle.worst_walks.specs.Fitted.{AreOnes}
use Rattle.worst_walks.specs.Tallies.{IsTally}
use Rattle.worst_walks.proofs.WalkLaws.{entered_fit}
use Rattle.worst_walks.proofs.fits.are_entered.Goals as goal

pub returns : goal.returns
returns c = λ h.
    let over_is = rw c.in-Some.is at c.in_ok-over.ensures in
    let by_call_is = rw c.in-Some-2.is at c.in_ok-by_call.ensures in
    entered_fit c.args.graph.now c.args.tree.now c.requires.tree.0 c.node_count-nodes.ensures.graph c.requires.tree.1 c.in_ok-entered.entered.items c.in_ok-begun.begun.items c.args.times.now.taken.now c.args.ones.now c.in_ok-function_ones.function_ones.items
    c.in-Some.over.items c.in-Some-2.by_call.items c.args.times.now.calls.now c.args.times.now.entries.now c.requires.ones
    (subst (λ n. AreOnes n c.in_ok-function_ones.function_ones.items) c.function_count.ensures.count c.in_ok-function_ones.ensures)
    c.in_ok-entered.ensures.size c.in_ok-begun.ensures.size c.in_ok-entered.ensures.each c.in_ok-begun.ensures.each
    (subst (λ n. IsTally n c.in_ok-entered.entered.items c.args.times.now.taken.now c.args.ones.now c.in-Some.over.items) c.loop_count.ensures.count
    (subst (λ (keys : List (Option ℕ)). IsTally c.loop_count.result keys c.args.times.now.taken.now c.args.ones.now c.in-Some.over.items) c.deref.ensures.value over_is))
    (subst (λ n. IsTally n c.in_ok-begun.begun.items c.args.times.now.calls.now c.in_ok-function_ones.function_ones.items c.in-Some-2.by_call.items) c.loop_count-2.ensures.count
    (subst (λ (keys : List (Option ℕ)). IsTally c.loop_count-2.result keys c.args.times.now.calls.now c.in_ok-function_ones.function_ones.items c.in-Some-2.by_call.items) c.deref-2.ensures.value
    (subst (λ (ones : List ℕ). IsTally c.loop_count-2.result c.deref-2.result.now c.args.times.now.calls.now ones c.in-Some-2.by_call.items) c.deref-3.ensures.value by_call_is)))
    (λ k kl. c.are_sums.ensures h k (subst (λ n. k < n) (sym c.requires.entries) kl) ∙
    ap (λ (xs : List ℕ). number_in_place xs k + number_in_place c.deref-5.result.now k) c.deref-4.ensures.value ∙ ap (λ (xs : List ℕ). number_in_place c.in-Some.over.items k + number_in_place xs k) c.deref-5.ensures.value)
