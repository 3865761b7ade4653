use Rattle.std.proofs.Common.{ℕ, ◌+◌, ◌<◌, List, Option, sym, ap, ◌∙◌, subst}
use Rattle.graph_algorithms.specs.Arcs.{number_in_place}
use Rattle.worst_walks.specs.Tallies.{IsTally}
use Rattle.worst_walks.proofs.WalkLaws.{called_fit}
use Rattle.worst_walks.proofs.fits.are_called.Goals as goal

pub returns : goal.returns
returns c = λ h.
    let tallied = rw c.in-Some.is at c.in_ok-table.ensures in
    called_fit c.args.graph.now c.in_ok-called.called.items c.args.taken.now c.args.ones.now c.in-Some.table.items c.in_ok-begun.begun.items c.args.calls.now c.requires.ones c.in_ok-called.ensures.size
    c.in_ok-called.ensures.each
    (subst (λ n. IsTally n c.in_ok-called.called.items c.args.taken.now c.args.ones.now c.in-Some.table.items) c.function_count.ensures.count
    (subst (λ (keys : List (Option ℕ)). IsTally c.function_count.result keys c.args.taken.now c.args.ones.now c.in-Some.table.items) c.deref.ensures.value tallied))
    (λ f fl. c.in_ok-begun.ensures.each f (subst (λ n. f < n) (sym c.function_count-2.ensures.count) fl))
    (λ f fl. c.are_sums.ensures h f (subst (λ n. f < n) (sym c.requires.calls) fl) ∙
    ap (λ (xs : List ℕ). number_in_place xs f + number_in_place c.deref-3.result.now f) c.deref-2.ensures.value ∙ ap (λ (xs : List ℕ). number_in_place c.in-Some.table.items f + number_in_place xs f) c.deref-3.ensures.value)
