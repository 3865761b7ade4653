use Rattle.std.proofs.Common.{◌≡◌, ℕ, ◌+◌, get_or, take, refl, arith}
use Rattle.cost_theory.specs.Graph.{total}
use Rattle.graph_algorithms.specs.Arcs.{number_in_place}
use Rattle.worst_walks.proofs.Passes.{total_more}
use Rattle.worst_walks.proofs.whole.sum_at.Goals as goal

pub loop-place-preserved : goal.loop-place-preserved
loop-place-preserved c =
    let i : ℕ = c.loop-place.place-index in
    let step : total (number_in_place c.args.table.now) (take (i + 1) c.args.places.now) ≡ total (number_in_place c.args.table.now) (take i c.args.places.now) + number_in_place c.args.table.now (get_or c.args.places.now i 0) =
    total_more (number_in_place c.args.table.now) c.args.places.now i (get_or c.args.places.now i 0) c.loop-place-test.true refl in
    omega (arith, step, c.loop-place.invariant, c.in-Some.ensures)
