use Rattle.std.proofs.Common.{rules}
use Rattle.std.proofs.lemmas.List.Sorted.{IsNonDecreasingBy-from_sort_by_key}
use Rattle.graph_algorithms.specs.Arcs.{number_in_place}
use Rattle.least_cycles.proofs.order.sorted.Goals as goal

pub returns-clause-order : goal.returns-clause-order
returns-clause-order c = IsNonDecreasingBy-from_sort_by_key (number_in_place c.args.ranks.now) _ c.in_ok-sort_by_key.ensures.sorted (λ a r q k. search rules)
