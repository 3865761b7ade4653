use Rattle.std.proofs.Common.{◌*◌}
use Rattle.least_cycles.specs.Hops.{IsHopTable, fall}
use Rattle.least_cycles.proofs.least_costs.Given as goal

abbrev pub invariant-loop : goal.invariant-loop
invariant-loop l = IsHopTable l.count l.most l.hops l.table.items

abbrev pub decreases-loop : goal.decreases-loop
decreases-loop l = fall (l.count * l.most) l.table.items
