use Rattle.std.proofs.Common.{◌∙◌, sym, arith}
use Rattle.turn_checks.proofs.Exponents.{exponent_small, none_off, off_is}
use Rattle.turn_checks.proofs.relations.bits_off.Goals as goal

pub returns-then-least-eq0-clause-bits : goal.returns-then-least-eq0-clause-bits
returns-then-least-eq0-clause-bits c = none_off c.args.j (sym c.least_of-least.ensures ∙ c.if-least-eq0.true)

pub returns-else-least-eq0-clause-bits : goal.returns-else-least-eq0-clause-bits
returns-else-least-eq0-clause-bits c = off_is c.args.j c.ilog2.result (let e = c.least_of-least.ensures in let p = c.ilog2.ensures.power_le in omega arith) (let e = c.least_of-least.ensures in let p = c.ilog2.ensures.next_power_gt in omega arith)

pub returns-else-least-eq0-clause-small : goal.returns-else-least-eq0-clause-small
returns-else-least-eq0-clause-small c = exponent_small c.args.j c.ilog2.result (let e = c.least_of-least.ensures in let p = c.ilog2.ensures.power_le in omega arith)
