use Rattle.std.proofs.Common.{◌+◌, ◌≤◌, arith}
use Rattle.std.proofs.lemmas.Bool.{leb-true}
use Rattle.stack_checks.proofs.Fixing.{apart_above, apart_below}
use Rattle.stack_checks.proofs.fixed.is_apart.Goals as goal

pub returns-then-end-first : goal.returns-then-end-first
returns-then-end-first c so = apart_above c.args.span c.args.part.now (omega arith)

pub returns : goal.returns
returns c so =
    let below : c.from-first.result + c.from.result ≤ c.from-from.result = leb-true (c.from-first.result + c.from.result) c.from-from.result so in
    apart_below c.args.span c.args.part.now (omega (arith, below))
