use Rattle.std.proofs.Common.{◌≡◌, ◌+◌, ◌-◌, ◌≤◌, ◌<◌, ◌^◌, arith}
use Rattle.std.proofs.lemmas.Bool.{leb-true}
use Rattle.bound_laws.specs.Values.{ahead}
use Rattle.stack_checks.proofs.Reaching.{in_area}
use Rattle.stack_checks.proofs.areas.is_span_in.Goals as goal

pub returns : goal.returns
returns c so =
    let near : c.ahead.result + (c.from-last.result - 1) ≤ c.more.result = leb-true (c.ahead.result + (c.from-last.result - 1)) c.more.result so in
    let one : c.args.area.stride ≡ 1 = omega arith in
    let len : c.args.span.len ≡ c.from-last.result - 1 + 1 = omega arith in
    let word : c.args.span.from + (c.from-last.result - 1) < 2 ^ 32 = omega arith in
    let within : ahead c.args.area.low c.args.span.from + (c.from-last.result - 1) ≤ c.args.area.more = omega arith in
    in_area c.args.span c.args.area (c.from-last.result - 1) c.requires.area.low c.requires.area.more one len word within
