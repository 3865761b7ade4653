use Rattle.std.proofs.Common.{◌≡◌, ◌+◌, ◌/◌, ◌%◌, ◌^◌, arith, subst}
use Rattle.walk_checks.specs.Walked.{IsIdle}
use Rattle.walk_checks.proofs.Endings.{ending_in, whole_multiple}
use Rattle.walk_checks.proofs.searching.is_ending.Goals as goal

pub returns : goal.returns
returns c so =
    let n = c.from-least.ensures in
    let s = c.stride.ensures in
    let m = c.more.ensures in
    let same = c.if-stride-least.false in
    let none = c.if-more-least-ne0.false in
    let low = c.low.ensures in
    let more = c.more-2.ensures in
    let stride : c.args.x.stride ≡ c.args.least = omega (arith, n, s, same) in
    let rest : c.args.x.more % c.args.least ≡ 0 = subst (λ k. k % c.args.least ≡ 0) m (subst (λ k. c.more.result % k ≡ 0) n none) in
    let at : (c.low.result + c.more-2.result + c.from-least.result) % 2 ^ 32 ≡ (c.args.x.low + c.args.x.more + c.args.least) % 2 ^ 32 = omega (arith, low, more, n) in
    ending_in c.args.search.now.parts.now c.args.search.now.sought c.args.least c.args.x (c.args.x.more / c.args.least) stride (whole_multiple c.args.x.more c.args.least rest) c.requires.interval.more
    (subst (IsIdle c.args.search.now.parts.now c.args.search.now.sought) at (c.is_idle.ensures so))
