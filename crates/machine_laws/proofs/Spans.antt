-- Spans that share an address overlap.
use Rattle.std.proofs.Common.{◌≡◌, ℕ, ◌+◌, true, ◌&&◌, arith}
use Rattle.std.specs.Prelude.{nat_lt, nat_le}
use Rattle.std.proofs.lemmas.Bool.{and_parts, and_from, lt-ltb, leb-true, ltb-true}
use Rattle.scale_base.specs.declared.ranges.Span.{Span}
use Rattle.scale_base.specs.Spans.{in_span, overlap}

pub share_address : (a b : Span) (x : ℕ) → in_span a x ≡ true → in_span b x ≡ true → overlap a b ≡ true
share_address a b x in_a in_b =
    let p = and_parts (nat_le a.from x) (nat_lt x (a.from + a.len)) in_a in
    let q = and_parts (nat_le b.from x) (nat_lt x (b.from + b.len)) in_b in
    let low_a = leb-true a.from x p.0 in
    let high_a = ltb-true x (a.from + a.len) p.1 in
    let low_b = leb-true b.from x q.0 in
    let high_b = ltb-true x (b.from + b.len) q.1 in
    let some_a = lt-ltb 0 a.len (omega (arith, low_a, high_a)) in
    let some_b = lt-ltb 0 b.len (omega (arith, low_b, high_b)) in
    let one = lt-ltb a.from (b.from + b.len) (omega (arith, low_a, high_b)) in
    let two = lt-ltb b.from (a.from + a.len) (omega (arith, low_b, high_a)) in
    and_from (nat_lt 0 a.len && nat_lt 0 b.len && nat_lt a.from (b.from + b.len)) (nat_lt b.from (a.from + a.len))
    (and_from (nat_lt 0 a.len && nat_lt 0 b.len) (nat_lt a.from (b.from + b.len)) (and_from (nat_lt 0 a.len) (nat_lt 0 b.len) some_a some_b) one) two
