-- Spans: so many numbers from one on, as addresses or as places in a file.
use Rattle.std.specs.Prelude.{ℕ, ◌+◌, ◌*◌, ◌-◌, ◌/◌, List, [], ◌∷◌, Bool, true, ◌&&◌, nat_lt, nat_le}
use Rattle.std.specs.List.{list_all}
use Rattle.scale_base.specs.declared.ranges.Span.{Span}

-- the number is one of them
abbrev pub in_span : Span → ℕ → Bool
in_span a x = nat_le a.from x && nat_lt x (a.from + a.len)

-- they share a number. An empty span shares none.
abbrev pub overlap : Span → Span → Bool
overlap a b = nat_lt 0 a.len && nat_lt 0 b.len && nat_lt a.from (b.from + b.len) && nat_lt b.from (a.from + a.len)

-- each element and each later one pass the test
abbrev pub each_pair : {A : Type 0} → (A → A → Bool) → List A → Bool
each_pair test [] = true
each_pair test (x ∷ xs) = list_all (test x) xs && each_pair test xs

-- its end is at most the limit
abbrev pub ends_by : ℕ → Span → Bool
ends_by limit a = nat_le (a.from + a.len) limit

-- the multiple of n at or below x, and the one at or above it
abbrev pub round_down : ℕ → ℕ → ℕ
round_down n x = n * (x / n)

abbrev pub round_up : ℕ → ℕ → ℕ
round_up n x = n * ((x + (n - 1)) / n)
