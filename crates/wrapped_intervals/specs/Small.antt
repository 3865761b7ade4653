-- Scaffold: how great the numbers of an interval are, and intervals of registers as a list.
use Rattle.std.specs.Prelude.{ℕ, ◌≤◌, ◌<◌, ◌^◌, List, Option, Some, None, option_and_then, slice_get}
use Rattle.bound_laws.specs.Values as values
use Rattle.bound_laws.specs.Values.{Arc, Interval}
use Rattle.bound_laws.specs.Registers as registers
use Rattle.wrapped_intervals.specs.declared.branches.Said.{Said}
use Rattle.wrapped_intervals.specs.declared.lines.Measure.{Measure}

-- an interval as it is kept: it begins at a word, and has at most all of them
pub record IsKept (a : Arc) : Type 0 where
  pub low : a.low < 2 ^ 32
  pub more : a.more < 2 ^ 32
  pub stride : a.stride < 2 ^ 32

abbrev pub IsKeptOr : Option Arc → Type 0
IsKeptOr None = Unit {0}
IsKeptOr (Some a) = IsKept a

-- and as it is found from those: the first number of an empty one may be 2^32
pub record IsFound (a : Arc) : Type 0 where
  pub low : a.low ≤ 2 ^ 32
  pub more : a.more ≤ 2 ^ 32
  pub stride : a.stride < 2 ^ 63

abbrev pub IsFoundOr : Option Arc → Type 0
IsFoundOr None = Unit {0}
IsFoundOr (Some a) = IsFound a

-- the interval of a register in a list
abbrev pub row : List (Option Arc) → ℕ → Option Arc
row arcs r = option_and_then (λ a. a) (slice_get arcs r)

-- an interval of numbers as a comparison sees it
pub record IsSeen (i : Interval) : Type 0 where
  pub from : i.from < 2 ^ 32
  pub to : i.to < 2 ^ 32

abbrev pub said_view : Said → values.Said
said_view s = record { op = s.op; first = s.first; second = s.second }

abbrev pub measure_view : Measure → registers.Measure
measure_view m = record { register = m.register; factor = m.factor; other = m.other; other_factor = m.other_factor; shift = m.shift }

-- the interval of a measure, by those of its two registers
abbrev pub line_by : registers.Measure → Option Arc → Option Arc → Option Arc
line_by m first other = values.sum_with (values.sum_of (values.scaled m.factor first) (values.scaled m.other_factor other)) m.shift
