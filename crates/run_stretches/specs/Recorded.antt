-- Scaffold: the bars of a run as they are kept while it goes on, in room for 512 of them.
use Rattle.std.specs.Prelude.{ℕ, ◌+◌, ◌-◌, ◌/◌, ◌^◌, ◌==◌, ◌&&◌, ◌||◌, Bool, true, cond, nat_lt, not, List, [], ◌∷◌, ◌++◌, length, take, Option, Some, None}
use Rattle.std.specs.List.{fold}
use Rattle.std.specs.Option.{option_to_list}
use Rattle.scale_base.specs.declared.stepping.Stepped.{Stepped}
use Rattle.power_model.specs.Numbers.{PowerModel, RunPrice}
use Rattle.power_model.specs.Price.{metered, unstarted}
use Rattle.run_stretches.specs.declared.bars.BarEnd.{BarEnd}

-- Bars that are done, the last one, which may become longer, the time at which that one begins, and the time from which on a bar isn't short.
pub record BarList : Type 0 where
  pub done : List BarEnd
  pub last : Option BarEnd
  pub begin : ℕ
  pub grain : ℕ

abbrev pub no_bars : ℕ → BarList
no_bars grain = record { done = []; last = None; begin = 0; grain = grain }

abbrev pub all_bars : BarList → List BarEnd
all_bars b = b.done ++ option_to_list b.last

-- the bar that goes on to another end
abbrev pub longer : BarEnd → BarEnd → BarEnd
longer bar end = record end { level = bar.level }

-- whether there is room for one more bar behind the last one
abbrev pub has_room : BarList → Bool
has_room b = nat_lt (length b.done) 511

-- whether a bar that would go on to this end were short
abbrev pub is_short : BarList → BarEnd → Bool
is_short b end = nat_lt (end.time - b.begin) b.grain

-- one more end: the last bar goes on to it, where it stays short or there is no room for a bar of its own
abbrev pub put_behind : BarList → Option BarEnd → BarEnd → BarList
put_behind b None end = record b { last = Some end }
put_behind b (Some bar) end =
    cond (is_short b end || not (has_room b)) (record b { last = Some (longer bar end) })
    (record { done = b.done ++ bar ∷ []; last = Some end; begin = bar.time; grain = b.grain })

unfoldable pub put : BarList → BarEnd → BarList
put b end = put_behind b b.last end

-- the same bars, with those joined that stay short
unfoldable pub squeezed : BarList → ℕ → BarList
squeezed b grain = fold put (no_bars grain) (all_bars b)

-- Short is what takes less than a 200th of the run so far.
abbrev pub grain_at : ℕ → ℕ
grain_at time = time / 200 + 1

-- one more end, for which room is made
unfoldable pub added : BarList → BarEnd → BarList
added b end = put (cond (has_room b) b (squeezed b (grain_at end.time))) end

-- ---- the steps of a run

-- a run so far: its machine, its numbers, how many of its steps were done at the last change of level, and the bars up to there
pub record Track : Type 0 where
  pub power : PowerModel
  pub paid : RunPrice
  pub closed : ℕ
  pub bars : BarList

abbrev pub untracked : PowerModel → ℕ → Track
untracked power level = record { power = power; paid = unstarted level; closed = 0; bars = no_bars 0 }

-- the end of a stretch at a level, after which the run has these numbers
abbrev pub end_at : (level stretches : ℕ) → RunPrice → BarEnd
end_at level stretches paid = record { level = level; time = paid.time; energy = paid.energy; stretches = stretches }

abbrev pub is_port : ℕ → Option ℕ → Bool
is_port levels None = true
is_port levels (Some level) = nat_lt level levels

-- each step of a run passes this test
abbrev pub can_pay : Track → Stepped → Bool
can_pay t step = nat_lt t.paid.steps (2 ^ 40) && is_port (length t.power.levels) step.port

-- the run with these numbers after one more step
abbrev pub paid_on : Track → RunPrice → Track
paid_on t paid =
    cond (t.paid.level == paid.level) (record t { paid = paid })
    (record { power = t.power; paid = paid; closed = paid.steps; bars = added t.bars (end_at t.paid.level paid.switches paid) })

unfoldable pub tracked : Track → Stepped → Track
tracked t step = cond (can_pay t step) (paid_on t (metered t.power t.paid step)) t

-- the bars of a run that ended with these numbers: one for the steps behind the last change of level, if there are any
unfoldable pub finished : Track → RunPrice → List BarEnd
finished t paid =
    all_bars (cond (nat_lt t.closed paid.steps) (added t.bars (end_at t.paid.level (t.paid.switches + 1) paid)) t.bars)
