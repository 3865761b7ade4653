-- Where things stand in a picture of runs. All lengths are tenths of a pixel. Time goes from left to right: 9120 tenths for the whole axis, from 240 on.
use Rattle.std.specs.Prelude.{ℕ, ◌+◌, ◌-◌, ◌*◌, ◌/◌, ◌%◌, ◌^◌, ◌==◌, ◌<◌, ◌≤◌, nat_le, Bool, cond, min, max, List, length, unwrap_or, find}
use Rattle.std.specs.List.{fold, range_with_len}
use Rattle.power_model.specs.declared.power.Level.{Level}
use Rattle.power_model.specs.Levels.{level}
use Rattle.run_pictures.specs.declared.axes.Axis.{Axis}
use Rattle.run_pictures.specs.declared.picture.PictureRun.{PictureRun}
use Rattle.run_pictures.specs.declared.picture.RunPicture.{RunPicture}

-- ---- the axis of time

abbrev pub LEFT : ℕ
LEFT = 240

abbrev pub AXIS_LENGTH : ℕ
AXIS_LENGTH = 9120

-- The place of a time on an axis that ends at some time: as far from the left as the time is of the whole, rounded down. No run takes longer than the axis.
unfoldable pub place : (end time : ℕ) → ℕ
place end time = LEFT + min time end * AXIS_LENGTH / end

-- The steps between ticks: 1, 2, 5, 10, 20, 50, ..
abbrev pub mantissa : ℕ → ℕ
mantissa k = cond (k % 3 == 0) 1 (cond (k % 3 == 1) 2 5)

unfoldable pub tick_step : ℕ → ℕ
tick_step k = mantissa k * 10 ^ (k / 3)

-- the number of the first of them with at most eight ticks behind the one at 0
abbrev pub are_few : (end k : ℕ) → Bool
are_few end k = nat_le (end / tick_step k) 8

unfoldable pub first_few : (most end : ℕ) → ℕ
first_few most end = unwrap_or (find (are_few end) (range_with_len 0 most)) most

unfoldable pub tick_of : ℕ → ℕ
tick_of end = first_few 110 end

-- Numbers at ticks have at most three digits behind those of their mantissa: the unit of the axis is a power of 1000 time units.
abbrev pub unit_exponent : ℕ → ℕ
unit_exponent k = 3 * (k / 9)

abbrev pub tick_number : (k j : ℕ) → ℕ
tick_number k j = j * (mantissa k * 10 ^ (k / 3 % 3))

-- the axis of a picture: up to the deadline, or to the end of the longest run, where one is late
abbrev pub longest : ℕ → List PictureRun → ℕ
longest end runs = fold (λ most run. max most run.report.meter.time) end runs

unfoldable pub axis_of : RunPicture → Axis
axis_of picture = (let end = longest picture.power.deadline picture.runs.items in
    record { end = end; deadline = picture.power.deadline; tick = tick_of end })

-- an axis as it is for every picture: its times are those that runs can take, and it has at most nine ticks
pub record IsAxis (axis : Axis) : Type 0 where
  pub some : 1 ≤ axis.end
  pub small : axis.end < 2 ^ 113
  pub tick : axis.tick ≤ 110
  pub few : axis.end / tick_step axis.tick ≤ 8

-- ---- heights

abbrev pub FULL_HEIGHT : ℕ
FULL_HEIGHT = 480

abbrev pub LEAST_HEIGHT : ℕ
LEAST_HEIGHT = 30

-- a level by its number, and the fastest one
abbrev pub top_level : List Level → Level
top_level levels = level levels (length levels - 1)

-- The height for so much energy in so much time: as high to the full height as that energy per time is to the one of a cycle at the fastest level, rounded down. So
-- the area of a bar is its energy. A bar is no lower than three pixels and no higher than the full height. (No run takes 2^86 energy units or 2^90 time units.)
unfoldable pub height_of : (top : Level) → (energy time : ℕ) → ℕ
height_of top energy time =
    max (min (FULL_HEIGHT * min energy (2 ^ 86) * top.period / (max (min time (2 ^ 90)) 1 * max top.energy 1)) FULL_HEIGHT) LEAST_HEIGHT

-- a level is as high as the energy and the time of its cycle say
abbrev pub level_height : List Level → ℕ → ℕ
level_height levels i = height_of (top_level levels) (level levels i).energy (level levels i).period

-- ---- shades: eight, from light to dark, spread over the levels

abbrev pub shade_of : (levels i : ℕ) → ℕ
shade_of levels i = cond (nat_le levels 1) 7 (min i (levels - 1) * 7 / (levels - 1))

-- ---- rows: a band of 500 for each run, on which its bars stand

abbrev pub row_top : ℕ → ℕ
row_top k = 400 + 1160 * k

abbrev pub row_base : ℕ → ℕ
row_base k = row_top k + 690

-- ---- the law

-- The law: a bar is as wide as its time at the scale of the axis, to less than a tenth of a pixel. (The length of the axis is that of its end.)
abbrev pub IsWidthOf : (end time width : ℕ) → Type 0
IsWidthOf end time width = (width * end < time * AXIS_LENGTH + end) × (time * AXIS_LENGTH < width * end + end)

abbrev pub WidthsAreTimes : Type 0
WidthsAreTimes = (end begin time : ℕ) → 1 ≤ end → begin ≤ time → time ≤ end →
    IsWidthOf end (time - begin) (place end time - place end begin)
