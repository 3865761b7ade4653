-- The stretches of a run: consecutive steps at one level; and its bars, of which each stands for one stretch or for several that follow one another.
use Rattle.std.specs.Prelude.{◌≡◌, ℕ, ◌+◌, ◌-◌, ◌≤◌, List, [], ◌∷◌, length, Some, None}
use Rattle.std.specs.List.{fold, flat_map, All}
use Rattle.scale_base.specs.declared.stepping.Stepped.{Stepped}
use Rattle.scale_base.specs.Image.{Image}
use Rattle.scale_base.specs.Run.{run_of, starting_level}
use Rattle.power_model.specs.Numbers.{PowerModel, RunPrice}
use Rattle.power_model.specs.Price.{level_after, metered, price, unstarted}
use Rattle.power_model.specs.Report.{report_view}
use Rattle.speed_sim.specs.Simulated.{report_of}
use Rattle.run_stretches.specs.declared.bars.BarEnd.{BarEnd}
use Rattle.run_stretches.specs.declared.drawing.RunBars.{RunBars}

-- ---- stretches

-- the level after some steps from a level
abbrev pub level_behind : ℕ → List Stepped → ℕ
level_behind level steps = fold level_after level steps

-- A stretch at a level: at least one step, and each step but the last leaves the level as it is. So each of its steps is priced at this level. A change of level is
-- the last step of the stretch before it, as in the price of a run.
abbrev pub IsStretch : ℕ → List Stepped → Type 0
IsStretch level [] = ⊥
IsStretch level (x ∷ []) = Unit {0}
IsStretch level (x ∷ y ∷ steps) = (level_after level x ≡ level) × IsStretch level (y ∷ steps)

-- Stretches from a level on: where one ends and another follows, the level changes. So none can be longer.
abbrev pub AreStretchesFrom : ℕ → List (List Stepped) → Type 0
AreStretchesFrom level [] = Unit {0}
AreStretchesFrom level (one ∷ []) = IsStretch level one
AreStretchesFrom level (one ∷ next ∷ more) = IsStretch level one × (level_behind level one ≡ level → ⊥) ×
    AreStretchesFrom (level_behind level one) (next ∷ more)

-- lists one after another
abbrev pub joined : {A : Type 0} → List (List A) → List A
joined lists = flat_map (λ list. list) lists

-- the stretches of the steps of a run from a level
pub record AreStretchesOf (level : ℕ) (steps : List Stepped) (stretches : List (List Stepped)) : Type 0 where
  pub all : joined stretches ≡ steps
  pub each : AreStretchesFrom level stretches

-- ---- bars

-- where the first bar of a run begins
abbrev pub no_end : BarEnd
no_end = record { level = 0; time = 0; energy = 0; stretches = 0 }

-- the numbers of a run after some more of its stretches
abbrev pub price_behind : PowerModel → RunPrice → List (List Stepped) → RunPrice
price_behind power paid stretches = fold (metered power) paid (joined stretches)

-- The end of a bar that stands for some stretches, where the run has these numbers and so many stretches before it: the level there, and what the run has taken and how
-- many stretches it has had behind it. So the time of a bar is that of its steps, with the changes of level among them, and bars take together what the run takes.
abbrev pub bar_end : PowerModel → RunPrice → ℕ → List (List Stepped) → BarEnd
bar_end power paid count group = record {
  level = paid.level;
  time = (price_behind power paid group).time;
  energy = (price_behind power paid group).energy;
  stretches = count + length group;
}

-- the bars of groups of stretches that follow one another
abbrev pub bars_from : PowerModel → RunPrice → ℕ → List (List (List Stepped)) → List BarEnd
bars_from power paid count [] = []
bars_from power paid count (group ∷ groups) =
    bar_end power paid count group ∷ bars_from power (price_behind power paid group) (count + length group) groups

-- a bar stands for at least one stretch
abbrev pub IsGroup : List (List Stepped) → Type 0
IsGroup group = 1 ≤ length group

abbrev pub MOST_BARS : ℕ
MOST_BARS = 512

-- The bars of the steps of a run from a level: its stretches in their order, none left out, in groups of one or more. Up to 512 stretches have a bar each; of more
-- there are at most 512 bars.
pub record AreBarsOf (power : PowerModel) (level : ℕ) (steps : List Stepped) (bars : List BarEnd) : Type 0 where
  pub stretches : List (List Stepped)
  pub stretches_are : AreStretchesOf level steps stretches
  pub groups : List (List (List Stepped))
  pub groups_are : joined groups ≡ stretches
  pub each : All IsGroup groups
  pub bars_are : bars ≡ bars_from power (unstarted level) 0 groups
  pub few : length bars ≤ MOST_BARS
  pub single : length stretches ≤ MOST_BARS → length bars ≡ length stretches

-- what bars take together, from the begin of the first one: of time, of energy or of stretches
abbrev pub taken_from : (BarEnd → ℕ) → BarEnd → List BarEnd → ℕ
taken_from what begin [] = 0
taken_from what begin (bar ∷ bars) = (what bar - what begin) + taken_from what bar bars

-- The law: the bars of a run take together the time and the energy of the run, and stand for all its stretches.
pub record TakeAll (power : PowerModel) (level : ℕ) (steps : List Stepped) (bars : List BarEnd) : Type 0 where
  pub time : taken_from (λ bar. bar.time) no_end bars ≡ (price power level steps).time
  pub energy : taken_from (λ bar. bar.energy) no_end bars ≡ (price power level steps).energy

abbrev pub BarsTakeTheRun : Type 0
BarsTakeTheRun = (power : PowerModel) (level : ℕ) (steps : List Stepped) (bars : List BarEnd) → AreBarsOf power level steps bars →
    TakeAll power level steps bars

-- ---- a run

-- the report of the run of an image with an input on a machine, and the bars of its completed steps
pub record IsRunDrawn (power : PowerModel) (image : Image) (input : List ℕ) (run : RunBars) : Type 0 where
  pub report : report_view run.report ≡ report_of power image input None
  pub bars :
      AreBarsOf power (starting_level (length power.levels) image.keyed_segment)
      (run_of image (length power.levels) input power.steps).steps run.bars.items
