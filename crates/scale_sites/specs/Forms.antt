-- The marks that stand in place of others where loops have tallies and where the lowest level is chosen by one instruction. Each back edge of a tallied loop has its tally first, and
-- nothing else on it stores at the port; an exit of a tallied loop resets its counter; and a switch may be one to the lowest level.
use Rattle.std.specs.Prelude.{◌≡◌, ℕ, ◌+◌, ◌-◌, ◌==◌, if◌then◌else◌, cond, Bool, List, [], ◌∷◌, All, length, map, Option, Some, None, ◌≤◌, ◌<◌}
use Rattle.std.specs.List.{flat_map}
use Rattle.cost_theory.specs.Graph.{Graph, Loops}
use Rattle.cost_theory.specs.Accepted.{IsProgram, AreAccepted}
use Rattle.scale_base.specs.declared.fragments.Mark.{Mark}
use Rattle.scale_base.specs.declared.fragments.Mark.TheVariants.{Switch, Exit, Reset, Count, Lowest, Tally}
use Rattle.scale_sites.specs.Marks.{AreLoopsOnce, AreDistinctLoops, marks_of}
use Rattle.scale_sites.specs.Sites.{flag_at}
use Rattle.scale_sites.specs.Weights.{behind_first, some_mark}

-- the counter of a Count that is tallied
abbrev pub tally_of : (tallied : ℕ → Bool) → Mark → Option ℕ
tally_of tallied Switch = None
tally_of tallied (Exit i) = None
tally_of tallied (Reset i) = None
tally_of tallied (Count i) = cond (tallied i) (Some i) None
tally_of tallied Lowest = None
tally_of tallied (Tally i) = None

abbrev pub either_counter : Option ℕ → Option ℕ → Option ℕ
either_counter None other = other
either_counter (Some i) other = Some i

-- the counter of the first Count of a tallied counter
abbrev pub first_tally : (tallied : ℕ → Bool) → List Mark → Option ℕ
first_tally tallied [] = None
first_tally tallied (m ∷ ms) = either_counter (tally_of tallied m) (first_tally tallied ms)

-- what stands for a mark behind the tally of a counter: no switch, and the counter isn't counted again
abbrev pub behind_tally : ℕ → Mark → List Mark
behind_tally i Switch = []
behind_tally i (Exit j) = Reset j ∷ []
behind_tally i (Reset j) = Reset j ∷ []
behind_tally i (Count j) = if j == i then [] else Count j ∷ []
behind_tally i Lowest = []
behind_tally i (Tally j) = if j == i then [] else Count j ∷ []

-- what stands for a mark on an edge without a tally
abbrev pub plain_form : (lowest : Bool) → (tallied : ℕ → Bool) → Mark → Mark
plain_form lowest tallied Switch = cond lowest Lowest Switch
plain_form lowest tallied (Exit i) = cond (tallied i) (Reset i) (Exit i)
plain_form lowest tallied (Reset i) = Reset i
plain_form lowest tallied (Count i) = Count i
plain_form lowest tallied Lowest = Lowest
plain_form lowest tallied (Tally i) = Tally i

-- with the tally of a counter first, or without one
abbrev pub formed_by : (lowest : Bool) → (tallied : ℕ → Bool) → Option ℕ → List Mark → List Mark
formed_by lowest tallied None ms = map (plain_form lowest tallied) ms
formed_by lowest tallied (Some i) ms = Tally i ∷ flat_map (behind_tally i) ms

abbrev pub formed : (lowest : Bool) → (tallied : ℕ → Bool) → List Mark → List Mark
formed lowest tallied ms = formed_by lowest tallied (first_tally tallied ms) ms

-- the counters that are tallied, by flags in the order of the counted loops, of which the first has counter 2
abbrev pub tallied_by : List Bool → ℕ → Bool
tallied_by flags i = flag_at flags (i - 2)

-- by edge, what stands for its marks, by flags
abbrev pub formed_where : (lowest tallied : List Bool) → (ℕ → List Mark) → ℕ → List Mark
formed_where lowest tallied marked e = formed (flag_at lowest e) (tallied_by tallied) (marked e)

-- ---- laws

-- a mark that stores nothing at the port
abbrev pub IsQuietMark : Mark → Type 0
IsQuietMark Switch = ⊥
IsQuietMark (Exit i) = ⊥
IsQuietMark (Reset i) = Unit {0}
IsQuietMark (Count i) = Unit {0}
IsQuietMark Lowest = ⊥
IsQuietMark (Tally i) = ⊥

-- at most the first mark stores at the port, and behind it only Resets and Counts stand
abbrev pub IsFirstAlone : List Mark → Type 0
IsFirstAlone ms = All IsQuietMark (behind_first ms)

-- The law: on accepted loops at most the first mark of an edge stores at the port.
abbrev pub MarksStoreFirst : Type 0
MarksStoreFirst = (g : Graph) (l : Loops) (extent : ℕ → ℕ → Bool) (counted : List ℕ) → IsProgram g → AreAccepted g l extent →
    AreLoopsOnce l counted → AreDistinctLoops counted
    → (e : ℕ) (branch : Bool) (slack min_gain : ℕ) → e < g.edges → IsFirstAlone (marks_of g l counted branch slack min_gain e)

-- The law: where at most the first mark stores at the port, the same is so of what stands for the marks.
abbrev pub FormedStoresFirst : Type 0
FormedStoresFirst = (lowest : Bool) (tallied : ℕ → Bool) (ms : List Mark) → IsFirstAlone ms → IsFirstAlone (formed lowest tallied ms)

-- The law: there are no more marks, and none only where there were none.
pub record IsNoLonger (ms formed_marks : List Mark) : Type 0 where
  pub few : length formed_marks ≤ length ms
  pub some : some_mark formed_marks ≡ some_mark ms

abbrev pub FormedIsNoLonger : Type 0
FormedIsNoLonger = (lowest : Bool) (tallied : ℕ → Bool) (ms : List Mark) → IsNoLonger ms (formed lowest tallied ms)

-- what a mark does to the counter in word w
abbrev pub counter_after : Mark → (w x : ℕ) → ℕ
counter_after Switch w x = x
counter_after (Exit i) w x = if w == i then 0 else x
counter_after (Reset i) w x = if w == i then 0 else x
counter_after (Count i) w x = if w == i then x + 1 else x
counter_after Lowest w x = x
counter_after (Tally i) w x = if w == i then x + 1 else x

abbrev pub counter_behind : (w : ℕ) → List Mark → (x : ℕ) → ℕ
counter_behind w [] x = x
counter_behind w (m ∷ ms) x = counter_behind w ms (counter_after m w x)

-- The law: where the marks add one to the counter that is tallied, what stands for them does to each counter what they do.
abbrev pub FormedCountsAlike : Type 0
FormedCountsAlike = (lowest : Bool) (tallied : ℕ → Bool) (ms : List Mark) → ((i : ℕ) → first_tally tallied ms ≡ Some i → (y : ℕ) →
    counter_behind i ms y ≡ y + 1)
    → (w x : ℕ) → counter_behind w (formed lowest tallied ms) x ≡ counter_behind w ms x
