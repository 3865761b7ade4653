-- Which counters count no loop, and which entries of tables are not safe: what a check of an image of other make names behind the scan.
use Rattle.std.specs.Prelude.{◌≡◌, ℕ, ◌+◌, ◌*◌, ◌/◌, ◌^◌, ◌<◌, ◌≤◌, List, [], ◌∷◌, length, slice_get, Some}
use Rattle.scale_base.specs.Image.{Image, loaded_byte}
use Rattle.scale_base.specs.State.{word_at}
use Rattle.scale_base.specs.declared.edges.Edge.{Edge}
use Rattle.power_model.specs.Numbers.{PowerModel}
use Rattle.power_model.specs.Switches.{costs_of}
use Rattle.cost_theory.specs.Graph.{Graph, Loops}
use Rattle.cost_theory.specs.Reached.{Code}
use Rattle.cost_theory.specs.Worst.{Numbers}
use Rattle.cycle_laws.specs.Charged.{Charged}
use Rattle.level_tables.specs.Tables.{at_row}
use Rattle.level_tables.specs.declared.edge_numbers.EdgeNumbers.{EdgeNumbers}
use Rattle.stored_runs.specs.Meaning.{four_bits}
use Rattle.stored_runs.specs.Marks.{tail_cycles}
use Rattle.paid_runs.specs.Tabled.{told_on, IsSafeEntry}
use Rattle.foreign_scan.specs.declared.fragment.ForeignFragment.{ForeignFragment}
use Rattle.foreign_scan.specs.declared.fragment.ForeignFragment.TheVariants.{Switch, Exit, Reset, Count}
use Rattle.foreign_scan.specs.Scanned.{Found, ComesBefore}
use Rattle.image_check.specs.Safe.{Owner, IsUsed, IsCounterOf, all_with_rows}

-- ---- counters

-- some fragment uses the counter, and no loop is one that it counts
abbrev pub IsBadCounter : Graph → Code → Loops → Found → ℕ → Type 0
IsBadCounter g code l found c = IsUsed g code found c × ((k : ℕ) → IsCounterOf g code l found c k → ⊥)

-- the least such counter
abbrev pub IsFirstBadCounter : Graph → Code → Loops → Found → ℕ → Type 0
IsFirstBadCounter g code l found c = IsBadCounter g code l found c × ((lower : ℕ) → lower < c → IsBadCounter g code l found lower → ⊥)

-- ---- levels

-- the entry for level i of a word isn't safe
abbrev pub IsBadEntry : PowerModel → EdgeNumbers → (word i : ℕ) → Type 0
IsBadEntry power told word i = (i < length power.levels) × (IsSafeEntry power told i (four_bits word i) → ⊥)

-- That of the first fragment of an edge, where it chooses a level: of the word of a switch, or of a row of an exit's table, with the turns that are left behind the
-- row's counts.
abbrev pub HasBadEntry : PowerModel → Image → Loops → Owner → Numbers → EdgeNumbers → List ForeignFragment → ℕ → Type 0
HasBadEntry power image l owner n told [] i = ⊥
HasBadEntry power image l owner n told (Switch word ∷ fs) i = IsBadEntry power told word i
HasBadEntry power image l owner n told (Exit counter shift table ∷ fs) i =
    (k : ℕ) × (owner counter ≡ Some k) × ((j : ℕ) × (j ≤ l.bound k / 2 ^ shift)
    × IsBadEntry power (at_row (l.bound k) (n.iteration k) shift told j) (word_at (loaded_byte image) (table + 4 * j)) i)
HasBadEntry power image l owner n told (Reset counter ∷ fs) i = ⊥
HasBadEntry power image l owner n told (Count counter ∷ fs) i = ⊥

-- an edge that leads to a node has an entry for level i that isn't safe
abbrev pub IsBadLevel : PowerModel → (foreign : Image) → Graph → Loops → Owner → (ℕ → ℕ) → Numbers → Charged → Found → (e : ℕ) → Edge →
    (i : ℕ) → Type 0
IsBadLevel power foreign g l owner w n least found e edge i =
    (to : ℕ) × (g.target e ≡ Some to)
    × HasBadEntry power foreign l owner n (told_on g l w n least e (tail_cycles (costs_of power)
    (all_with_rows foreign l owner (found edge.at edge.kind)))) (found edge.at edge.kind) i

-- The first of them: at the least address, at one address on the untaken edge before the taken one, and there for the least level, over all rows of the edge.
pub record IsFirstBadLevel (power : PowerModel) (foreign : Image) (g : Graph) (code : Code) (l : Loops) (owner : Owner) (w : ℕ → ℕ)
    (n : Numbers) (least : Charged) (found : Found) (at i : ℕ) : Type 0 where
  pub number : ℕ
  pub edge : Edge
  pub there : slice_get code.edges number ≡ Some edge
  pub starts : edge.at ≡ at
  pub bad : IsBadLevel power foreign g l owner w n least found number edge i
  pub first : (d j : ℕ) (other : Edge) → slice_get code.edges d ≡ Some other →
      IsBadLevel power foreign g l owner w n least found d other j → ComesBefore other edge → ⊥
  pub lowest : (j : ℕ) → j < i → IsBadLevel power foreign g l owner w n least found number edge j → ⊥
