-- Scaffold: when there are budgets by which an image is paced: just where its entries pay, and the least budgets that they need are up to the deadline.
use Rattle.std.specs.Prelude.{◌≡◌, ℕ, ◌+◌, ◌*◌, ◌/◌, ◌^◌, ◌<◌, ◌≤◌, Bool, List, [], ◌∷◌, length, slice_get, slice_index_or, Some}
use Rattle.scale_base.specs.Image.{Image, loaded_byte}
use Rattle.scale_base.specs.Run.{starting_level}
use Rattle.scale_base.specs.State.{word_at}
use Rattle.scale_base.specs.declared.edges.Edge.{Edge}
use Rattle.power_model.specs.Numbers.{PowerModel}
use Rattle.power_model.specs.Switches.{costs_of}
use Rattle.cost_theory.specs.Graph.{Graph, Loops}
use Rattle.cost_theory.specs.Laws.{IsAnalyzed}
use Rattle.cost_theory.specs.Reached.{Code}
use Rattle.cost_theory.specs.Worst.{Numbers}
use Rattle.cycle_laws.specs.Charged.{Charged, AreCharged}
use Rattle.code_text.specs.Text.{text_of}
use Rattle.code_text.specs.TextGraph.{text_graph}
use Rattle.level_tables.specs.Budgets.{Entry, least_budgets}
use Rattle.level_tables.specs.Tables.{at_row, pays}
use Rattle.level_tables.specs.declared.edge_numbers.EdgeNumbers.{EdgeNumbers}
use Rattle.stored_runs.specs.Meaning.{four_bits}
use Rattle.stored_runs.specs.Marks.{tail_cycles}
use Rattle.paid_runs.specs.Marked.{extra_site_weights}
use Rattle.paid_runs.specs.Tabled.{told_on}
use Rattle.paid_runs.specs.Timely.{weights_of}
use Rattle.foreign_scan.specs.declared.fragment.ForeignFragment.{ForeignFragment}
use Rattle.foreign_scan.specs.declared.fragment.ForeignFragment.TheVariants.{Switch, Exit, Reset, Count}
use Rattle.foreign_scan.specs.Scanned.{Found, IsScanned}
use Rattle.image_check.specs.Paced.{IsPacedImage}
use Rattle.image_check.specs.Safe.{Owner, all_with_rows, sites_of, AreOwners, AreOnBy}

-- ---- the entries that lead lower

-- of a word
pub record IsLowerOf (power : PowerModel) (told : EdgeNumbers) (word : ℕ) (x : Entry) : Type 0 where
  pub edge : x.edge ≡ told
  pub from : x.from < length power.levels
  pub to : x.to ≡ four_bits word x.from
  pub lower : x.to < x.from

-- of the first fragment of an edge
abbrev pub IsLowerIn : PowerModel → Image → Loops → Owner → Numbers → EdgeNumbers → List ForeignFragment → Entry → Type 0
IsLowerIn power image l owner n told [] x = ⊥
IsLowerIn power image l owner n told (Switch word ∷ fs) x = IsLowerOf power told word x
IsLowerIn power image l owner n told (Exit counter shift table ∷ fs) x =
    (k : ℕ) × (owner counter ≡ Some k) × ((j : ℕ) × (j ≤ l.bound k / 2 ^ shift)
    × IsLowerOf power (at_row (l.bound k) (n.iteration k) shift told j) (word_at (loaded_byte image) (table + 4 * j)) x)
IsLowerIn power image l owner n told (Reset counter ∷ fs) x = ⊥
IsLowerIn power image l owner n told (Count counter ∷ fs) x = ⊥

-- of an image: on an edge that leads to a node
pub record IsLowerOn (power : PowerModel) (image : Image) (g : Graph) (code : Code) (l : Loops) (owner : Owner) (w : ℕ → ℕ) (n : Numbers)
    (least : Charged) (found : Found) (x : Entry) : Type 0 where
  pub number : ℕ
  pub low : number < g.edges
  pub edge : Edge
  pub there : slice_get code.edges number ≡ Some edge
  pub target : ℕ
  pub leads : g.target number ≡ Some target
  pub entry : IsLowerIn power image l owner n (told_on g l w n least number (tail_cycles (costs_of power)
      (all_with_rows image l owner (found edge.at edge.kind)))) (found edge.at edge.kind) x

-- a list of just the entries of which something holds
pub record IsListOf (P : Entry → Type 0) (xs : List Entry) : Type 0 where
  pub each : (k : ℕ) (d : Entry) → k < length xs → P (slice_index_or xs k d)
  pub all : (x : Entry) → P x → (k : ℕ) × (k < length xs) × ((d : Entry) → slice_index_or xs k d ≡ x)

-- ---- what is asked but for budgets

abbrev pub pays_alone : PowerModel → EdgeNumbers → ℕ → ℕ → Bool
pays_alone power told i j = pays power told.least i j

-- a paced image but for its budgets: its entries lead to no higher level, and to a lower one only where it pays
pub record IsPayingImage (power : PowerModel) (original foreign : Image) (code : Code) (l : Loops) (extent : ℕ → ℕ → Bool) (found : Found)
    (owner : Owner) (n : Numbers) (least : Charged) (more : Numbers) : Type 0 where
  pub scanned : IsScanned original foreign code l found
  pub owners : AreOwners (text_graph (text_of original) code) code l found owner
  pub analyzed : IsAnalyzed (text_graph (text_of original) code) l extent (weights_of power (text_of original) code
      (sites_of original foreign code l owner found)) n
  pub least_is : AreCharged (text_graph (text_of original) code) l (weights_of power (text_of original) code
      (sites_of original foreign code l owner found)) least
  pub added : IsAnalyzed (text_graph (text_of original) code) l extent (extra_site_weights (text_of original) code (costs_of power)
      (sites_of original foreign code l owner found)) more
  pub start : starting_level (length power.levels) foreign.keyed_segment < length power.levels
  pub levels : (e : ℕ) → e < (text_graph (text_of original) code).edges
      → AreOnBy power (pays_alone power) foreign (text_graph (text_of original) code) l owner
      (weights_of power (text_of original) code (sites_of original foreign code l owner found)) n least found e (slice_get code.edges e)

-- The law: the least budgets of the entries decide, and pace the image where any do.
abbrev pub LeastBudgetsDecide : Type 0
LeastBudgetsDecide = (power : PowerModel) (original foreign : Image) (code : Code) (l : Loops) (extent : ℕ → ℕ → Bool) (found : Found)
    (owner : Owner) (n : Numbers) (least : Charged) (more : Numbers) (xs : List Entry) →
    IsListOf (IsLowerOn power foreign (text_graph (text_of original) code) code l owner
    (weights_of power (text_of original) code (sites_of original foreign code l owner found)) n least found) xs →
    let budgets = least_budgets power xs (starting_level (length power.levels) foreign.keyed_segment) (n.worst 0) in
    (IsPayingImage power original foreign code l extent found owner n least more →
    ((i : ℕ) → i < length power.levels → budgets i ≤ power.deadline) → IsPacedImage power budgets original foreign code l extent found
    owner n least more)
    × ((budget : ℕ → ℕ) → IsPacedImage power budget original foreign code l extent found owner n least more →
    IsPayingImage power original foreign code l extent found owner n least more ×
    ((i : ℕ) → i < length power.levels → budgets i ≤ power.deadline))
