-- Which images of other make are safe: those that a scan accepts, whose counters count loops, whose starting level is in time, and whose tables lead to no higher
-- level and to a lower one only where it keeps time and pays.
use Rattle.std.specs.Prelude.{◌≡◌, ℕ, zero, suc, ◌+◌, ◌*◌, ◌/◌, ◌^◌, ◌<◌, ◌≤◌, ◌==◌, Bool, true, false, List, [], ◌∷◌, map, length, filter, slice_get, Option, Some, None, if◌then◌else◌}
use Rattle.std.specs.List.{sum_by}
use Rattle.scale_base.specs.declared.limits.TheConstants.{CYCLE_LIMIT}
use Rattle.scale_base.specs.declared.fragments.Fragment.{Fragment}
use Rattle.scale_base.specs.declared.fragments.Fragment.TheVariants as fragments
use Rattle.scale_base.specs.declared.instruction.Instr.{Instr}
use Rattle.scale_base.specs.declared.instruction.Instr.TheVariants as instr
use Rattle.scale_base.specs.Arith.{plus, moved_by}
use Rattle.scale_base.specs.Image.{Image, loaded_byte}
use Rattle.scale_base.specs.Run.{starting_level}
use Rattle.scale_base.specs.State.{word_at}
use Rattle.power_model.specs.Numbers.{PowerModel}
use Rattle.scale_base.specs.declared.edges.Edge.{Edge}
use Rattle.scale_base.specs.declared.edges.EdgeKind.{EdgeKind}
use Rattle.scale_base.specs.declared.edges.EdgeKind.TheVariants.{Taken, Untaken, Jump}
use Rattle.cost_theory.specs.Graph.{Graph, Loops, is_back, leaves}
use Rattle.cost_theory.specs.Laws.{IsAnalyzed}
use Rattle.cycle_laws.specs.Charged.{Charged, AreCharged}
use Rattle.cost_theory.specs.Reached.{Code}
use Rattle.cost_theory.specs.Worst.{Numbers}
use Rattle.code_text.specs.Text.{text_of, instr_at}
use Rattle.code_text.specs.TextGraph.{text_graph}
use Rattle.stub_writer.specs.Stubs.{Site, Place, Forked, Straight, way}
use Rattle.stored_runs.specs.Meaning.{four_bits}
use Rattle.stored_runs.specs.Marks.{tail_cycles}
use Rattle.paid_runs.specs.Marked.{extra_site_weights}
use Rattle.power_model.specs.Switches.{period, costs_of}
use Rattle.level_tables.specs.Tables.{meets_both, at_row}
use Rattle.level_tables.specs.declared.edge_numbers.EdgeNumbers.{EdgeNumbers}
use Rattle.paid_runs.specs.Timely.{weights_of}
use Rattle.paid_runs.specs.Tabled.{told_on, IsEntryBy}
use Rattle.foreign_scan.specs.declared.fragment.ForeignFragment.{ForeignFragment}
use Rattle.foreign_scan.specs.declared.fragment.ForeignFragment.TheVariants.{Switch, Exit, Reset, Count}
use Rattle.foreign_scan.specs.Scanned.{Found, is_changed, IsScanned}

-- ---- the fragments with their rows

-- the loop of each counter, by its number
abbrev pub Owner : Type 0
Owner = ℕ → Option ℕ

-- the greatest count of a counter: its loop's bound
abbrev pub owner_bound : Loops → Option ℕ → ℕ
owner_bound l None = 0
owner_bound l (Some k) = l.bound k

-- the first words of a table
abbrev pub words_from : Image → ℕ → ℕ → List ℕ
words_from image table zero = []
words_from image table (suc n) = word_at (loaded_byte image) table ∷ words_from image (table + 4) n

-- a fragment, of which the rows up to the bound's are read
abbrev pub with_rows : Image → Loops → Owner → ForeignFragment → Fragment
with_rows image l owner (Switch word) = fragments.Switch word
with_rows image l owner (Exit counter shift table) = fragments.Exit counter shift
    (words_from image table (owner_bound l (owner counter) / 2 ^ shift + 1))
with_rows image l owner (Reset counter) = fragments.Reset counter
with_rows image l owner (Count counter) = fragments.Count counter

abbrev pub all_with_rows : Image → Loops → Owner → List ForeignFragment → List Fragment
all_with_rows image l owner fs = map (with_rows image l owner) fs

-- ---- the patched instructions

abbrev pub place_by : Image → Loops → Owner → ℕ → (EdgeKind → List ForeignFragment) → Option Instr → Place
place_by image l owner at found (Some (instr.Branch op rs1 rs2 offset)) =
    Forked op rs1 rs2 (way (plus at 4) (all_with_rows image l owner (found Untaken)))
    (way (moved_by at offset) (all_with_rows image l owner (found Taken)))
place_by image l owner at found (Some (instr.Jal rd offset)) = Straight (way (moved_by at offset)
    (all_with_rows image l owner (found Jump)))
place_by image l owner at found i = Straight (way at [])

abbrev pub foreign_site : (original foreign : Image) → Loops → Owner → Found → ℕ → Site
foreign_site original foreign l owner found at =
    record { at = at; place = place_by foreign l owner at (found at) (instr_at (text_of original) at) }

abbrev pub is_patched_word : (original foreign : Image) → ℕ → Bool
is_patched_word original foreign at = is_changed original foreign at

-- the nodes whose words are changed
abbrev pub sites_of : (original foreign : Image) → Code → Loops → Owner → Found → List Site
sites_of original foreign code l owner found = map (foreign_site original foreign l owner found)
    (filter (is_patched_word original foreign) code.nodes)

-- ---- counters

abbrev pub counts_it : ℕ → ForeignFragment → ℕ
counts_it c (Switch word) = 0
counts_it c (Exit counter shift table) = 0
counts_it c (Reset counter) = 0
counts_it c (Count counter) = if c == counter then 1 else 0

abbrev pub clears_it : ℕ → ForeignFragment → ℕ
clears_it c (Switch word) = 0
clears_it c (Exit counter shift table) = if c == counter then 1 else 0
clears_it c (Reset counter) = if c == counter then 1 else 0
clears_it c (Count counter) = 0

abbrev pub one_where : Bool → ℕ
one_where true = 1
one_where false = 0

-- how often the fragments of an edge count, and set back, a counter
abbrev pub counts_on : Found → Option Edge → ℕ → ℕ
counts_on found None c = 0
counts_on found (Some e) c = sum_by (counts_it c) (found e.at e.kind)

abbrev pub clears_on : Found → Option Edge → ℕ → ℕ
clears_on found None c = 0
clears_on found (Some e) c = sum_by (clears_it c) (found e.at e.kind)

-- A loop that a counter counts: its count stands once on each back edge and nowhere else, and its exit or its reset, as one of the two, once on each edge that
-- leaves the loop and nowhere else.
pub record IsCounterOf (g : Graph) (code : Code) (l : Loops) (found : Found) (c k : ℕ) : Type 0 where
  pub low : k < l.loops
  pub counts : (e : ℕ) → e < g.edges → counts_on found (slice_get code.edges e) c ≡ one_where (is_back g l k e)
  pub clears : (e : ℕ) → e < g.edges → clears_on found (slice_get code.edges e) c ≡ one_where (leaves l k (g.source e) (g.target e))

-- some fragment uses the counter
pub record IsUsed (g : Graph) (code : Code) (found : Found) (c : ℕ) : Type 0 where
  pub edge : ℕ
  pub low : edge < g.edges
  pub uses : 0 < counts_on found (slice_get code.edges edge) c + clears_on found (slice_get code.edges edge) c

-- each used counter has a loop, and other numbers have none
pub record AreOwners (g : Graph) (code : Code) (l : Loops) (found : Found) (owner : Owner) : Type 0 where
  pub used : (c : ℕ) → IsUsed g code found c → (k : ℕ) × (owner c ≡ Some k) × IsCounterOf g code l found c k
  pub unused : (c : ℕ) → (IsUsed g code found c → ⊥) → owner c ≡ None

-- ---- levels

-- The entry of a word for each level is the level itself, or a lower one that meets a test. The test of an edge's numbers and two levels is a parameter.
abbrev pub IsWordBy : PowerModel → (EdgeNumbers → ℕ → ℕ → Bool) → EdgeNumbers → ℕ → Type 0
IsWordBy power meets told word = (i : ℕ) → i < length power.levels → IsEntryBy meets told i (four_bits word i)

-- the words of the first fragment of an edge, where it chooses a level. The row j of a table counts on the turns that are left behind its counts.
abbrev pub AreWordsBy : PowerModel → (EdgeNumbers → ℕ → ℕ → Bool) → Image → Loops → Owner → Numbers → EdgeNumbers → List ForeignFragment →
    Type 0
AreWordsBy power meets image l owner n told [] = Unit {0}
AreWordsBy power meets image l owner n told (Switch word ∷ fs) = IsWordBy power meets told word
AreWordsBy power meets image l owner n told (Exit counter shift table ∷ fs) =
    (k : ℕ) → owner counter ≡ Some k → (j : ℕ) → j ≤ l.bound k / 2 ^ shift
    → IsWordBy power meets (at_row (l.bound k) (n.iteration k) shift told j) (word_at (loaded_byte image) (table + 4 * j))
AreWordsBy power meets image l owner n told (Reset counter ∷ fs) = Unit {0}
AreWordsBy power meets image l owner n told (Count counter ∷ fs) = Unit {0}

-- the same of an edge that leads to a node
abbrev pub AreOnBy : PowerModel → (EdgeNumbers → ℕ → ℕ → Bool) → Image → Graph → Loops → Owner → (ℕ → ℕ) → Numbers → Charged → Found → ℕ →
    Option Edge → Type 0
AreOnBy power meets image g l owner w n least found e None = Unit {0}
AreOnBy power meets image g l owner w n least found e (Some edge) =
    (to : ℕ) → g.target e ≡ Some to → let fs = found edge.at edge.kind in
    AreWordsBy power meets image l owner n (told_on g l w n least e (tail_cycles (costs_of power) (all_with_rows image l owner fs))) fs

-- where the test is both that of time and that of payment
abbrev pub IsSafeWord : PowerModel → EdgeNumbers → ℕ → Type 0
IsSafeWord power told word = IsWordBy power (meets_both power) told word

abbrev pub AreSafeWords : PowerModel → Image → Loops → Owner → Numbers → EdgeNumbers → List ForeignFragment → Type 0
AreSafeWords power image l owner n told fs = AreWordsBy power (meets_both power) image l owner n told fs

abbrev pub AreSafeOn : PowerModel → Image → Graph → Loops → Owner → (ℕ → ℕ) → Numbers → Charged → Found → ℕ → Option Edge → Type 0
AreSafeOn power image g l owner w n least found e edge = AreOnBy power (meets_both power) image g l owner w n least found e edge

-- ---- the safe image

-- The numbers are those under the stored weights of the fragments that are found, and those under what the stubs add.
pub record IsSafeImage (power : PowerModel) (original foreign : Image) (code : Code) (l : Loops) (extent : ℕ → ℕ → Bool) (found : Found)
    (owner : Owner) (n : Numbers) (least : Charged) (more : Numbers) : Type 0 where
  pub scanned : IsScanned original foreign code l found
  pub owners : AreOwners (text_graph (text_of original) code) code l found owner
  pub analyzed : IsAnalyzed (text_graph (text_of original) code) l extent (weights_of power (text_of original) code
      (sites_of original foreign code l owner found)) n
  pub least_is : AreCharged (text_graph (text_of original) code) l (weights_of power (text_of original) code
      (sites_of original foreign code l owner found)) least
  pub added : IsAnalyzed (text_graph (text_of original) code) l extent (extra_site_weights (text_of original) code (costs_of power)
      (sites_of original foreign code l owner found)) more
  pub not_long : n.worst 0 ≤ CYCLE_LIMIT
  pub start : starting_level (length power.levels) foreign.keyed_segment < length power.levels
  pub in_time : n.worst 0 * period power (starting_level (length power.levels) foreign.keyed_segment) ≤ power.deadline
  pub levels : (e : ℕ) → e < (text_graph (text_of original) code).edges
      → AreSafeOn power foreign (text_graph (text_of original) code) l owner (weights_of power (text_of original) code
      (sites_of original foreign code l owner found)) n least found e (slice_get code.edges e)
