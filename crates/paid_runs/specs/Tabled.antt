-- Tables of marked edges: each entry is the level itself, or a lower one that meets the tests of time and of payment for the numbers of its edge. A row of a table
-- behind a loop counts on the turns that its counts have left at least. `is_of c k` tells that the window's word c counts loop k.
use Rattle.std.specs.Prelude.{◌≡◌, ◌⊎◌, ℕ, ◌+◌, ◌/◌, ◌^◌, ◌<◌, ◌≤◌, Bool, true, List, [], ◌∷◌, length, slice_index, slice_get, Some, None, option_map}
use Rattle.scale_base.specs.declared.fragments.Fragment.{Fragment}
use Rattle.scale_base.specs.declared.fragments.Fragment.TheVariants.{Switch, Exit, Reset, Count, Lowest, Tally}
use Rattle.scale_base.specs.declared.stepping.Class.{Class}
use Rattle.power_model.specs.Numbers.{PowerModel}
use Rattle.power_model.specs.Switches.{costs_of}
use Rattle.cost_theory.specs.Graph.{Graph, Loops, is_round, is_back, leaves}
use Rattle.cost_theory.specs.Worst.{Numbers, cost, slack, rest}
use Rattle.cost_theory.specs.Reached.{Code, edge_at}
use Rattle.cycle_laws.specs.Charged.{Charged, to_end_after}
use Rattle.code_text.specs.Text.{Text}
use Rattle.code_text.specs.EdgeCosts.{edge_class}
use Rattle.code_text.specs.TextGraph.{text_graph}
use Rattle.level_tables.specs.Tables.{meets_both, at_row, behind_turns}
use Rattle.level_tables.specs.declared.edge_numbers.EdgeNumbers.{EdgeNumbers}
use Rattle.stub_writer.specs.Stubs.{Site}
use Rattle.stored_runs.specs.Meaning.{four_bits, is_due}
use Rattle.stored_runs.specs.Marks.{place_at, fragments_of_class, tail_cycles}
use Rattle.paid_runs.specs.Timely.{weights_of}

-- what an edge with so many cycles behind the store tells its table: its slack, the most that are left behind the store, and the least that are left there
abbrev pub told_on : Graph → Loops → (ℕ → ℕ) → Numbers → Charged → (e tail : ℕ) → EdgeNumbers
told_on g l w n least e tail = record {
  slack = slack g l n (cost g n w) e;
  left = rest g l n e + tail;
  least = option_map (λ z. z + tail) (to_end_after g l least e);
}

-- From level i an entry leads to i itself, or to a lower level that meets a test. The test of an edge's numbers and two levels is a parameter: today's tables meet
-- `meets_both power`, and those with budgets `meets_in_budget power budget`.
abbrev pub IsEntryBy : (EdgeNumbers → ℕ → ℕ → Bool) → EdgeNumbers → (i j : ℕ) → Type 0
IsEntryBy meets told i j = (j ≡ i) ⊎ ((j < i) × (meets told i j ≡ true))

-- the same for the tests of time and of payment
abbrev pub IsSafeEntry : PowerModel → EdgeNumbers → (i j : ℕ) → Type 0
IsSafeEntry power told i j = IsEntryBy (meets_both power) told i j

-- the table behind a loop that its counter counts: a row for each count up to the bound
pub record AreRowsBy (power : PowerModel) (meets : EdgeNumbers → ℕ → ℕ → Bool) (g : Graph) (l : Loops) (n : Numbers) (told : EdgeNumbers)
    (is_of : ℕ → ℕ → Bool) (e counter shift : ℕ) (rows : List ℕ) : Type 0 where
  pub loop : ℕ
  pub low : loop < l.loops
  pub counts : is_of counter loop ≡ true
  pub left : leaves l loop (g.source e) (g.target e) ≡ true
  pub enough : l.bound loop / 2 ^ shift < length rows
  pub entries : (j i : ℕ) → j < length rows → i < length power.levels → IsEntryBy meets
      (at_row (l.bound loop) (n.iteration loop) shift told j) i (four_bits (slice_index rows j) i)

-- the lowest level is an entry of every level
abbrev pub AreAllLowest : PowerModel → (EdgeNumbers → ℕ → ℕ → Bool) → EdgeNumbers → Type 0
AreAllLowest power meets told = (i : ℕ) → i < length power.levels → IsEntryBy meets told i 0

-- On a back edge of a loop that its counter counts: with each count with which it stores, the lowest level is an entry behind the turns that are then taken.
pub record IsTallyBy (power : PowerModel) (meets : EdgeNumbers → ℕ → ℕ → Bool) (g : Graph) (l : Loops) (n : Numbers) (told : EdgeNumbers)
    (is_of : ℕ → ℕ → Bool) (e counter shift from : ℕ) : Type 0 where
  pub loop : ℕ
  pub low : loop < l.loops
  pub counts : is_of counter loop ≡ true
  pub back : is_back g l loop e ≡ true
  pub held : is_round l loop (g.target e) ≡ true
  pub lowest : (count : ℕ) → count ≤ l.bound loop → is_due shift from count ≡ true →
      AreAllLowest power meets (behind_turns (count + 1) (n.iteration loop) told)

abbrev pub IsTableBy : PowerModel → (EdgeNumbers → ℕ → ℕ → Bool) → Graph → Loops → Numbers → EdgeNumbers → (ℕ → ℕ → Bool) → ℕ → Fragment →
    Type 0
IsTableBy power meets g l n told is_of e (Switch table) = (i : ℕ) → i < length power.levels → IsEntryBy meets told i (four_bits table i)
IsTableBy power meets g l n told is_of e (Exit counter shift rows) = AreRowsBy power meets g l n told is_of e counter shift rows
IsTableBy power meets g l n told is_of e (Reset counter) = ⊥
IsTableBy power meets g l n told is_of e (Count counter) = ⊥
IsTableBy power meets g l n told is_of e (Lowest down) = down ≡ true → AreAllLowest power meets told
IsTableBy power meets g l n told is_of e (Tally counter shift from) = IsTallyBy power meets g l n told is_of e counter shift from

-- an edge within a function, with the table of its first fragment
pub record IsEdgeWithTable (power : PowerModel) (meets : EdgeNumbers → ℕ → ℕ → Bool) (g : Graph) (l : Loops) (w : ℕ → ℕ) (n : Numbers)
    (least : Charged) (is_of : ℕ → ℕ → Bool) (e tail : ℕ) (f : Fragment) : Type 0 where
  pub inside : g.callee e ≡ None
  pub target : ℕ
  pub leads : g.target e ≡ Some target
  pub table : IsTableBy power meets g l n (told_on g l w n least e tail) is_of e f

-- only the first fragment of an edge has a table
abbrev pub IsEdgeTabledBy : PowerModel → (EdgeNumbers → ℕ → ℕ → Bool) → Graph → Loops → (ℕ → ℕ) → Numbers → Charged → (ℕ → ℕ → Bool) → ℕ →
    List Fragment → Type 0
IsEdgeTabledBy power meets g l w n least is_of e [] = Unit {0}
IsEdgeTabledBy power meets g l w n least is_of e (Switch table ∷ fs) = IsEdgeWithTable power meets g l w n least is_of e
    (tail_cycles (costs_of power) (Switch table ∷ fs)) (Switch table)
IsEdgeTabledBy power meets g l w n least is_of e (Exit counter shift rows ∷ fs) =
    IsEdgeWithTable power meets g l w n least is_of e (tail_cycles (costs_of power) (Exit counter shift rows ∷ fs))
    (Exit counter shift rows)
IsEdgeTabledBy power meets g l w n least is_of e (Reset counter ∷ fs) = Unit {0}
IsEdgeTabledBy power meets g l w n least is_of e (Count counter ∷ fs) = Unit {0}
IsEdgeTabledBy power meets g l w n least is_of e (Lowest down ∷ fs) = IsEdgeWithTable power meets g l w n least is_of e
    (tail_cycles (costs_of power) (Lowest down ∷ fs)) (Lowest down)
IsEdgeTabledBy power meets g l w n least is_of e (Tally counter shift from ∷ fs) =
    IsEdgeWithTable power meets g l w n least is_of e (tail_cycles (costs_of power) (Tally counter shift from ∷ fs))
    (Tally counter shift from)

abbrev pub AreTabledBy : PowerModel → (EdgeNumbers → ℕ → ℕ → Bool) → Text → Code → Loops → List Site → (ℕ → ℕ → Bool) → Numbers → Charged →
    Type 0
AreTabledBy power meets t code l sites is_of n least = (e : ℕ) (class : Class) → e < (text_graph t code).edges →
    edge_class t (slice_get code.edges e) ≡ Some class
    → IsEdgeTabledBy power meets (text_graph t code) l (weights_of power t code sites) n least is_of e
    (fragments_of_class (place_at sites (edge_at (slice_get code.edges e))) class)

abbrev pub AreTabledOf : PowerModel → Text → Code → Loops → List Site → (ℕ → ℕ → Bool) → Numbers → Charged → Type 0
AreTabledOf power t code l sites is_of n least = AreTabledBy power (meets_both power) t code l sites is_of n least
