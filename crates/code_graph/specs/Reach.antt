-- Scaffold: what a pass over the words of a text finds: which of them are reached, and in which functions.
-- A function is named by its entry. Words of the text are numbered by their addresses.
use Rattle.std.specs.Prelude.{◌≡◌, ℕ, ◌≤◌, ◌↔◌, Bool, true, List, length, slice_get, Option, Some}
use Rattle.cost_theory.specs.Reached.{Reached, DoesReturn}
use Rattle.code_text.specs.Text.{Text, kind_at}
use Rattle.code_text.specs.Table.{WordTable, word_table}
use Rattle.flow_graph.specs.Refused.{IsReached, IsShared}
use Rattle.code_graph.specs.declared.reach.marks.Mark.{Mark}
use Rattle.code_graph.specs.declared.reach.marks.Mark.TheVariants.{Unreached, Owner, Shared}

-- word k stands at an address
abbrev pub WordStandsAt : WordTable → ℕ → ℕ → Type 0
WordStandsAt words k v = slice_get words.addresses k ≡ Some v

-- what is known of the words of a text by a pass over them
pub record Reach : Type 0 where
  pub words : WordTable
  -- by word, whether a return can come from it
  pub returning : List Bool
  -- by word, in which functions it is reached; a function is given by the number of its first word
  pub marks : List Mark
  -- the first words of the functions within the text, the program's own first
  pub functions : List ℕ
  -- by word, the place in `functions` of the function that begins there
  pub numbers : List (Option ℕ)
  -- the least reached address at which no word of the text stands
  pub outside : Option ℕ

pub record IsReachOf (t : Text) (r : Reach) : Type 0 where
  pub words : r.words ≡ word_table t
  pub returning_size : length r.returning ≡ length r.words.addresses
  pub marks_size : length r.marks ≡ length r.words.addresses
  pub numbers_size : length r.numbers ≡ length r.words.addresses
  pub unreached : (k v : ℕ) → WordStandsAt r.words k v → slice_get r.marks k ≡ Some Unreached → IsReached t v → ⊥
  pub owner : (k v f : ℕ) → WordStandsAt r.words k v → slice_get r.marks k ≡ Some (Owner f) →
      (h : ℕ) × WordStandsAt r.words f h × Reached (kind_at t) t.entry h v × ((g : ℕ) → Reached (kind_at t) t.entry g v → g ≡ h)
  pub shared : (k v : ℕ) → WordStandsAt r.words k v → slice_get r.marks k ≡ Some Shared → IsShared t v
  pub functions : (k v : ℕ) → WordStandsAt r.words k v → ((i : ℕ) × (slice_get r.functions i ≡ Some k)) ↔ Reached (kind_at t) t.entry v v
  pub functions_within : (i k : ℕ) → slice_get r.functions i ≡ Some k → (v : ℕ) × WordStandsAt r.words k v
  pub first : (k : ℕ) → WordStandsAt r.words k t.entry → slice_get r.functions 0 ≡ Some k
  pub numbers : (k i : ℕ) → (slice_get r.numbers k ≡ Some (Some i)) ↔ (slice_get r.functions i ≡ Some k)
  pub returns : (k v : ℕ) → WordStandsAt r.words k v → Reached (kind_at t) t.entry v v →
      (slice_get r.returning k ≡ Some true) ↔ DoesReturn (kind_at t) t.entry v
  pub outside : (v : ℕ) → r.outside ≡ Some v → IsReached t v × ((k : ℕ) → WordStandsAt r.words k v → ⊥)
  pub outside_least : (v : ℕ) → IsReached t v → ((k : ℕ) → WordStandsAt r.words k v → ⊥) → (u : ℕ) × (r.outside ≡ Some u) × (u ≤ v)
