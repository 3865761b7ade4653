-- Scaffold: the lowest reached address at which no word of a text stands.
use Rattle.std.specs.Prelude.{◌≡◌, ℕ, ◌+◌, ◌<◌, ◌≤◌, ◌⊎◌, Bool, true, false, List, slice_get, slice_index_or, Option, Some, None, min}
use Rattle.cost_theory.specs.declared.flow.Flow.{Flow}
use Rattle.cost_theory.specs.declared.flow.Flow.TheVariants as flow
use Rattle.cost_theory.specs.Reached.{LeadsTo}
use Rattle.code_text.specs.Table.{WordTable}
use Rattle.code_graph.specs.declared.reach.marks.Mark.{Mark}
use Rattle.code_graph.specs.declared.reach.marks.Mark.TheVariants.{Unreached, Owner, Shared}
use Rattle.code_graph.specs.Flow.{flag}
use Rattle.code_graph.specs.Reach.{WordStandsAt}

abbrev pub lower_address : Option ℕ → Option ℕ → Option ℕ
lower_address None b = b
lower_address (Some a) None = Some a
lower_address (Some a) (Some b) = Some (min a b)

abbrev pub has_mark : Mark → Bool
has_mark Unreached = false
has_mark (Owner f) = true
has_mark Shared = true

-- the lowest of the numbers of which P holds, if there is one
pub record IsLowest (P : ℕ → Type 0) (o : Option ℕ) : Type 0 where
  pub holds : (u : ℕ) → o ≡ Some u → P u
  pub least : (v : ℕ) → P v → (u : ℕ) × (o ≡ Some u) × (u ≤ v)

-- no word stands at u
abbrev pub IsOutsideOf : WordTable → ℕ → Type 0
IsOutsideOf words u = (k : ℕ) → WordStandsAt words k u → ⊥

-- u is four behind a call at v of a word from which a return can come
abbrev pub ComesBackTo : WordTable → List Bool → Flow → ℕ → ℕ → Type 0
ComesBackTo words returns w v u = (h : ℕ) × (c : ℕ) × (w ≡ flow.Call h) × WordStandsAt words c h × (flag returns c ≡ true) × (u ≡ v + 4)

-- where the way goes on from a word at v: over jumps and next words, into a function that it calls, and behind a call that comes back
abbrev pub GoesOnTo : WordTable → List Bool → Flow → ℕ → ℕ → Type 0
GoesOnTo words returns w v u = LeadsTo w v u ⊎ (w ≡ flow.Call u) ⊎ ComesBackTo words returns w v u

-- it goes on there from word k
abbrev pub GoesOnFrom : WordTable → List Bool → ℕ → ℕ → Type 0
GoesOnFrom words returns k u = (v : ℕ) × (w : Flow) × WordStandsAt words k v × (slice_get words.kinds k ≡ Some w) ×
    GoesOnTo words returns w v u

-- the program begins at u, or the way goes on there from one of the reached words below n
abbrev pub IsComeTo : WordTable → List Bool → List Mark → ℕ → ℕ → ℕ → Type 0
IsComeTo words returns marks entry n u = (u ≡ entry) ⊎ ((k : ℕ) × (k < n) × (has_mark (slice_index_or marks k Unreached) ≡ true) ×
    GoesOnFrom words returns k u)
