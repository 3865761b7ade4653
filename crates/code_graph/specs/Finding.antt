-- Scaffold: what is found in the reached words of a text before its graph is built: refused words and shared code.
use Rattle.std.specs.Prelude.{◌≡◌, ◌≢◌, ℕ, ◌<◌, ◌≤◌, slice_get, Option, Some, None}
use Rattle.cost_theory.specs.declared.flow.Flow.TheVariants as flow
use Rattle.cost_theory.specs.Reached.{HasNoBadWord}
use Rattle.code_graph.specs.declared.reach.marks.Mark.TheVariants.{Unreached}
use Rattle.code_text.specs.Text.{Text, kind_at}
use Rattle.code_graph.specs.declared.reach.TextReach.{TextReach}
use Rattle.flow_graph.specs.Refused.{IsReached}
use Rattle.code_graph.specs.Reach.{Reach, IsReachOf}
use Rattle.code_graph.specs.Steps.{IsWordTableOf}

-- what a TextReach holds
abbrev pub reach_of : TextReach → Reach
reach_of r = record {
  words = r.words;
  returning = r.returning.items;
  marks = r.marks.items;
  functions = r.functions.items;
  numbers = r.numbers.items;
  outside = r.outside;
}

-- it is what is reached in a text, whose words stand in the table
pub record IsReachIn (t : Text) (r : Reach) : Type 0 where
  pub reach : IsReachOf t r
  pub table : IsWordTableOf (kind_at t) r.words

-- it is what is reached in some text
abbrev pub IsReach : TextReach → Type 0
IsReach r = (t : Text) × IsReachIn t (reach_of r)

-- the first number below n of which something is so, if there is one
abbrev pub IsFirstBelow : ℕ → (ℕ → Type 0) → Option ℕ → Type 0
IsFirstBelow n P None = (k : ℕ) → k < n → P k → ⊥
IsFirstBelow n P (Some k) = (k < n) × P k × ((j : ℕ) → j < k → P j → ⊥)

-- word k is reached and refused
abbrev pub IsRefusedWord : Reach → ℕ → Type 0
IsRefusedWord r k = (slice_get r.words.kinds k ≡ Some flow.Refused) × (slice_get r.marks k ≢ Some Unreached)

-- the lesser of an address and of one that may be missing
abbrev pub IsLesser : ℕ → Option ℕ → ℕ → Type 0
IsLesser at None x = x ≡ at
IsLesser at (Some other) x = (x ≤ at) × (x ≤ other) × ((x ≢ at) → x ≡ other)

-- the least reached address that is refused, if there is one
abbrev pub IsLeastBad : Text → Option ℕ → Type 0
IsLeastBad t None = HasNoBadWord (kind_at t) t.entry
IsLeastBad t (Some at) = IsReached t at × (kind_at t at ≡ flow.Refused) × ((v : ℕ) → IsReached t v → v < at → kind_at t v ≢ flow.Refused)
