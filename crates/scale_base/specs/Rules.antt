-- Rules that are tried in an order.
use Rattle.std.specs.Prelude.{◌≡◌, ℕ, Bool, List, [], ◌∷◌, Option, Some, None, if◌then◌else◌, map, Result, Ok, Err}
use Rattle.std.specs.List.{range_with_len}
use Rattle.scale_base.specs.declared.refusal.Refusal.{Refusal}
use Rattle.scale_base.specs.declared.refusal.Stop.{Stop}
use Rattle.scale_base.specs.declared.refusal.Stop.TheVariants as stops

-- a rule is a test, and how one is refused that doesn't meet it
pub record Rule : Type 0 where
  pub holds : Bool
  pub refusal : Refusal

abbrev pub rule : Bool → Refusal → Rule
rule holds refusal = record { holds = holds; refusal = refusal }

-- the refusal by the first rule that is broken
abbrev pub first_broken : List Rule → Option Refusal
first_broken [] = None
first_broken (r ∷ rules) = if r.holds then first_broken rules else Some r.refusal

-- the rules of the numbers 0 to n - 1, in their order
abbrev pub each_below : ℕ → (ℕ → Rule) → List Rule
each_below n rule_of = map rule_of (range_with_len 0 n)

-- the refusal of an answer, if it is one
abbrev pub refusal_in : {A : Type 0} → Result A Refusal → Option Refusal
refusal_in (Ok x) = None
refusal_in (Err refusal) = Some refusal

-- no rule is broken
abbrev pub AllHold : List Rule → Type 0
AllHold rules = first_broken rules ≡ None

-- a call stopped by the first broken rule, or for want of memory
abbrev pub IsStop : List Rule → Stop → Type 0
IsStop rules (stops.Refused refusal) = first_broken rules ≡ Some refusal
IsStop rules stops.Memory = Unit {0}
