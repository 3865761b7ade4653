-- Scaffold: where the words of a text go on by their numbers, and in which functions they are reached by their numbers.
use Rattle.std.specs.Prelude.{◌≡◌, ◌≢◌, ℕ, ◌+◌, ◌%◌, ◌<◌, ◌↔◌, ◌⊎◌, Bool, true, false, List, length, slice_get, Option, Some, None}
use Rattle.scale_base.specs.Image.{PLAIN_END}
use Rattle.cost_theory.specs.declared.flow.Flow.{Flow}
use Rattle.cost_theory.specs.declared.flow.Flow.TheVariants as flow
use Rattle.code_text.specs.Table.{WordTable}
use Rattle.code_text.specs.Walk.{RiseStrictly}
use Rattle.code_graph.specs.declared.reach.step.Step.{Step}
use Rattle.code_graph.specs.declared.reach.step.Step.TheVariants.{Return, Stop, On, Call}
use Rattle.code_graph.specs.declared.reach.marks.Mark.{Mark}
use Rattle.code_graph.specs.declared.reach.marks.Mark.TheVariants.{Unreached, Owner, Shared}
use Rattle.code_graph.specs.Flow.{step_at}
use Rattle.code_graph.specs.Marks.{ReachedAt}
use Rattle.code_graph.specs.Reach.{WordStandsAt}

-- no word stands where four more would wrap
abbrev pub AreLow : List ℕ → Type 0
AreLow addresses = (k v : ℕ) → slice_get addresses k ≡ Some v → v < PLAIN_END

-- The table has the words of a text, of which `word` says the way on: they ascend, stand at multiples of 4, and each address that is not refused is one of theirs.
pub record IsWordTableOf (word : ℕ → Flow) (words : WordTable) : Type 0 where
  pub rising : RiseStrictly words.addresses
  pub aligned : (k v : ℕ) → WordStandsAt words k v → v % 4 ≡ 0
  pub low : AreLow words.addresses
  pub kinds : (k v : ℕ) → WordStandsAt words k v → slice_get words.kinds k ≡ Some (word v)
  pub whole : (v : ℕ) → (word v ≡ flow.Refused) ⊎ ((k : ℕ) × WordStandsAt words k v)

-- o is the number of the word at v, if one stands there
abbrev pub IsWordNumber : WordTable → ℕ → Option ℕ → Type 0
IsWordNumber words v o = (k : ℕ) → (o ≡ Some k) ↔ WordStandsAt words k v

-- whether word k + 1 stands right behind word k, which stands at v
abbrev pub HasNextWord : WordTable → ℕ → ℕ → Bool → Type 0
HasNextWord words k v b = (b ≡ true) ↔ WordStandsAt words (k + 1) (v + 4)

-- the step of word k at v, by what it says of the way on
abbrev pub IsStepOf : WordTable → ℕ → ℕ → Flow → Step → Type 0
IsStepOf words k v (flow.Branch to) s = (o : Option ℕ) × (b : Bool) × (s ≡ On o b) × IsWordNumber words to o × HasNextWord words k v b
IsStepOf words k v (flow.Jump to) s = (o : Option ℕ) × (s ≡ On o false) × IsWordNumber words to o
IsStepOf words k v (flow.Call to) s = (o : Option ℕ) × (b : Bool) × (s ≡ Call o b) × IsWordNumber words to o × HasNextWord words k v b
IsStepOf words k v flow.Return s = s ≡ Return
IsStepOf words k v flow.Exit s = s ≡ Stop
IsStepOf words k v flow.MayExit s = (b : Bool) × (s ≡ On None b) × HasNextWord words k v b
IsStepOf words k v flow.Breakpoint s = s ≡ Stop
IsStepOf words k v flow.Next s = (b : Bool) × (s ≡ On None b) × HasNextWord words k v b
IsStepOf words k v flow.Refused s = s ≡ Stop

-- the step of word k
abbrev pub IsStepAt : WordTable → ℕ → Step → Type 0
IsStepAt words k s = (v : ℕ) (w : Flow) → WordStandsAt words k v → slice_get words.kinds k ≡ Some w → IsStepOf words k v w s

-- each word's step
pub record AreSteps (words : WordTable) (steps : List Step) : Type 0 where
  pub size : length steps ≡ length words.addresses
  pub each : (k : ℕ) → k < length words.addresses → IsStepAt words k (step_at steps k)

-- Word v is reached in function f from the word where the program begins, if it is one.
abbrev pub ReachedFrom : List Step → List Bool → Option ℕ → ℕ → ℕ → Type 0
ReachedFrom steps returns None f v = ⊥
ReachedFrom steps returns (Some first) f v = ReachedAt steps returns first f v

-- the functions in which words are reached from there, and the place of each function in the list of functions
pub record AreReachMarks (steps : List Step) (returns : List Bool) (entry : Option ℕ) (marks : List Mark) (functions : List ℕ)
    (numbers : List (Option ℕ)) : Type 0 where
  pub marks_size : length marks ≡ length steps
  pub numbers_size : length numbers ≡ length steps
  pub unreached : (v f : ℕ) → slice_get marks v ≡ Some Unreached → ReachedFrom steps returns entry f v → ⊥
  pub owner : (v f : ℕ) → slice_get marks v ≡ Some (Owner f) → ReachedFrom steps returns entry f v ×
      ((g : ℕ) → ReachedFrom steps returns entry g v → g ≡ f)
  pub shared : (v : ℕ) → slice_get marks v ≡ Some Shared → (f : ℕ) × (g : ℕ) × (f ≢ g) × ReachedFrom steps returns entry f v ×
      ReachedFrom steps returns entry g v
  pub listed : (h : ℕ) → ((i : ℕ) × (slice_get functions i ≡ Some h)) ↔ ReachedFrom steps returns entry h h
  pub listed_within : (h i : ℕ) → slice_get functions i ≡ Some h → h < length steps
  pub first : (e : ℕ) → entry ≡ Some e → slice_get functions 0 ≡ Some e
  pub placed : (h i : ℕ) → (slice_get numbers h ≡ Some (Some i)) ↔ (slice_get functions i ≡ Some h)
