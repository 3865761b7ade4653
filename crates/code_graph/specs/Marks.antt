-- Scaffold: the functions in which words are reached. A function is named by the number of its first word.
use Rattle.std.specs.Prelude.{◌≡◌, ℕ, ◌+◌, ◌<◌, ◌≤◌, Bool, true, false, ◌&&◌, ◌⊎◌, ◌↔◌, ◌==◌, List, [], ◌∷◌, length, All, slice_index, slice_index_or, if◌then◌else◌, Option, Some, None}
use Rattle.code_graph.specs.declared.reach.step.Step.{Step}
use Rattle.code_graph.specs.declared.reach.step.Step.TheVariants.{Return, Stop, On, Call}
use Rattle.code_graph.specs.declared.reach.marks.Mark.{Mark}
use Rattle.code_graph.specs.declared.reach.marks.Mark.TheVariants.{Unreached, Owner, Shared}
use Rattle.code_graph.specs.Flow.{step_at, flag_option}

-- the word to which a word jumps
abbrev pub jumped_word : Step → Option ℕ
jumped_word Return = None
jumped_word Stop = None
jumped_word (On jump next) = jump
jumped_word (Call callee next) = None

-- the word that it calls
abbrev pub called_word : Step → Option ℕ
called_word Return = None
called_word Stop = None
called_word (On jump next) = None
called_word (Call callee next) = callee

-- whether the next word follows it: behind a call, where a return can come from the callee
abbrev pub goes_on_after : Step → List Bool → Bool
goes_on_after Return returns = false
goes_on_after Stop returns = false
goes_on_after (On jump next) returns = next
goes_on_after (Call callee next) returns = next && flag_option returns callee

abbrev pub next_of : Step → List Bool → ℕ → Option ℕ
next_of step returns u = if goes_on_after step returns then Some (u + 1) else None

-- Word v is reached in function f: from the program's first word, and from the first word of each function that a
-- reached word calls, over jumps and next words.
pub data ReachedAt (steps : List Step) (returns : List Bool) (first : ℕ) : ℕ → ℕ → Type 0 where
  enters : {f v : ℕ} → f ≡ first → v ≡ first → first < length steps → ReachedAt steps returns first f v
  jumps : {f v : ℕ} (u : ℕ) → ReachedAt steps returns first f u → jumped_word (step_at steps u) ≡ Some v → v < length steps →
      ReachedAt steps returns first f v
  goes : {f v : ℕ} (u : ℕ) → ReachedAt steps returns first f u → goes_on_after (step_at steps u) returns ≡ true → v ≡ u + 1 →
      v < length steps → ReachedAt steps returns first f v
  calls : {f v : ℕ} (g u : ℕ) → ReachedAt steps returns first g u → called_word (step_at steps u) ≡ Some f → v ≡ f → f < length steps →
      ReachedAt steps returns first f v

-- in two functions
abbrev pub IsReachedTwice : List Step → List Bool → ℕ → ℕ → Type 0
IsReachedTwice steps returns first v = (f : ℕ) × (g : ℕ) × (f ≡ g → ⊥) × ReachedAt steps returns first f v ×
    ReachedAt steps returns first g v

abbrev pub mark_at : List Mark → ℕ → Mark
mark_at marks v = slice_index_or marks v Unreached

abbrev pub function_number : List (Option ℕ) → ℕ → Option ℕ
function_number numbers h = slice_index_or numbers h None

-- what a mark becomes by another, where it changes
abbrev pub raised : Mark → Mark → Option Mark
raised Unreached Unreached = None
raised Unreached (Owner g) = Some (Owner g)
raised Unreached Shared = Some Shared
raised (Owner f) Unreached = None
raised (Owner f) (Owner g) = if f == g then None else Some Shared
raised (Owner f) Shared = Some Shared
raised Shared m = None

-- function f is one of those of a mark
abbrev pub Covers : Mark → ℕ → Type 0
Covers m f = (m ≡ Owner f) ⊎ (m ≡ Shared)

abbrev pub Below : Mark → Mark → Type 0
Below m n = (f : ℕ) → Covers m f → Covers n f

-- a mark says no more of a word than holds
pub record IsDue (steps : List Step) (returns : List Bool) (first : ℕ) (m : Mark) (v : ℕ) : Type 0 where
  pub one : (f : ℕ) → m ≡ Owner f → ReachedAt steps returns first f v
  pub two : m ≡ Shared → IsReachedTwice steps returns first v

abbrev pub height : Mark → ℕ
height Unreached = 0
height (Owner f) = 1
height Shared = 2

abbrev pub heights : List Mark → ℕ
heights [] = 0
heights (m ∷ ms) = height m + heights ms

-- what the pass keeps
pub record IsMarkPass (steps : List Step) (returns : List Bool) (first : ℕ) (marks : List Mark) (functions : List ℕ)
    (numbers : List (Option ℕ)) (queue : List ℕ) : Type 0 where
  pub marks_size : length marks ≡ length steps
  pub numbers_size : length numbers ≡ length steps
  pub due : (v : ℕ) → IsDue steps returns first (mark_at marks v) v
  pub listed : (h i : ℕ) → (function_number numbers h ≡ Some i) ↔ ((i < length functions) × (slice_index functions i ≡ h))
  pub called : (h i : ℕ) → function_number numbers h ≡ Some i → ReachedAt steps returns first h h
  pub counted : length queue ≤ heights marks
  pub within : All (λ k. k < length steps) queue
  pub covered : (p : ℕ) → p < length queue → (f : ℕ) × Covers (mark_at marks (slice_index queue p)) f

-- a word stands in the queue, at a place or behind it
abbrev pub IsFrom : List ℕ → ℕ → ℕ → Type 0
IsFrom queue done v = (p : ℕ) × (done ≤ p) × (p < length queue) × (slice_index queue p ≡ v)

-- what is later: more in the queue, higher marks, and each word whose mark has changed among the new ones of the queue
pub record MarksGrow (marks : List Mark) (numbers : List (Option ℕ)) (queue : List ℕ) (marks_then : List Mark)
    (numbers_then : List (Option ℕ)) (queue_then : List ℕ) : Type 0 where
  pub longer : length queue ≤ length queue_then
  pub front : (p : ℕ) → p < length queue → slice_index queue_then p ≡ slice_index queue p
  pub above : (v : ℕ) → Below (mark_at marks v) (mark_at marks_then v)
  pub fresh : (v : ℕ) → (mark_at marks_then v ≡ mark_at marks v) ⊎ IsFrom queue_then (length queue) v
  pub numbered : (h i : ℕ) → function_number numbers h ≡ Some i → function_number numbers_then h ≡ Some i

-- where a word goes on has its functions
pub record IsMarkSettled (steps : List Step) (returns : List Bool) (marks : List Mark) (numbers : List (Option ℕ)) (u : ℕ) : Type 0 where
  pub jump : (k : ℕ) → jumped_word (step_at steps u) ≡ Some k → k < length steps → Below (mark_at marks u) (mark_at marks k)
  pub next : goes_on_after (step_at steps u) returns ≡ true → u + 1 < length steps → Below (mark_at marks u) (mark_at marks (u + 1))
  pub call : (f h : ℕ) → Covers (mark_at marks u) f → called_word (step_at steps u) ≡ Some h → h < length steps →
      Covers (mark_at marks h) h × ((i : ℕ) × (function_number numbers h ≡ Some i))

abbrev pub AllWait : List Step → List Bool → List Mark → List (Option ℕ) → List ℕ → ℕ → Type 0
AllWait steps returns marks numbers queue done = (u : ℕ) → u < length steps → IsMarkSettled steps returns marks numbers u ⊎
    IsFrom queue done u
