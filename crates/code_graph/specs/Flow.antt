-- Scaffold: steps by number: where each word of the text goes on, and from which a return can come.
use Rattle.std.specs.Prelude.{◌≡◌, ℕ, ◌+◌, ◌<◌, Bool, true, false, ◌&&◌, ◌||◌, ◌⊎◌, ◌≤◌, not, ◌==◌, nat_le, List, [], ◌∷◌, length, All, slice_index, slice_index_or, if◌then◌else◌, Option, Some, None}
use Rattle.code_graph.specs.declared.reach.step.Step.{Step}
use Rattle.code_graph.specs.declared.reach.step.Step.TheVariants.{Return, Stop, On, Call}

abbrev pub step_at : List Step → ℕ → Step
step_at steps s = slice_index_or steps s Stop

abbrev pub flag : List Bool → ℕ → Bool
flag flags k = slice_index_or flags k false

abbrev pub flag_option : List Bool → Option ℕ → Bool
flag_option flags None = false
flag_option flags (Some k) = flag flags k

-- whether a return can come from a word, by those from which one can
abbrev pub reason_by : Step → List Bool → ℕ → Bool
reason_by Return flags s = true
reason_by Stop flags s = false
reason_by (On jump next) flags s = flag_option flags jump || (next && flag flags (s + 1))
reason_by (Call callee next) flags s = flag_option flags callee && (next && flag flags (s + 1))

abbrev pub reason : List Step → List Bool → ℕ → Bool
reason steps flags s = reason_by (step_at steps s) flags s

-- the word to which a word jumps, or which it calls
abbrev pub key_of : Step → Option ℕ
key_of Return = None
key_of Stop = None
key_of (On jump next) = jump
key_of (Call callee next) = callee

-- The least set of words from which a return can come: a return itself; a word that jumps to one of them or goes on to
-- one; a call of one of them that has one of them behind it.
pub data CanReturnAt (steps : List Step) : ℕ → Type 0 where
  here : {s : ℕ} → s < length steps → step_at steps s ≡ Return → CanReturnAt steps s
  jumps : {s : ℕ} (k : ℕ) (next : Bool) → s < length steps → step_at steps s ≡ On (Some k) next → CanReturnAt steps k → CanReturnAt steps s
  goes : {s : ℕ} (jump : Option ℕ) → s < length steps → step_at steps s ≡ On jump true → CanReturnAt steps (s + 1) → CanReturnAt steps s
  across : {s : ℕ} (k : ℕ) → s < length steps → step_at steps s ≡ Call (Some k) true → CanReturnAt steps k → CanReturnAt steps (s + 1) →
      CanReturnAt steps s

-- k is one of the words by which a return can come from s
abbrev pub IsPart : List Step → ℕ → ℕ → Type 0
IsPart steps s k = (key_of (step_at steps s) ≡ Some k) ⊎ (s + 1 ≡ k)

-- each flag is right
abbrev pub AreSound : List Step → List Bool → Type 0
AreSound steps flags = (s : ℕ) → flag flags s ≡ true → CanReturnAt steps s

-- none is missing
abbrev pub AreClosed : List Step → List Bool → Type 0
AreClosed steps flags = (s : ℕ) → s < length steps → reason steps flags s ≡ true → flag flags s ≡ true

-- A word that has a reason and no flag waits for one of the queue's from `done` on, or it is one of those left.
abbrev pub Waits : List Step → List Bool → List ℕ → ℕ → (ℕ → Bool) → Type 0
Waits steps flags queue done left = (s : ℕ) → s < length steps → flag flags s ≡ false → reason steps flags s ≡ true →
    ((p : ℕ) × (done ≤ p) × (p < length queue) × IsPart steps s (slice_index queue p)) ⊎ (left s ≡ true)

-- those left but one
abbrev pub but : (ℕ → Bool) → ℕ → ℕ → Bool
but left s x = left x && not (x == s)

abbrev pub count_true : List Bool → ℕ
count_true [] = 0
count_true (b ∷ bs) = (if b then 1 else 0) + count_true bs

-- what the pass keeps
pub record IsReturnPass (steps : List Step) (flags : List Bool) (queue : List ℕ) : Type 0 where
  pub size : length flags ≡ length steps
  pub sound : AreSound steps flags
  pub counted : count_true flags ≡ length queue
  pub within : All (λ k. k < length steps) queue

-- The words with one key are a chain: the last of them, and before each of them the next lower one.
abbrev pub is_number : Option ℕ → ℕ → Bool
is_number None k = false
is_number (Some j) k = j == k

abbrev pub is_key : List Step → ℕ → ℕ → Bool
is_key steps k x = is_number (key_of (step_at steps x)) k

abbrev pub is_below : Option ℕ → ℕ → Bool
is_below None x = false
is_below (Some b) x = nat_le x b

-- (of the words below n; a key that is no word's number has no chain)
pub record AreStepChains (steps : List Step) (n : ℕ) (last before : List (Option ℕ)) : Type 0 where
  pub last_size : length last ≡ length steps
  pub before_size : length before ≡ length steps
  pub last_key : (k s : ℕ) → slice_index_or last k None ≡ Some s → (s < n) × (key_of (step_at steps s) ≡ Some k)
  pub before_key : (k s r : ℕ) → k < length steps → s < n → key_of (step_at steps s) ≡ Some k → slice_index_or before s None ≡ Some r →
      (r < s) × (key_of (step_at steps r) ≡ Some k)
  pub last_all : (k x : ℕ) → k < length steps → x < n → key_of (step_at steps x) ≡ Some k → is_below (slice_index_or last k None) x ≡ true
  pub before_all : (k s x : ℕ) → k < length steps → s < n → key_of (step_at steps s) ≡ Some k → key_of (step_at steps x) ≡ Some k → x < s →
      is_below (slice_index_or before s None) x ≡ true

-- those left without the words of key k
abbrev pub but_keyed : List Step → ℕ → (ℕ → Bool) → ℕ → Bool
but_keyed steps k left x = left x && not (is_key steps k x)

-- those left without the words of key k above the place in the chain
abbrev pub but_above : List Step → ℕ → Option ℕ → (ℕ → Bool) → ℕ → Bool
but_above steps k next left x = left x && (not (is_key steps k x) || is_below next x)

-- whether k is one of the words by which a return can come from x
abbrev pub is_part : List Step → ℕ → ℕ → Bool
is_part steps k x = is_key steps k x || (x + 1 == k)

abbrev pub but_parts : List Step → ℕ → (ℕ → Bool) → ℕ → Bool
but_parts steps k left x = left x && not (is_part steps k x)
