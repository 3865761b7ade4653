-- Tidy runs. Of a store through a pointer of which nothing is known the tables may take that it misses the words of the stack that they keep:
-- it is doubtful. A run is tidy as long as no doubtful step changes such a word of a function that runs, or that waits for a call to come
-- back. That is so or not step by step, by the addresses of doubtful steps, the words that are kept, and what x2 had at each open call.
use Rattle.std.specs.Prelude.{◌≡◌, ℕ, zero, suc, ◌<◌, true, false, List, [], ◌∷◌}
use Rattle.scale_base.specs.declared.stepping.Move.{Move}
use Rattle.scale_base.specs.declared.stepping.Move.TheVariants.{Local, Call, Return}
use Rattle.scale_base.specs.declared.stepping.StepEnd.{StepEnd}
use Rattle.scale_base.specs.declared.stepping.StepEnd.TheVariants.{Went, Exited, Trapped}
use Rattle.scale_base.specs.Arith.{plus}
use Rattle.scale_base.specs.State.{Setting, State, reg, word_at}
use Rattle.scale_base.specs.Step.{step}
use Rattle.scale_base.specs.Run.{run}
use Rattle.bound_laws.specs.Values.{Values}
use Rattle.stack_laws.specs.Stacks.{Stacks}

-- a function that runs, or waits for a call to come back, by its number, and what x2 had when it began
pub record Activation : Type 0 where
  pub function : ℕ
  pub stack : ℕ

-- the one that begins at a state
abbrev pub begun_at : Values → State → Activation
begun_at v s = record { function = v.function s.pc; stack = reg s.regs 2 }

abbrev pub without_first : List Activation → List Activation
without_first [] = []
without_first (y ∷ ys) = ys

-- those behind a step to a state: a call puts one in front, and a return takes the first off
abbrev pub activations_by : Values → List Activation → Move → State → List Activation
activations_by v ys Local next = ys
activations_by v ys Call next = begun_at v next ∷ ys
activations_by v ys Return next = without_first ys

abbrev pub activations_behind : Values → List Activation → StepEnd → State → List Activation
activations_behind v ys (Went x) next = activations_by v ys x.moved next
activations_behind v ys (Exited x status) next = ys
activations_behind v ys (Trapped trap) next = ys

-- those after the first n steps from a state, the one that runs first
unfoldable pub activations : Values → Setting → State → ℕ → List Activation
activations v env s zero = begun_at v s ∷ []
activations v env s (suc n) = activations_behind v (activations v env s n) (step env (run env s n).state).end (step env (run env s n).state).state

-- all words that are kept for the activation are the same in both memories
abbrev pub AreKept : Stacks → (ℕ → ℕ) → (ℕ → ℕ) → Activation → Type 0
AreKept w before after y = (k : ℕ) → w.kept y.function k ≡ true → word_at after (plus y.stack (w.offset k)) ≡ word_at before (plus y.stack (w.offset k))

abbrev pub AreAllKept : Stacks → (ℕ → ℕ) → (ℕ → ℕ) → List Activation → Type 0
AreAllKept w before after [] = Unit {0}
AreAllKept w before after (y ∷ ys) = AreKept w before after y × AreAllKept w before after ys

-- a step at a leaves the words that are kept for all of these, where it is doubtful
abbrev pub IsTidyStep : Stacks → ℕ → List Activation → (ℕ → ℕ) → (ℕ → ℕ) → Type 0
IsTidyStep w a ys before after = w.doubtful a ≡ true → AreAllKept w before after ys

-- each of the first n steps from a state is tidy
abbrev pub IsTidy : Values → Stacks → Setting → State → ℕ → Type 0
IsTidy v w env s n = (m : ℕ) → m < n →
    IsTidyStep w (run env s m).state.pc (activations v env s m) (run env s m).state.bytes (run env s (suc m)).state.bytes

-- nothing is doubtful
abbrev pub IsCertain : Stacks → Type 0
IsCertain w = (a : ℕ) → w.doubtful a ≡ false
