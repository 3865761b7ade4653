-- The commands: what each loads, and the statuses that it may answer.
use Rattle.std.specs.Prelude.{ℕ, List, [], ◌∷◌, map, Bool, true, false, ◌==◌, ◌||◌, nat_le, Option, Some, None}
use Rattle.host_runs.specs.Loading.{Wants}
use Rattle.scale_base.specs.declared.limits.TheConstants.{FILE_LIMIT, IMAGE_LIMIT, STORED_LIMIT}

pub data Command : Type 0 where
  Fit : (image machine loops out : List ℕ) (inputs : List (List ℕ)) → Command
  FitVersions : (image machine loops out : List ℕ) (inputs : List (List ℕ)) → Command
  Show : (image machine loops : List ℕ) → Command
  Loops : (image out : List ℕ) (most : Option ℕ) (trusts : Bool) (inputs : List (List ℕ)) → Command
  Explain : (image machine loops : List ℕ) → Command
  DrawRun : (machine out : List ℕ) (names : List (List ℕ)) → Command
  DrawPlan : (image machine loops out : List ℕ) → Command
  Jumps : (image out : List ℕ) → Command
  Split : (image out : List ℕ) → Command
  InOne : (image machine out : List ℕ) (versions : Bool) (most : Option ℕ) (inputs : List (List ℕ)) → Command

-- how many bytes an input may have, where at most so many are told, and else
abbrev pub input_limit : Option ℕ → ℕ
input_limit (Some most) = most
input_limit None = FILE_LIMIT

-- inputs that are loaded, each with its limit in bytes
abbrev pub input_wants : (limit : ℕ) → List (List ℕ) → Wants
input_wants limit inputs = map (λ input. (input, limit)) inputs

-- an image, and what else is loaded
abbrev pub image_wants : List ℕ → Wants → Wants
image_wants image others = (image, IMAGE_LIMIT) ∷ others

-- an image and a machine, and what else is loaded
abbrev pub machine_wants : (image machine : List ℕ) → Wants → Wants
machine_wants image machine others = image_wants image ((machine, FILE_LIMIT) ∷ others)

-- the files of a program, and what else is loaded
abbrev pub program_wants : (image machine loops : List ℕ) → Wants → Wants
program_wants image machine loops others = machine_wants image machine ((loops, FILE_LIMIT) ∷ others)

-- images that are run, which may be scaled ones, and their inputs, by turns
abbrev pub run_wants : List (List ℕ) → Wants
run_wants (image ∷ input ∷ others) = (image, STORED_LIMIT) ∷ (input, FILE_LIMIT) ∷ run_wants others
run_wants names = []

-- a machine, and runs on it
abbrev pub drawn_wants : List ℕ → List (List ℕ) → Wants
drawn_wants machine names = (machine, FILE_LIMIT) ∷ run_wants names

-- the files that it loads, in order, each with its limit in bytes
abbrev pub wants_of : Command → Wants
wants_of (Fit image machine loops out inputs) = program_wants image machine loops (input_wants FILE_LIMIT inputs)
wants_of (FitVersions image machine loops out inputs) = program_wants image machine loops (input_wants FILE_LIMIT inputs)
wants_of (Show image machine loops) = program_wants image machine loops []
wants_of (Loops image out most trusts inputs) = image_wants image (input_wants (input_limit most) inputs)
wants_of (Explain image machine loops) = program_wants image machine loops []
wants_of (DrawRun machine out names) = drawn_wants machine names
wants_of (DrawPlan image machine loops out) = program_wants image machine loops []
wants_of (Jumps image out) = image_wants image []
wants_of (Split image out) = image_wants image []
wants_of (InOne image machine out versions most inputs) = machine_wants image machine (input_wants (input_limit most) inputs)

-- the statuses that a command gives, but for a fault and want of memory
abbrev pub may_give : ℕ → Bool
may_give status = nat_le status 1

-- the statuses that a run may end with
abbrev pub may_answer : ℕ → Bool
may_answer status = may_give status || (status == 3 || status == 4)

-- whether all answers that are right for its files have one status: not of `loops` and `all`, since the draft of an image isn't the only one that may be stored, not of `fit` where
-- versions are tried, since which version is taken isn't said, and not of `split`, since which copies are made isn't said
abbrev pub has_one_status : Command → Bool
has_one_status (Fit image machine loops out inputs) = true
has_one_status (FitVersions image machine loops out inputs) = false
has_one_status (Show image machine loops) = true
has_one_status (Loops image out most trusts inputs) = false
has_one_status (Explain image machine loops) = true
has_one_status (DrawRun machine out names) = true
has_one_status (DrawPlan image machine loops out) = true
has_one_status (Jumps image out) = true
has_one_status (Split image out) = false
has_one_status (InOne image machine out versions most inputs) = false
