-- The commands: their words, what each loads, and the statuses that it may answer.
use Rattle.std.specs.Prelude.{ℕ, List, [], ◌∷◌, length, map, Option, Some, None, if◌then◌else◌, bytes_eq, codes, String, string_bytes, option_and_then, option_map, Bool, true, false, ◌==◌, ◌||◌, ◌&&◌, nat_le}
use Rattle.std.specs.declared.alloc.Global.{Global}
use Rattle.host_runs.specs.Loading.{Wants}
use Rattle.scale_tool.specs.Numbers.{digits_within}
use Rattle.scale_base.specs.declared.limits.TheConstants.{FILE_LIMIT, IMAGE_LIMIT, STORED_LIMIT}

pub data Command : Type 0 where
  Help : Command
  Hold : (image machine loops out : List ℕ) → Command
  Rewrite : (image machine loops out : List ℕ) → Command
  Report : (image machine loops : List ℕ) → Command
  Simulate : (image machine input out : List ℕ) (loops : Option (List ℕ)) → Command
  Make : (number size : ℕ) (prefix : List ℕ) → Command
  Lower : (image jumps out : List ℕ) → Command
  Check : (image foreign machine loops : List ℕ) → Command
  Survey : (image scaled machine loops : List ℕ) (inputs : List (List ℕ)) → Command
  Tune : (image machine loops out : List ℕ) (inputs : List (List ℕ)) → Command

-- the words of a command line as texts
abbrev pub texts : List (String Global) → List (List ℕ)
texts words = map (λ word. string_bytes word) words

abbrev pub help_of : List (List ℕ) → Option Command
help_of [] = Some Help
help_of words = None

abbrev pub hold_of : List (List ℕ) → Option Command
hold_of (image ∷ machine ∷ loops ∷ out ∷ []) = Some (Hold image machine loops out)
hold_of words = None

abbrev pub rewrite_of : List (List ℕ) → Option Command
rewrite_of (image ∷ machine ∷ loops ∷ out ∷ []) = Some (Rewrite image machine loops out)
rewrite_of words = None

abbrev pub report_words : List (List ℕ) → Option Command
report_words (image ∷ machine ∷ loops ∷ []) = Some (Report image machine loops)
report_words words = None

abbrev pub simulate_of : List (List ℕ) → Option Command
simulate_of (image ∷ machine ∷ input ∷ out ∷ []) = Some (Simulate image machine input out None)
simulate_of (image ∷ machine ∷ input ∷ out ∷ loops ∷ []) = Some (Simulate image machine input out (Some loops))
simulate_of words = None

-- a program's number has up to 20 digits and 64 bits; its size has up to 4 digits, and is 1 to 2,000
abbrev pub make_of : List (List ℕ) → Option Command
make_of (number ∷ size ∷ prefix ∷ []) =
    option_and_then (λ n. option_map (λ s. Make n s prefix) (digits_within 4 1 2000 size)) (digits_within 20 0 18446744073709551615 number)
make_of words = None

abbrev pub lower_of : List (List ℕ) → Option Command
lower_of (image ∷ jumps ∷ out ∷ []) = Some (Lower image jumps out)
lower_of words = None

abbrev pub check_of : List (List ℕ) → Option Command
check_of (image ∷ foreign ∷ machine ∷ loops ∷ []) = Some (Check image foreign machine loops)
check_of words = None

-- the names of inputs: 1 to 64 of them
abbrev pub inputs_of : List (List ℕ) → Option (List (List ℕ))
inputs_of words = if nat_le 1 (length words) && nat_le (length words) 64 then Some words else None

abbrev pub survey_of : List (List ℕ) → Option Command
survey_of (image ∷ scaled ∷ machine ∷ loops ∷ words) = option_map (λ inputs. Survey image scaled machine loops inputs) (inputs_of words)
survey_of words = None

abbrev pub tune_of : List (List ℕ) → Option Command
tune_of (image ∷ machine ∷ loops ∷ out ∷ words) = option_map (λ inputs. Tune image machine loops out inputs) (inputs_of words)
tune_of words = None

-- the command that these words are, if they are one
abbrev pub command_of : List (List ℕ) → Option Command
command_of [] = None
command_of (word ∷ words) =
    if bytes_eq word (codes "help") then help_of words
    else if bytes_eq word (codes "hold") then hold_of words
    else if bytes_eq word (codes "rewrite") then rewrite_of words
    else if bytes_eq word (codes "report") then report_words words
    else if bytes_eq word (codes "simulate") then simulate_of words
    else if bytes_eq word (codes "make") then make_of words
    else if bytes_eq word (codes "lower") then lower_of words
    else if bytes_eq word (codes "check") then check_of words
    else if bytes_eq word (codes "survey") then survey_of words
    else if bytes_eq word (codes "tune") then tune_of words
    else None

-- a loop file, if one is given
abbrev pub loop_wants : Option (List ℕ) → Wants
loop_wants None = []
loop_wants (Some loops) = (loops, FILE_LIMIT) ∷ []

-- inputs that are loaded, each with its limit in bytes
abbrev pub input_wants : List (List ℕ) → Wants
input_wants inputs = map (λ input. (input, FILE_LIMIT)) inputs

-- the files that it loads, in order, each with its limit in bytes
abbrev pub wants_of : Command → Wants
wants_of Help = []
wants_of (Hold image machine loops out) = (image, IMAGE_LIMIT) ∷ (machine, FILE_LIMIT) ∷ (loops, FILE_LIMIT) ∷ []
wants_of (Rewrite image machine loops out) = (image, IMAGE_LIMIT) ∷ (machine, FILE_LIMIT) ∷ (loops, FILE_LIMIT) ∷ []
wants_of (Report image machine loops) = (image, IMAGE_LIMIT) ∷ (machine, FILE_LIMIT) ∷ (loops, FILE_LIMIT) ∷ []
wants_of (Simulate image machine input out loops) = (image, STORED_LIMIT) ∷ (machine, FILE_LIMIT) ∷ (input, FILE_LIMIT) ∷ loop_wants loops
wants_of (Make number size prefix) = []
wants_of (Lower image jumps out) = (image, IMAGE_LIMIT) ∷ (jumps, FILE_LIMIT) ∷ []
wants_of (Check image foreign machine loops) =
    (image, IMAGE_LIMIT) ∷ (foreign, STORED_LIMIT) ∷ (machine, FILE_LIMIT) ∷ (loops, FILE_LIMIT) ∷ []
wants_of (Survey image scaled machine loops inputs) =
    (image, IMAGE_LIMIT) ∷ (scaled, STORED_LIMIT) ∷ (machine, FILE_LIMIT) ∷ (loops, FILE_LIMIT) ∷
    input_wants inputs
wants_of (Tune image machine loops out inputs) = (image, IMAGE_LIMIT) ∷ (machine, FILE_LIMIT) ∷ (loops, FILE_LIMIT) ∷ input_wants inputs

-- the files that are loaded for what was asked: none for words that are no command
abbrev pub wants_asked : Option Command → Wants
wants_asked None = []
wants_asked (Some command) = wants_of command

-- the statuses that a command gives, but for a fault and want of memory; and that of words that are none
abbrev pub may_give : Option Command → ℕ → Bool
may_give None status = status == 2
may_give (Some Help) status = status == 0
may_give (Some (Hold image machine loops out)) status = nat_le status 1
may_give (Some (Rewrite image machine loops out)) status = nat_le status 1
may_give (Some (Report image machine loops)) status = nat_le status 1
may_give (Some (Simulate image machine input out loops)) status = nat_le status 1 || (status == 5 || status == 6)
may_give (Some (Make number size prefix)) status = nat_le status 1 || (status == 5 || status == 6)
may_give (Some (Lower image jumps out)) status = nat_le status 1
may_give (Some (Check image foreign machine loops)) status = nat_le status 1 || status == 7
may_give (Some (Survey image scaled machine loops inputs)) status = nat_le status 1
may_give (Some (Tune image machine loops out inputs)) status = nat_le status 1

-- it may want memory
abbrev pub needs_memory : Option Command → Bool
needs_memory None = false
needs_memory (Some Help) = false
needs_memory (Some (Hold image machine loops out)) = true
needs_memory (Some (Rewrite image machine loops out)) = true
needs_memory (Some (Report image machine loops)) = true
needs_memory (Some (Simulate image machine input out loops)) = true
needs_memory (Some (Make number size prefix)) = true
needs_memory (Some (Lower image jumps out)) = true
needs_memory (Some (Check image foreign machine loops)) = true
needs_memory (Some (Survey image scaled machine loops inputs)) = true
needs_memory (Some (Tune image machine loops out inputs)) = true

-- the statuses that a run may end with
abbrev pub may_answer : Option Command → ℕ → Bool
may_answer asked status = may_give asked status || (status == 3 || (status == 4 && needs_memory asked))
