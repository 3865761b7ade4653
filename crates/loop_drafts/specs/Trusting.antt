-- What a draft trusts: stores of which nothing is known, taken to change no word of the stack that is kept. What is proved of its bounds and of returns is so
-- of a run as long as that is so.
use Rattle.std.specs.Prelude.{◌≡◌, ◌↔◌, ℕ, ◌+◌, ◌*◌, true, false, Bool, List, slice_get, count_by, option_and_then, Option, Some}
use Rattle.scale_base.specs.Image.{Image}
use Rattle.scale_base.specs.Run.{setting_of, start_of}
use Rattle.cost_theory.specs.Reached.{Code, flag_beside, owner_of}
use Rattle.code_text.specs.Text.{text_of}
use Rattle.code_text.specs.TextGraph.{IsReachedCode}
use Rattle.bound_laws.specs.Values.{Values, opposite_of}
use Rattle.stack_laws.specs.Stacks.{Stacks}
use Rattle.stack_laws.specs.Tidy.{IsTidy}
use Rattle.stack_tables.specs.declared.tables.StackTable.{StackTable}
use Rattle.loop_drafts.specs.declared.trusting.Trust.{Trust}

-- it is what tables trust
pub record Trusts (stack : StackTable) (trust : Trust) : Type 0 where
  pub stores : trust.stores.items ≡ stack.doubtful.items
  pub words : trust.words.items ≡ stack.kept.items

-- how many stores are trusted
abbrev pub trusted_stores : Trust → ℕ
trusted_stores trust = count_by (λ (is : Bool). is) trust.stores.items

abbrev pub AreNoneTrusted : Trust → Type 0
AreNoneTrusted trust = trusted_stores trust ≡ 0

-- no store is, unless some may be
abbrev pub IsAllowed : Bool → Trust → Type 0
IsAllowed trusts trust = trusts ≡ false → AreNoneTrusted trust

-- whether word k of function f is kept, where that stands there
abbrev pub word_in : Trust → (f k : ℕ) → Option Bool
word_in trust f k = option_and_then (λ (words : List Bool). slice_get words k) (slice_get trust.words.items f)

-- Tables of reached code trust these stores, by the addresses of its nodes, and keep these words, by the number of a function and that of a word: word k lies 4 * (k + 1)
-- bytes below what x2 had when its function began.
pub record IsTrustOf (code : Code) (trust : Trust) (v : Values) (w : Stacks) : Type 0 where
  pub functions : (a : ℕ) → v.function a ≡ owner_of code a
  pub offsets : (k : ℕ) → w.offset k ≡ opposite_of (4 * (k + 1))
  pub stores : (a : ℕ) → w.doubtful a ≡ flag_beside code.nodes trust.stores.items a
  pub words : (f k : ℕ) → (w.kept f k ≡ true) ↔ (word_in trust f k ≡ Some true)

-- In the first n steps of a run of the image no store that is trusted changes a word that is kept, of a function that runs or waits for a call to come back.
abbrev pub IsTrustKept : Image → Trust → (levels : ℕ) (input : List ℕ) (n : ℕ) → Type 0
IsTrustKept original trust levels input n = (code : Code) (v : Values) (w : Stacks) → IsReachedCode (text_of original) code →
    IsTrustOf code trust v w → IsTidy v w (setting_of original levels input) (start_of original levels) n

-- The law: where no store is trusted, that is so of every run.
abbrev pub NothingIsTrusted : Type 0
NothingIsTrusted = (original : Image) (trust : Trust) (levels : ℕ) (input : List ℕ) (n : ℕ) → AreNoneTrusted trust →
    IsTrustKept original trust levels input n
