-- Scaffold: what is written, and the words that it misses.
use Rattle.std.specs.Prelude.{ℕ, Option, Some, None}
use Rattle.stack_laws.specs.Stacks.{IsApart}
use Rattle.tidy_runs.specs.declared.writing.Written.{Written}

-- none of its bytes is one of a word
abbrev pub MissesWord : Option Written → ℕ → Type 0
MissesWord None at = Unit {0}
MissesWord (Some x) at = IsApart x.from x.count at
