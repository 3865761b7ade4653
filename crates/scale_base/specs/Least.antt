-- Scaffold: the lesser of two numbers that may be missing.
use Rattle.std.specs.Prelude.{ℕ, nat_le, if◌then◌else◌, Option, Some, None}

abbrev pub lesser_of : Option ℕ → Option ℕ → Option ℕ
lesser_of None other = other
lesser_of (Some a) None = Some a
lesser_of (Some a) (Some b) = if nat_le a b then Some a else Some b
