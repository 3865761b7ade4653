-- The numbers that are drawn: a linear congruential sequence of 64 bits (Knuth's MMIX), of which the upper 31 bits are taken.
use Rattle.std.specs.Prelude.{ℕ, zero, suc, ◌+◌, ◌*◌, ◌/◌, ◌%◌, ◌^◌}

-- the state behind this one
unfoldable pub next : ℕ → ℕ
next x = (x * 6364136223846793005 + 1442695040888963407) % 2 ^ 64

-- the number that is drawn at a state
unfoldable pub drawn : ℕ → ℕ
drawn x = next x / 2 ^ 33

-- the state after so many draws
abbrev pub after_draws : ℕ → ℕ → ℕ
after_draws x zero = x
after_draws x (suc n) = next (after_draws x n)
