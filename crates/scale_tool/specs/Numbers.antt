-- Numbers in the words of a command.
use Rattle.std.specs.Prelude.{ℕ, ◌+◌, ◌-◌, ◌*◌, nat_le, List, length, fold, Option, Some, None, option_and_then, Bool, ◌&&◌, if◌then◌else◌}
use Rattle.std.specs.List.{list_all}

-- a decimal digit: the bytes of `0` to `9`
abbrev pub is_digit : ℕ → Bool
is_digit c = nat_le 48 c && nat_le c 57

-- the value of decimal digits, highest first
abbrev pub digits_value : List ℕ → ℕ
digits_value digits = fold (λ value digit. value * 10 + (digit - 48)) 0 digits

-- the number that a word of decimal digits writes, from one digit up to so many
abbrev pub digits_number : ℕ → List ℕ → Option ℕ
digits_number most word =
    if (nat_le 1 (length word) && nat_le (length word) most) && list_all is_digit word then Some (digits_value word) else None

-- the same, where the number is at least low and at most high
abbrev pub digits_within : (most low high : ℕ) → List ℕ → Option ℕ
digits_within most low high word = option_and_then (λ n. if nat_le low n && nat_le n high then Some n else None) (digits_number most word)
