-- The addresses in a loop file. An address is an integer, or a text with the name of a symbol and maybe an offset behind it: `name`,
-- `name+16`, `name+0x1f`.
use Rattle.std.specs.Prelude.{codes, nat_eq, ℕ, ◌+◌, ◌-◌, ◌^◌, ◌&&◌, ◌==◌, ◌≢◌, ◌<◌, nat_lt, nat_le, if◌then◌else◌, Bool, List, [], ◌∷◌, length, drop, slice_index, Option, Some, None, option_map, option_and_then, Result, Ok, Err}
use Rattle.std.specs.Char.{is_digit}
use Rattle.std.specs.List.{list_all, starts_with}
use Rattle.std.specs.Str.Parse.{digits_value}
use Rattle.toml.specs.Data.{Data, string, integer, Items, no_items, item, as_array}
use Rattle.scale_base.specs.declared.ranges.Range.{Range}
use Rattle.scale_base.specs.Image.{Image}
use Rattle.scale_base.specs.Symbols.{symbol_value}
use Rattle.table_keys.specs.Keys.{number_of, ◌>>=◌}
use Rattle.loop_file.specs.declared.address.Fault.{Fault}
use Rattle.loop_file.specs.declared.address.Fault.TheVariants.{Absent, Bad}

-- ---- faults

-- this value, or something is wrong
abbrev pub or_bad : {A : Type 0} → Option A → Result A Fault
or_bad None = Err Bad
or_bad (Some x) = Ok x

-- this value, or only a symbol is absent
abbrev pub or_absent : {A : Type 0} → Option A → Result A Fault
or_absent None = Err Absent
or_absent (Some x) = Ok x

-- of two faults, an absent symbol decides only where nothing else is wrong
abbrev pub worse : Fault → Fault → Fault
worse Bad g = Bad
worse Absent g = g

-- both values
abbrev pub both : {A B : Type 0} → Result A Fault → Result B Fault → Result (A × B) Fault
both (Ok a) (Ok b) = Ok (a, b)
both (Ok a) (Err g) = Err g
both (Err f) (Ok b) = Err f
both (Err f) (Err g) = Err (worse f g)

-- a value and those after it
abbrev pub onto : {A : Type 0} → Result A Fault → Result (List A) Fault → Result (List A) Fault
onto (Ok x) (Ok xs) = Ok (x ∷ xs)
onto (Ok x) (Err g) = Err g
onto (Err f) (Ok xs) = Err f
onto (Err f) (Err g) = Err (worse f g)

-- ---- the texts of addresses

-- each byte is a digit in the base, where the letters of either case stand for 10 and more
abbrev pub all_digits : ℕ → List ℕ → Bool
all_digits base text = list_all (λ c. is_digit c base) text

-- the number that one or more digits write
abbrev pub numeral : ℕ → List ℕ → Option ℕ
numeral base text = if nat_lt 0 (length text) && all_digits base text then Some (digits_value base text) else None

-- addresses and offsets are below 2^32
abbrev pub address_within : ℕ → Option ℕ
address_within n = if nat_lt n (2 ^ 32) then Some n else None

-- the offset behind a name: decimal digits, or `0x` and hexadecimal digits
abbrev pub offset_of : List ℕ → Option ℕ
offset_of text =
    option_and_then address_within (if starts_with nat_eq text (codes "0x") then numeral 16 (drop 2 text) else numeral 10 text)

-- there is no `+`
abbrev pub HasNoPlus : List ℕ → Type 0
HasNoPlus text = (k : ℕ) → k < length text → slice_index text k ≢ 43

-- what stands before the last `+`, and what stands behind it
abbrev pub split_here : ℕ → List ℕ → Option (List ℕ × List ℕ) → Option (List ℕ × List ℕ)
split_here c cs (Some p) = Some (c ∷ p.0, p.1)
split_here c cs None = if c == 43 then Some ([], cs) else None

abbrev pub split_last : List ℕ → Option (List ℕ × List ℕ)
split_last [] = None
split_last (c ∷ cs) = split_here c cs (split_last cs)

-- a name, and the offset behind the last `+` where there is one
abbrev pub with_offset : List ℕ → Option (List ℕ × List ℕ) → Option (List ℕ × ℕ)
with_offset text None = Some (text, 0)
with_offset text (Some p) = option_map (λ k. (p.0, k)) (offset_of p.1)

abbrev pub name_and_offset : List ℕ → Option (List ℕ × ℕ)
name_and_offset text = with_offset text (split_last text)

-- ---- ranges

-- two addresses, the first below the second
abbrev pub in_order : ℕ × ℕ → Result Range Fault
in_order ends = if nat_lt ends.0 ends.1 then Ok (record { from = ends.0; to = ends.1 }) else Err Bad

-- how many items there are
abbrev pub items_count : Items → ℕ
items_count no_items = 0
items_count (item d ds) = items_count ds + 1

-- the items, where they are 1 to 16
abbrev pub few_items : Items → Option Items
few_items ds = if nat_le 1 (items_count ds) && nat_le (items_count ds) 16 then Some ds else None

-- the two items, where there are two
abbrev pub pair_of : Items → Option (Data × Data)
pair_of (item a (item b no_items)) = Some (a, b)
pair_of _ = None

module _ (image : Image) where
  -- the address of a symbol and an offset
  abbrev pub symbol_address : List ℕ × ℕ → Result ℕ Fault
  symbol_address ([], offset) = Err Bad
  symbol_address (c ∷ cs, offset) = or_absent (symbol_value image.file (c ∷ cs)) >>= λ value. or_bad (address_within (value + offset))

  -- the address that a value gives
  unfoldable pub address_of : Data → Result ℕ Fault
  address_of (integer z) = or_bad (number_of 0 (2 ^ 32 - 1) (integer z))
  address_of (string text) = or_bad (name_and_offset text) >>= symbol_address
  address_of _ = Err Bad

  -- a range: an array of two addresses
  unfoldable pub read_range : Data → Result Range Fault
  read_range d = or_bad (option_and_then pair_of (as_array d)) >>= λ p. both (address_of p.0) (address_of p.1) >>= in_order

  -- the ranges of a list of values
  abbrev pub all_ranges : Items → Result (List Range) Fault
  all_ranges no_items = Ok []
  all_ranges (item d ds) = onto (read_range d) (all_ranges ds)

  -- the ranges of a value: 1 to 16 of them
  unfoldable pub read_ranges : Data → Result (List Range) Fault
  read_ranges d = or_bad (option_and_then few_items (as_array d)) >>= all_ranges
