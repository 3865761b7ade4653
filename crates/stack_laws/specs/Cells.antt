-- Cells: numbers at fixed addresses of memory that are always in an interval, wherever a run is. A store either misses the bytes of a cell,
-- or stores a number of its interval there.
use Rattle.std.specs.Prelude.{◌≡◌, ℕ, zero, suc, ◌+◌, ◌*◌, ◌^◌, ◌<◌, ◌≤◌, Option, Some, None}
use Rattle.scale_base.specs.declared.instruction.LoadOp.{LoadOp}
use Rattle.scale_base.specs.declared.instruction.LoadOp.TheVariants.{Lb, Lh, Lw, Lbu, Lhu}
use Rattle.scale_base.specs.Arith.{load_width}
use Rattle.bound_laws.specs.Values.{Arc, IsIn, ahead, top, top_of, Covers}

-- so many bytes from an address on, and the interval in which their number is
pub record Cell : Type 0 where
  pub at : ℕ
  pub width : ℕ
  pub values : Arc

-- the number of so many bytes from an address on, the lowest first
unfoldable pub number_at : (ℕ → ℕ) → ℕ → ℕ → ℕ
number_at bytes at zero = 0
number_at bytes at (suc n) = bytes at + 2 ^ 8 * number_at bytes (at + 1) n

abbrev pub IsCellHeld : Option Cell → (ℕ → ℕ) → Type 0
IsCellHeld None bytes = Unit {0}
IsCellHeld (Some c) bytes = IsIn c.values (number_at bytes c.at c.width)

-- the interval is this number alone
abbrev pub IsOnly : Option Arc → ℕ → Type 0
IsOnly None n = ⊥
IsOnly (Some i) n = (i.low ≡ n) × (i.more ≡ 0)

-- none of so many bytes from an address of the interval on is one of the cell's, modulo 2^32
abbrev pub IsBeside : Option Arc → ℕ → Cell → Type 0
IsBeside None width c = ⊥
IsBeside (Some i) width c = (i.more < ahead i.low c.at) × (width + i.more ≤ ahead i.low c.at) × (ahead i.low c.at + c.width ≤ 2 ^ 32)

-- What is stored with this width at an address of the interval is stored to the cell's bytes alone, and is one of the cell's numbers.
pub record IsStoredInto (place : Option Arc) (stored : ℕ) (numbers : Option Arc) (c : Cell) : Type 0 where
  pub place_is : IsOnly place c.at
  pub width_is : stored ≡ c.width
  pub short : top_of numbers < 2 ^ (8 * c.width)
  pub within : Covers (Some c.values) numbers

-- below this a load gives the number of the bytes as it is, without their sign
abbrev pub unsigned_below : LoadOp → ℕ
unsigned_below Lb = 2 ^ 7
unsigned_below Lh = 2 ^ 15
unsigned_below Lw = 2 ^ 32
unsigned_below Lbu = 2 ^ 8
unsigned_below Lhu = 2 ^ 16

-- A load at an address of the interval loads the cell's bytes alone, all of them, and none of the cell's numbers with a sign.
pub record IsLoadedFrom (op : LoadOp) (place : Option Arc) (c : Cell) : Type 0 where
  pub place_is : IsOnly place c.at
  pub width_is : load_width op ≡ c.width
  pub below : top c.values < unsigned_below op
