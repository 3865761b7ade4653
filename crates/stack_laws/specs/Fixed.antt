-- Fixed bytes: bytes of memory that no store changes, since a store to them traps, and what loads of them give (RISC-V Unprivileged ISA,
-- "Load and Store Instructions").
use Rattle.std.specs.Prelude.{◌≡◌, ℕ, ◌%◌, false, Option, Some}
use Rattle.scale_base.specs.declared.instruction.LoadOp.{LoadOp}
use Rattle.scale_base.specs.Arith.{load_width, loaded}
use Rattle.scale_base.specs.Layout.{Layout, may_write}
use Rattle.bound_laws.specs.Values.{Arc, IsIn, IsHeld}

-- memory has each of these bytes, by address
abbrev pub AreFixedIn : (ℕ → Option ℕ) → (ℕ → ℕ) → Type 0
AreFixedIn fixed bytes = (at byte : ℕ) → fixed at ≡ Some byte → bytes at ≡ byte

-- and none of them may be written
abbrev pub AreUnwritten : Layout → (ℕ → Option ℕ) → Type 0
AreUnwritten l fixed = (at byte : ℕ) → fixed at ≡ Some byte → may_write l at ≡ false

-- A load at an address of the one interval gives a number of the other one, whatever memory has elsewhere. A load whose address isn't a
-- multiple of its width traps.
abbrev pub GivesFixed : (ℕ → Option ℕ) → LoadOp → Arc → Option Arc → Type 0
GivesFixed fixed op place values = (at : ℕ) → IsIn place at → at % load_width op ≡ 0 → (bytes : ℕ → ℕ) → AreFixedIn fixed bytes →
    IsHeld values (loaded op bytes at)
