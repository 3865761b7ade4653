-- Areas: intervals of addresses that hold all that an instruction may load from or store to. Anything else traps, and a run that traps takes no
-- further step (RISC-V Unprivileged ISA, "Load and Store Instructions": an access fault). So behind a load or a store, its register is where its
-- interval and the areas have something in common.
use Rattle.std.specs.Prelude.{◌≡◌, ℕ, ℤ, ◌+◌, ◌-◌, ◌^◌, ◌<◌, ◌⊎◌, ◌||◌, true, Option, Some, None, is_some}
use Rattle.scale_base.specs.declared.instruction.LoadOp.{LoadOp}
use Rattle.scale_base.specs.declared.instruction.StoreOp.{StoreOp}
use Rattle.scale_base.specs.declared.instruction.Instr.{Instr}
use Rattle.scale_base.specs.declared.instruction.Instr.TheVariants.{Load, Store}
use Rattle.scale_base.specs.Arith.{unsigned}
use Rattle.scale_base.specs.Layout.{Layout, may_read, may_write}
use Rattle.bound_laws.specs.Registers.{Measure, keeps}
use Rattle.bound_laws.specs.Values.{Arc, IsIn, ahead, scaled, sum_with, difference_of, opposite_of, solved, held, passed, Covers, meet_of, Values}
use Rattle.stack_laws.specs.Making.{IsSide}
use Rattle.stack_laws.specs.Fixed.{AreUnwritten}

-- each byte that may be read or written is in one of the areas, which have numbers
abbrev pub AreAreas : Layout → (ℕ → Option Arc) → Type 0
AreAreas l areas = (at : ℕ) → may_read l at || may_write l at ≡ true → (k : ℕ) × (x : Arc) × (areas k ≡ Some x) × IsIn x at

-- what a run's layout says of its addresses: no segment is keyed, these are areas, and no store changes these bytes
pub record IsLaidOut (l : Layout) (areas : ℕ → Option Arc) (fixed : ℕ → Option ℕ) : Type 0 where
  pub keyless : l.keyed ≡ None
  pub within : AreAreas l areas
  pub unwritten : AreUnwritten l fixed

-- the instruction loads from, or stores to, the address that is so much more than what the register holds, modulo 2^32
pub data IsAccess (i : Instr) (r more : ℕ) : Type 0 where
  loads : (op : LoadOp) (rd : ℕ) (offset : ℤ) → i ≡ Load op rd r offset → unsigned offset ≡ more → IsAccess i r more
  stores : (op : StoreOp) (rs2 : ℕ) (offset : ℤ) → i ≡ Store op r rs2 offset → unsigned offset ≡ more → IsAccess i r more

-- no number of the one is in the other
abbrev pub AreDisjoint : Option Arc → Arc → Type 0
AreDisjoint None x = ⊥
AreDisjoint (Some i) x = (i.more < ahead i.low x.low) × (ahead i.low x.low + x.more < 2 ^ 32)

-- what is in the first interval and in one of the areas is in the second one, with the stride of the first
abbrev pub IsCutTo : (ℕ → Option Arc) → Option Arc → Arc → Type 0
IsCutTo areas i c = (k : ℕ) (x : Arc) → areas k ≡ Some x → AreDisjoint i x ⊎ Covers (Some c) (meet_of i (Some x))

-- The address of an access by register r of the instruction at a is in this interval.
pub record IsAccessedIn (v : Values) (areas : ℕ → Option Arc) (i : Instr) (a r more : ℕ) (c : Arc) : Type 0 where
  pub access : IsAccess i r more
  -- the register holds a word
  pub known : is_some (held (v.at a) r) ≡ true
  pub cut : IsCutTo areas (sum_with (held (v.at a) r) more) c

-- A register's interval at b: by an access that leaves the register as it is.
pub record IsCoveredByAccess (v : Values) (areas : ℕ → Option Arc) (i : Instr) (a b r : ℕ) : Type 0 where
  pub left : keeps r i ≡ true
  pub more : ℕ
  pub place : Arc
  pub accessed : IsAccessedIn v areas i a r more place
  pub covers : Covers (v.at b r) (sum_with (Some place) (opposite_of more))

-- The first register of a sum by the sum's interval and by that of the other register: it is in the sum once, or the sum is so much less.
pub data IsSolvedTo (m : Measure) (line other solution : Option Arc) : Type 0 where
  once : m.factor ≡ 1 → solution ≡ solved m line other → IsSolvedTo m line other solution
  less : m.factor ≡ 2 ^ 32 - 1 → solution ≡ sum_with (difference_of (scaled m.other_factor other) line) m.shift →
      IsSolvedTo m line other solution

-- A register's interval at b: the instruction leaves it, and accesses memory by another one, which it may overwrite. Before it the line of a
-- sum of both gives the register, by where the access may be.
pub record IsSolvedByAccess (v : Values) (areas : ℕ → Option Arc) (i : Instr) (a b r : ℕ) : Type 0 where
  pub left : keeps r i ≡ true
  -- the register is a word
  pub known : is_some (passed i a b (v.at a) r) ≡ true
  pub number : ℕ
  pub form : Measure
  pub is_side : IsSide form (v.forms number)
  pub register : form.register ≡ r
  pub more : ℕ
  pub place : Arc
  pub accessed : IsAccessedIn v areas i a form.other more place
  pub solution : Option Arc
  pub solves : IsSolvedTo form (v.lines a number) (sum_with (Some place) (opposite_of more)) solution
  pub covers : Covers (v.at b r) solution ⊎ Covers (v.at b r) (meet_of solution (passed i a b (v.at a) r))
