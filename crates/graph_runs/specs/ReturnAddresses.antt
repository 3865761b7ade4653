-- The return addresses of the calls that a run is in. By the calling convention of RISC-V (RISC-V ABIs Specification), JAL with rd x1 is a
-- call, and JALR x0, 0(x1) a return.
use Rattle.std.specs.Prelude.{ℕ, ◌==◌, List, [], ◌∷◌, Option, Some, None, if◌then◌else◌}
use Rattle.scale_base.specs.declared.stepping.Move.{Move}
use Rattle.scale_base.specs.declared.stepping.Move.TheVariants.{Local, Call, Return}
use Rattle.scale_base.specs.declared.stepping.Stepped.{Stepped}
use Rattle.scale_base.specs.Arith.{plus}

-- A return goes to the last address of the list, which is taken off. None where it goes elsewhere, or the list is empty.
abbrev pub returned : List ℕ → ℕ → Option (List ℕ)
returned [] next = None
returned (r ∷ rs) next = if r == next then Some rs else None

-- a call puts the address behind it on the list
abbrev pub returns_by : Move → List ℕ → Stepped → Option (List ℕ)
returns_by Local rs x = Some rs
returns_by Call rs x = Some (plus x.pc 4 ∷ rs)
returns_by Return rs x = returned rs x.next

-- the return addresses after a step that goes on
abbrev pub returns_after : List ℕ → Stepped → Option (List ℕ)
returns_after rs x = returns_by x.moved rs x
