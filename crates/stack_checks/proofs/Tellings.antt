-- What is to show of what registers tell, case by case.
use Rattle.std.proofs.Common.{◌≡◌, ℕ, ◌⊎◌, ⊎_elim, ◌<◌, get_or, true, false, List, length, Option, Some, sym, ap, ◌∙◌}
use Rattle.std.specs.List.{All}
use Rattle.std.specs.Prelude.{slice_get, option_map}
use Rattle.std.proofs.lemmas.Option.{slice_get-get_or}
use Rattle.scale_base.specs.declared.instruction.RegOp.{RegOp}
use Rattle.scale_base.specs.declared.instruction.RegOp.TheVariants.{And, Or}
use Rattle.scale_base.specs.declared.instruction.Instr.{Instr}
use Rattle.scale_base.specs.declared.instruction.Instr.TheVariants.{Reg}
use Rattle.bound_laws.specs.Values.{Values}
use Rattle.stack_laws.specs.Telling as telling
use Rattle.stack_laws.specs.Telling.{IsHanded, IsToldBehind, IsToldOver}
use Rattle.stack_laws.specs.Telling.IsHanded.{both_first, both_second, either_first, either_second}
use Rattle.stack_tables.specs.declared.tables.Told.{Told}
use Rattle.stack_tables.specs.Tables.{told_in, told_view}
use Rattle.stack_checks.proofs.CellRows.{of_each}

-- an operation of two registers, of which one is z's teller
first_is : (op other : RegOp) (r s rs1 rs2 : ℕ) → op ≡ other → rs1 ≡ s → Reg op r rs1 rs2 ≡ Reg other r s rs2
first_is op other r s rs1 rs2 same e = ap (λ (o : RegOp). Reg o r rs1 rs2) same ∙ ap (λ (x : ℕ). Reg other r x rs2) e

second_is : (op other : RegOp) (r s rs1 rs2 : ℕ) → op ≡ other → rs2 ≡ s → Reg op r rs1 rs2 ≡ Reg other r rs1 s
second_is op other r s rs1 rs2 same e = ap (λ (o : RegOp). Reg o r rs1 rs2) same ∙ ap (λ (x : ℕ). Reg other r rs1 x) e

pub both_of : (v : Values) (a : ℕ) (op : RegOp) (rs1 rs2 : ℕ) (z y : telling.Told) → op ≡ And → (rs1 ≡ z.teller) ⊎ (rs2 ≡ z.teller) → z.zero ≡ false → y.zero ≡ false → IsHanded v (Reg op y.teller rs1 rs2) a z y
both_of v a op rs1 rs2 z y same one not_z not_y = ⊎_elim
    (λ (e : rs1 ≡ z.teller). both_first rs2 (first_is op And y.teller z.teller rs1 rs2 same e) not_z not_y)
    (λ (e : rs2 ≡ z.teller). both_second rs1 (second_is op And y.teller z.teller rs1 rs2 same e) not_z not_y) one

pub either_of : (v : Values) (a : ℕ) (op : RegOp) (rs1 rs2 : ℕ) (z y : telling.Told) → op ≡ Or → (rs1 ≡ z.teller) ⊎ (rs2 ≡ z.teller) → z.zero ≡ true → y.zero ≡ true → IsHanded v (Reg op y.teller rs1 rs2) a z y
either_of v a op rs1 rs2 z y same one is_z is_y = ⊎_elim
    (λ (e : rs1 ≡ z.teller). either_first rs2 (first_is op Or y.teller z.teller rs1 rs2 same e) is_z is_y)
    (λ (e : rs2 ≡ z.teller). either_second rs1 (second_is op Or y.teller z.teller rs1 rs2 same e) is_z is_y) one

-- ---- rows

-- what stands at a place of a row
pub stands : {A : Type 0} (xs : List A) (n : ℕ) (x : A) → n < length xs → x ≡ get_or xs n x → slice_get xs n ≡ Some x
stands xs n x within is = slice_get-get_or xs n x within ∙ ap Some (sym is)

pub told_of : (xs : List Told) (n : ℕ) (x : Told) (o : Option telling.Told) → told_in xs n ≡ o → slice_get xs n ≡ Some x → o ≡ Some (told_view x)
told_of xs n x o same at = sym same ∙ ap (option_map told_view) at

pub behind_all : (v : Values) (told : ℕ → Option telling.Told) (i : Instr) (a b : ℕ) (xs : List Told) → All (λ (y : Told). IsToldOver v told i a b (told_view y)) xs → (j : ℕ) → IsToldBehind v told i a b (told_in xs j)
behind_all v told i a b xs all = of_each told_view (IsToldBehind v told i a b) tt xs all
