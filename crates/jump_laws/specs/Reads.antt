-- Scaffold: registers that have a word of a table of targets: what is known of them at each address, and what the code has to say, edge by edge, so that it is so along
-- each run. A switch reads the address of a case from a table (Aho, Lam, Sethi and Ullman, Compilers, section 6.8), and jumps there.
use Rattle.std.specs.Prelude.{◌≡◌, ℕ, ℤ, ◌+◌, ◌-◌, ◌*◌, ◌%◌, ◌^◌, ◌<◌, true, List, Option, Some, None}
use Rattle.scale_base.specs.declared.instruction.LoadOp.TheVariants.{Lw}
use Rattle.scale_base.specs.declared.instruction.RegOp.TheVariants.{Add}
use Rattle.scale_base.specs.declared.instruction.Instr.{Instr}
use Rattle.scale_base.specs.declared.instruction.Instr.TheVariants.{Load, Reg}
use Rattle.scale_base.specs.Arith.{plus, unsigned}
use Rattle.scale_base.specs.State.{reg, word_at}
use Rattle.cost_theory.specs.Graph.{Graph}
use Rattle.code_text.specs.Text.{Text, instr_at}
use Rattle.bound_laws.specs.Registers.{keeps}
use Rattle.bound_laws.specs.Turning.{Leads, Calls}
use Rattle.bound_laws.specs.Values.{Arc, Covers, IsRegister, Steps, Values, held, strided, sum_with}
use Rattle.stack_laws.specs.Stacks.{IsExactly}
use Rattle.fixed_tables.specs.declared.table.Table.{Table}
use Rattle.jump_laws.specs.declared.reads.TableRead.{TableRead}

-- ---- words of a table

-- what word k of a table gives, with these bytes in memory
abbrev pub entry_of : (ℕ → ℕ) → Table → ℕ → ℕ
entry_of bytes table k = (table.base + word_at bytes (table.at + table.step * k)) % 2 ^ 32

abbrev pub IsEntryOf : (ℕ → ℕ) → Table → ℕ → Type 0
IsEntryOf bytes table value = (k : ℕ) × (k < table.count) × (value ≡ entry_of bytes table k)

-- the register that is known to have one has one
abbrev pub IsRead : (ℕ → ℕ) → Option TableRead → List ℕ → Type 0
IsRead bytes None regs = Unit {0}
IsRead bytes (Some x) regs = IsEntryOf bytes x.table (reg regs x.register)

-- the addresses of a table's words
abbrev pub addresses_in : Table → Arc
addresses_in table = strided table.at (table.step * (table.count - 1)) table.step

-- a table of words that are addresses, all of them below 2^32
pub record IsPlainTable (table : Table) : Type 0 where
  pub base : table.base ≡ 0
  pub some : 0 < table.count
  pub apart : 0 < table.step
  pub fits : table.at + table.step * (table.count - 1) < 2 ^ 32

-- the table with so much more added to its words
abbrev pub raised : Table → ℕ → Table
raised table n = record table { base = plus table.base n }

abbrev pub read_to : ℕ → Table → TableRead
read_to register table = record { register = register; table = table }

-- ---- what the code has to say, where `known` gives by address what is known before the instruction there

-- over an edge of the instruction at a, which is no call: the register is left, or it is loaded by an address of the table, or a number is added to it
pub data IsReadOver (v : Values) (known : ℕ → Option TableRead) (i : Instr) (a : ℕ) (x : TableRead) : Type 0 where
  kept : known a ≡ Some x → keeps x.register i ≡ true → IsReadOver v known i a x
  loaded : (rs1 : ℕ) (offset : ℤ) → i ≡ Load Lw x.register rs1 offset → IsPlainTable x.table →
      Covers (Some (addresses_in x.table)) (sum_with (held (v.at a) rs1) (unsigned offset)) → IsReadOver v known i a x
  added : (rs1 rs2 : ℕ) (c : Arc) (table : Table) → i ≡ Reg Add x.register rs1 rs2 → known a ≡ Some (read_to rs1 table) →
      IsExactly v a rs2 c → x.table ≡ raised table c.low → IsReadOver v known i a x
  added_to : (rs1 rs2 : ℕ) (c : Arc) (table : Table) → i ≡ Reg Add x.register rs1 rs2 → known a ≡ Some (read_to rs2 table) →
      IsExactly v a rs1 c → x.table ≡ raised table c.low → IsReadOver v known i a x

-- Each clause is about one edge of the graph, or about two of one call. Nothing is known where a function begins, behind a call, and where a run begins.
pub record AreReads (t : Text) (g : Graph) (v : Values) (known : ℕ → Option TableRead) : Type 0 where
  pub registers : (a : ℕ) (x : TableRead) → known a ≡ Some x → IsRegister x.register
  pub steps : (a b : ℕ) (i : Instr) (x : TableRead) → Steps g a b → v.live a ≡ true → instr_at t a ≡ Some i → known b ≡ Some x →
      IsReadOver v known i a x
  pub calls : (a b : ℕ) → Calls g a b → known b ≡ None
  pub back : (u to b : ℕ) → Calls g u to → Leads g u b → known b ≡ None
  pub start : known t.entry ≡ None
