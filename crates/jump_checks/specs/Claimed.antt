-- Scaffold: what is claimed of registers and tables of targets, by the addresses of nodes, and what the code says of it, edge by edge.
use Rattle.std.specs.Prelude.{◌≡◌, ℕ, ◌+◌, ◌*◌, ◌<◌, true, List, length, slice_get, Option, Some, None}
use Rattle.scale_base.specs.declared.instruction.Instr.{Instr}
use Rattle.scale_base.specs.Image.{Image}
use Rattle.cost_theory.specs.Graph.{Graph}
use Rattle.code_text.specs.Text.{Text, instr_at}
use Rattle.flow_graph.specs.FlowGraph.{graph}
use Rattle.bound_laws.specs.Values.{Arc, Covers, IsRegister, Values, held, sum_with}
use Rattle.stack_laws.specs.Stacks.{IsExactly}
use Rattle.value_checks.specs.Tables.{beside}
use Rattle.stack_tables.specs.Tables.{IsStackClaim, address, text_in, values_in}
use Rattle.fixed_tables.specs.declared.table.Table.{Table}
use Rattle.fixed_tables.specs.Tables.{IsFixedWord}
use Rattle.jump_laws.specs.declared.reads.TableRead.{TableRead}
use Rattle.jump_laws.specs.Reads.{IsPlainTable, IsReadOver, addresses_in, raised, read_to}
use Rattle.jump_checks.specs.declared.claims.ReadClaim.{ReadClaim}

-- what stands beside an address
abbrev pub known_beside : List ℕ → List (Option TableRead) → ℕ → Option TableRead
known_beside nodes reads a = beside None nodes reads a

-- the same of a claim, which doesn't unfold by itself
unfoldable pub known_in : ReadClaim → ℕ → Option TableRead
known_in c a = known_beside c.claim.now.graph.now.code.nodes c.reads.now a

-- two tables for a program, and an entry for each node
pub record IsReadClaim (c : ReadClaim) : Type 0 where
  pub claim : IsStackClaim c.claim.now
  pub size : length c.reads.now ≡ length c.claim.now.graph.now.code.nodes

-- ---- of one instruction

-- a register and an offset give an address of a plain table's words
pub record IsWithinTable (v : Values) (a : ℕ) (table : Table) (rs1 offset : ℕ) : Type 0 where
  pub plain : IsPlainTable table
  pub covers : Covers (Some (addresses_in table)) (sum_with (held (v.at a) rs1) offset)

-- register r has a word, and register o a number that makes it one of another table
pub record IsRaisedFrom (v : Values) (known : ℕ → Option TableRead) (a r o : ℕ) (table : Table) : Type 0 where
  pub before : Table
  pub arc : Arc
  pub known_is : known a ≡ Some (read_to r before)
  pub exact : IsExactly v a o arc
  pub table_is : table ≡ raised before arc.low

abbrev pub IsReadThere : ReadClaim → ℕ → Instr → TableRead → Type 0
IsReadThere c k i x = IsReadOver (values_in c.claim.now) (known_in c) i (address c.claim.now k) x

-- ---- of an edge

pub record IsEdgeRead (t : Text) (g : Graph) (v : Values) (known : ℕ → Option TableRead) (e : ℕ) : Type 0 where
  pub step : (b : ℕ) (x : TableRead) → g.target e ≡ Some b → g.callee e ≡ None → known b ≡ Some x → v.live (g.source e) ≡ true →
      (i : Instr) → instr_at t (g.source e) ≡ Some i → IsReadOver v known i (g.source e) x
  pub call : (f : ℕ) → g.callee e ≡ Some f → known (g.entry f) ≡ None
  pub back : (f b : ℕ) → g.callee e ≡ Some f → g.target e ≡ Some b → known b ≡ None

-- of a claim's edge
abbrev pub IsEdgeSo : ReadClaim → ℕ → Type 0
IsEdgeSo c e = IsEdgeRead (text_in c.claim.now) (graph c.claim.now.graph.now) (values_in c.claim.now) (known_in c) e

-- what is known behind edge e, where that is no call
abbrev pub IsStepRead : ReadClaim → ℕ → Type 0
IsStepRead c e = (b : ℕ) (x : TableRead) → (graph c.claim.now.graph.now).target e ≡ Some b → known_in c b ≡ Some x →
    (values_in c.claim.now).live ((graph c.claim.now.graph.now).source e) ≡ true →
    (i : Instr) → instr_at (text_in c.claim.now) ((graph c.claim.now.graph.now).source e) ≡ Some i →
    IsReadOver (values_in c.claim.now) (known_in c) i ((graph c.claim.now.graph.now).source e) x

-- by nodes: what is known at node n is so behind node k
abbrev pub IsKnownOver : ReadClaim → ℕ → ℕ → Type 0
IsKnownOver c k n = (x : TableRead) → known_in c (address c.claim.now n) ≡ Some x →
    (values_in c.claim.now).live (address c.claim.now k) ≡ true →
    (i : Instr) → instr_at (text_in c.claim.now) (address c.claim.now k) ≡ Some i → IsReadThere c k i x

-- nothing is known at node n
abbrev pub IsNothing : ReadClaim → ℕ → Type 0
IsNothing c n = known_in c (address c.claim.now n) ≡ None

-- what is known behind a call at edge e
abbrev pub IsBackRead : ReadClaim → ℕ → Type 0
IsBackRead c e = (b : ℕ) → (graph c.claim.now.graph.now).target e ≡ Some b → known_in c b ≡ None

-- nothing is known where function f begins
abbrev pub IsEntryRead : ReadClaim → ℕ → Type 0
IsEntryRead c f = known_in c ((graph c.claim.now.graph.now).entry f) ≡ None

-- the registers of all that is known
abbrev pub AreOfRegisters : List (Option TableRead) → Type 0
AreOfRegisters reads = (k : ℕ) (x : TableRead) → slice_get reads k ≡ Some (Some x) → IsRegister x.register

-- ---- words

-- each word of a table is in bytes that no store can change
abbrev pub AreFixed : Image → Table → Type 0
AreFixed image table = (k : ℕ) → k < table.count → (word : ℕ) × IsFixedWord image (table.at + table.step * k) word

abbrev pub IsReadFixed : Image → Option TableRead → Type 0
IsReadFixed image None = Unit {0}
IsReadFixed image (Some x) = AreFixed image x.table
