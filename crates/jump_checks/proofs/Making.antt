-- What the rules of an instruction say of what is known.
use Rattle.std.proofs.Common.{ℕ, Some, refl, sym, subst}
use Rattle.scale_base.specs.declared.instruction.RegOp.TheVariants.{Add}
use Rattle.scale_base.specs.declared.instruction.Instr.{Instr}
use Rattle.scale_base.specs.declared.instruction.Instr.TheVariants.{Reg}
use Rattle.bound_laws.specs.Values.{Covers, held, sum_with}
use Rattle.stack_tables.specs.Tables.{address, values_in}
use Rattle.jump_laws.specs.declared.reads.TableRead.{TableRead}
use Rattle.jump_laws.specs.Reads.{addresses_in}
use Rattle.jump_laws.specs.Reads.IsReadOver.{added, added_to, loaded}
use Rattle.jump_checks.specs.declared.claims.ReadClaim.{ReadClaim}
use Rattle.jump_checks.specs.declared.origins.Origin.TheVariants.{Loaded, Sum}
use Rattle.jump_checks.specs.Origins.{IsOrigin}
use Rattle.jump_checks.specs.Claimed.{IsRaisedFrom, IsReadThere, IsWithinTable, known_in}

pub loaded_so : (c : ReadClaim) (k : ℕ) (i : Instr) (x : TableRead) (rs1 more : ℕ) → IsOrigin i x.register (Loaded rs1 more) → IsWithinTable (values_in c.claim.now) (address c.claim.now k) x.table rs1 more → IsReadThere c k i x
loaded_so c k i x rs1 more o w =
    loaded rs1 o.0 o.1 w.plain (subst (λ (n : ℕ). Covers (Some (addresses_in x.table)) (sum_with (held ((values_in c.claim.now).at (address c.claim.now k)) rs1) n)) (sym o.2) w.covers)

pub added_so : (c : ReadClaim) (k : ℕ) (x : TableRead) (rs1 rs2 : ℕ) → IsRaisedFrom (values_in c.claim.now) (known_in c) (address c.claim.now k) rs1 rs2 x.table → IsReadThere c k (Reg Add x.register rs1 rs2) x
added_so c k x rs1 rs2 w = added rs1 rs2 w.arc w.before refl w.known_is w.exact w.table_is

pub added_to_so : (c : ReadClaim) (k : ℕ) (x : TableRead) (rs1 rs2 : ℕ) → IsRaisedFrom (values_in c.claim.now) (known_in c) (address c.claim.now k) rs2 rs1 x.table → IsReadThere c k (Reg Add x.register rs1 rs2) x
added_to_so c k x rs1 rs2 w = added_to rs1 rs2 w.arc w.before refl w.known_is w.exact w.table_is

pub sum_so : (c : ReadClaim) (k : ℕ) (i : Instr) (x : TableRead) (rs1 rs2 : ℕ) → IsOrigin i x.register (Sum rs1 rs2) → IsReadThere c k (Reg Add x.register rs1 rs2) x → IsReadThere c k i x
sum_so c k i x rs1 rs2 o r = subst (λ (j : Instr). IsReadThere c k j x) (sym o) r
