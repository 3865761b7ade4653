-- Words of tables that are known are in bytes that no store can change.
use Rattle.std.proofs.Common.{◌≡◌, ℕ, ◌+◌, ◌*◌, ◌<◌, Some}
use Rattle.std.specs.Prelude.{slice_get}
use Rattle.scale_base.specs.Layout.{layout_of}
use Rattle.jump_laws.specs.declared.reads.TableRead.{TableRead}
use Rattle.jump_laws.specs.Laws.{AreUnwritten}
use Rattle.jump_laws.proofs.Laws.{fixed_stay}
use Rattle.jump_checks.specs.declared.claims.ReadClaim.{ReadClaim}
use Rattle.jump_checks.specs.Claimed.{AreFixed, IsReadClaim, known_beside}
use Rattle.jump_checks.proofs.Seen.{known_number}

pub unwritten_all : (c : ReadClaim) → IsReadClaim c → ((k : ℕ) (x : TableRead) → slice_get c.reads.now k ≡ Some (Some x) → AreFixed c.claim.now.view.now x.table) →
    AreUnwritten (layout_of c.claim.now.view.now) (known_beside c.claim.now.graph.now.code.nodes c.reads.now)
unwritten_all c is all a x e k lt =
    let f = known_number c.claim.now.graph.now.code.nodes c.reads.now a x e in
    let w = all f.0 x f.1 k lt in
    (fixed_stay c.claim.now.view.now.file c.claim.now.view.now (x.table.at + x.table.step * k) w.0 is.claim.image w.1).1
