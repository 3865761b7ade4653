-- What a table of a lower bound says at an address is what stands at the number of its node.
use Rattle.std.proofs.Common.{◌≡◌, ℕ, ◌<◌, false, List, length, Some, refl, sym}
use Rattle.std.specs.Prelude.{slice_get}
use Rattle.std.proofs.lemmas.Option.{slice_get-get_or}
use Rattle.value_checks.specs.Tables.{beside, or_other}
use Rattle.value_checks.proofs.Laws.{beside_is}
use Rattle.stack_tables.specs.declared.claims.StackClaim.{StackClaim}
use Rattle.stack_tables.specs.Tables.{IsStackClaim, address}
use Rattle.lower_bounds.specs.declared.tables.LowerTable.{LowerTable}
use Rattle.lower_bounds.specs.LowerTables.{certificate_in, counter_view, AreEntries}

pub there : (c : StackClaim) (k : ℕ) → k < length c.graph.now.code.nodes → slice_get c.graph.now.code.nodes k ≡ Some (address c k)
unfolding address
there c k lt = slice_get-get_or c.graph.now.code.nodes k 0 lt

seen : {A : Type 0} (other : A) (c : StackClaim) → IsStackClaim c → (xs : List A) → length xs ≡ length c.graph.now.code.nodes → (k : ℕ) → k < length c.graph.now.code.nodes → or_other other (slice_get xs k) ≡ beside other c.graph.now.code.nodes xs (address c k)
seen other c is xs size k lt = sym (beside_is other c.graph.now is.graph_is.flow xs size k (address c k) (there c k lt))

pub body_seen : (c : StackClaim) (t : LowerTable) → IsStackClaim c → AreEntries c.graph.now.code.nodes t → (k : ℕ) → k < length c.graph.now.code.nodes → or_other false (slice_get t.body.items k) ≡ (certificate_in c t).body (address c k)
unfolding certificate_in
body_seen c t is sized k lt = seen false c is t.body.items sized.body k lt

pub quiet_seen : (c : StackClaim) (t : LowerTable) → IsStackClaim c → AreEntries c.graph.now.code.nodes t → (k : ℕ) → k < length c.graph.now.code.nodes → or_other false (slice_get t.quiet.items k) ≡ (certificate_in c t).quiet (address c k)
unfolding certificate_in
quiet_seen c t is sized k lt = seen false c is t.quiet.items sized.quiet k lt

pub adds_seen : (c : StackClaim) (t : LowerTable) → IsStackClaim c → AreEntries c.graph.now.code.nodes t → (k : ℕ) → k < length c.graph.now.code.nodes → or_other 0 (slice_get t.adds.items k) ≡ (certificate_in c t).adds (address c k)
unfolding certificate_in
adds_seen c t is sized k lt = seen 0 c is t.adds.items sized.adds k lt

pub added_seen : (c : StackClaim) (t : LowerTable) → IsStackClaim c → AreEntries c.graph.now.code.nodes t → (k : ℕ) → k < length c.graph.now.code.nodes → or_other 0 (slice_get t.added.items k) ≡ (certificate_in c t).added (address c k)
unfolding certificate_in
added_seen c t is sized k lt = seen 0 c is t.added.items sized.added k lt

pub counter_seen : (c : StackClaim) (t : LowerTable) → counter_view t.counter ≡ (certificate_in c t).counter
unfolding certificate_in
counter_seen c t = refl

pub first_seen : (c : StackClaim) (t : LowerTable) → t.first ≡ (certificate_in c t).first
unfolding certificate_in
first_seen c t = refl

pub most_seen : (c : StackClaim) (t : LowerTable) → t.most ≡ (certificate_in c t).most
unfolding certificate_in
most_seen c t = refl
