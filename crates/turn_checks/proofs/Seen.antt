-- What a table of turns says at an address is what stands at the number of its node.
use Rattle.std.proofs.Common.{◌≡◌, ℕ, ◌<◌, false, List, [], length, Some, sym, ap, ◌∙◌}
use Rattle.std.specs.Prelude.{slice_get, Vec}
use Rattle.std.specs.declared.alloc.Global.{Global}
use Rattle.std.proofs.lemmas.List.{length-map}
use Rattle.std.proofs.lemmas.Option.{slice_get-get_or}
use Rattle.value_checks.specs.Tables.{beside, or_other}
use Rattle.value_checks.proofs.Laws.{beside_is}
use Rattle.stack_tables.specs.declared.claims.StackClaim.{StackClaim}
use Rattle.stack_tables.specs.Tables.{IsStackClaim, address}
use Rattle.turn_checks.specs.declared.tables.Relation.{Relation}
use Rattle.turn_checks.specs.declared.tables.Relation.TheVariants.{Unknown}
use Rattle.turn_checks.specs.declared.tables.TurnTable.{TurnTable}
use Rattle.turn_checks.specs.Turned.{AreTurns, certificate_in, relation_in, relation_view, rows_view}

pub there : (c : StackClaim) (k : ℕ) → k < length c.graph.now.code.nodes → slice_get c.graph.now.code.nodes k ≡ Some (address c k)
unfolding address
there c k lt = slice_get-get_or c.graph.now.code.nodes k 0 lt

seen : {A : Type 0} (other : A) (c : StackClaim) → IsStackClaim c → (xs : List A) → length xs ≡ length c.graph.now.code.nodes → (k : ℕ) → k < length c.graph.now.code.nodes → or_other other (slice_get xs k) ≡ beside other c.graph.now.code.nodes xs (address c k)
seen other c is xs size k lt = sym (beside_is other c.graph.now is.graph_is.flow xs size k (address c k) (there c k lt))

pub body_seen : (c : StackClaim) (t : TurnTable) → IsStackClaim c → AreTurns c.graph.now.code.nodes t → (k : ℕ) → k < length c.graph.now.code.nodes → or_other false (slice_get t.body.items k) ≡ (certificate_in c t).body (address c k)
unfolding certificate_in
body_seen c t is sized k lt = seen false c is t.body.items sized.body k lt

pub quiet_seen : (c : StackClaim) (t : TurnTable) → IsStackClaim c → AreTurns c.graph.now.code.nodes t → (k : ℕ) → k < length c.graph.now.code.nodes → or_other false (slice_get t.quiet.items k) ≡ (certificate_in c t).quiet (address c k)
unfolding certificate_in
quiet_seen c t is sized k lt = seen false c is t.quiet.items sized.quiet k lt

pub used_seen : (c : StackClaim) (t : TurnTable) → IsStackClaim c → AreTurns c.graph.now.code.nodes t → (k : ℕ) → k < length c.graph.now.code.nodes → or_other false (slice_get t.used.items k) ≡ (certificate_in c t).used (address c k)
unfolding certificate_in
used_seen c t is sized k lt = seen false c is t.used.items sized.used k lt

pub own_seen : (c : StackClaim) (t : TurnTable) → IsStackClaim c → AreTurns c.graph.now.code.nodes t → (k : ℕ) → k < length c.graph.now.code.nodes → relation_view (or_other Unknown (slice_get t.own.items k)) ≡ (certificate_in c t).own (address c k)
unfolding certificate_in
own_seen c t is sized k lt = ap relation_view (seen Unknown c is t.own.items sized.own k lt)

rows_length : (rows : List (Vec Relation Global)) → length (rows_view rows) ≡ length rows
rows_length rows = length-map rows (λ (row : Vec Relation Global). row.items)

pub row_seen : (c : StackClaim) (t : TurnTable) → IsStackClaim c → AreTurns c.graph.now.code.nodes t → (k r : ℕ) → k < length c.graph.now.code.nodes →
    relation_in (or_other [] (slice_get (rows_view t.rows.items) k)) r ≡ (certificate_in c t).row (address c k) r
unfolding certificate_in
row_seen c t is sized k r lt = ap (λ (row : List Relation). relation_in row r) (seen [] c is (rows_view t.rows.items) (rows_length t.rows.items ∙ sized.rows) k lt)
