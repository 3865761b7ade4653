-- What a table of a walk says at an address is what stands at the number of its node.
use Rattle.std.proofs.Common.{◌≡◌, ℕ, ◌<◌, false, List, [], length, Option, Some, None, sym, ap, ◌∙◌}
use Rattle.std.specs.Prelude.{slice_get, Vec}
use Rattle.std.specs.declared.alloc.Global.{Global}
use Rattle.std.proofs.lemmas.List.{length-map}
use Rattle.std.proofs.lemmas.Option.{slice_get-get_or}
use Rattle.value_checks.specs.Tables.{beside, or_other}
use Rattle.value_checks.proofs.Laws.{beside_is}
use Rattle.stack_tables.specs.declared.claims.StackClaim.{StackClaim}
use Rattle.stack_tables.specs.Tables.{IsStackClaim, address}
use Rattle.walk_checks.specs.declared.tables.Trace.{Trace}
use Rattle.walk_checks.specs.declared.tables.WordTrace.{WordTrace}
use Rattle.walk_checks.specs.declared.tables.WalkCase.{WalkCase}
use Rattle.walk_checks.specs.Walked.{IsWalkCase, cert, certificate_in, rows_view, trace_in, word_in, words_view}

pub there : (c : StackClaim) (k : ℕ) → k < length c.graph.now.code.nodes → slice_get c.graph.now.code.nodes k ≡ Some (address c k)
unfolding address
there c k lt = slice_get-get_or c.graph.now.code.nodes k 0 lt

seen : {A : Type 0} (other : A) (c : StackClaim) → IsStackClaim c → (xs : List A) → length xs ≡ length c.graph.now.code.nodes → (k : ℕ) → k < length c.graph.now.code.nodes → or_other other (slice_get xs k) ≡ beside other c.graph.now.code.nodes xs (address c k)
seen other c is xs size k lt = sym (beside_is other c.graph.now is.graph_is.flow xs size k (address c k) (there c k lt))

pub body_seen : (c : WalkCase) → IsWalkCase c → (k : ℕ) → k < length c.claim.now.graph.now.code.nodes → or_other false (slice_get c.table.now.body.items k) ≡ (cert c).body (address c.claim.now k)
unfolding certificate_in
body_seen c is k lt = seen false c.claim.now is.claim c.table.now.body.items is.sized.body k lt

pub quiet_seen : (c : WalkCase) → IsWalkCase c → (k : ℕ) → k < length c.claim.now.graph.now.code.nodes → or_other false (slice_get c.table.now.quiet.items k) ≡ (cert c).quiet (address c.claim.now k)
unfolding certificate_in
quiet_seen c is k lt = seen false c.claim.now is.claim c.table.now.quiet.items is.sized.quiet k lt

pub touched_seen : (c : WalkCase) → IsWalkCase c → (k : ℕ) → k < length c.claim.now.graph.now.code.nodes → or_other false (slice_get c.table.now.touched.items k) ≡ (cert c).touched (address c.claim.now k)
unfolding certificate_in
touched_seen c is k lt = seen false c.claim.now is.claim c.table.now.touched.items is.sized.touched k lt

pub holder_seen : (c : WalkCase) → IsWalkCase c → (k : ℕ) → k < length c.claim.now.graph.now.code.nodes → or_other None (slice_get c.table.now.holders.items k) ≡ (cert c).holder (address c.claim.now k)
unfolding certificate_in
holder_seen c is k lt = seen None c.claim.now is.claim c.table.now.holders.items is.sized.holders k lt

rows_length : (rows : List (Vec (Option Trace) Global)) → length (rows_view rows) ≡ length rows
rows_length rows = length-map rows (λ (row : Vec (Option Trace) Global). row.items)

words_length : (rows : List (Vec WordTrace Global)) → length (words_view rows) ≡ length rows
words_length rows = length-map rows (λ (row : Vec WordTrace Global). row.items)

pub row_seen : (c : WalkCase) → IsWalkCase c → (k r : ℕ) → k < length c.claim.now.graph.now.code.nodes → trace_in (or_other [] (slice_get (rows_view c.table.now.rows.items) k)) r ≡ (cert c).row (address c.claim.now k) r
unfolding certificate_in
row_seen c is k r lt = ap (λ (row : List (Option Trace)). trace_in row r) (seen [] c.claim.now is.claim (rows_view c.table.now.rows.items) (rows_length c.table.now.rows.items ∙ is.sized.rows) k lt)

pub word_seen : (c : WalkCase) → IsWalkCase c → (k n : ℕ) → k < length c.claim.now.graph.now.code.nodes → word_in (or_other [] (slice_get (words_view c.table.now.words.items) k)) n ≡ (cert c).word (address c.claim.now k) n
unfolding certificate_in
word_seen c is k n lt = ap (λ (row : List WordTrace). word_in row n) (seen [] c.claim.now is.claim (words_view c.table.now.words.items) (words_length c.table.now.words.items ∙ is.sized.words) k lt)
