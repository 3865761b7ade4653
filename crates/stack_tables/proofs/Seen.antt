-- What the tables say at an address is what stands at the number of its node.
use Rattle.std.proofs.Common.{◌≡◌, ℕ, zero, suc, ◌+◌, ◌*◌, ◌<◌, ◌≤◌, ◌∷◌, false, List, [], length, get_or, Option, Some, None, refl, sym, subst, ap, ◌∙◌}
use Rattle.std.specs.Prelude.{slice_get, option_map, IfSome, Vec}
use Rattle.std.specs.declared.alloc.Global.{Global}
use Rattle.std.proofs.lemmas.List.{length-map}
use Rattle.std.proofs.lemmas.Option.{get_or_from_slice_get, slice_get-get_or, slice_get_past}
use Rattle.scale_base.specs.declared.instruction.Instr.{Instr}
use Rattle.code_text.specs.Text as text
use Rattle.flow_graph.specs.FlowGraph.{graph}
use Rattle.bound_laws.specs.Values.{Arc, opposite_of}
use Rattle.wrapped_intervals.specs.Small.{row}
use Rattle.value_checks.specs.declared.tables.Line.{Line}
use Rattle.value_checks.specs.Tables.{beside, or_other, flag, form_in, line_in, line_rows, lines_at}
use Rattle.stack_tables.specs.declared.tables.Told.{Told}
use Rattle.stack_tables.specs.declared.tables.Dwindling.{Dwindling}
use Rattle.stack_tables.specs.declared.tables.Name.{Name}
use Rattle.stack_tables.specs.declared.tables.Word.{Word}
use Rattle.stack_tables.specs.declared.claims.StackClaim.{StackClaim}
use Rattle.stack_tables.specs.Tables.{IsStackClaim, IsUnknown, address, cell_view, claim_text, dwindling_at, dwindling_in, dwindling_rows, fixed_in, named, name_in, rows_view, arc_of, name_of_word, span_of_word, stacks_in, text_in, told_at, told_in, told_rows, values_in, words_at}
use Rattle.value_checks.proofs.Laws.{beside_is}

pub there : (c : StackClaim) (k : ℕ) → k < length c.graph.now.code.nodes → slice_get c.graph.now.code.nodes k ≡ Some (address c k)
unfolding address
there c k lt = slice_get-get_or c.graph.now.code.nodes k 0 lt

-- what stands at the number of a node is its address
pub address_is : (c : StackClaim) (k a : ℕ) → slice_get c.graph.now.code.nodes k ≡ Some a → a ≡ address c k
unfolding address
address_is c k a at = sym (get_or_from_slice_get c.graph.now.code.nodes k a 0 at)

seen : {A : Type 0} (other : A) (c : StackClaim) → IsStackClaim c → (xs : List A) → length xs ≡ length c.graph.now.code.nodes → (k : ℕ) → k < length c.graph.now.code.nodes → or_other other (slice_get xs k) ≡ beside other c.graph.now.code.nodes xs (address c k)
seen other c is xs size k lt = sym (beside_is other c.graph.now is.graph_is.flow xs size k (address c k) (there c k lt))

pub live_seen : (c : StackClaim) → IsStackClaim c → (k : ℕ) → k < length c.graph.now.code.nodes → or_other false (slice_get c.table.now.live.items k) ≡ (values_in c).live (address c k)
unfolding values_in
live_seen c is k lt = seen false c is c.table.now.live.items is.sized.live k lt

pub arcs_seen : (c : StackClaim) → IsStackClaim c → (k : ℕ) → k < length c.graph.now.code.nodes → row (or_other [] (slice_get c.table.now.rows.items k)) ≡ (values_in c).at (address c k)
unfolding values_in
arcs_seen c is k lt = ap row (seen [] c is c.table.now.rows.items is.sized.rows k lt)

pub exits_seen : (c : StackClaim) (k f : ℕ) → f ≡ (graph c.graph.now).owner (get_or c.graph.now.code.nodes k 0) → row (or_other [] (slice_get c.table.now.exits.items f)) ≡ (values_in c).exit ((values_in c).function (address c k))
unfolding values_in address
exits_seen c k f owner = ap (λ (x : ℕ). row (or_other [] (slice_get c.table.now.exits.items x))) owner

pub name_seen : (c : StackClaim) → IsStackClaim c → (k r : ℕ) → k < length c.graph.now.code.nodes → named (name_in (or_other [] (slice_get c.stack.now.names.items k)) r) ≡ (stacks_in c).name (address c k) r
unfolding stacks_in
name_seen c is k r lt = ap (λ (names : List (Option Name)). named (name_in names r)) (seen [] c is c.stack.now.names.items is.stacks.names k lt)

pub span_seen : (c : StackClaim) → IsStackClaim c → (k r : ℕ) → k < length c.graph.now.code.nodes → row (or_other [] (slice_get c.stack.now.spans.items k)) r ≡ (stacks_in c).span (address c k) r
unfolding stacks_in
span_seen c is k r lt = ap (λ (arcs : List (Option Arc)). row arcs r) (seen [] c is c.stack.now.spans.items is.stacks.spans k lt)

rows_length : (rows : List (Vec Word Global)) → length (rows_view rows) ≡ length rows
rows_length rows = length-map rows (λ (words : Vec Word Global). words.items)

pub words_seen : (c : StackClaim) → IsStackClaim c → (k : ℕ) → k < length c.graph.now.code.nodes → or_other [] (slice_get (rows_view c.stack.now.words.items) k) ≡ words_at c.graph.now.code c.stack.now (address c k)
words_seen c is k lt = seen [] c is (rows_view c.stack.now.words.items) (rows_length c.stack.now.words.items ∙ is.stacks.words) k lt

pub word_seen : (c : StackClaim) (a j : ℕ) (words : List Word) → words ≡ words_at c.graph.now.code c.stack.now a → arc_of (slice_get words j) ≡ (stacks_in c).word a j
unfolding stacks_in
word_seen c a j words same = ap (λ (xs : List Word). arc_of (slice_get xs j)) same

pub word_name_seen : (c : StackClaim) (a j : ℕ) (words : List Word) → words ≡ words_at c.graph.now.code c.stack.now a → name_of_word (slice_get words j) ≡ (stacks_in c).word_name a j
unfolding stacks_in
word_name_seen c a j words same = ap (λ (xs : List Word). name_of_word (slice_get xs j)) same

pub word_span_seen : (c : StackClaim) (a j : ℕ) (words : List Word) → words ≡ words_at c.graph.now.code c.stack.now a → span_of_word (slice_get words j) ≡ (stacks_in c).word_span a j
unfolding stacks_in
word_span_seen c a j words same = ap (λ (xs : List Word). span_of_word (slice_get xs j)) same

-- nothing is known of a word behind a row
pub unknown : (c : StackClaim) (a j : ℕ) (words : List Word) → words ≡ words_at c.graph.now.code c.stack.now a → length words ≤ j → IsUnknown (stacks_in c) a j
unknown c a j words same past =
    let none : slice_get words j ≡ None = slice_get_past words j past in record {
      arc = sym (word_seen c a j words same) ∙ ap arc_of none;
      name = sym (word_name_seen c a j words same) ∙ ap name_of_word none;
      span = sym (word_span_seen c a j words same) ∙ ap span_of_word none;
    }

pub form_seen : (c : StackClaim) (j : ℕ) → form_in c.table.now.forms.items j ≡ (values_in c).forms j
unfolding values_in
form_seen c j = refl

line_rows_length : (rows : List (Vec Line Global)) → length (line_rows rows) ≡ length rows
line_rows_length rows = length-map rows (λ (lines : Vec Line Global). lines.items)

pub lines_seen : (c : StackClaim) → IsStackClaim c → (k : ℕ) → k < length c.graph.now.code.nodes → or_other [] (slice_get (line_rows c.table.now.lines.items) k) ≡ lines_at c.graph.now.code c.table.now (address c k)
lines_seen c is k lt = seen [] c is (line_rows c.table.now.lines.items) (line_rows_length c.table.now.lines.items ∙ is.sized.lines) k lt

pub line_seen : (c : StackClaim) (a j : ℕ) (lines : List Line) → lines ≡ lines_at c.graph.now.code c.table.now a → line_in lines j ≡ (values_in c).lines a j
unfolding values_in
line_seen c a j lines same = ap (λ (xs : List Line). line_in xs j) same

pub begins_seen : (c : StackClaim) (k f : ℕ) → f ≡ (graph c.graph.now).owner (get_or c.graph.now.code.nodes k 0) → row c.stack.now.begins.items f ≡ (stacks_in c).begins ((values_in c).function (address c k))
unfolding stacks_in values_in address
begins_seen c k f owner = ap (row c.stack.now.begins.items) owner

pub restored_seen : (c : StackClaim) (k f r : ℕ) → f ≡ (graph c.graph.now).owner (get_or c.graph.now.code.nodes k 0) → flag (or_other [] (slice_get c.stack.now.restored.items f)) r ≡ (stacks_in c).restored ((values_in c).function (address c k)) r
unfolding stacks_in values_in address
restored_seen c k f r owner = ap (λ (x : ℕ). flag (or_other [] (slice_get c.stack.now.restored.items x)) r) owner

pub spared_seen : (c : StackClaim) → IsStackClaim c → (k j : ℕ) → k < length c.graph.now.code.nodes → or_other false (slice_get c.stack.now.spared.items k) ≡ (stacks_in c).spared j (address c k)
unfolding stacks_in
spared_seen c is k j lt = seen false c is c.stack.now.spared.items is.stacks.spared k lt

pub doubtful_seen : (c : StackClaim) → IsStackClaim c → (k : ℕ) → k < length c.graph.now.code.nodes → or_other false (slice_get c.stack.now.doubtful.items k) ≡ (stacks_in c).doubtful (address c k)
unfolding stacks_in
doubtful_seen c is k lt = seen false c is c.stack.now.doubtful.items is.stacks.doubtful k lt

pub kept_seen : (c : StackClaim) (k f j : ℕ) → f ≡ (graph c.graph.now).owner (get_or c.graph.now.code.nodes k 0) → flag (or_other [] (slice_get c.stack.now.kept.items f)) j ≡ (stacks_in c).kept ((values_in c).function (address c k)) j
unfolding stacks_in values_in address
kept_seen c k f j owner = ap (λ (x : ℕ). flag (or_other [] (slice_get c.stack.now.kept.items x)) j) owner

pub place_seen : (c : StackClaim) (j : ℕ) → c.stack.now.place ≡ (stacks_in c).place j
unfolding stacks_in
place_seen c j = refl

pub cells_seen : (c : StackClaim) (j : ℕ) → option_map cell_view (slice_get c.stack.now.cells.items j) ≡ (stacks_in c).cell j
unfolding stacks_in
cells_seen c j = refl

pub areas_seen : (c : StackClaim) (k : ℕ) → slice_get c.stack.now.areas.items k ≡ (stacks_in c).areas k
unfolding stacks_in
areas_seen c k = refl

pub fixed_seen : (c : StackClaim) (at : ℕ) → fixed_in c.stack.now.fixed.items at ≡ (stacks_in c).fixed at
unfolding stacks_in
fixed_seen c at = refl

told_length : (rows : List (Vec Told Global)) → length (told_rows rows) ≡ length rows
told_length rows = length-map rows (λ (row : Vec Told Global). row.items)

pub told_rows_seen : (c : StackClaim) → IsStackClaim c → (k : ℕ) → k < length c.graph.now.code.nodes → or_other [] (slice_get (told_rows c.stack.now.told.items) k) ≡ told_at c.graph.now.code c.stack.now (address c k)
told_rows_seen c is k lt = seen [] c is (told_rows c.stack.now.told.items) (told_length c.stack.now.told.items ∙ is.stacks.told) k lt

pub told_seen : (c : StackClaim) (a j : ℕ) (row : List Told) → row ≡ told_at c.graph.now.code c.stack.now a → told_in row j ≡ (stacks_in c).told a j
unfolding stacks_in
told_seen c a j row same = ap (λ (xs : List Told). told_in xs j) same

dwindling_length : (rows : List (Vec Dwindling Global)) → length (dwindling_rows rows) ≡ length rows
dwindling_length rows = length-map rows (λ (row : Vec Dwindling Global). row.items)

pub dwindling_rows_seen : (c : StackClaim) → IsStackClaim c → (k : ℕ) → k < length c.graph.now.code.nodes → or_other [] (slice_get (dwindling_rows c.stack.now.dwindling.items) k) ≡ dwindling_at c.graph.now.code c.stack.now (address c k)
dwindling_rows_seen c is k lt = seen [] c is (dwindling_rows c.stack.now.dwindling.items) (dwindling_length c.stack.now.dwindling.items ∙ is.stacks.dwindling) k lt

pub dwindling_seen : (c : StackClaim) (a j : ℕ) (row : List Dwindling) → row ≡ dwindling_at c.graph.now.code c.stack.now a → dwindling_in row j ≡ (stacks_in c).dwindling a j
unfolding stacks_in
dwindling_seen c a j row same = ap (λ (xs : List Dwindling). dwindling_in xs j) same

pub instr_seen : (c : StackClaim) (k at : ℕ) (found : Option Instr) → at ≡ address c k → IfSome found (λ i. text.instr_at (claim_text c) at ≡ Some i) → IfSome found (λ i. text.instr_at (text_in c) (address c k) ≡ Some i)
unfolding text_in
instr_seen c k at None same given = given
instr_seen c k at (Some i) same given = subst (λ (a : ℕ). text.instr_at (claim_text c) a ≡ Some i) same given

read : (names : List (Option Name)) (r : ℕ) → get_or names r None ≡ name_in names r
read [] r = refl
read (x ∷ names) zero = refl
read (x ∷ names) (suc r) = read names r

pub read_at : (names : List (Option Name)) (k r : ℕ) → k ≡ r → get_or names k None ≡ name_in names r
read_at names k r same = ap (λ (j : ℕ). get_or names j None) same ∙ read names r

pub offset_seen : (c : StackClaim) (k n x : ℕ) → n ≡ k → x ≡ opposite_of (4 * (n + 1)) → x ≡ (stacks_in c).offset k
unfolding stacks_in
offset_seen c k n x same given = given ∙ ap (λ (j : ℕ). opposite_of (4 * (j + 1))) same

pub offset_is : (c : StackClaim) (k o : ℕ) → opposite_of (4 * (k + 1)) ≡ o → o ≡ (stacks_in c).offset k
unfolding stacks_in
offset_is c k o given = sym given

pub if_some : {A : Type 0} (found : Option A) (P Q : A → Type 0) → ((x : A) → P x → Q x) → IfSome found P → IfSome found Q
if_some None P Q so given = given
if_some (Some x) P Q so given = so x given
