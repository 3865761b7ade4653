-- What stands beside the addresses of a case's nodes stands at their numbers, and what they stand for, likewise.
use Rattle.std.proofs.Common.{◌≡◌, ℕ, true, false, List, Option, Some, sym, ◌∙◌, ap, eqb-true, eq-eqb}
use Rattle.std.specs.Prelude.{◌==◌, slice_get, option_map}
use Rattle.flow_graph.proofs.Laws.{some_is}
use Rattle.loop_file.specs.declared.notes.LoopNote.{LoopNote}
use Rattle.loop_file.specs.Kept.{in_extent}
use Rattle.value_checks.specs.Tables.{or_other}
use Rattle.value_checks.proofs.Laws.{beside_is, once}
use Rattle.copy_bounds.specs.Copies.{counts_from, CopyCertificate, Meaning}
use Rattle.copy_checks.specs.declared.tables.CopyCase.{CopyCase}
use Rattle.copy_checks.specs.declared.tables.Meant.{Meant}
use Rattle.copy_checks.specs.Checked.{ahead_at, body_at, certificate_of, counts_at, counts_by, extra_at, quiet_at, stands_at, AreMeant, IsCase, IsNode}

abbrev pub cert : CopyCase → CopyCertificate
cert c = certificate_of c.graph.now.code.nodes c.table.now

-- the header is at one number alone
pub header_number : (c : CopyCase) → IsCase c → (n b : ℕ) → IsNode c n b → b ≡ c.note.now.header → n ≡ c.header
header_number c is n b at same = once c.graph.now is.flow n c.header b at (is.header ∙ ap Some (sym same))

pub header_address : (c : CopyCase) → IsCase c → (n b : ℕ) → IsNode c n b → n ≡ c.header → b ≡ c.note.now.header
header_address c is n b at same = some_is b c.note.now.header (sym at ∙ (ap (slice_get c.graph.now.code.nodes) same ∙ is.header))

pub body_is : (c : CopyCase) → IsCase c → (k a : ℕ) → IsNode c k a → (cert c).body a ≡ body_at c.table.now k
body_is c is k a at = beside_is false c.graph.now is.flow c.table.now.body.items is.entries.body k a at

pub quiet_is : (c : CopyCase) → IsCase c → (k a : ℕ) → IsNode c k a → (cert c).quiet a ≡ quiet_at c.table.now k
quiet_is c is k a at = beside_is false c.graph.now is.flow c.table.now.quiet.items is.entries.quiet k a at

pub ahead_is : (c : CopyCase) → IsCase c → (k a : ℕ) → IsNode c k a → (cert c).ahead a ≡ ahead_at c.table.now k
ahead_is c is k a at = beside_is false c.graph.now is.flow c.table.now.ahead.items is.entries.ahead k a at

pub extra_is : (m : Meaning) (nodes : List ℕ) (meant : List Meant) → AreMeant m nodes meant → (k a : ℕ) → slice_get nodes k ≡ Some a → extra_at meant k ≡ m.is_extra a
extra_is m nodes meant are k a at = let found = are k a at in
    ap (λ (o : Option Meant). or_other false (option_map (λ (x : Meant). x.is_extra) o)) found.1 ∙ found.2.is_extra

stands_is : (m : Meaning) (nodes : List ℕ) (meant : List Meant) → AreMeant m nodes meant → (k a h : ℕ) → slice_get nodes k ≡ Some a → stands_at meant k h ≡ (m.text_at a == h)
stands_is m nodes meant are k a h at = let found = are k a at in
    ap (λ (o : Option Meant). or_other false (option_map (λ (x : Meant). x.text_at == h) o)) found.1 ∙ ap (λ (u : ℕ). u == h) found.2.text_at

pub stands_so : (m : Meaning) (nodes : List ℕ) (meant : List Meant) → AreMeant m nodes meant → (k a h : ℕ) → slice_get nodes k ≡ Some a → m.text_at a ≡ h → stands_at meant k h ≡ true
stands_so m nodes meant are k a h at same = stands_is m nodes meant are k a h at ∙ eq-eqb (m.text_at a) h same

pub stands_there : (m : Meaning) (nodes : List ℕ) (meant : List Meant) → AreMeant m nodes meant → (k a h : ℕ) → slice_get nodes k ≡ Some a → stands_at meant k h ≡ true → m.text_at a ≡ h
stands_there m nodes meant are k a h at so = eqb-true (m.text_at a) h (sym (stands_is m nodes meant are k a h at) ∙ so)

pub counts_is : (m : Meaning) (nodes : List ℕ) (meant : List Meant) → AreMeant m nodes meant → (old : LoopNote) (k a : ℕ) → slice_get nodes k ≡ Some a → counts_at meant old k ≡ counts_from (λ v. in_extent old v) (m.source_at a)
counts_is m nodes meant are old k a at = let found = are k a at in
    ap (λ (o : Option Meant). or_other false (option_map (λ (x : Meant). counts_by old x.source) o)) found.1 ∙ ap (counts_by old) found.2.source
