-- Edges of a text's graph, by their address and their kind.
use Rattle.std.proofs.Common.{◌≡◌, ◌≢◌, ℕ, ◌+◌, ◌%◌, Bool, true, false, inl, inr, ⊎_elim, [], ◌∷◌, Option, Some, None, refl, sym, ap, ◌∙◌, subst, arith}
use Rattle.std.specs.Prelude.{slice_get, ◌==◌}
use Rattle.std.specs.List.{list_any}
use Rattle.std.proofs.lemmas.Bool.{cases_order, and_parts, and_from, eqb-true, eq-eqb}
use Rattle.cost_theory.specs.declared.flow.Flow.{Flow}
use Rattle.cost_theory.specs.declared.flow.Flow.TheVariants as flow
use Rattle.cost_theory.specs.Graph.{Loops, is_header, goes_back}
use Rattle.cost_theory.specs.Reached.{Reached, Code, edges_of, call_returns}
use Rattle.cost_theory.proofs.Laws.{Within, word_edge, edge_of_word}
use Rattle.code_text.specs.TextGraph.{IsReachedCode}
use Rattle.code_text.specs.Text.{text_of, instr_at, kind_at, instr_kind, jal_kind}
use Rattle.code_text.proofs.Laws.{kind_facts}
use Rattle.scale_base.specs.declared.edges.Edge.{Edge}
use Rattle.scale_base.specs.declared.edges.EdgeKind.{EdgeKind}
use Rattle.scale_base.specs.declared.edges.EdgeKind.TheVariants.{Taken, Untaken, Jump, Next, CallNext, End}
use Rattle.scale_base.specs.declared.instruction.Instr.{Instr}
use Rattle.scale_base.specs.declared.instruction.Instr.TheVariants as instr
use Rattle.scale_base.specs.Arith.{moved_by}
use Rattle.scale_base.specs.Image.{Image, is_in, is_word_address}
use Rattle.foreign_scan.specs.Scanned.{CanBePatched}
use Rattle.foreign_scan.proofs.ReadLaws.{same_some}

-- ---- two edges of one word and one kind are one

one_same : (a x y : Edge) → Within x (a ∷ []) → Within y (a ∷ []) → x ≡ y
one_same a x y p q = ⊎_elim (λ e. ⊎_elim (λ f. sym e ∙ f) (λ n. absurd n) q) (λ n. absurd n) p

two_same : (a b x y : Edge) → a.kind ≢ b.kind → Within x (a ∷ b ∷ []) → Within y (a ∷ b ∷ []) → x.kind ≡ y.kind → x ≡ y
two_same a b x y differ p q same = ⊎_elim
    (λ (e : a ≡ x). ⊎_elim
    (λ (f : a ≡ y). sym e ∙ f)
    (λ r. ⊎_elim (λ (f : b ≡ y). absurd (differ (ap (λ (z : Edge). z.kind) e ∙ (same ∙ sym (ap (λ (z : Edge). z.kind) f))))) (λ n. absurd n) r) q)
    (λ r. ⊎_elim
    (λ (e : b ≡ x). ⊎_elim
    (λ (f : a ≡ y). absurd (differ (ap (λ (z : Edge). z.kind) f ∙ (sym same ∙ sym (ap (λ (z : Edge). z.kind) e)))))
    (λ s. ⊎_elim (λ (f : b ≡ y). sym e ∙ f) (λ n. absurd n) s) q)
    (λ n. absurd n) r) p

taken_untaken : Taken ≢ Untaken
taken_untaken e = absurd cc

callnext_end : CallNext ≢ End
callnext_end e = absurd cc

next_end : Next ≢ End
next_end e = absurd cc

within_same : (w : Flow) (v : ℕ) (b : Bool) (x y : Edge) → Within x (edges_of w v b) → Within y (edges_of w v b) → x.kind ≡ y.kind → x ≡ y
within_same (flow.Branch to) v b x y p q same = two_same (record { at = v; kind = Taken; to = to }) (record { at = v; kind = Untaken; to = v + 4 }) x y taken_untaken p q same
within_same (flow.Jump to) v b x y p q same = one_same (record { at = v; kind = Jump; to = to }) x y p q
within_same (flow.Call to) v true x y p q same = two_same (record { at = v; kind = CallNext; to = v + 4 }) (record { at = v; kind = End; to = v }) x y callnext_end p q same
within_same (flow.Call to) v false x y p q same = one_same (record { at = v; kind = End; to = v }) x y p q
within_same flow.Return v b x y p q same = one_same (record { at = v; kind = End; to = v }) x y p q
within_same flow.Exit v b x y p q same = one_same (record { at = v; kind = End; to = v }) x y p q
within_same flow.MayExit v b x y p q same = two_same (record { at = v; kind = Next; to = v + 4 }) (record { at = v; kind = End; to = v }) x y next_end p q same
within_same flow.Breakpoint v b x y p q same = one_same (record { at = v; kind = End; to = v }) x y p q
within_same flow.Next v b x y p q same = one_same (record { at = v; kind = Next; to = v + 4 }) x y p q
within_same flow.Refused v b x y p q same = absurd p

pub edges_same : (original : Image) (code : Code) → IsReachedCode (text_of original) code → (d e : ℕ) (x y : Edge) → slice_get code.edges d ≡ Some x → slice_get code.edges e ≡ Some y → x.at ≡ y.at → x.kind ≡ y.kind → x ≡ y
edges_same original code is d e x y there here at kind =
    let word = kind_at (text_of original) in
    let p = edge_of_word word original.entry code is.lists d x there in
    let q = edge_of_word word original.entry code is.lists e y here in
    let same : q.0 ≡ p.0 = sym q.3 ∙ (sym at ∙ p.3) in
    within_same (word p.0) p.0 (call_returns code (word p.0)) x y p.2 (subst (λ u. Within y (edges_of (word u) u (call_returns code (word u)))) same q.2) kind

-- an address has one number
pub one_number : (original : Image) (code : Code) → IsReachedCode (text_of original) code → (i j a : ℕ) → slice_get code.nodes i ≡ Some a → slice_get code.nodes j ≡ Some a → i ≡ j
one_number original code is i j a p q =
    elim (cases_order i j) [
      | inl e ↦ e
      | inr either ↦ absurd (⊎_elim (λ lt. let bad = is.lists.ascending i j a a lt p q in omega (arith, bad)) (λ gt. let bad = is.lists.ascending j i a a gt q p in omega (arith, bad)) either)
    ]

-- ---- nodes are words of the text

pub node_reached : (original : Image) (code : Code) → IsReachedCode (text_of original) code → (k at : ℕ) → slice_get code.nodes k ≡ Some at → (f : ℕ) × Reached (kind_at (text_of original)) original.entry f at
node_reached original code is k at e = (is.lists.nodes at).0 (k, e)

pub node_word : (original : Image) (code : Code) → IsReachedCode (text_of original) code → (k at : ℕ) → slice_get code.nodes k ≡ Some at → is_word_address original at ≡ true
node_word original code is k at e =
    let r = node_reached original code is k at e in
    let facts = kind_facts (text_of original) at (is.words r.0 at r.1) in
    and_from (at % 4 == 0) (list_any (is_in at) original.text) (eq-eqb (at % 4) 0 facts.0) facts.1

pub node_kind : (original : Image) (code : Code) → IsReachedCode (text_of original) code → (k at : ℕ) (i : Instr) → slice_get code.nodes k ≡ Some at → instr_at (text_of original) at ≡ Some i → kind_at (text_of original) at ≡ instr_kind (text_of original) at i
node_kind original code is k at i e there =
    let r = node_reached original code is k at e in
    let facts = kind_facts (text_of original) at (is.words r.0 at r.1) in
    let same : facts.2.0 ≡ i = same_some facts.2.0 i (sym facts.2.1 ∙ there) in
    facts.2.2 ∙ ap (instr_kind (text_of original) at) same

-- the kinds of the edges of an instruction that can be patched
abbrev pub HasEdge : Instr → EdgeKind → Type 0
HasEdge (instr.Branch op rs1 rs2 offset) Taken = Unit {0}
HasEdge (instr.Branch op rs1 rs2 offset) Untaken = Unit {0}
HasEdge (instr.Jal rd offset) Jump = Unit {0}
HasEdge i kind = ⊥

edge_in : (original : Image) (code : Code) → IsReachedCode (text_of original) code → (k at : ℕ) (w : Flow) (x : Edge) → slice_get code.nodes k ≡ Some at → kind_at (text_of original) at ≡ w → ((b : Bool) → Within x (edges_of w at b)) → (e : ℕ) × (slice_get code.edges e ≡ Some x)
edge_in original code is k at w x node kind within =
    let word = kind_at (text_of original) in
    let r = node_reached original code is k at node in
    let e = word_edge word original.entry code is.lists r.0 at x r.1 (subst (λ u. Within x (edges_of u at (call_returns code (word at)))) (sym kind) (within (call_returns code (word at)))) in
    (e.0, e.2)

-- each of them has an edge
pub has_edge : (original : Image) (code : Code) → IsReachedCode (text_of original) code → (k at : ℕ) (i : Instr) (kind : EdgeKind) → slice_get code.nodes k ≡ Some at → instr_at (text_of original) at ≡ Some i → CanBePatched i → HasEdge i kind
    → (e : ℕ) × (x : Edge) × (slice_get code.edges e ≡ Some x) × (x.at ≡ at) × (x.kind ≡ kind)
has_edge original code is k at (instr.Branch op rs1 rs2 offset) Taken node there can has =
    let x : Edge = record { at = at; kind = Taken; to = moved_by at offset } in
    let e = edge_in original code is k at (flow.Branch (moved_by at offset)) x node (node_kind original code is k at (instr.Branch op rs1 rs2 offset) node there) (λ b. inl refl) in
    (e.0, x, e.1, refl, refl)
has_edge original code is k at (instr.Branch op rs1 rs2 offset) Untaken node there can has =
    let x : Edge = record { at = at; kind = Untaken; to = at + 4 } in
    let e = edge_in original code is k at (flow.Branch (moved_by at offset)) x node (node_kind original code is k at (instr.Branch op rs1 rs2 offset) node there) (λ b. inr (inl refl)) in
    (e.0, x, e.1, refl, refl)
has_edge original code is k at (instr.Jal rd offset) Jump node there can has =
    let x : Edge = record { at = at; kind = Jump; to = moved_by at offset } in
    let kind = node_kind original code is k at (instr.Jal rd offset) node there ∙ ap (λ r. jal_kind r (moved_by at offset)) can in
    let e = edge_in original code is k at (flow.Jump (moved_by at offset)) x node kind (λ b. inl refl) in
    (e.0, x, e.1, refl, refl)
has_edge original code is k at i kind node there can has = absurd has

-- ---- the loop of a back edge

header_there : (l : Loops) (k : ℕ) (p : Option ℕ) → is_header l k p ≡ true → (v : ℕ) × (p ≡ Some v) × (v ≡ l.header k)
header_there l k None e = absurd cc
header_there l k (Some v) e = (v, refl, eqb-true v (l.header k) e)

-- two loops of which one edge is a back edge have one header
pub same_header : (l : Loops) (j k u w : ℕ) (p q : Option ℕ) → p ≡ q → goes_back l j u p ≡ true → goes_back l k w q ≡ true → l.header j ≡ l.header k
same_header l j k u w p q same one two =
    let a = header_there l j p (and_parts (l.inside j u) (is_header l j p) one).1 in
    let b = header_there l k q (and_parts (l.inside k w) (is_header l k q) two).1 in
    let e : a.0 ≡ b.0 = same_some a.0 b.0 (sym a.1 ∙ (same ∙ b.1)) in
    sym a.2 ∙ (e ∙ b.2)
