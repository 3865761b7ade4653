-- What the code says of each edge is that a loop is a copy, and that copies keep to the inlined calls that are open.
use Rattle.std.proofs.Common.{◌≡◌, ◌≢◌, ℕ, ◌<◌, ◌≤◌, ◌⊎◌, inl, inr, ⊎_elim, true, false, List, length, Some, refl, sym, ap, ◌∙◌, subst}
use Rattle.std.proofs.lemmas.Option.{slice_get_within}
use Rattle.cost_theory.specs.Graph.{Graph}
use Rattle.code_text.specs.Text.{Text}
use Rattle.code_text.specs.TextGraph.{text_graph}
use Rattle.flow_graph.specs.FlowGraph.{graph, FlowGraph, IsGraphOf}
use Rattle.loop_file.specs.declared.notes.LoopNote.{LoopNote}
use Rattle.loop_file.specs.Kept.{in_extent, note_at, noted_loops}
use Rattle.bound_laws.specs.Turning.{Leads, Calls}
use Rattle.value_checks.proofs.Laws.{beside_node}
use Rattle.copy_bounds.specs.Copies.{CopiesLoop, IsCopy, KeepsOpenCalls, Meaning}
use Rattle.copy_checks.specs.declared.tables.CopyCase.{CopyCase}
use Rattle.copy_checks.specs.declared.tables.Meant.{Meant}
use Rattle.copy_checks.specs.Checked.{AreApart, AreEdgesSo, AreMeant, IsBegun, IsCalledAt, IsCase, IsKeptSo, IsLedAt, IsNode}
use Rattle.copy_checks.proofs.Cases.{ahead_is, body_is, cert, counts_is, extra_is, header_address, header_number, quiet_is, stands_so, stands_there}

copy : (c : CopyCase) → IsCase c → (m : Meaning) (t : Text) → AreMeant m c.graph.now.code.nodes c.meant.now → IsBegun c t.entry → AreEdgesSo c → AreApart c →
    IsCopy m t (graph c.graph.now) c.note.now.header (λ v. in_extent c.note.now v) c.old.now.header (λ v. in_extent c.old.now v) (cert c)
copy c is m t are begun edges apart = record {
  first = body_is c is c.header c.note.now.header is.header ∙ begun.first;
  begins = ahead_is c is c.header c.note.now.header is.header ∙ begun.begins;
  stands = stands_there m c.graph.now.code.nodes c.meant.now are c.header c.note.now.header c.old.now.header is.header begun.stands;
  entered = λ a b leads body other. let (k, n, at, to, l) = led a b leads in
      body_is c is k a at ∙ (l.along (λ same. other (header_address c is n b to same))).entered (sym (body_is c is n b to) ∙ body);
  called = λ a b calls body. let (k, h, at, to, l) = called a b calls in header_address c is h b to (l.begins (sym (body_is c is h b to) ∙ body));
  entry = entry;
  counts = λ a leads inside. let (k, n, at, to, l) = led a c.note.now.header leads in
      body_is c is k a at ∙ (l.turn (header_number c is n c.note.now.header to refl)).counts a at inside;
  turns = λ a leads body inside extra. let (k, n, at, to, l) = led a c.note.now.header leads in
      ahead_is c is k a at ∙ (l.turn (header_number c is n c.note.now.header to refl)).turns a at (sym (body_is c is k a at) ∙ body) inside (extra_is m c.graph.now.code.nodes c.meant.now are k a at ∙ extra);
  comes = λ a b leads from to extra there. let (k, n, at, at_b, l) = led a b leads in
      sym (counts_is m c.graph.now.code.nodes c.meant.now are c.old.now k a at) ∙ l.comes (sym (body_is c is k a at) ∙ from) (sym (body_is c is n b at_b) ∙ to)
      (extra_is m c.graph.now.code.nodes c.meant.now are k a at ∙ extra) (stands_so m c.graph.now.code.nodes c.meant.now are n b c.old.now.header at_b there);
  along = along;
  calls = λ a b calls body. let (k, h, at, to, l) = called a b calls in quiet_is c is h b to ∙ l.calls (sym (body_is c is k a at) ∙ body);
  quiet_along = λ a b leads quiet. let (k, n, at, to, l) = led a b leads in quiet_is c is n b to ∙ l.quiet (sym (quiet_is c is k a at) ∙ quiet);
  quiet_calls = λ a b calls quiet. let (k, h, at, to, l) = called a b calls in quiet_is c is h b to ∙ l.quiet (sym (quiet_is c is k a at) ∙ quiet);
  quiet_apart = quiet_apart;
}
  where
    led : (a b : ℕ) → Leads (graph c.graph.now) a b → (k : ℕ) × (n : ℕ) × IsNode c k a × IsNode c n b × IsLedAt c k n
    led a b (e, lt, source, target) = subst (λ (x : ℕ). (k : ℕ) × (n : ℕ) × IsNode c k x × IsNode c n b × IsLedAt c k n) source ((edges e lt).leads b target)

    called : (a b : ℕ) → Calls (graph c.graph.now) a b → (k : ℕ) × (h : ℕ) × IsNode c k a × IsNode c h b × IsCalledAt c k h
    called a b (e, f, lt, source, callee, to) = subst (λ (x : ℕ). (k : ℕ) × (h : ℕ) × IsNode c k x × IsNode c h b × IsCalledAt c k h) source
        (subst (λ (y : ℕ). (k : ℕ) × (h : ℕ) × IsNode c k ((graph c.graph.now).source e) × IsNode c h y × IsCalledAt c k h) to ((edges e lt).calls f callee))

    entry : (cert c).body t.entry ≡ true → t.entry ≡ c.note.now.header
    entry body = let found = beside_node c.graph.now.code.nodes c.table.now.body.items t.entry body in
        header_address c is found.0 t.entry found.1 (begun.started found.0 found.1 (sym (body_is c is found.0 t.entry found.1) ∙ body))

    along : (a b : ℕ) → Leads (graph c.graph.now) a b → (cert c).body a ≡ true → (cert c).body b ≡ true → b ≢ c.note.now.header → (cert c).ahead b ≡ true →
        ((cert c).ahead a ≡ true) ⊎ ((m.is_extra a ≡ false) × (m.text_at b ≡ c.old.now.header))
    along a b leads from to other ahead = let (k, n, at, at_b, l) = led a b leads in ⊎_elim
        (λ so. inl (ahead_is c is k a at ∙ so))
        (λ so. inr (sym (extra_is m c.graph.now.code.nodes c.meant.now are k a at) ∙ so.0, stands_there m c.graph.now.code.nodes c.meant.now are n b c.old.now.header at_b so.1))
        ((l.along (λ same. other (header_address c is n b at_b same))).ahead (sym (body_is c is k a at) ∙ from) (sym (body_is c is n b at_b) ∙ to) (sym (ahead_is c is n b at_b) ∙ ahead))

    quiet_apart : (a : ℕ) → (cert c).quiet a ≡ true → m.text_at a ≢ c.old.now.header
    quiet_apart a quiet same =
        let found = beside_node c.graph.now.code.nodes c.table.now.quiet.items a quiet in
        let no = apart found.0 (slice_get_within c.graph.now.code.nodes found.0 a found.1) (sym (quiet_is c is found.0 a found.1) ∙ quiet) in
        let yes = stands_so m c.graph.now.code.nodes c.meant.now are found.0 a c.old.now.header found.1 same in
        let bad : ⊥ = cc in bad

pub copies : (c : CopyCase) → IsCase c → (m : Meaning) (t : Text) → AreMeant m c.graph.now.code.nodes c.meant.now → IsGraphOf t c.graph.now → IsBegun c t.entry → AreEdgesSo c → AreApart c →
    c.old.now.bound ≤ c.note.now.bound → (notes olds : List LoopNote) (k n : ℕ) → note_at notes k ≡ c.note.now → n < length olds → note_at olds n ≡ c.old.now →
    CopiesLoop m t (text_graph t c.graph.now.code) (noted_loops olds) (noted_loops notes) k
copies c is m t are of begun edges apart enough notes olds k n note few old = record {
  number = n;
  few = few;
  certificate = cert c;
  is = subst (λ (g : Graph). IsCopy m t g (note_at notes k).header (λ v. in_extent (note_at notes k) v) (note_at olds n).header (λ v. in_extent (note_at olds n) v) (cert c)) (sym of.graph_is)
      (subst (λ (x : LoopNote). IsCopy m t (graph c.graph.now) x.header (λ v. in_extent x v) (note_at olds n).header (λ v. in_extent (note_at olds n) v) (cert c)) (sym note)
      (subst (λ (y : LoopNote). IsCopy m t (graph c.graph.now) c.note.now.header (λ v. in_extent c.note.now v) y.header (λ v. in_extent y v) (cert c)) (sym old)
      (copy c is m t are begun edges apart)));
  enough = subst (λ (y : LoopNote). y.bound ≤ (note_at notes k).bound) (sym old) (subst (λ (x : LoopNote). c.old.now.bound ≤ x.bound) (sym note) enough);
}

kept_in : (v : FlowGraph) (meant : List Meant) (m : Meaning) → AreMeant m v.code.nodes meant → ((e : ℕ) → e < length v.code.edges → IsKeptSo v meant e) → KeepsOpenCalls m (graph v)
kept_in v meant m are edges a b (e, lt, source, target) own =
    let (k, n, at, to, kept) = edges e lt b target in
    let (x, x_there, x_is) = are k a (at ∙ ap Some source) in
    let (y, y_there, y_is) = are n b to in
    sym x_is.behind ∙ (kept x y x_there y_there (x_is.is_own ∙ own) ∙ ap Some y_is.returns)

pub kept : (v : FlowGraph) (meant : List Meant) (m : Meaning) (t : Text) → IsGraphOf t v → AreMeant m v.code.nodes meant → ((e : ℕ) → e < length v.code.edges → IsKeptSo v meant e) →
    KeepsOpenCalls m (text_graph t v.code)
kept v meant m t of are edges = subst (λ (g : Graph). KeepsOpenCalls m g) (sym of.graph_is) (kept_in v meant m are edges)
