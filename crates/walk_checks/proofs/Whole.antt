-- What the code says of each edge and of the header is a certificate, and shows a bound.
use Rattle.std.proofs.Common.{◌≡◌, ℕ, ◌<◌, ◌≤◌, ⊎_elim, inl, inr, true, false, Some, None, List, refl, sym, ap, ◌∙◌, subst}
use Rattle.std.specs.Prelude.{◌/◌}
use Rattle.std.proofs.lemmas.Option.{slice_get_within}
use Rattle.scale_base.specs.declared.instruction.Instr.{Instr}
use Rattle.loop_file.specs.declared.notes.LoopNote.{LoopNote}
use Rattle.loop_file.specs.Kept.{note_at, noted_loops, in_extent}
use Rattle.cost_theory.specs.Graph.{Graph}
use Rattle.code_text.specs.Text.{Text, instr_at}
use Rattle.code_text.specs.TextGraph.{text_graph}
use Rattle.flow_graph.specs.FlowGraph.{graph}
use Rattle.flow_graph.proofs.Laws.{some_is}
use Rattle.bound_laws.specs.Turning.{Leads, Calls}
use Rattle.bound_laws.specs.Values.{Values, Steps}
use Rattle.stack_laws.specs.Stacks.{Stacks}
use Rattle.stack_tables.specs.Tables.{address, claim_stacks, claim_text, claim_values, stacks_in, text_in, values_in}
use Rattle.stack_tables.proofs.Laws.{address_is}
use Rattle.walk_areas.specs.Walking.{IsGround, IsPossible, IsStarted, IsStartedBy, IsWalkCertificate, IsWalkShown}
use Rattle.walk_checks.specs.declared.tables.WalkCase.{WalkCase}
use Rattle.walk_checks.specs.Walked.{cert, certificate_in, certificate_of, AreEdgesWalked, IsBackSo, IsCalledSo, IsEntering, IsEntrySo, IsHeaderSo, IsLedSo, IsLiveSo, IsSound, IsStartedFrom, IsStepSo, IsWalkCase}
use Rattle.walk_checks.proofs.Cases.{header_number}

entry_text : (c : WalkCase) → (text_in c.claim.now).entry ≡ c.claim.now.view.now.entry
unfolding text_in
entry_text c = refl

ground_in : (c : WalkCase) → ((nodes : List ℕ) → IsGround (stacks_in c.claim.now).areas (stacks_in c.claim.now).fixed (certificate_of nodes c.table.now)) → IsGround (stacks_in c.claim.now).areas (stacks_in c.claim.now).fixed (cert c)
unfolding certificate_in
ground_in c h = h c.claim.now.graph.now.code.nodes

certificate : (c : WalkCase) → IsWalkCase c → IsHeaderSo (cert c) (address c.claim.now c.header) → IsEntrySo c → AreEdgesWalked c → ((nodes : List ℕ) → IsGround (stacks_in c.claim.now).areas (stacks_in c.claim.now).fixed (certificate_of nodes c.table.now)) →
    IsWalkCertificate (text_in c.claim.now) (graph c.claim.now.graph.now) (values_in c.claim.now) (stacks_in c.claim.now) c.note.now.header (λ v. in_extent c.note.now v) (cert c)
certificate c is head begun given ground = record {
  ground = ground_in c ground;
  first = header.first;
  rows = header.rows;
  words = header.words;
  untouched = header.untouched;
  unheld = header.unheld;
  entered = λ a b leads live on other. (led a b leads live).entered other on;
  called = λ a b call live on. (called a b call live).begins on;
  entry = entry;
  starts = λ a i steps live off at possible. starts a i steps live off at possible;
  starts_called = starts_called;
  starts_back = starts_back;
  starts_entry = starts_entry;
  counts = λ a leads live inside. (led a h leads live).counted refl inside;
  along = λ a b r i steps live inside on other at possible reg. ((step a b i steps live inside at possible).over other on).rows r reg;
  along_words = λ a b k i steps live inside on other at possible. ((step a b i steps live inside at possible).over other on).words k;
  along_touched = λ a b i steps live inside on other at possible touched. ((step a b i steps live inside at possible).over other on).touched touched;
  along_holder = λ a b i steps live inside on other at possible. ((step a b i steps live inside at possible).over other on).holder;
  back = λ a to b r call leads live inside on other reg. ((back a to b call leads live inside).back other on).rows r reg;
  back_words = λ a to b k call leads live inside on other. ((back a to b call leads live inside).back other on).words k;
  back_touched = λ a to b call leads live inside on other touched. ((back a to b call leads live inside).back other on).touched touched;
  back_holder = λ a to b call leads live inside on other. ((back a to b call leads live inside).back other on).holder;
  turns = λ a i steps live inside at possible. (step a h i steps live inside at possible).turn refl;
  turns_back = λ a to call leads live inside. (back a to h call leads live inside).turn refl;
  calls = λ a b call live inside. (called a b call live).quiet inside;
  quiet_along = quiet_along;
  quiet_calls = quiet_calls;
  quiet_apart = header.quiet;
}
  where
    t : Text
    t = text_in c.claim.now

    g : Graph
    g = graph c.claim.now.graph.now

    v : Values
    v = values_in c.claim.now

    w : Stacks
    w = stacks_in c.claim.now

    h : ℕ
    h = c.note.now.header

    header : IsHeaderSo (cert c) h
    header = subst (λ (a : ℕ). IsHeaderSo (cert c) a) is.header_is head

    alive : (e : ℕ) → e < g.edges → (a : ℕ) → g.source e ≡ a → v.live a ≡ true → IsLiveSo c g a e
    alive e lt a source live = subst (λ (x : ℕ). IsLiveSo c g x e) source ((given e lt).live (ap v.live source ∙ live))

    led : (a b : ℕ) → Leads g a b → v.live a ≡ true → IsLedSo (cert c) h (λ v. in_extent c.note.now v) a b
    led a b (e, lt, source, target) live = (alive e lt a source live).led b target

    called : (a b : ℕ) → Calls g a b → v.live a ≡ true → IsCalledSo (cert c) h a b
    called a b (e, f, lt, source, callee, entry) live = subst (λ (y : ℕ). IsCalledSo (cert c) h a y) entry ((alive e lt a source live).called f callee)

    step : (a b : ℕ) (i : Instr) → Steps g a b → v.live a ≡ true → (cert c).body a ≡ true → instr_at t a ≡ Some i → IsPossible v a i b → IsStepSo v w (cert c) h a i b
    step a b i (e, lt, source, target, none) live inside at =
        let found : (j : Instr) × (instr_at t a ≡ Some j) × IsSound c g a j e = (alive e lt a source live).sound inside in
        subst (λ (j : Instr). IsPossible v a j b → IsStepSo v w (cert c) h a j b) (some_is found.0 i (sym found.1 ∙ at)) (found.2.step b target none)

    back : (a to b : ℕ) → Calls g a to → Leads g a b → v.live a ≡ true → (cert c).body a ≡ true → IsBackSo t v w (cert c) h a to b
    back a to b (d, f, dl, from, callee, entry) (e, el, source, target) live inside =
        let called : g.callee e ≡ Some f = is.claim.graph_is.flow.program.one_callee e d el dl (source ∙ sym from) ∙ callee in
        let found : (j : Instr) × (instr_at t a ≡ Some j) × IsSound c g a j e = (alive e el a source live).sound inside in
        subst (λ (y : ℕ). IsBackSo t v w (cert c) h a y b) entry (found.2.back f b called target)

    starts : (a : ℕ) (i : Instr) → Steps g a h → v.live a ≡ true → (cert c).body a ≡ false → instr_at t a ≡ Some i → IsPossible v a i h → IsStarted v w (cert c) a i h
    starts a i (e, lt, source, target, none) live off at possible = ⊎_elim
        (λ (unknown : (cert c).start ≡ None). inl unknown)
        (λ (enters : IsEntering c g a e).
        let found : IsStartedFrom c a h = enters.step h none target refl off in
        inr (subst (λ (j : Instr). IsPossible v a j h → IsStartedBy v w (cert c) a j h) (some_is found.0 i (sym found.1 ∙ at)) found.2 possible)) (alive e lt a source live).begins

    starts_called : (a : ℕ) → Calls g a h → v.live a ≡ true → (cert c).start ≡ None
    starts_called a (e, f, lt, source, callee, entry) live = ⊎_elim
        (λ (unknown : (cert c).start ≡ None). unknown)
        (λ (enters : IsEntering c g a e). absurd (enters.called f callee entry)) (alive e lt a source live).begins

    starts_back : (a to : ℕ) → Calls g a to → Leads g a h → v.live a ≡ true → (cert c).body a ≡ false → (cert c).start ≡ None
    starts_back a to (d, f, dl, from, callee, entry) (e, el, source, target) live off =
        let called : g.callee e ≡ Some f = is.claim.graph_is.flow.program.one_callee e d el dl (source ∙ sym from) ∙ callee in
        ⊎_elim
        (λ (unknown : (cert c).start ≡ None). unknown)
        (λ (enters : IsEntering c g a e). absurd (enters.back f h called target off refl)) (alive e el a source live).begins

    starts_entry : t.entry ≡ h → (cert c).start ≡ None
    starts_entry at =
        let here : t.entry ≡ address c.claim.now begun.0 = entry_text c ∙ address_is c.claim.now begun.0 c.claim.now.view.now.entry begun.1 in
        begun.3 (header_number c is begun.0 (slice_get_within c.claim.now.graph.now.code.nodes begun.0 c.claim.now.view.now.entry begun.1) (sym here ∙ at))

    quiet_along : (a b : ℕ) → Leads g a b → (cert c).quiet a ≡ true → (cert c).quiet b ≡ true
    quiet_along a b (e, lt, source, target) quiet = (given e lt).quiet_along b target (ap (cert c).quiet source ∙ quiet)

    quiet_calls : (a b : ℕ) → Calls g a b → (cert c).quiet a ≡ true → (cert c).quiet b ≡ true
    quiet_calls a b (e, f, lt, source, callee, entry) quiet = subst (λ (y : ℕ). (cert c).quiet y ≡ true) entry ((given e lt).quiet_calls f callee (ap (cert c).quiet source ∙ quiet))

    entry : (cert c).body t.entry ≡ true → t.entry ≡ h
    entry on =
        let at : t.entry ≡ address c.claim.now begun.0 = entry_text c ∙ address_is c.claim.now begun.0 c.claim.now.view.now.entry begun.1 in
        let same : begun.0 ≡ c.header = begun.2 (subst (λ (a : ℕ). (cert c).body a ≡ true) at on) in
        at ∙ (ap (address c.claim.now) same ∙ is.header_is)

shown_in : (c : WalkCase) → IsWalkCase c → IsHeaderSo (cert c) (address c.claim.now c.header) → IsEntrySo c → AreEdgesWalked c → ((nodes : List ℕ) → IsGround (stacks_in c.claim.now).areas (stacks_in c.claim.now).fixed (certificate_of nodes c.table.now)) →
    IsWalkCertificate (text_in c.claim.now) (text_graph (text_in c.claim.now) c.claim.now.graph.now.code) (values_in c.claim.now) (stacks_in c.claim.now) c.note.now.header (λ v. in_extent c.note.now v) (cert c)
unfolding text_in
shown_in c is head begun given ground = subst (λ (g : Graph). IsWalkCertificate (text_in c.claim.now) g (values_in c.claim.now) (stacks_in c.claim.now) c.note.now.header (λ v. in_extent c.note.now v) (cert c))
    (sym is.claim.graph_is.graph_is) (certificate c is head begun given ground)

positive_in : (c : WalkCase) → 0 < c.table.now.least → 0 < (cert c).least
unfolding certificate_in
positive_in c h = h

enough_in : (c : WalkCase) (bound : ℕ) → c.table.now.width / c.table.now.least ≤ bound → (cert c).width / (cert c).least ≤ bound
unfolding certificate_in
enough_in c bound h = h

pub shown : (c : WalkCase) → IsWalkCase c → IsHeaderSo (cert c) (address c.claim.now c.header) → IsEntrySo c →
    (0 < c.table.now.least) × (c.table.now.width / c.table.now.least ≤ c.note.now.bound) → AreEdgesWalked c → ((nodes : List ℕ) → IsGround (stacks_in c.claim.now).areas (stacks_in c.claim.now).fixed (certificate_of nodes c.table.now)) → (notes : List LoopNote) (k : ℕ) → note_at notes k ≡ c.note.now →
    IsWalkShown (claim_text c.claim.now) (text_graph (claim_text c.claim.now) c.claim.now.graph.now.code) (claim_values c.claim.now) (claim_stacks c.claim.now) (noted_loops notes) k
unfolding text_in values_in stacks_in
shown c is head begun enough given ground notes k same = record {
  certificate = cert c;
  is = subst (λ (note : LoopNote). IsWalkCertificate (text_in c.claim.now) (text_graph (text_in c.claim.now) c.claim.now.graph.now.code) (values_in c.claim.now) (stacks_in c.claim.now) note.header (λ v. in_extent note v) (cert c)) (sym same) (shown_in c is head begun given ground);
  positive = positive_in c enough.0;
  enough = subst (λ (note : LoopNote). (cert c).width / (cert c).least ≤ note.bound) (sym same) (enough_in c c.note.now.bound enough.1);
}
