-- What the code says of each edge and of the header is a certificate, and shows a lower bound.
use Rattle.std.proofs.Common.{◌≡◌, ℕ, ◌<◌, Bool, true, Some, List, refl, sym, ap, ◌∙◌, subst}
use Rattle.std.specs.Prelude.{◌||◌}
use Rattle.std.specs.List.{list_any}
use Rattle.std.proofs.lemmas.Bool.{eq-eqb}
use Rattle.scale_base.specs.Image.{is_in}
use Rattle.scale_base.specs.declared.instruction.Instr.{Instr}
use Rattle.loop_file.specs.declared.notes.LoopNote.{LoopNote}
use Rattle.loop_file.specs.Kept.{note_at, noted_loops, in_extent}
use Rattle.cost_theory.specs.Graph.{Graph}
use Rattle.code_text.specs.Text.{Text, instr_at}
use Rattle.code_text.specs.TextGraph.{text_graph}
use Rattle.flow_graph.specs.FlowGraph.{graph}
use Rattle.bound_laws.specs.Turning.{Leads, Calls}
use Rattle.bound_laws.specs.Values.{Values, Steps}
use Rattle.stack_laws.specs.Stacks.{Stacks}
use Rattle.stack_tables.specs.Tables.{address, claim_stacks, claim_text, claim_values, stacks_in, text_in, values_in}
use Rattle.stack_tables.proofs.Laws.{address_is}
use Rattle.lower_bounds.specs.LowerBounds.{IsLowerCertificate, IsLowerShown}
use Rattle.lower_bounds.specs.declared.tables.LowerCase.{LowerCase}
use Rattle.lower_bounds.specs.LowerTables.{cert, AreEdgesSo, IsCalledSo, IsEntrySo, IsHeaderSo, IsLedSo, IsLiveSo, IsLowerCase, IsStepAt}

entry_text : (c : LowerCase) → (text_in c.claim.now).entry ≡ c.claim.now.view.now.entry
unfolding text_in
entry_text c = refl

in_own_extent : (note : LoopNote) → in_extent note note.header ≡ true
in_own_extent note = ap (λ (b : Bool). b || list_any (is_in note.header) note.ranges) (eq-eqb note.header note.header refl)

certificate : (c : LowerCase) → IsLowerCase c → IsHeaderSo (cert c) (address c.claim.now c.header) → IsEntrySo c → AreEdgesSo c →
    IsLowerCertificate (text_in c.claim.now) (graph c.claim.now.graph.now) (values_in c.claim.now) (stacks_in c.claim.now) c.note.now.header (λ v. in_extent c.note.now v) c.note.now.at_least (cert c)
certificate c is head begun given = record {
  registers = header.registers;
  head = header.head;
  holds = in_own_extent c.note.now;
  entered = λ a b leads live on other. (led a b leads live).entered other on;
  called = λ a b call live. (called a b call live).begins;
  started = ap (cert c).body (entry_text c ∙ address_is c.claim.now begun.0 c.claim.now.view.now.entry begun.1) ∙ begun.2;
  back = back;
  starts = λ a i steps live outside at. (step a h i steps live at).starts refl outside;
  effects = λ a b i steps live inside at. (step a b i steps live at).effects inside;
  along = λ a b leads live inside on other. (led a b leads live).along other inside on;
  turns = λ a leads live inside. (led a h leads live).turn refl inside;
  left = λ a b i steps live inside outside at. (step a b i steps live at).left inside outside;
  calls = λ a b call live inside. (called a b call live).calls inside;
  quiet_along = quiet_along;
  quiet_calls = quiet_calls;
  quiet_apart = header.quiet;
}
  where
    t : Text
    t = text_in c.claim.now

    g : Graph
    g = graph c.claim.now.graph.now

    v : Values
    v = values_in c.claim.now

    w : Stacks
    w = stacks_in c.claim.now

    h : ℕ
    h = c.note.now.header

    header : IsHeaderSo (cert c) h
    header = subst (λ (a : ℕ). IsHeaderSo (cert c) a) is.header_is head

    alive : (e : ℕ) → e < g.edges → (a : ℕ) → g.source e ≡ a → v.live a ≡ true → IsLiveSo c g a e
    alive e lt a source live = subst (λ (x : ℕ). IsLiveSo c g x e) source ((given e lt).live (ap v.live source ∙ live))

    led : (a b : ℕ) → Leads g a b → v.live a ≡ true → IsLedSo (cert c) h (λ v. in_extent c.note.now v) a b
    led a b (e, lt, source, target) live = (alive e lt a source live).led b target

    called : (a b : ℕ) → Calls g a b → v.live a ≡ true → IsCalledSo t v w (cert c) a b
    called a b (e, f, lt, source, callee, entry) live = subst (λ (y : ℕ). IsCalledSo t v w (cert c) a y) entry ((alive e lt a source live).called f callee)

    step : (a b : ℕ) (i : Instr) → Steps g a b → v.live a ≡ true → instr_at t a ≡ Some i → IsStepAt c a i b
    step a b i (e, lt, source, target, none) live at = (alive e lt a source live).step b target none i at

    back : (a to : ℕ) → Calls g a to → Leads g a h → v.live a ≡ true → in_extent c.note.now a ≡ true
    back a to (d, f, dl, from, callee, entry) (e, el, source, target) live =
        let called : g.callee e ≡ Some f = is.claim.graph_is.flow.program.one_callee e d el dl (source ∙ sym from) ∙ callee in
        (alive e el a source live).back f h called target refl

    quiet_along : (a b : ℕ) → Leads g a b → (cert c).quiet a ≡ true → (cert c).quiet b ≡ true
    quiet_along a b (e, lt, source, target) quiet = (given e lt).quiet_along b target (ap (cert c).quiet source ∙ quiet)

    quiet_calls : (a b : ℕ) → Calls g a b → (cert c).quiet a ≡ true → (cert c).quiet b ≡ true
    quiet_calls a b (e, f, lt, source, callee, entry) quiet = subst (λ (y : ℕ). (cert c).quiet y ≡ true) entry ((given e lt).quiet_calls f callee (ap (cert c).quiet source ∙ quiet))

shown_in : (c : LowerCase) → IsLowerCase c → IsHeaderSo (cert c) (address c.claim.now c.header) → IsEntrySo c → AreEdgesSo c →
    IsLowerCertificate (text_in c.claim.now) (text_graph (text_in c.claim.now) c.claim.now.graph.now.code) (values_in c.claim.now) (stacks_in c.claim.now) c.note.now.header (λ v. in_extent c.note.now v) c.note.now.at_least (cert c)
unfolding text_in
shown_in c is head begun given = subst (λ (g : Graph). IsLowerCertificate (text_in c.claim.now) g (values_in c.claim.now) (stacks_in c.claim.now) c.note.now.header (λ v. in_extent c.note.now v) c.note.now.at_least (cert c))
    (sym is.claim.graph_is.graph_is) (certificate c is head begun given)

pub shown : (c : LowerCase) → IsLowerCase c → IsHeaderSo (cert c) (address c.claim.now c.header) → IsEntrySo c → AreEdgesSo c → (notes : List LoopNote) (k : ℕ) → note_at notes k ≡ c.note.now →
    IsLowerShown (claim_text c.claim.now) (text_graph (claim_text c.claim.now) c.claim.now.graph.now.code) (claim_values c.claim.now) (claim_stacks c.claim.now) (noted_loops notes) k
unfolding text_in values_in stacks_in
shown c is head begun given notes k same = record {
  certificate = cert c;
  is = subst (λ (note : LoopNote). IsLowerCertificate (text_in c.claim.now) (text_graph (text_in c.claim.now) c.claim.now.graph.now.code) (values_in c.claim.now) (stacks_in c.claim.now) note.header (λ v. in_extent note v) note.at_least (cert c)) (sym same) (shown_in c is head begun given);
}
