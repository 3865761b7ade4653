-- What holds of a node, by its number, holds where an edge leads to it or calls it, and what is confirmed of an edge is an invariant.
use Rattle.std.proofs.Common.{◌≡◌, ℕ, zero, suc, ◌<◌, ◌^◌, true, List, [], ◌∷◌, length, Some, None, sym, ◌∙◌, ap, subst, arith}
use Rattle.std.specs.List.{All}
use Rattle.std.specs.Prelude.{slice_get}
use Rattle.scale_base.specs.declared.instruction.Instr.{Instr}
use Rattle.scale_base.specs.Image.{loaded_byte}
use Rattle.scale_base.specs.Layout.{layout_of}
use Rattle.scale_base.specs.State.{reg}
use Rattle.cost_theory.specs.Graph.{Graph}
use Rattle.code_text.specs.Text.{Text, instr_at}
use Rattle.code_text.specs.TextGraph.{text_graph}
use Rattle.flow_graph.specs.FlowGraph.{graph}
use Rattle.flow_graph.proofs.Laws.{some_is}
use Rattle.bound_laws.specs.Laws.{starting_registers}
use Rattle.bound_laws.specs.Registers as registers
use Rattle.bound_laws.specs.Turning.{Leads, Calls}
use Rattle.stack_laws.specs.Laws.{IsStackAnalysed}
use Rattle.bound_laws.specs.Values.{Values, Steps, AreIn, IsHeld, IsRegister}
use Rattle.stack_laws.specs.Areas.{AreAreas}
use Rattle.stack_laws.specs.Fixed.{AreFixedIn, AreUnwritten}
use Rattle.stack_laws.specs.Cells.{IsCellHeld}
use Rattle.stack_laws.specs.Stacks.{Stacks, IsCellKept, IsPassed, AreEntered, AreBack, IsReturned, IsSparing, IsDescending, IsStackInvariant}
use Rattle.wrapped_intervals.specs.declared.lines.Measure.{Measure}
use Rattle.value_checks.specs.Tables.{IsForm, form_in}
use Rattle.stack_tables.specs.declared.claims.StackClaim.{StackClaim}
use Rattle.stack_tables.specs.Tables.{IsStackClaim, address, claim_stacks, claim_values, stacks_in, text_in, values_in}
use Rattle.stack_checks.specs.Checked.{IsEdgeChecked, IsEdgeSound, IsLineStarted, IsStart}
use Rattle.stack_tables.proofs.Laws.{address_is}

pub led_so : (P : ℕ → Type 0) (c : StackClaim) (e n : ℕ) → (graph c.graph.now).target e ≡ slice_get c.graph.now.code.nodes n → P (address c n) → (b : ℕ) → (graph c.graph.now).target e ≡ Some b → P b
led_so P c e n target given b to = subst P (sym (address_is c n b (sym target ∙ to))) given

pub called_so : (P : ℕ → Type 0) (c : StackClaim) (e f h : ℕ) → (graph c.graph.now).callee e ≡ Some f → slice_get c.graph.now.code.nodes h ≡ Some ((graph c.graph.now).entry f) → P (address c h) →
    (d : ℕ) → (graph c.graph.now).callee e ≡ Some d → P ((graph c.graph.now).entry d)
called_so P c e f h callee at given d to = subst (λ (x : ℕ). P ((graph c.graph.now).entry x)) (some_is f d (sym callee ∙ to)) (subst P (sym (address_is c h ((graph c.graph.now).entry f) at)) given)

pub in_starts : (c : StackClaim) (a : ℕ) → (values_in c).live a ≡ true → ((r : ℕ) → IsRegister r → IsHeld ((values_in c).at a r) (reg starting_registers r)) → ((j : ℕ) → IsLineStarted (values_in c) a j) → AreIn (values_in c) a starting_registers
in_starts c a live each lines = record { live = live; each = each; lines = lines }

abbrev AreOfRegisters : registers.Measure → Type 0
AreOfRegisters m = IsRegister m.register × IsRegister m.other

forms_in : (forms : List Measure) → All IsForm forms → (j : ℕ) → AreOfRegisters (form_in forms j)
forms_in [] all j = ((omega arith, omega arith), (omega arith, omega arith))
forms_in (m ∷ forms) all zero = let is : IsForm m = all 0 m (omega arith) in (is.register, is.other)
forms_in (m ∷ forms) all (suc j) = forms_in forms (λ k d lt. all (suc k) d (omega (arith, lt))) j

forms : (c : StackClaim) → IsStackClaim c → (j : ℕ) → IsRegister ((values_in c).forms j).register × IsRegister ((values_in c).forms j).other
unfolding values_in
forms c is j = forms_in c.table.now.forms.items is.sized.forms_kept j

offsets : (c : StackClaim) (k : ℕ) → (stacks_in c).offset k < 2 ^ 32
unfolding stacks_in
offsets c k = omega arith

stays : (c : StackClaim) → IsStackClaim c → (a b : ℕ) → Leads (graph c.graph.now) a b → (values_in c).function b ≡ (values_in c).function a
unfolding values_in
stays c is a b (e, lt, source, target) = (is.graph_is.flow.program.stays e b lt target).1 ∙ ap (graph c.graph.now).owner source

invariant : (c : StackClaim) → IsStackClaim c → ((e : ℕ) → e < length c.graph.now.code.edges → IsEdgeChecked (text_in c) (graph c.graph.now) (values_in c) (stacks_in c) e) →
    IsStackInvariant (text_in c) (graph c.graph.now) (values_in c) (stacks_in c)
invariant c is given = record {
  registers = forms c is;
  offsets = offsets c;
  steps = steps;
  calls = calls;
  returns = returns;
  back = back;
  functions = stays c is;
  spared_along = along;
  spared_calls = spared_calls;
  spares = spares;
  cells = cells;
}
  where
    t : Text
    t = text_in c

    g : Graph
    g = graph c.graph.now

    v : Values
    v = values_in c

    w : Stacks
    w = stacks_in c

    -- the instruction at an edge's source
    sound : (e : ℕ) → e < length c.graph.now.code.edges → v.live (g.source e) ≡ true → (i : Instr) → instr_at t (g.source e) ≡ Some i → IsEdgeSound t g v w i (g.source e) e
    sound e lt live i at =
        let found : (j : Instr) × (instr_at t (g.source e) ≡ Some j) × IsEdgeSound t g v w j (g.source e) e = (given e lt).sound live in
        subst (λ (j : Instr). IsEdgeSound t g v w j (g.source e) e) (some_is found.0 i (sym found.1 ∙ at)) found.2

    steps : (a b : ℕ) (i : Instr) → Steps g a b → v.live a ≡ true → instr_at t a ≡ Some i → IsPassed v w i a b
    steps a b i (e, lt, source, target, none) live at =
        subst (λ (x : ℕ). IsPassed v w i x b) source ((sound e lt (ap v.live source ∙ live) i (ap (instr_at t) source ∙ at)).step b target none)

    calls : (a b : ℕ) (i : Instr) → Calls g a b → v.live a ≡ true → instr_at t a ≡ Some i → AreEntered v w i a b
    calls a b i (e, f, lt, source, callee, entry) live at =
        subst (λ (x : ℕ). AreEntered v w i x b) source
        (subst (λ (y : ℕ). AreEntered v w i (g.source e) y) entry ((sound e lt (ap v.live source ∙ live) i (ap (instr_at t) source ∙ at)).call f callee))

    returns : (e r : ℕ) → e < g.edges → g.returns e ≡ true → v.live (g.source e) ≡ true → IsRegister r → IsReturned t v w (g.source e) r
    returns e r lt returned live register =
        let found : (i : Instr) × (instr_at t (g.source e) ≡ Some i) × IsEdgeSound t g v w i (g.source e) e = (given e lt).sound live in found.2.returns r returned register

    back : (u to b : ℕ) → Calls g u to → Leads g u b → v.live u ≡ true → AreBack t v w u to b
    back u to b (d, f, dl, from, callee, entry) (e, el, source, target) live =
        let called : g.callee e ≡ Some f = is.graph_is.flow.program.one_callee e d el dl (source ∙ sym from) ∙ callee in
        let found : (i : Instr) × (instr_at t (g.source e) ≡ Some i) × IsEdgeSound t g v w i (g.source e) e = (given e el).sound (ap v.live source ∙ live) in
        subst (λ (x : ℕ). AreBack t v w x to b) source (subst (λ (y : ℕ). AreBack t v w (g.source e) y b) entry (found.2.back f b called target))

    along : (k a b : ℕ) → Leads g a b → w.spared k a ≡ true → w.spared k b ≡ true
    along k a b (e, lt, source, target) up = (given e lt).along k b target (ap (w.spared k) source ∙ up)

    spared_calls : (k a b : ℕ) → Calls g a b → v.live a ≡ true → w.spared k a ≡ true → (w.spared k b ≡ true) × (more : ℕ) × IsDescending v w a more
    spared_calls k a b (e, f, lt, source, callee, entry) live up =
        let found : (i : Instr) × (instr_at t (g.source e) ≡ Some i) × IsEdgeSound t g v w i (g.source e) e = (given e lt).sound (ap v.live source ∙ live) in
        subst (λ (x : ℕ). (w.spared k b ≡ true) × (more : ℕ) × IsDescending v w x more) source
        (subst (λ (y : ℕ). (w.spared k y ≡ true) × (more : ℕ) × IsDescending v w (g.source e) more) entry (found.2.spared_calls f k callee (ap (w.spared k) source ∙ up)))

    spares : (k e : ℕ) (i : Instr) → e < g.edges → v.live (g.source e) ≡ true → w.spared k (g.source e) ≡ true → instr_at t (g.source e) ≡ Some i → IsSparing v w (g.source e) i k
    spares k e i lt live up at = (sound e lt live i at).spares k up

    cells : (c e : ℕ) (i : Instr) → e < g.edges → v.live (g.source e) ≡ true → instr_at t (g.source e) ≡ Some i → IsCellKept v (g.source e) i (w.cell c)
    cells c e i lt live at = (sound e lt live i at).cells c

pub invariant_of : (c : StackClaim) → IsStackClaim c → ((e : ℕ) → e < length c.graph.now.code.edges → IsEdgeChecked (text_in c) (graph c.graph.now) (values_in c) (stacks_in c) e) →
    IsStackInvariant (text_in c) (text_graph (text_in c) c.graph.now.code) (values_in c) (stacks_in c)
unfolding text_in
invariant_of c is given = subst (λ (g : Graph). IsStackInvariant (text_in c) g (values_in c) (stacks_in c)) (sym is.graph_is.graph_is) (invariant c is given)

pub edge_so : (c : StackClaim) (e k : ℕ) → slice_get c.graph.now.code.nodes k ≡ Some ((graph c.graph.now).source e) →
    ((j b : ℕ) → (graph c.graph.now).target e ≡ Some b → (stacks_in c).spared j (address c k) ≡ true → (stacks_in c).spared j b ≡ true) →
    ((values_in c).live (address c k) ≡ true → (i : Instr) × (instr_at (text_in c) (address c k) ≡ Some i) × IsEdgeSound (text_in c) (graph c.graph.now) (values_in c) (stacks_in c) i (address c k) e) →
    IsEdgeChecked (text_in c) (graph c.graph.now) (values_in c) (stacks_in c) e
edge_so c e k at along sound = record {
  along = subst (λ (a : ℕ). (j b : ℕ) → (graph c.graph.now).target e ≡ Some b → (stacks_in c).spared j a ≡ true → (stacks_in c).spared j b ≡ true) source along;
  sound = subst (λ (a : ℕ). (values_in c).live a ≡ true → (i : Instr) × (instr_at (text_in c) a ≡ Some i) × IsEdgeSound (text_in c) (graph c.graph.now) (values_in c) (stacks_in c) i a e) source sound;
}
  where
    source : address c k ≡ (graph c.graph.now).source e
    source = sym (address_is c k ((graph c.graph.now).source e) at)

pub analysed : (c : StackClaim) → IsStackClaim c → c.view.now.keyed_segment ≡ None → IsStart (values_in c) (stacks_in c) c.view.now.entry → AreAreas (layout_of c.view.now) (stacks_in c).areas → ((j : ℕ) → IsCellHeld ((stacks_in c).cell j) (loaded_byte c.view.now)) → AreUnwritten (layout_of c.view.now) (stacks_in c).fixed → AreFixedIn (stacks_in c).fixed (loaded_byte c.view.now) → IsStackInvariant (text_in c) (text_graph (text_in c) c.graph.now.code) (values_in c) (stacks_in c) →
    IsStackAnalysed c.view.now c.graph.now.code (claim_values c) (claim_stacks c)
unfolding text_in values_in stacks_in
analysed c is plain start areas cells unwritten fixed given = record {
  reached = is.graph_is.reached;
  invariant = given;
  beginning = start.beginning;
  starts = start.starts;
  begins = start.begins;
  plain = plain;
  areas = areas;
  cells = cells;
  unwritten = unwritten;
  fixed = fixed;
}
