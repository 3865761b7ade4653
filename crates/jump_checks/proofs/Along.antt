-- What is so of nodes and of edges by their numbers is what the code says of reads.
use Rattle.std.proofs.Common.{◌≡◌, ℕ, ◌<◌, true, false, length, Option, Some, None, sym, ap, ◌∙◌, subst}
use Rattle.std.specs.Prelude.{slice_get}
use Rattle.scale_base.specs.declared.instruction.Instr.{Instr}
use Rattle.cost_theory.specs.Graph.{Graph}
use Rattle.code_text.specs.Text.{Text, instr_at, text_of}
use Rattle.code_text.specs.TextGraph.{text_graph}
use Rattle.flow_graph.specs.FlowGraph.{graph}
use Rattle.flow_graph.proofs.Laws.{some_is}
use Rattle.bound_laws.specs.Turning.{Leads, Calls}
use Rattle.bound_laws.specs.Values.{IsRegister, Steps, Values}
use Rattle.stack_tables.specs.Tables.{address, claim_values, text_in, values_in}
use Rattle.stack_tables.proofs.Laws.{address_is}
use Rattle.jump_laws.specs.declared.reads.TableRead.{TableRead}
use Rattle.jump_laws.specs.Reads.{AreReads, IsReadOver}
use Rattle.jump_checks.specs.declared.claims.ReadClaim.{ReadClaim}
use Rattle.jump_checks.specs.Claimed.{AreOfRegisters, IsBackRead, IsEdgeSo, IsEntryRead, IsKnownOver, IsNothing, IsReadClaim, IsReadThere, IsStepRead, known_beside, known_in}
use Rattle.jump_checks.proofs.Seen.{known_number}

-- ---- nodes

pub nothing_over : (c : ReadClaim) (k n : ℕ) → known_in c (address c.claim.now n) ≡ None → IsKnownOver c k n
nothing_over c k n none x e live i at = let bad : ⊥ = cc in absurd bad

pub dead_over : (c : ReadClaim) (k n : ℕ) → (values_in c.claim.now).live (address c.claim.now k) ≡ false → IsKnownOver c k n
dead_over c k n dead x e live i at = let no : true ≡ false = sym live ∙ dead in let bad : ⊥ = cc in absurd bad

pub known_over : (c : ReadClaim) (k n : ℕ) (x : TableRead) → known_in c (address c.claim.now n) ≡ Some x → ((i : Instr) → instr_at (text_in c.claim.now) (address c.claim.now k) ≡ Some i → IsReadThere c k i x) → IsKnownOver c k n
known_over c k n x is so y e live i at = subst (λ (z : TableRead). IsReadThere c k i z) (some_is x y (sym is ∙ e)) (so i at)

-- ---- edges

pub step_read : (c : ReadClaim) (e k n : ℕ) → slice_get c.claim.now.graph.now.code.nodes k ≡ Some ((graph c.claim.now.graph.now).source e) → (graph c.claim.now.graph.now).target e ≡ slice_get c.claim.now.graph.now.code.nodes n →
    IsKnownOver c k n → IsStepRead c e
step_read c e k n at target over b x to known live i there =
    subst (λ (a : ℕ). IsReadOver (values_in c.claim.now) (known_in c) i a x) (sym from)
    (over x (sym (ap (known_in c) dest) ∙ known) (sym (ap (values_in c.claim.now).live from) ∙ live) i (sym (ap (instr_at (text_in c.claim.now)) from) ∙ there))
  where
    from : (graph c.claim.now.graph.now).source e ≡ address c.claim.now k
    from = address_is c.claim.now k ((graph c.claim.now.graph.now).source e) at

    dest : b ≡ address c.claim.now n
    dest = address_is c.claim.now n b (sym target ∙ to)

pub no_step : (c : ReadClaim) (e : ℕ) → (graph c.claim.now.graph.now).target e ≡ None → IsStepRead c e
no_step c e none b x to known live i there = let bad : ⊥ = cc in absurd bad

pub back_read : (c : ReadClaim) (e n : ℕ) → (graph c.claim.now.graph.now).target e ≡ slice_get c.claim.now.graph.now.code.nodes n → IsNothing c n → IsBackRead c e
back_read c e n target nothing b to = ap (known_in c) (address_is c.claim.now n b (sym target ∙ to)) ∙ nothing

pub no_back : (c : ReadClaim) (e : ℕ) → (graph c.claim.now.graph.now).target e ≡ None → IsBackRead c e
no_back c e none b to = let bad : ⊥ = cc in absurd bad

pub entry_read : (c : ReadClaim) (f h : ℕ) → slice_get c.claim.now.graph.now.code.nodes h ≡ Some ((graph c.claim.now.graph.now).entry f) → IsNothing c h → IsEntryRead c f
entry_read c f h at nothing = ap (known_in c) (address_is c.claim.now h ((graph c.claim.now.graph.now).entry f) at) ∙ nothing

pub call_so : (c : ReadClaim) (e f : ℕ) → (graph c.claim.now.graph.now).callee e ≡ Some f → IsEntryRead c f × IsBackRead c e → IsEdgeSo c e
call_so c e f callee both = record {
  step = λ b x to none known live i there. let bad : ⊥ = cc in absurd bad;
  call = λ g to. subst (λ (y : ℕ). IsEntryRead c y) (some_is f g (sym callee ∙ to)) both.0;
  back = λ g b to target. both.1 b target;
}

pub step_so : (c : ReadClaim) (e : ℕ) → (graph c.claim.now.graph.now).callee e ≡ None → IsStepRead c e → IsEdgeSo c e
step_so c e callee step = record {
  step = λ b x to none known live i there. step b x to known live i there;
  call = λ g to. let bad : ⊥ = cc in absurd bad;
  back = λ g b to target. let bad : ⊥ = cc in absurd bad;
}

-- ---- all of a claim

pub start_clear : (c : ReadClaim) (k a entry : ℕ) → slice_get c.claim.now.graph.now.code.nodes k ≡ Some a → a ≡ entry → known_in c (address c.claim.now k) ≡ None → known_beside c.claim.now.graph.now.code.nodes c.reads.now entry ≡ None
unfolding known_in
start_clear c k a entry at same nothing = subst (λ (x : ℕ). known_in c x ≡ None) same (subst (λ (x : ℕ). known_in c x ≡ None) (sym (address_is c.claim.now k a at)) nothing)

registers_so : (c : ReadClaim) → AreOfRegisters c.reads.now → (a : ℕ) (x : TableRead) → known_in c a ≡ Some x → IsRegister x.register
unfolding known_in
registers_so c regs a x e = let f = known_number c.claim.now.graph.now.code.nodes c.reads.now a x e in regs f.0 x f.1

start_so : (c : ReadClaim) → known_beside c.claim.now.graph.now.code.nodes c.reads.now c.claim.now.view.now.entry ≡ None → known_in c (text_in c.claim.now).entry ≡ None
unfolding known_in text_in
start_so c e = e

reads_of : (c : ReadClaim) → IsReadClaim c → AreOfRegisters c.reads.now → known_beside c.claim.now.graph.now.code.nodes c.reads.now c.claim.now.view.now.entry ≡ None → ((e : ℕ) → e < length c.claim.now.graph.now.code.edges → IsEdgeSo c e) →
    AreReads (text_in c.claim.now) (graph c.claim.now.graph.now) (values_in c.claim.now) (known_in c)
reads_of c is regs start given = record {
  registers = registers_so c regs;
  steps = steps;
  calls = calls;
  back = back;
  start = start_so c start;
}
  where
    t : Text
    t = text_in c.claim.now

    g : Graph
    g = graph c.claim.now.graph.now

    v : Values
    v = values_in c.claim.now

    known : ℕ → Option TableRead
    known = known_in c

    steps : (a b : ℕ) (i : Instr) (x : TableRead) → Steps g a b → v.live a ≡ true → instr_at t a ≡ Some i → known b ≡ Some x → IsReadOver v known i a x
    steps a b i x (e, lt, source, target, none) live at there =
        subst (λ (y : ℕ). IsReadOver v known i y x) source ((given e lt).step b x target none there (ap v.live source ∙ live) i (ap (instr_at t) source ∙ at))

    calls : (a b : ℕ) → Calls g a b → known b ≡ None
    calls a b (e, f, lt, source, callee, entry) = subst (λ (y : ℕ). known y ≡ None) entry ((given e lt).call f callee)

    back : (u to b : ℕ) → Calls g u to → Leads g u b → known b ≡ None
    back u to b (d, f, dl, from, callee, entry) (e, el, source, target) = (given e el).back f b (is.claim.graph_is.flow.program.one_callee e d el dl (source ∙ sym from) ∙ callee) target

pub reads_so : (c : ReadClaim) → IsReadClaim c → AreOfRegisters c.reads.now → known_beside c.claim.now.graph.now.code.nodes c.reads.now c.claim.now.view.now.entry ≡ None → ((e : ℕ) → e < length c.claim.now.graph.now.code.edges → IsEdgeSo c e) →
    AreReads (text_of c.claim.now.view.now) (text_graph (text_of c.claim.now.view.now) c.claim.now.graph.now.code) (claim_values c.claim.now) (known_beside c.claim.now.graph.now.code.nodes c.reads.now)
unfolding text_in values_in known_in
reads_so c is regs start given = subst (λ (g : Graph). AreReads (text_in c.claim.now) g (values_in c.claim.now) (known_in c)) (sym is.claim.graph_is.graph_is) (reads_of c is regs start given)
