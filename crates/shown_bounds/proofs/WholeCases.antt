-- What the code says of each edge is a certificate.
use Rattle.std.proofs.Common.{◌≡◌, ℕ, true, Some, refl, sym, ap, ◌∙◌, subst}
use Rattle.scale_base.specs.declared.instruction.Instr.{Instr}
use Rattle.loop_file.specs.Kept.{in_extent}
use Rattle.cost_theory.specs.Graph.{Graph}
use Rattle.code_text.specs.Text.{instr_at}
use Rattle.bound_laws.specs.Turning.{Leads, Calls}
use Rattle.bound_laws.specs.Values.{Steps}
use Rattle.stack_laws.specs.Counting.{IsAdded, IsStackCertificate}
use Rattle.stack_tables.specs.Tables.{claim_stacks, claim_text, claim_values}
use Rattle.shown_bounds.specs.declared.certificates.Case.{Case}
use Rattle.shown_bounds.specs.Certified.{case_graph, code_certificate, is_live_there, AreEdgesCertified, IsBegun, IsCalledTo, IsCase, IsCertified, IsLedTo}
use Rattle.shown_bounds.proofs.Cases.{body_is, header_address, offset_is, quiet_is}

certificate : (c : Case) → IsCase c → IsBegun c → AreEdgesCertified c →
    IsStackCertificate (claim_text c.claim.now) (case_graph c) (claim_values c.claim.now) (claim_stacks c.claim.now) c.note.now.header (λ v. in_extent c.note.now v) (code_certificate c)
certificate c is begun given = record {
  registers = begun.registers;
  first = body_is c is c.header c.note.now.header is.header ∙ begun.first;
  begins = offset_is c is c.header c.note.now.header is.header ∙ begun.begins;
  entered = λ a b leads live body other. ((led a b leads live).along other body).0;
  called = λ a b calls live body. (called a b calls live).begins body;
  started = λ body. header_address c is begun.start.0 c.claim.now.view.now.entry begun.start.1 (begun.started begun.start.0 begun.start.1 (sym (body_is c is begun.start.0 c.claim.now.view.now.entry begun.start.1) ∙ body));
  counts = λ a leads live inside. ((led a c.note.now.header leads live).turn refl).counted inside;
  effects = effects;
  along = λ a b leads live from to other. ((led a b leads live).along other to).1;
  turns = λ a leads live body. ((led a c.note.now.header leads live).turn refl).raises body;
  calls = λ a b calls live body. (called a b calls live).calls body;
  quiet_along = quiet_along;
  quiet_calls = quiet_calls;
  quiet_apart = quiet_is c is c.header c.note.now.header is.header ∙ begun.quiet;
}
  where
    led : (a b : ℕ) → Leads (case_graph c) a b → is_live_there c a ≡ true → IsLedTo c a b
    led a b (e, lt, source, target) live = subst (λ (x : ℕ). IsLedTo c x b) source (((given e lt).live (ap (is_live_there c) source ∙ live)).leads b target)

    called : (a b : ℕ) → Calls (case_graph c) a b → is_live_there c a ≡ true → IsCalledTo c a b
    called a b (e, f, lt, source, callee, entry) live =
        subst (λ (x : ℕ). IsCalledTo c x b) source (subst (λ (y : ℕ). IsCalledTo c ((case_graph c).source e) y) entry (((given e lt).live (ap (is_live_there c) source ∙ live)).calls f callee))

    effects : (a b : ℕ) (i : Instr) → Steps (case_graph c) a b → is_live_there c a ≡ true → (code_certificate c).body a ≡ true → instr_at (claim_text c.claim.now) a ≡ Some i →
        IsAdded (claim_values c.claim.now) (claim_stacks c.claim.now) (code_certificate c).counter a i ((code_certificate c).adds a)
    effects a b i (e, lt, source, target, none) live body there =
        subst (λ (x : ℕ). IsAdded (claim_values c.claim.now) (claim_stacks c.claim.now) (code_certificate c).counter x i ((code_certificate c).adds x)) source
        (((given e lt).live (ap (is_live_there c) source ∙ live)).steps b i target none (ap (code_certificate c).body source ∙ body) (ap (instr_at (claim_text c.claim.now)) source ∙ there))

    quiet_along : (a b : ℕ) → Leads (case_graph c) a b → (code_certificate c).quiet a ≡ true → (code_certificate c).quiet b ≡ true
    quiet_along a b (e, lt, source, target) quiet = (given e lt).quiet_along b target (ap (code_certificate c).quiet source ∙ quiet)

    quiet_calls : (a b : ℕ) → Calls (case_graph c) a b → (code_certificate c).quiet a ≡ true → (code_certificate c).quiet b ≡ true
    quiet_calls a b (e, f, lt, source, callee, entry) quiet = subst (λ (y : ℕ). (code_certificate c).quiet y ≡ true) entry ((given e lt).quiet_calls f callee (ap (code_certificate c).quiet source ∙ quiet))

pub certified : (c : Case) → IsCase c → IsBegun c → AreEdgesCertified c → IsCertified c
certified c is begun given = subst (λ (g : Graph). IsStackCertificate (claim_text c.claim.now) g (claim_values c.claim.now) (claim_stacks c.claim.now) c.note.now.header (λ v. in_extent c.note.now v) (code_certificate c)) (sym is.claim.graph_is.graph_is) (certificate c is begun given)
