-- A certified loop whose counter is within the width at its header has a bound that is shown.
use Rattle.std.proofs.Common.{◌≡◌, ℕ, ◌<◌, ◌≤◌, List, sym, subst}
use Rattle.std.specs.Prelude.{◌/◌}
use Rattle.loop_file.specs.declared.notes.LoopNote.{LoopNote}
use Rattle.loop_file.specs.Kept.{note_at, noted_loops, in_extent}
use Rattle.code_text.specs.TextGraph.{text_graph}
use Rattle.stack_laws.specs.Counting.{IsShown, IsStackCertificate, IsWithin}
use Rattle.stack_tables.specs.Tables.{claim_stacks, claim_text, claim_values}
use Rattle.shown_bounds.specs.declared.certificates.Case.{Case}
use Rattle.shown_bounds.specs.Certified.{code_certificate, counter_view, IsCertified}

pub shown : (c : Case) → IsCertified c → (0 < c.certificate.now.least) × (c.certificate.now.width / c.certificate.now.least ≤ c.note.now.bound) →
    IsWithin (claim_values c.claim.now) (claim_stacks c.claim.now) c.certificate.now.width (counter_view c.certificate.now.counter) c.note.now.header →
    (notes : List LoopNote) (k : ℕ) → note_at notes k ≡ c.note.now → IsShown (claim_text c.claim.now) (text_graph (claim_text c.claim.now) c.claim.now.graph.now.code) (claim_values c.claim.now) (claim_stacks c.claim.now) (noted_loops notes) k
shown c certified enough within notes k same = record {
  certificate = code_certificate c;
  is = subst (λ (note : LoopNote). IsStackCertificate (claim_text c.claim.now) (text_graph (claim_text c.claim.now) c.claim.now.graph.now.code) (claim_values c.claim.now) (claim_stacks c.claim.now) note.header (λ v. in_extent note v) (code_certificate c)) (sym same) certified;
  within = subst (λ (note : LoopNote). IsWithin (claim_values c.claim.now) (claim_stacks c.claim.now) c.certificate.now.width (counter_view c.certificate.now.counter) note.header) (sym same) within;
  positive = enough.0;
  enough = subst (λ (note : LoopNote). c.certificate.now.width / c.certificate.now.least ≤ note.bound) (sym same) enough.1;
}
