-- What stands beside the addresses of a case's nodes stands at their numbers.
use Rattle.std.proofs.Common.{◌≡◌, ◌≢◌, ℕ, ◌+◌, ◌%◌, ◌^◌, ◌<◌, ◌≤◌, true, false, Some, sym, ◌∙◌, ap, subst}
use Rattle.std.specs.Prelude.{slice_get}
use Rattle.flow_graph.proofs.Laws.{some_is}
use Rattle.stack_laws.specs.Counting.{added_behind, IsAdded}
use Rattle.stack_tables.specs.Tables.{claim_stacks, claim_values}
use Rattle.shown_bounds.specs.declared.certificates.Case.{Case}
use Rattle.shown_bounds.specs.Certified.{adds_at, behind_at, body_at, case_graph, code_certificate, offset_at, quiet_at, IsCalledAt, IsCalledSo, IsCalledTo, IsCase, IsCountedAt, IsLedAt, IsLedSo, IsNode, IsQuietAlong, IsQuietAt, IsQuietCalled, IsStepSo, IsTurnAt, IsTurnSo}
use Rattle.value_checks.proofs.Laws.{beside_is, once}

-- the header is at one number alone
pub header_number : (c : Case) → IsCase c → (n b : ℕ) → IsNode c n b → b ≡ c.note.now.header → n ≡ c.header
header_number c is n b at same = once c.claim.now.graph.now is.claim.graph_is.flow n c.header b at (is.header ∙ ap Some (sym same))

pub header_address : (c : Case) → IsCase c → (n b : ℕ) → IsNode c n b → n ≡ c.header → b ≡ c.note.now.header
header_address c is n b at same = some_is b c.note.now.header (sym at ∙ (ap (slice_get c.claim.now.graph.now.code.nodes) same ∙ is.header))

pub body_is : (c : Case) → IsCase c → (k a : ℕ) → IsNode c k a → (code_certificate c).body a ≡ body_at c.certificate.now k
body_is c is k a at = beside_is false c.claim.now.graph.now is.claim.graph_is.flow c.certificate.now.body.items is.entries.body k a at

pub quiet_is : (c : Case) → IsCase c → (k a : ℕ) → IsNode c k a → (code_certificate c).quiet a ≡ quiet_at c.certificate.now k
quiet_is c is k a at = beside_is false c.claim.now.graph.now is.claim.graph_is.flow c.certificate.now.quiet.items is.entries.quiet k a at

pub offset_is : (c : Case) → IsCase c → (k a : ℕ) → IsNode c k a → (code_certificate c).offset a ≡ offset_at c.certificate.now k
offset_is c is k a at = beside_is 0 c.claim.now.graph.now is.claim.graph_is.flow c.certificate.now.offset.items is.entries.offset k a at

pub adds_is : (c : Case) → IsCase c → (k a : ℕ) → IsNode c k a → (code_certificate c).adds a ≡ adds_at c.certificate.now k
adds_is c is k a at = beside_is 0 c.claim.now.graph.now is.claim.graph_is.flow c.certificate.now.adds.items is.entries.adds k a at

pub behind_is : (c : Case) → IsCase c → (k a : ℕ) → IsNode c k a → added_behind (code_certificate c) a ≡ behind_at c.certificate.now k
behind_is c is k a at = ap (λ (o : ℕ). (o + (code_certificate c).adds a) % 2 ^ 32) (offset_is c is k a at) ∙ ap (λ (x : ℕ). (offset_at c.certificate.now k + x) % 2 ^ 32) (adds_is c is k a at)

turn_so : (c : Case) → IsCase c → (k a : ℕ) → IsNode c k a → IsTurnAt c k → IsTurnSo c a
turn_so c is k a at given = record {
  counted = λ inside. body_is c is k a at ∙ given.counted a at inside;
  raises = raises;
}
  where
    raises : (code_certificate c).body a ≡ true → (c.certificate.now.least ≤ added_behind (code_certificate c) a) × (added_behind (code_certificate c) a + c.certificate.now.width < 2 ^ 32)
    raises body =
        let found : (c.certificate.now.least ≤ behind_at c.certificate.now k) × (behind_at c.certificate.now k + c.certificate.now.width < 2 ^ 32) = given.raises (sym (body_is c is k a at) ∙ body) in (
          subst (λ (x : ℕ). c.certificate.now.least ≤ x) (sym (behind_is c is k a at)) found.0,
          subst (λ (x : ℕ). x + c.certificate.now.width < 2 ^ 32) (sym (behind_is c is k a at)) found.1,
        )

pub led_so : (c : Case) → IsCase c → (e k n : ℕ) → IsNode c k ((case_graph c).source e) → (case_graph c).target e ≡ slice_get c.claim.now.graph.now.code.nodes n → IsLedAt c k n → IsLedSo c e
led_so c is e k n at target given b to = record {
  turn = λ same. turn_so c is k a at (given.turn (header_number c is n b there same));
  along = along;
}
  where
    a : ℕ
    a = (case_graph c).source e

    there : IsNode c n b
    there = sym target ∙ to

    along : b ≢ c.note.now.header → (code_certificate c).body b ≡ true → ((code_certificate c).body a ≡ true) × ((code_certificate c).offset b ≡ added_behind (code_certificate c) a)
    along other body =
        let found = given.along (λ same. other (header_address c is n b there same)) (sym (body_is c is n b there) ∙ body) in
        (body_is c is k a at ∙ found.0, offset_is c is n b there ∙ (found.1 ∙ sym (behind_is c is k a at)))

pub step_so : (c : Case) → IsCase c → (e k : ℕ) → IsNode c k ((case_graph c).source e) → IsCountedAt c k → IsStepSo c e
step_so c is e k at given b i to none body there =
    subst (λ (x : ℕ). IsAdded (claim_values c.claim.now) (claim_stacks c.claim.now) (code_certificate c).counter ((case_graph c).source e) i x) (sym (adds_is c is k ((case_graph c).source e) at)) (given ((case_graph c).source e) i at there)

-- where the source is no code of the loop, nothing is to say
pub step_outside : (c : Case) → IsCase c → (e k : ℕ) → IsNode c k ((case_graph c).source e) → body_at c.certificate.now k ≡ false → IsStepSo c e
step_outside c is e k at outside b i to none body there =
    let bad : true ≡ false = sym body ∙ (body_is c is k ((case_graph c).source e) at ∙ outside) in
    let never : ⊥ = cc in absurd never

pub called_so : (c : Case) → IsCase c → (e k h f : ℕ) → IsNode c k ((case_graph c).source e) → (case_graph c).callee e ≡ Some f → IsNode c h ((case_graph c).entry f) → IsCalledAt c k h → IsCalledSo c e
called_so c is e k h f at callee at_h given d to = subst (λ (x : ℕ). IsCalledTo c ((case_graph c).source e) ((case_graph c).entry x)) (some_is f d (sym callee ∙ to)) (record {
  begins = λ body. header_address c is h ((case_graph c).entry f) at_h (given.begins (sym (body_is c is h ((case_graph c).entry f) at_h) ∙ body));
  calls = λ body. let found = given.calls (sym (body_is c is k ((case_graph c).source e) at) ∙ body) in
      (quiet_is c is h ((case_graph c).entry f) at_h ∙ found.0, adds_is c is k ((case_graph c).source e) at ∙ found.1, found.2 ((case_graph c).source e) ((case_graph c).entry f) at at_h);
})

quiet_on : (c : Case) → IsCase c → (k n a b : ℕ) → IsNode c k a → IsNode c n b → IsQuietAt c k n → (code_certificate c).quiet a ≡ true → (code_certificate c).quiet b ≡ true
quiet_on c is k n a b at there given quiet = quiet_is c is n b there ∙ given (sym (quiet_is c is k a at) ∙ quiet)

pub quiet_along : (c : Case) → IsCase c → (e k n : ℕ) → IsNode c k ((case_graph c).source e) → (case_graph c).target e ≡ slice_get c.claim.now.graph.now.code.nodes n → IsQuietAt c k n → IsQuietAlong c e
quiet_along c is e k n at target given b to quiet = quiet_on c is k n ((case_graph c).source e) b at (sym target ∙ to) given quiet

pub quiet_called : (c : Case) → IsCase c → (e k h f : ℕ) → IsNode c k ((case_graph c).source e) → (case_graph c).callee e ≡ Some f → IsNode c h ((case_graph c).entry f) → IsQuietAt c k h → IsQuietCalled c e
quiet_called c is e k h f at callee at_h given d to quiet =
    subst (λ (x : ℕ). (code_certificate c).quiet ((case_graph c).entry x) ≡ true) (some_is f d (sym callee ∙ to)) (quiet_on c is k h ((case_graph c).source e) ((case_graph c).entry f) at at_h given quiet)
