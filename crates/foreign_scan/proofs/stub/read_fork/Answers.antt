use Rattle.std.proofs.Common.{◌≡◌, ◌∙◌, ◌+◌, ap, sym, subst, w32, rules}
use Rattle.std.specs.Prelude.{FitsSigned}
use Rattle.std.proofs.lemmas.Int.{to_z-of_z}
use Rattle.scale_base.specs.Arith.{plus, moved_by}
use Rattle.scale_base.specs.declared.instruction.Instr.TheVariants.{Branch}
use Rattle.scale_base.specs.declared.edges.EdgeKind.TheVariants.{Taken, Untaken}
use Rattle.foreign_scan.specs.Form.{HoldsAt, IsRunOut}
use Rattle.foreign_scan.proofs.ReadLaws.{same_some}
use Rattle.foreign_scan.proofs.stub.read_fork.Goals as goal

pub returns-in-None-clause-none : goal.returns-in-None-clause-none
returns-in-None-clause-none c =
    λ others j. absurd (
    let here = subst (λ a. HoldsAt c.args.key.now a (Branch c.args.fields.op c.args.fields.rs1 c.args.fields.rs2 j.offset)) (sym c.from.ensures) j.again in
    let q = sym c.in-None.is ∙ (c.branch_again.ensures j.offset).1 here in
    cc)

pub returns-in-Some-3-clause-found : goal.returns-in-Some-3-clause-found
returns-in-Some-3-clause-found c =
    let key = c.args.key.now in
    let f : FitsSigned w32 c.in-Some.again = search rules in
    let g : FitsSigned w32 c.args.fields.offset = search rules in
    let from : c.from-3.result ≡ moved_by c.args.stub c.in-Some.again = c.from-3.ensures ∙ (c.moved.ensures ∙ ap (moved_by c.args.stub) (to_z-of_z w32 c.in-Some.again f)) in
    let to : c.moved-2.result ≡ moved_by c.args.at c.args.fields.offset = c.moved-2.ensures ∙ ap (moved_by c.args.at) (to_z-of_z w32 c.args.fields.offset g) in
    let untaken = rw c.in-Some-2.is at c.in_ok-untaken.ensures.found in
    let taken = rw c.in-Some-3.is at c.in_ok-taken.ensures.found in
    record {
      offset = c.in-Some.again;
      again = subst (λ a. HoldsAt key a (Branch c.args.fields.op c.args.fields.rs1 c.args.fields.rs2 c.in-Some.again)) c.from.ensures ((c.branch_again.ensures c.in-Some.again).0 c.in-Some.is);
      passed = subst (λ a. IsRunOut key (a + 4) (plus c.args.at 4) c.in-Some-2.untaken.items) c.from-2.ensures untaken;
      taken = subst (λ q. IsRunOut key (moved_by c.args.stub c.in-Some.again) q c.in-Some-3.taken.items) to (subst (λ q. IsRunOut key q c.moved-2.result c.in-Some-3.taken.items) from taken);
    }

pub returns-in-Some-3-clause-only : goal.returns-in-Some-3-clause-only
returns-in-Some-3-clause-only c =
    λ others j.
    let key = c.args.key.now in
    let f : FitsSigned w32 c.in-Some.again = search rules in
    let g : FitsSigned w32 c.args.fields.offset = search rules in
    let here = subst (λ a. HoldsAt key a (Branch c.args.fields.op c.args.fields.rs1 c.args.fields.rs2 j.offset)) (sym c.from.ensures) j.again in
    let same : c.in-Some.again ≡ j.offset = same_some c.in-Some.again j.offset (sym c.in-Some.is ∙ (c.branch_again.ensures j.offset).1 here) in
    let from : c.from-3.result ≡ moved_by c.args.stub j.offset =
    c.from-3.ensures ∙ (c.moved.ensures ∙ (ap (moved_by c.args.stub) (to_z-of_z w32 c.in-Some.again f) ∙ ap (moved_by c.args.stub) same)) in
    let to : c.moved-2.result ≡ moved_by c.args.at c.args.fields.offset = c.moved-2.ensures ∙ ap (moved_by c.args.at) (to_z-of_z w32 c.args.fields.offset g) in
    let untaken = rw c.in-Some-2.is at c.in_ok-untaken.ensures.only in
    let taken = rw c.in-Some-3.is at c.in_ok-taken.ensures.only in (
      untaken (others Untaken) (subst (λ a. IsRunOut key (a + 4) (plus c.args.at 4) (others Untaken)) (sym c.from-2.ensures) j.passed),
      taken (others Taken) (subst (λ q. IsRunOut key q c.moved-2.result (others Taken)) (sym from) (subst (λ q. IsRunOut key (moved_by c.args.stub j.offset) q (others Taken)) (sym to) j.taken)),
    )

pub returns-in-None-3-clause-none : goal.returns-in-None-3-clause-none
returns-in-None-3-clause-none c =
    λ others j.
    let key = c.args.key.now in
    let f : FitsSigned w32 c.in-Some.again = search rules in
    let g : FitsSigned w32 c.args.fields.offset = search rules in
    let here = subst (λ a. HoldsAt key a (Branch c.args.fields.op c.args.fields.rs1 c.args.fields.rs2 j.offset)) (sym c.from.ensures) j.again in
    let same : c.in-Some.again ≡ j.offset = same_some c.in-Some.again j.offset (sym c.in-Some.is ∙ (c.branch_again.ensures j.offset).1 here) in
    let from : c.from-3.result ≡ moved_by c.args.stub j.offset =
    c.from-3.ensures ∙ (c.moved.ensures ∙ (ap (moved_by c.args.stub) (to_z-of_z w32 c.in-Some.again f) ∙ ap (moved_by c.args.stub) same)) in
    let to : c.moved-2.result ≡ moved_by c.args.at c.args.fields.offset = c.moved-2.ensures ∙ ap (moved_by c.args.at) (to_z-of_z w32 c.args.fields.offset g) in
    let taken = rw c.in-None-3.is at c.in_ok-taken.ensures.none in
    taken (others Taken) (subst (λ q. IsRunOut key q c.moved-2.result (others Taken)) (sym from) (subst (λ q. IsRunOut key (moved_by c.args.stub j.offset) q (others Taken)) (sym to) j.taken))
