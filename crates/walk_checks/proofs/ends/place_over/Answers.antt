use Rattle.std.proofs.Common.{refl, subst, sym}
use Rattle.std.specs.Prelude.{IfSome}
use Rattle.stack_tables.specs.Tables.{stacks_in, values_in}
use Rattle.walk_checks.specs.declared.tables.WalkPlace.{WalkPlace}
use Rattle.walk_checks.specs.Walked.{at_of, cert, found_view, place_view, IsPlaceFound}
use Rattle.walk_checks.proofs.Cases.{if_some}
use Rattle.walk_checks.proofs.ends.place_over.Goals as goal

pub returns-then-is_register-clause-over : goal.returns-then-is_register-clause-over
returns-then-is_register-clause-over c = subst (λ (p : WalkPlace). IfSome c.row_over.result (λ z. IsPlaceFound (values_in c.args.case.now.claim.now) (stacks_in c.args.case.now.claim.now) (cert c.args.case.now) (at_of c.args.case.now c.args.k) c.args.i (place_view p) (found_view z))) (sym c.in-Register.is)
    (if_some c.row_over.result (λ z over b wider. (c.if-is_register.ensures refl, over b wider)) c.row_over.ensures.over)

pub returns-in-Word-clause-over : goal.returns-in-Word-clause-over
returns-in-Word-clause-over c = subst (λ (p : WalkPlace). IfSome c.word_over.result (λ z. IsPlaceFound (values_in c.args.case.now.claim.now) (stacks_in c.args.case.now.claim.now) (cert c.args.case.now) (at_of c.args.case.now c.args.k) c.args.i (place_view p) (found_view z))) (sym c.in-Word.is) c.word_over.ensures.over
