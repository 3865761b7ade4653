use Rattle.std.proofs.Common.{sym, subst}
use Rattle.turn_laws.specs.Relating.{IsStartedIn}
use Rattle.turn_checks.specs.Turned.{at_of, cert, place_view}
use Rattle.turn_checks.specs.declared.tables.TurnPlace.{TurnPlace}
use Rattle.stack_tables.specs.Tables.{stacks_in, values_in}
use Rattle.turn_checks.proofs.Cases.{filled_seen, started_seen}
use Rattle.turn_checks.proofs.shown.is_started_in.Goals as goal

pub returns-in-Register : goal.returns-in-Register
returns-in-Register c so = subst (λ (p : TurnPlace). IsStartedIn (values_in c.args.case.now.claim.now) (stacks_in c.args.case.now.claim.now) c.args.case.now.most (cert c.args.case.now) (at_of c.args.case.now c.args.case.now.header) (place_view p)) (sym c.in-Register.is)
    (started_seen c.args.case.now.claim.now c.args.case.now.table.now c.held_at.result _ c.held_at.ensures.held (c.is_started.ensures so))

pub returns-in-Word : goal.returns-in-Word
returns-in-Word c so = subst (λ (p : TurnPlace). IsStartedIn (values_in c.args.case.now.claim.now) (stacks_in c.args.case.now.claim.now) c.args.case.now.most (cert c.args.case.now) (at_of c.args.case.now c.args.case.now.header) (place_view p)) (sym c.in-Word.is)
    (started_seen c.args.case.now.claim.now c.args.case.now.table.now c.word.result.arc _ c.word.ensures.arc (c.is_started-in-Word.ensures so))

pub returns-in-Input : goal.returns-in-Input
returns-in-Input c so = subst (λ (p : TurnPlace). IsStartedIn (values_in c.args.case.now.claim.now) (stacks_in c.args.case.now.claim.now) c.args.case.now.most (cert c.args.case.now) (at_of c.args.case.now c.args.case.now.header) (place_view p)) (sym c.in-Input.is)
    (filled_seen c.args.case.now.claim.now c.args.case.now.table.now c.args.case.now.most (c.is_filled.ensures so))
