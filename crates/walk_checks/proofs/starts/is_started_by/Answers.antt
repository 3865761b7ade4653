use Rattle.std.proofs.Common.{Some, subst, sym}
use Rattle.bound_laws.specs.Values.{Arc}
use Rattle.stack_tables.specs.Tables.{stacks_in, values_in}
use Rattle.walk_areas.specs.Walking.{Place, IsArcOver}
use Rattle.walk_checks.specs.Walked.{at_of, place_view}
use Rattle.walk_checks.proofs.Cases.{first_seen, of_known, second_seen, started_in}
use Rattle.walk_checks.proofs.starts.is_started_by.Goals as goal

pub returns-in-Some-Some : goal.returns-in-Some-Some
returns-in-Some-Some c so = record {
  first = Some c.in-Some-Some.first;
  second = Some c.in-Some-Some.second;
  first_over = subst (λ (p : Place). IsArcOver (values_in c.args.case.now.claim.now) (stacks_in c.args.case.now.claim.now) (at_of c.args.case.now c.args.step.from) c.args.step.instr (at_of c.args.case.now c.args.step.to) p (Some c.in-Some-Some.first)) (sym (first_seen c.args.case.now))
      (of_known c.place_on.result c.in-Some-Some.first (λ (x : Arc). IsArcOver (values_in c.args.case.now.claim.now) (stacks_in c.args.case.now.claim.now) (at_of c.args.case.now c.args.step.from) c.args.step.instr (at_of c.args.case.now c.args.step.to) (place_view c.args.case.now.table.now.first) (Some x)) c.in-Some-Some.ensures.same c.place_on.ensures.over);
  second_over = subst (λ (p : Place). IsArcOver (values_in c.args.case.now.claim.now) (stacks_in c.args.case.now.claim.now) (at_of c.args.case.now c.args.step.from) c.args.step.instr (at_of c.args.case.now c.args.step.to) p (Some c.in-Some-Some.second)) (sym (second_seen c.args.case.now))
      (of_known c.place_on-2.result c.in-Some-Some.second (λ (x : Arc). IsArcOver (values_in c.args.case.now.claim.now) (stacks_in c.args.case.now.claim.now) (at_of c.args.case.now c.args.step.from) c.args.step.instr (at_of c.args.case.now c.args.step.to) (place_view c.args.case.now.table.now.second) (Some x)) c.in-Some-Some.ensures'.same c.place_on-2.ensures.over);
  covers = started_in c.args.case.now (Some c.in-Some-Some.first) (Some c.in-Some-Some.second) (c.is_started_in.ensures so);
}
