use Rattle.std.proofs.Common.{ℕ, List, refl, subst}
use Rattle.std.specs.Prelude.{IfSome}
use Rattle.std.specs.List.{All}
use Rattle.bound_laws.specs.Values.{Arc, IsIn}
use Rattle.walk_checks.specs.Walked.{IsBegunAt, IsEnding}
use Rattle.walk_checks.proofs.Endings.{begun_for}
use Rattle.walk_checks.proofs.searching.is_searched_for.Goals as goal

pub returns-clause-begins : goal.returns-clause-begins
returns-clause-begins c so = begun_for c.first_of.result c.args.table.now.start c.args.table.now.place (IsBegunAt c.args.parts.now c.args.sought c.args.table.now.ground.items) (c.if-not-is_begun_by.ensures.some refl) c.first_of.ensures
    (subst (λ (xs : List Arc). IfSome c.first_of.result (λ x. (at : ℕ) → IsIn x at → IsBegunAt c.args.parts.now c.args.sought xs at)) c.deref.ensures.value (c.if-not-is_begun_by.ensures.each refl))

pub returns-clause-ends : goal.returns-clause-ends
returns-clause-ends c so = subst (λ (xs : List Arc). All (λ (x : Arc). IsEnding c.args.parts.now c.args.sought c.args.table.now.least x) xs) c.deref.ensures.value (c.are_ending.ensures so)
