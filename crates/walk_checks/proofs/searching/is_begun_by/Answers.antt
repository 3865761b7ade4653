use Rattle.std.proofs.Common.{ℕ, Option, subst, sym}
use Rattle.std.specs.Prelude.{IfSome}
use Rattle.bound_laws.specs.Values.{Arc, IsIn}
use Rattle.walk_checks.specs.Walked.{IsBegunAt}
use Rattle.walk_checks.proofs.searching.is_begun_by.Goals as goal

pub returns-then-is_kept-clause-each : goal.returns-then-is_kept-clause-each
returns-then-is_kept-clause-each c so = subst (λ (o : Option Arc). IfSome o (λ x. (at : ℕ) → IsIn x at → IsBegunAt c.args.search.now.parts.now c.args.search.now.sought c.args.search.now.ground.now at)) (sym c.in-Some.is) (c.are_begun.ensures so)
