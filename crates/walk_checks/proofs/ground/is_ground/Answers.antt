use Rattle.std.proofs.Common.{List, inl, inr, refl, subst}
use Rattle.std.specs.List.{All}
use Rattle.bound_laws.specs.Values.{Arc}
use Rattle.stack_tables.specs.Tables.{stacks_in}
use Rattle.walk_checks.specs.Walked.{IsShort}
use Rattle.walk_checks.proofs.Cases.{ground_in}
use Rattle.walk_checks.proofs.ground.is_ground.Goals as goal

pub returns-then-is_some : goal.returns-then-is_some
returns-then-is_some c so = ground_in (stacks_in c.args.claim.now).areas (stacks_in c.args.claim.now).fixed c.args.table.now
    (subst (λ (xs : List Arc). All (λ (x : Arc). IsShort c.args.table.now x) xs) c.deref-2.ensures.value (c.if-not-are_within.ensures refl)) (λ nodes. inr (c.is_of_fixed.ensures so nodes))

pub returns : goal.returns
returns c so = ground_in (stacks_in c.args.claim.now).areas (stacks_in c.args.claim.now).fixed c.args.table.now
    (subst (λ (xs : List Arc). All (λ (x : Arc). IsShort c.args.table.now x) xs) c.deref-2.ensures.value (c.if-not-are_within.ensures refl)) (λ nodes. inl (c.is_of_areas.ensures so nodes))
